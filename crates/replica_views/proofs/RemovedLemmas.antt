-- A change that removes a file leaves no file at its path, and nothing elsewhere.
use Rattle.std.proofs.Common.{◌≡◌, ◌⊎◌, inl, inr, ℕ, ◌+◌, Bool, true, false, cond, not, ◌||◌, ◌&&◌, refl, sym, ap, ap₂, ◌∙◌, subst, List, [], ◌∷◌, map, filter, flat_map, Some, None}
use Rattle.std.specs.List.{AllByRecursion}
use Rattle.std.specs.Option.{option_map}
use Rattle.delta.specs.Cells.{changes_nothing}
use Rattle.tt_base.specs.declared.ids.Name.{Name}
use Rattle.tt_base.specs.declared.ids.Actor.{Actor}
use Rattle.tt_base.specs.declared.ids.ElemId.{ElemId}
use Rattle.tt_base.specs.declared.text_ops.TextOp.{TextOp}
use Rattle.change_codec.specs.Change.{Change}
use Rattle.change_graph.specs.History.{History, name_of, with_change}
use Rattle.replica_dir.specs.Ids.{is_id, has_id}
use Rattle.replica_dir.proofs.IdLemmas.{id_same}
use Rattle.replica_text.specs.Ops.{after_ops}
use Rattle.replica_text.specs.Effect.{text_of}
use Rattle.replica_views.specs.Objects.{makes_from, makes_at, removes_of, removes, live_at, greatest_id, winner_at}
use Rattle.replica_views.specs.Texts.{text_ops, tree_of, elements_of}
use Rattle.replica_views.specs.Views.{view_at}
use Rattle.replica_views.specs.Effects.{effect_at}
use Rattle.replica_views.specs.Made.{own_change, removal, rising_ids, removed}
use Rattle.replica_views.specs.Growth.{MayCome, IsGrown}
use Rattle.replica_views.specs.Laws.{RemovesOnly}
use Rattle.replica_views.proofs.LayerLemmas.{all_more, filter_same, filter_none}
use Rattle.replica_views.proofs.StayLemmas.{all_filter, grown_entries}
use Rattle.replica_views.proofs.StepLemmas.{IsIn, tree_step}
use Rattle.replica_views.proofs.ViewLemmas.{view_stays, effect_stays}
use Rattle.replica_views.proofs.HeldLemmas.{IsHeldId, removes_in, all_makes, true_later}
use Rattle.replica_views.proofs.WinnerLemmas.{IsMadeBy, made_in, each_in, one_path, makes_same, removed_now}
use Rattle.replica_views.proofs.RisingLemmas.{rising_all, has_rising}
use Rattle.replica_views.proofs.DirectoryLemmas.{is_itself, has_filter}

-- ---- ids of a list

has_in : (ids : List ElemId) (q : ElemId) → has_id ids q ≡ true → IsIn q ids
has_in [] q has = cc
has_in (x ∷ xs) q has = by (is_id q x) refl has (λ h. has_in xs q h) where
  by : (b : Bool) → is_id q x ≡ b → (b || has_id xs q) ≡ true → (has_id xs q ≡ true → IsIn q xs) → (x ≡ q) ⊎ IsIn q xs
  by true here has rest = inl (sym (id_same q x here))
  by false apart has rest = inr (rest has)

in_has : (ids : List ElemId) (q : ElemId) → IsIn q ids → has_id ids q ≡ true
in_has [] q is = absurd is
in_has (x ∷ xs) q (inl is) = ap (λ (b : Bool). b || has_id xs q) (subst (λ (y : ElemId). is_id q y ≡ true) (sym is) (is_itself q))
in_has (x ∷ xs) q (inr is) = either (is_id q x) (in_has xs q is) where
  either : (b : Bool) → has_id xs q ≡ true → (b || has_id xs q) ≡ true
  either true has = refl
  either false has = has

-- ---- removals do nothing to texts, and make nothing

no_text : (g : History) (actor : Actor) (n : Name) (object : ElemId) (ids : List ElemId) (index : ℕ) → text_ops g n object index (map removal ids) ≡ []
no_text g actor n object [] index = refl
no_text g actor n object (id ∷ ids) index = no_text g actor n object ids (index + 0)

no_makes : (g : History) (n : Name) (path : List ℕ) (ids : List ElemId) (index : ℕ) → makes_from g n path index (map removal ids) ≡ []
no_makes g n path [] index = refl
no_makes g n path (id ∷ ids) index = no_makes g n path ids (index + 0)

module _ (history : History) (actor : Actor) (path : List ℕ) (grown : IsGrown history) where
  abbrev gone : List ElemId
  gone = rising_ids (live_at history path)

  abbrev change : Change
  change = own_change history actor (map removal gone)

  module _ (may : MayCome history change) where
    abbrev later : History
    later = with_change history change

    abbrev entry : Name × Change
    entry = (name_of change, change)

    removed_are : (ids : List ElemId) → AllByRecursion (IsHeldId history) ids
        → flat_map (removes_of later (name_of change)) (map removal ids) ≡ ids
    removed_are [] all = refl
    removed_are (id ∷ ids) all = ap₂ (λ (x : ElemId) (xs : List ElemId). x ∷ xs) (true_later history change grown may id all.0) (removed_are ids all.1)

    own_removes : removes_in later entry ≡ gone
    own_removes =
        removed_are gone
        (rising_all (IsHeldId history) (live_at history path)
        (all_filter (IsHeldId history) (λ id. not (has_id (removes history) id)) (makes_at history path) (all_makes history path history (grown_entries history grown))))

    -- what is removed now: what was, and what is live at the path
    now_removed : (id : ElemId) → has_id (removes later) id ≡ (has_id (removes history) id || (has_id (makes_at history path) id && not (has_id (removes history) id)))
    now_removed id =
        removed_now history change grown may id
        ∙ ap (λ (xs : List ElemId). has_id (removes history) id || has_id xs id) own_removes
        ∙ ap (λ (b : Bool). has_id (removes history) id || b)
        (has_rising (live_at history path) id ∙ has_filter (λ x. not (has_id (removes history) x)) (makes_at history path) id)

    makes_still : (q : List ℕ) → makes_at later q ≡ makes_at history q
    makes_still q = makes_same history change grown may q (no_makes later (name_of change) q gone 0)

    all_out : (b : Bool) → not (b || (true && not b)) ≡ false
    all_out true = refl
    all_out false = refl

    none_live : winner_at later path ≡ None
    unfolding winner_at
    none_live =
        ap (λ (ms : List ElemId). greatest_id (filter (λ id. not (has_id (removes later) id)) ms)) (makes_still path)
        ∙ ap greatest_id
        (filter_none (λ (id : ElemId). not (has_id (removes later) id)) (makes_at history path)
        (all_more (λ (id : ElemId). IsIn id (makes_at history path)) (λ (id : ElemId). not (has_id (removes later) id) ≡ false) (makes_at history path)
        (λ id is.
        ap not (now_removed id)
        ∙ ap (λ (b : Bool). not (has_id (removes history) id || (b && not (has_id (removes history) id)))) (in_has (makes_at history path) id is)
        ∙ all_out (has_id (removes history) id))
        (each_in (makes_at history path))))

    -- an object of another path was not made at this one
    not_here : (q : List ℕ) → (q ≡ path → ⊥) → (id : ElemId) → IsIn id (makes_at history q) → has_id (makes_at history path) id ≡ false
    not_here q apart id is = by (has_id (makes_at history path) id) refl where
      by : (b : Bool) → has_id (makes_at history path) id ≡ b → b ≡ false
      by false none = refl
      by true has =
          let a : IsMadeBy history q id = made_in history q id history (grown_entries history grown) is in
          let b : IsMadeBy history path id = made_in history path id history (grown_entries history grown) (has_in (makes_at history path) id has) in
          let both : Some a.change ≡ Some b.change = sym a.found ∙ b.found in
          let c : b.change ≡ a.change = cc in
          absurd (apart (one_path history id.name q path a.change.ops 0 id a.there (subst (λ (x : Change). IsIn id (makes_from history id.name path 0 x.ops)) c b.there)))

    or_none : (b : Bool) → (b || (false && not b)) ≡ b
    or_none true = refl
    or_none false = refl

    winner_elsewhere : (q : List ℕ) → (q ≡ path → ⊥) → winner_at later q ≡ winner_at history q
    unfolding winner_at
    winner_elsewhere q apart =
        ap (λ (ms : List ElemId). greatest_id (filter (λ id. not (has_id (removes later) id)) ms)) (makes_still q)
        ∙ ap greatest_id
        (filter_same (λ (id : ElemId). not (has_id (removes later) id)) (λ (id : ElemId). not (has_id (removes history) id)) (makes_at history q)
        (all_more (λ (id : ElemId). IsIn id (makes_at history q)) (λ (id : ElemId). not (has_id (removes later) id) ≡ not (has_id (removes history) id)) (makes_at history q)
        (λ id is.
        ap not
        (now_removed id
        ∙ ap (λ (b : Bool). has_id (removes history) id || (b && not (has_id (removes history) id))) (not_here q apart id is)
        ∙ or_none (has_id (removes history) id)))
        (each_in (makes_at history q))))

    tree_still : (v : ElemId) → tree_of later v ≡ tree_of history v
    tree_still v =
        tree_step history change grown may v
        ∙ ap (λ (ops : List TextOp). after_ops ops (tree_of history v)) (no_text later actor (name_of change) v gone 0)

    view_gone : view_at later path ≡ None
    unfolding view_at
    view_gone = ap (option_map (λ object. text_of (elements_of later object))) none_live

    view_elsewhere : (q : List ℕ) → (q ≡ path → ⊥) → view_at later q ≡ view_at history q
    view_elsewhere q apart = view_stays history later q (winner_elsewhere q apart) (λ v is. tree_still v)

    effect_elsewhere : (q : List ℕ) → (q ≡ path → ⊥) → changes_nothing (effect_at history later q) ≡ true
    effect_elsewhere q apart = effect_stays history later q grown (winner_elsewhere q apart) (λ v is. tree_still v)

    pub removes_only : RemovesOnly history change path
    removes_only = record { gone = view_gone; elsewhere = effect_elsewhere; views = view_elsewhere }

pub removed_only : (history : History) (actor : Actor) (path : List ℕ) → IsGrown history → MayCome history (removed history actor path)
    → RemovesOnly history (removed history actor path) path
unfolding removed
removed_only history actor path grown may = removes_only history actor path grown may
