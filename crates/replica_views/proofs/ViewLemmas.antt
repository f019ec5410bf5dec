-- What is shown: each effect leads from the text before to that after.
use Rattle.std.proofs.Common.{◌≡◌, ℕ, zero, suc, Bool, true, false, cond, refl, sym, ap, ◌∙◌, subst, List, [], length, Option, Some, None}
use Rattle.std.specs.Option.{option_map, unwrap_or}
use Rattle.tt_base.specs.declared.ids.ElemId.{ElemId}
use Rattle.tt_base.specs.declared.elements.Element.{Element}
use Rattle.tt_base.specs.declared.text_ops.TextOp.{TextOp}
use Rattle.change_codec.specs.Change.{Change}
use Rattle.change_graph.specs.History.{History, name_of, with_change}
use Rattle.delta.specs.Cells.{covers, nothing, normal, changes_nothing, applied, inserts, deleting}
use Rattle.delta.proofs.LawLemmas.{applied-normal}
use Rattle.delta.proofs.ApplyLemmas.{applied-replacing_all}
use Rattle.replica_text.specs.Ids.{same, is_known}
use Rattle.replica_text.specs.Tree.{Tree, Leaf, walk}
use Rattle.replica_text.specs.Ops.{all_known_after, AllMayFollow}
use Rattle.replica_text.specs.Joined.{Grows}
use Rattle.replica_text.specs.Effect.{text_of, effect}
use Rattle.replica_text.proofs.OrderLemmas.{same_one, same_self}
use Rattle.replica_text.proofs.JoinLemmas.{joins_nothing}
use Rattle.std.specs.List.{count_by}
use Rattle.tt_base.specs.Elements.{is_alive}
use Rattle.replica_text.proofs.OpsLemmas.{may_back}
use Rattle.replica_text.proofs.LeadLemmas.{effect_leads}
use Rattle.replica_views.specs.Objects.{winner_at}
use Rattle.replica_views.specs.Texts.{text_ops, ops_on, tree_of, elements_of}
use Rattle.replica_views.specs.Views.{elements_in, elements_at, view_at, text_at}
use Rattle.replica_views.specs.Effects.{is_same_object, replaced, effect_at}
use Rattle.replica_views.specs.Growth.{MayCome, IsGrown}
use Rattle.replica_views.proofs.StepLemmas.{grown_may, may_arrive, tree_step}
use Rattle.replica_views.proofs.TreeLemmas.{IsWell, well_ops, well_leaf, grows_ops}

-- the ids that are known on an object
abbrev pub known_on : History → ElemId → ElemId → Bool
known_on history object = all_known_after (ops_on history object) (is_known [])

-- the tree of each object is one, with distinct ids
pub well_tree : (history : History) → IsGrown history → (object : ElemId) → IsWell (tree_of history object) (known_on history object)
unfolding tree_of
well_tree history grown object = well_ops (ops_on history object) Leaf (is_known []) well_leaf (grown_may history grown object)

module _ (history : History) (change : Change) (grown : IsGrown history) (may : MayCome history change) where
  abbrev later : History
  later = with_change history change

  abbrev own : ElemId → List TextOp
  own object = text_ops later (name_of change) object 0 change.ops

  -- what the change does to an object is possible there
  pub own_follows : (object : ElemId) → AllMayFollow (own object) (known_on history object)
  own_follows object =
      may_back (ops_on history object) (own object) (is_known []) (may_arrive history change grown may object (grown_may history grown object))

  pub object_grows : (object : ElemId) → Grows (elements_of history object) (elements_of history object) (elements_of later object)
  object_grows object =
      subst (λ (tree : Tree). Grows (elements_of history object) (elements_of history object) (walk tree)) (sym (tree_step history change grown may object))
      (grows_ops (own object) (tree_of history object) (known_on history object) (well_tree history grown object) (own_follows object))

  object_leads : (object : ElemId) → applied (effect (elements_of history object) (elements_of later object)) (text_of (elements_of history object)) ≡ text_of (elements_of later object)
  object_leads object = effect_leads (elements_of history object) (elements_of later object) (well_tree history grown object).distinct (object_grows object)

  replaced_leads : (before after : List Element) → applied (replaced before after) (text_of before) ≡ text_of after
  replaced_leads before after =
      applied-normal (inserts (text_of after) (deleting (length (text_of before)))) (text_of before)
      ∙ applied-replacing_all (text_of after) (length (text_of before)) (text_of before) refl

  leads_at : (one two : Option ElemId)
      → applied (cond (is_same_object one two) (effect (elements_in history one) (elements_in later two)) (replaced (elements_in history one) (elements_in later two)))
      (text_of (elements_in history one))
      ≡ text_of (elements_in later two)
  leads_at None None = refl
  leads_at None (Some after) = replaced_leads [] (elements_of later after)
  leads_at (Some before) None = replaced_leads (elements_of history before) []
  leads_at (Some before) (Some after) = by (same before after) refl where
    by : (b : Bool) → same before after ≡ b
        → applied (cond b (effect (elements_of history before) (elements_of later after)) (replaced (elements_of history before) (elements_of later after)))
        (text_of (elements_of history before))
        ≡ text_of (elements_of later after)
    by true is =
        subst (λ (object : ElemId). applied (effect (elements_of history before) (elements_of later object)) (text_of (elements_of history before)) ≡ text_of (elements_of later object))
        (same_one before after is) (object_leads before)
    by false is = replaced_leads (elements_of history before) (elements_of later after)

  -- the text that is read
  pub text_read : (g : History) (path : List ℕ) → text_at g path ≡ text_of (elements_at g path)
  unfolding text_at view_at
  text_read g path = by (winner_at g path) where
    by : (o : Option ElemId) → unwrap_or (option_map (λ object. text_of (elements_of g object)) o) [] ≡ text_of (elements_in g o)
    by None = refl
    by (Some object) = refl

  -- the effect leads from the text at the path before to that after
  pub effect_leads_at : (path : List ℕ) → applied (effect_at history later path) (text_at history path) ≡ text_at later path
  unfolding effect_at
  effect_leads_at path =
      ap (applied (effect_at history later path)) (text_read history path)
      ∙ leads_at (winner_at history path) (winner_at later path)
      ∙ sym (text_read later path)

-- ---- where nothing comes

kept_nothing : (n : ℕ) → changes_nothing (normal (covers true n nothing)) ≡ true
kept_nothing zero = refl
kept_nothing (suc n) = kept_nothing n

module _ (history later : History) (path : List ℕ) where
  -- where the same object is read, with the same tree, the view stays
  pub view_stays : winner_at later path ≡ winner_at history path
      → ((object : ElemId) → winner_at history path ≡ Some object → tree_of later object ≡ tree_of history object) → view_at later path ≡ view_at history path
  unfolding view_at
  view_stays winner trees = ap (option_map (λ object. text_of (elements_of later object))) winner ∙ by (winner_at history path) refl where
    by : (o : Option ElemId) → winner_at history path ≡ o
        → option_map (λ object. text_of (elements_of later object)) o ≡ option_map (λ object. text_of (elements_of history object)) o
    by None is = refl
    by (Some object) is = ap (λ (tree : Tree). Some (text_of (walk tree))) (trees object is)

  -- and the effect is nothing
  pub effect_stays : IsGrown history → winner_at later path ≡ winner_at history path
      → ((object : ElemId) → winner_at history path ≡ Some object → tree_of later object ≡ tree_of history object)
      → changes_nothing (effect_at history later path) ≡ true
  unfolding effect_at
  effect_stays grown winner trees =
      ap (λ (b : Option ElemId). changes_nothing
      (cond (is_same_object (winner_at history path) b) (effect (elements_in history (winner_at history path)) (elements_in later b))
      (replaced (elements_in history (winner_at history path)) (elements_in later b)))) winner
      ∙ by (winner_at history path) refl where
        by : (o : Option ElemId) → winner_at history path ≡ o
            → changes_nothing (cond (is_same_object o o) (effect (elements_in history o) (elements_in later o)) (replaced (elements_in history o) (elements_in later o))) ≡ true
        by None is = refl
        by (Some object) is =
            let xs : List Element = elements_of history object in
            ap (λ (b : Bool). changes_nothing (cond b (effect xs (elements_of later object)) (replaced xs (elements_of later object)))) (same_self object)
            ∙ ap (λ (tree : Tree). changes_nothing (effect xs (walk tree))) (trees object is)
            ∙ ap changes_nothing (sym (joins_nothing xs (well_tree history grown object).distinct).is_effect)
            ∙ kept_nothing (count_by is_alive xs)

-- ---- an absent file is read as the empty text

pub text_seen : (history : History) (path : List ℕ) (text : List ℕ) → Some text ≡ view_at history path → text ≡ text_at history path
unfolding text_at
text_seen history path text is = ap (λ (o : Option (List ℕ)). unwrap_or o []) is

pub text_unseen : (history : History) (path : List ℕ) → None ≡ view_at history path → [] ≡ text_at history path
unfolding text_at
text_unseen history path none = ap (λ (o : Option (List ℕ)). unwrap_or o []) none
