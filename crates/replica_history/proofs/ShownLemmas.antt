-- What is found at the paths that a change touches is its effect on them, and elsewhere it has none.
use Rattle.std.proofs.Common.{◌≡◌, ℕ, zero, suc, Bool, true, false, cond, not, ◌||◌, ◌&&◌, IsTrue, ◌↔◌, refl, sym, ap, ap₂, ◌∙◌, subst, List, [], flat_map, length, Option, Some, None, is_some}
use Rattle.std.specs.List.{AllByRecursion, filter, list_any}
use Rattle.std.specs.List.Sorted.{IsStrictlySortedBy}
use Rattle.std.specs.Map.{lookup, keys_of}
use Rattle.std.specs.Ordering.{nat_cmp}
use Rattle.std.specs.Cmp.Lexicographic.{slice_cmp}
use Rattle.std.proofs.lemmas.List.Elements.{All-from_recursion}
use Rattle.std.proofs.lemmas.Map.Made.{is_some-lookup}
use Rattle.delta.specs.Cells.{Cells, covers, nothing, normal, changes_nothing, inserts, deleting}
use Rattle.delta.proofs.NormalLemmas.{normal_is_fixed}
use Rattle.delta.proofs.StepsLemmas.{IsNormal-replacing_all}
use Rattle.tt_base.specs.declared.ids.Name.{Name}
use Rattle.tt_base.specs.declared.ids.ElemId.{ElemId}
use Rattle.tt_base.specs.declared.elements.Element.{Element}
use Rattle.tt_base.specs.Elements.{AreDistinct, is_alive}
use Rattle.std.specs.List.{count_by}
use Rattle.change_codec.specs.Change.{Change}
use Rattle.change_graph.specs.History.{History, name_of, with_change}
use Rattle.replica_dir.specs.Ids.{is_path, is_id, has_id, has_path}
use Rattle.replica_dir.specs.DirectoryView.{DirectoryView, is_made, is_removed}
use Rattle.replica_text.specs.Ids.{same}
use Rattle.replica_text.specs.Tree.{Tree, walk}
use Rattle.replica_text.specs.Effect.{text_of, effect}
use Rattle.replica_text.proofs.JoinLemmas.{joins_nothing}
use Rattle.replica_text.proofs.OrderLemmas.{same_one}
use Rattle.replica_views.specs.Growth.{IsGrown, Come}
use Rattle.replica_views.specs.Objects.{makes_from, makes_at, removes_of, removes, greatest_id, winner_at}
use Rattle.replica_views.specs.Texts.{elements_of}
use Rattle.replica_views.specs.Views as views
use Rattle.replica_views.specs.Effects.{is_same_object, replaced, effect_at, PathEffect, AreEffects}
use Rattle.replica_views.proofs.LayerLemmas.{all_more, filter_same}
use Rattle.replica_views.proofs.StepLemmas.{IsIn}
use Rattle.replica_views.proofs.ViewLemmas.{well_tree, effect_stays}
use Rattle.replica_views.proofs.WinnerLemmas.{makes_same, removed_now, each_in}
use Rattle.replica_history.specs.declared.deeds.Made.{Made}
use Rattle.replica_history.specs.declared.texts.KeptText.{KeptText}
use Rattle.replica_history.specs.declared.standings.Standing.{Standing}
use Rattle.replica_history.specs.Deeds.{has_make}
use Rattle.replica_history.specs.Groups.{GroupsView, group_at}
use Rattle.replica_history.specs.Texts.{TextsView, kept_at, is_kept_at, is_touched, elements_in, elements_of_winner}
use Rattle.replica_history.specs.Joins.{IsJoinedIfTold, delta_at}
use Rattle.replica_history.specs.Standings.{winner_in, standing_at, noted_at}
use Rattle.replica_history.specs.Shown.{delta_of_winner, delta_shown, effect_shown}
use Rattle.replica_history.specs.Replica.{IsKeptOf}
use Rattle.replica_history.proofs.IdTests.{path_itself}
use Rattle.replica_history.proofs.MakeLemmas.{made_has}
use Rattle.replica_history.proofs.TouchLemmas.{any_has, removed_touched, made_touched}
use Rattle.replica_history.proofs.WinnerLemmas.{winner_of_history}
use Rattle.replica_history.proofs.OneLemmas.{in_has, none_has, same_path, winner_has}
use Rattle.replica_history.proofs.EffectLemmas.{all_found, IsFound, exact, rising, has_effect}
use Rattle.replica_history.proofs.ReadingLemmas.{IsBegin, IsBetween, between, has_made, tree_stays, elements_later, untold, kept_later, directory_later}

kept_nothing : (n : ℕ) → changes_nothing (normal (covers true n nothing)) ≡ true
kept_nothing zero = refl
kept_nothing (suc n) = kept_nothing n

-- what stays has no effect
same_effect : (xs : List Element) → AreDistinct xs → changes_nothing (effect xs xs) ≡ true
same_effect xs distinct = ap changes_nothing (sym (joins_nothing xs distinct).is_effect) ∙ kept_nothing (count_by is_alive xs)

-- what is kept of an object that was made is its reading
pub read_later : (g : History) (q : ElemId) (o : Option KeptText) (path : List ℕ) → IsKeptOf g q o → has_id (makes_at g path) q ≡ true → elements_in o ≡ elements_of g q
read_later g q None path is has = let never : true ≡ false = sym has ∙ is path in cc
read_later g q (Some kept) path is has = is.text

read_before : (g later : History) (q : ElemId) (o : Option KeptText) (path : List ℕ) → IsBetween g later q o → has_id (makes_at later path) q ≡ true
    → elements_in o ≡ elements_of g q
read_before g later q None path is has = let never : true ≡ false = sym has ∙ is path in cc
read_before g later q (Some kept) path is has = is.text

-- the one text in place of the other
replaced_is : (one other before after : List Element) → one ≡ before → other ≡ after
    → inserts (text_of other) (deleting (length (text_of one))) ≡ replaced before after
replaced_is one other before after e f =
    ap₂ (λ (xs ys : List Element). inserts (text_of ys) (deleting (length (text_of xs)))) e f
    ∙ sym (normal_is_fixed (inserts (text_of after) (deleting (length (text_of before)))) (IsNormal-replacing_all (text_of after) (length (text_of before))))

module _ (history : History) (change : Change) (directory : DirectoryView) (first texts : TextsView) (makes : List Made) (objects gone : List ElemId) (groups : GroupsView)
    (b : IsBegin history change (with_change history change) directory first texts makes objects gone groups) where
  abbrev later : History
  later = with_change history change

  abbrev name : Name
  name = name_of change

  grown_later : IsGrown later
  grown_later = Come history change b.grown b.may

  kept_between : (q : ElemId) → IsBetween history later q (kept_at texts q)
  kept_between = between history change directory first texts makes objects gone groups b

  was_made : (path : List ℕ) (q : ElemId) → has_id (makes_at history path) q ≡ true → has_id (makes_at later path) q ≡ true
  was_made path q has =
      has_made history change directory first texts makes objects gone groups b path q ∙ ap (λ (x : Bool). x || has_make makes path q) has

  is_made_now : (path : List ℕ) (q : ElemId) → has_make makes path q ≡ true → has_id (makes_at later path) q ≡ true
  is_made_now path q has =
      has_made history change directory first texts makes objects gone groups b path q ∙ either (has_id (makes_at history path) q) has where
        either : (x : Bool) → has_make makes path q ≡ true → (x || has_make makes path q) ≡ true
        either true has = refl
        either false has = has

  -- ---- a path that is not touched

  module _ (path : List ℕ) (apart : is_touched texts objects path ≡ false) where
    not_touched : (v : ElemId) → has_id (makes_at later path) v ≡ true → has_id objects v ≡ false
    not_touched v made = by (has_id objects v) refl where
      kept_here : (o : Option KeptText) → IsBetween history later v o → is_kept_at path o ≡ true
      kept_here None is = let never : true ≡ false = sym made ∙ is path in cc
      kept_here (Some kept) is =
          subst (λ (p : List ℕ). is_path p path ≡ true) (same_path later grown_later v path kept.path made is.made) (path_itself path)

      by : (x : Bool) → has_id objects v ≡ x → x ≡ false
      by false is = refl
      by true is =
          let never : true ≡ false =
          sym (any_has (λ (object : ElemId). is_kept_at path (kept_at texts object)) objects v is (kept_here (kept_at texts v) (kept_between v))) ∙ apart in cc

    none_made : makes_from later name path 0 change.ops ≡ []
    none_made = none_has (makes_from later name path 0 change.ops) (λ q. by q (has_make makes path q) refl) where
      has_is : (q : ElemId) → has_id (makes_from later name path 0 change.ops) q ≡ has_make makes path q
      has_is q = made_has later name path q 0 change.ops ∙ ap (λ (ms : List Made). has_make ms path q) (sym b.makes_are)

      by : (q : ElemId) (x : Bool) → has_make makes path q ≡ x → has_id (makes_from later name path 0 change.ops) q ≡ false
      by q false none = has_is q ∙ none
      by q true has =
          let touched : has_id objects q ≡ true =
          ap (λ (ids : List ElemId). has_id ids q) b.objects_are
          ∙ made_touched later name q path 0 change.ops (ap (λ (ms : List Made). has_make ms path q) (sym b.makes_are) ∙ has) in
          let never : true ≡ false = sym touched ∙ not_touched q (is_made_now path q has) in cc

    makes_still : makes_at later path ≡ makes_at history path
    makes_still = makes_same history change b.grown b.may path none_made

    none_gone : (v : ElemId) → has_id (makes_at history path) v ≡ true → has_id (flat_map (removes_of later name) change.ops) v ≡ false
    none_gone v made = by (has_id (flat_map (removes_of later name) change.ops) v) refl where
      by : (x : Bool) → has_id (flat_map (removes_of later name) change.ops) v ≡ x → x ≡ false
      by false is = refl
      by true is =
          let touched : has_id objects v ≡ true =
          ap (λ (ids : List ElemId). has_id ids v) b.objects_are ∙ removed_touched later name v 0 change.ops is in
          let never : true ≡ false = sym touched ∙ not_touched v (was_made path v made) in cc

    or_none : (x : Bool) → (x || false) ≡ x
    or_none true = refl
    or_none false = refl

    winner_still : winner_at later path ≡ winner_at history path
    unfolding winner_at
    winner_still =
        ap (λ (ms : List ElemId). greatest_id (filter (λ id. not (has_id (removes later) id)) ms)) makes_still
        ∙ ap greatest_id
        (filter_same (λ (id : ElemId). not (has_id (removes later) id)) (λ (id : ElemId). not (has_id (removes history) id)) (makes_at history path)
        (all_more (λ (id : ElemId). IsIn id (makes_at history path)) (λ (id : ElemId). not (has_id (removes later) id) ≡ not (has_id (removes history) id)) (makes_at history path)
        (λ id is.
        ap not
        (removed_now history change b.grown b.may id
        ∙ ap (λ (x : Bool). has_id (removes history) id || x) (none_gone id (in_has (makes_at history path) id is))
        ∙ or_none (has_id (removes history) id)))
        (each_in (makes_at history path))))

    -- has no effect
    pub effect_nowhere : changes_nothing (effect_at history later path) ≡ true
    effect_nowhere =
        effect_stays history later path b.grown winner_still
        (λ v is.
        tree_stays history change directory first texts makes objects gone groups b v
        (not_touched v (was_made path v (winner_has history path v is))))

  -- ---- what is found

  module _ (last : TextsView) (deltas : List (ElemId × Cells))
      (joined : (q : ElemId) → IsJoinedIfTold (kept_at texts q) (group_at groups q) (kept_at last q) (delta_at deltas q))
      (told : (q : ElemId) → delta_at deltas q ≡ None → has_id objects q ≡ true → kept_at texts q ≡ None)
      (after : DirectoryView)
      (told_makes : (path : List ℕ) (q : ElemId) → is_made after path q ≡ (has_make makes path q || is_made directory path q))
      (told_removes : (q : ElemId) → is_removed after q ≡ (list_any (λ id. is_id id q) gone || is_removed directory q)) where
    module _ (path : List ℕ) where
      before_read : (o : Option ElemId) → winner_at history path ≡ o → elements_of_winner texts o ≡ views.elements_in history o
      before_read None is = refl
      before_read (Some v) is = read_before history later v (kept_at texts v) path (kept_between v) (was_made path v (winner_has history path v is))

      later_read : (o : Option ElemId) → winner_at later path ≡ o → elements_of_winner last o ≡ views.elements_in later o
      later_read None is = refl
      later_read (Some v) is =
          read_later later v (kept_at last v) path
          (kept_later history change directory first texts makes objects gone groups b last deltas joined told v) (winner_has later path v is)

      -- where one object is read before and after
      same_found : (v : ElemId) → winner_at later path ≡ Some v → IsFound (delta_at deltas v) (effect (elements_of history v) (elements_of later v))
      same_found v is = by (kept_at texts v) refl (kept_between v) (delta_at deltas v) refl (joined v) where
        by : (o : Option KeptText) → kept_at texts v ≡ o → IsBetween history later v o → (d : Option Cells) → delta_at deltas v ≡ d
            → IsJoinedIfTold o (group_at groups v) (kept_at last v) d → IsFound d (effect (elements_of history v) (elements_of later v))
        by None was none d found j = let never : true ≡ false = sym (winner_has later path v is) ∙ none path in cc
        by (Some kept) was text None none j =
            ap (λ (tree : Tree). changes_nothing (effect (elements_of history v) (walk tree)))
            (tree_stays history change directory first texts makes objects gone groups b v
            (untold history change directory first texts makes objects gone groups b last deltas joined told v kept was none))
            ∙ same_effect (elements_of history v) (well_tree history b.grown v).distinct
        by (Some kept) was text (Some d) found j =
            let one : d ≡ effect kept.text j.elements = let is = j.delta_is in cc in
            one
            ∙ ap₂ effect text.text
            (elements_later history change directory first texts makes objects gone groups b v kept (kept_at last v) (Some d) text j)

      abbrev shown : Option ElemId → Option ElemId → Option Cells
      shown o p =
          cond (is_same_object o p) (delta_of_winner deltas p)
          (Some (inserts (text_of (elements_of_winner last p)) (deleting (length (text_of (elements_of_winner texts o))))))

      abbrev want : Option ElemId → Option ElemId → Cells
      want o p =
          cond (is_same_object o p) (effect (views.elements_in history o) (views.elements_in later p))
          (replaced (views.elements_in history o) (views.elements_in later p))

      other_found : (o p : Option ElemId) → winner_at history path ≡ o → winner_at later path ≡ p
          → inserts (text_of (elements_of_winner last p)) (deleting (length (text_of (elements_of_winner texts o))))
          ≡ replaced (views.elements_in history o) (views.elements_in later p)
      other_found o p is_o is_p =
          replaced_is (elements_of_winner texts o) (elements_of_winner last p) (views.elements_in history o) (views.elements_in later p) (before_read o is_o) (later_read p is_p)

      found_by : (o p : Option ElemId) → winner_at history path ≡ o → winner_at later path ≡ p → IsFound (shown o p) (want o p)
      found_by None None is_o is_p = refl
      found_by None (Some w) is_o is_p = other_found None (Some w) is_o is_p
      found_by (Some v) None is_o is_p = other_found (Some v) None is_o is_p
      found_by (Some v) (Some w) is_o is_p = by (same v w) refl where
        by : (x : Bool) → same v w ≡ x
            → IsFound (cond x (delta_at deltas w) (Some (inserts (text_of (elements_of_winner last (Some w))) (deleting (length (text_of (elements_of_winner texts (Some v))))))))
            (cond x (effect (elements_of history v) (elements_of later w)) (replaced (elements_of history v) (elements_of later w)))
        by true here =
            subst (λ (u : ElemId). IsFound (delta_at deltas w) (effect (elements_of history u) (elements_of later w))) (sym (same_one v w here)) (same_found w is_p)
        by false apart = other_found (Some v) (Some w) is_o is_p

      pub found_here : IsFound (delta_shown last deltas (standing_at texts directory path) (winner_in after path)) (effect_at history later path)
      unfolding effect_at
      found_here =
          subst (λ (o : Option ElemId). IsFound (shown o (winner_in after path)) (want (winner_at history path) (winner_at later path)))
          (sym (winner_of_history history directory b.readings.of_paths path))
          (subst (λ (p : Option ElemId). IsFound (shown (winner_at history path) p) (want (winner_at history path) (winner_at later path)))
          (sym (winner_of_history later after
          (directory_later history change directory first texts makes objects gone groups b last deltas joined told after told_makes told_removes) path))
          (found_by (winner_at history path) (winner_at later path) refl refl))

    module _ (standings : List (List ℕ × Standing)) (sorted : IsStrictlySortedBy (slice_cmp nat_cmp) (keys_of standings))
        (noted : (path : List ℕ) → noted_at standings path ≡ cond (is_touched texts objects path) (Some (standing_at texts directory path)) None) where
      abbrev wanted : List ℕ → Cells
      wanted path = effect_at history later path

      abbrev found : List ℕ × Standing → Option Cells
      found e = delta_shown last deltas e.1 (winner_in after e.0)

      all_are : AllByRecursion (λ (e : List ℕ × Standing). IsFound (found e) (wanted e.0)) standings
      all_are =
          all_more (λ (e : List ℕ × Standing). lookup (is_path e.0) standings ≡ Some e.1) (λ (e : List ℕ × Standing). IsFound (found e) (wanted e.0)) standings
          (λ e is. one e (is_touched texts objects e.0) (sym is ∙ noted e.0))
          (all_found standings sorted) where
            one : (e : List ℕ × Standing) (x : Bool) → Some e.1 ≡ cond x (Some (standing_at texts directory e.0)) None → IsFound (found e) (wanted e.0)
            one e true is =
                let s : standing_at texts directory e.0 ≡ e.1 = cc in
                subst (λ (t : Standing). IsFound (delta_shown last deltas t (winner_in after e.0)) (wanted e.0)) s (found_here e.0)
            one e false is = cc

      keys_touched : (path : List ℕ) → has_path (keys_of standings) path ≡ is_touched texts objects path
      keys_touched path =
          sym (is_some-lookup (is_path path) standings) ∙ ap (λ (o : Option Standing). is_some o) (noted path) ∙ some_if (is_touched texts objects path) where
            some_if : (x : Bool) → is_some (cond x (Some (standing_at texts directory path)) None) ≡ x
            some_if true = refl
            some_if false = refl

      pub are_effects : AreEffects history later (flat_map (effect_shown after last deltas) standings)
      are_effects = record {
        exact = All-from_recursion (λ (x : PathEffect). x.delta ≡ wanted x.path) (flat_map (effect_shown after last deltas) standings)
            (exact wanted found standings all_are);
        all = λ path.
            by path (changes_nothing (wanted path)) refl (is_touched texts objects path) refl
            (has_effect wanted found standings all_are path
            ∙ ap (λ (x : Bool). not (changes_nothing (wanted path)) && x) (keys_touched path));
        rising = rising wanted found standings all_are sorted;
      } where
        by : (path : List ℕ) (x : Bool) → changes_nothing (wanted path) ≡ x → (y : Bool) → is_touched texts objects path ≡ y
            → {has : Bool} → has ≡ (not (changes_nothing (wanted path)) && is_touched texts objects path) → IsTrue has ↔ (changes_nothing (wanted path) ≡ false)
        by path true none y touched {has} is =
            let off : has ≡ false = is ∙ ap (λ (z : Bool). not z && is_touched texts objects path) none in
            ((λ on. let never : true ≡ false = sym on ∙ off in cc), (λ some. let never : true ≡ false = sym none ∙ some in cc))
        by path false some true touched {has} is =
            let on : has ≡ true = is ∙ ap₂ (λ (z t : Bool). not z && t) some touched in ((λ h. some), (λ h. on))
        by path false some false apart {has} is =
            let never : true ≡ false = sym (effect_nowhere path apart) ∙ some in ((λ h. some), (λ h. cc))
