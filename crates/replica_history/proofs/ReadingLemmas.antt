-- With a change that comes next, the directory and the texts are readings again, once they were told what it does.
use Rattle.std.proofs.Common.{◌≡◌, inl, inr, ℕ, Bool, true, false, ◌||◌, refl, sym, ap, ap₂, ◌∙◌, subst, List, [], ◌∷◌, flat_map, Option, Some, None}
use Rattle.std.specs.List.{list_any}
use Rattle.delta.specs.Cells.{Cells}
use Rattle.tt_base.specs.declared.ids.Name.{Name}
use Rattle.tt_base.specs.declared.ids.ElemId.{ElemId}
use Rattle.tt_base.specs.declared.text_ops.TextOp.{TextOp}
use Rattle.tt_base.specs.declared.elements.Element.{Element}
use Rattle.change_codec.specs.Change.{Change}
use Rattle.change_graph.specs.History.{History, is_held, name_of, with_change}
use Rattle.replica_dir.specs.Ids.{is_id, has_id}
use Rattle.replica_dir.specs.DirectoryView.{DirectoryView, is_made, is_removed}
use Rattle.replica_text.specs.Ids.{is_known}
use Rattle.replica_text.specs.Tree.{walk}
use Rattle.replica_text.specs.Ops.{AllMayFollow, after_ops}
use Rattle.replica_views.specs.Growth.{MayCome, IsGrown, Come}
use Rattle.replica_views.specs.Objects.{makes_at, removes_of, removes, IsDirectoryOf}
use Rattle.replica_views.specs.Texts.{text_ops, tree_of, elements_of}
use Rattle.replica_views.proofs.StepLemmas.{tree_step}
use Rattle.replica_views.proofs.ViewLemmas.{well_tree, own_follows}
use Rattle.replica_views.proofs.WinnerLemmas.{removed_now}
use Rattle.replica_history.specs.declared.deeds.Made.{Made}
use Rattle.replica_history.specs.declared.texts.KeptText.{KeptText}
use Rattle.replica_history.specs.Deeds.{made_from, objects_from, has_make}
use Rattle.replica_history.specs.Groups.{GroupsView, group_at}
use Rattle.replica_history.specs.Texts.{TextsView, kept_at, begun}
use Rattle.replica_history.specs.Joins.{IsTextJoined, IsJoinedIfTold, MayJoin, delta_at}
use Rattle.replica_history.specs.Replica.{IsKeptOf, AreReadings}
use Rattle.replica_history.proofs.IdTests.{id_turned}
use Rattle.replica_history.proofs.MakeLemmas.{made_has, made_named, begun_cases, made_now}
use Rattle.replica_history.proofs.NewLemmas.{no_elements}
use Rattle.replica_history.proofs.TouchLemmas.{ops_none}

-- what the change does, and the texts with what it makes
pub record IsBegin (history : History) (change : Change) (later : History) (directory : DirectoryView) (first texts : TextsView) (makes : List Made)
    (objects gone : List ElemId) (groups : GroupsView) : Type 0 where
  pub grown : IsGrown history
  pub may : MayCome history change
  pub readings : AreReadings history directory first
  pub makes_are : makes ≡ made_from later (name_of change) 0 change.ops
  pub objects_are : objects ≡ objects_from later (name_of change) 0 change.ops
  pub gone_are : gone ≡ flat_map (removes_of later (name_of change)) change.ops
  pub groups_are : (q : ElemId) → group_at groups q ≡ text_ops later (name_of change) q 0 change.ops
  pub begun_are : (q : ElemId) → kept_at texts q ≡ begun makes q (kept_at first q)

-- an object that was made by now, with its text before the change
pub record IsTextBetween (history later : History) (q : ElemId) (kept : KeptText) : Type 0 where
  pub made : has_id (makes_at later kept.path) q ≡ true
  pub text : kept.text ≡ elements_of history q

abbrev pub IsBetween : History → History → ElemId → Option KeptText → Type 0
IsBetween history later q None = (path : List ℕ) → has_id (makes_at later path) q ≡ false
IsBetween history later q (Some kept) = IsTextBetween history later q kept

module _ (history : History) (change : Change) (directory : DirectoryView) (first texts : TextsView) (makes : List Made) (objects gone : List ElemId) (groups : GroupsView)
    (b : IsBegin history change (with_change history change) directory first texts makes objects gone groups) where
  abbrev later : History
  later = with_change history change

  abbrev name : Name
  name = name_of change

  or_first : (x y : Bool) → x ≡ true → (x || y) ≡ true
  or_first true y is = refl
  or_first false y is = cc

  or_second : (x y : Bool) → y ≡ true → (x || y) ≡ true
  or_second true y is = refl
  or_second false y is = is

  or_neither : (x y : Bool) → x ≡ false → y ≡ false → (x || y) ≡ false
  or_neither true y a c = cc
  or_neither false y a c = c

  pub has_made : (path : List ℕ) (q : ElemId) → has_id (makes_at later path) q ≡ (has_id (makes_at history path) q || has_make makes path q)
  has_made path q =
      made_now history change b.grown b.may path q
      ∙ ap (λ (x : Bool). has_id (makes_at history path) q || x)
      (made_has later name path q 0 change.ops ∙ ap (λ (ms : List Made). has_make ms path q) (sym b.makes_are))

  new_name : (path : List ℕ) (q : ElemId) → has_make makes path q ≡ true → is_held history q.name ≡ false
  new_name path q has =
      ap (is_held history)
      (made_named later name path q 0 change.ops (ap (λ (ms : List Made). has_make ms path q) (sym b.makes_are) ∙ has))
      ∙ b.may.next.new

  still : (q : ElemId) (o : Option KeptText) → IsKeptOf history q o → ((path : List ℕ) → has_make makes path q ≡ false) → IsBetween history later q o
  still q None is none = λ path. has_made path q ∙ or_neither (has_id (makes_at history path) q) (has_make makes path q) (is path) (none path)
  still q (Some kept) is none = record {
    made = has_made kept.path q ∙ or_first (has_id (makes_at history kept.path) q) (has_make makes kept.path q) is.made;
    text = is.text;
  }

  -- what is kept once the new objects are begun
  pub between : (q : ElemId) → IsBetween history later q (kept_at texts q)
  between q =
      subst (IsBetween history later q) (sym (b.begun_are q))
      (elim (begun_cases makes q (kept_at first q)) [
        | inl new ↦
            subst (IsBetween history later q) (sym new.is)
            (record {
              made = has_made new.path q ∙ or_second (has_id (makes_at history new.path) q) (has_make makes new.path q) new.has;
              text = sym (no_elements history q (new_name new.path q new.has) b.grown);
            })
        | inr old ↦ subst (IsBetween history later q) (sym old.is) (still q (kept_at first q) (b.readings.of_objects q) old.none)
      ])

  own_may : (q : ElemId) → AllMayFollow (text_ops later name q 0 change.ops) (is_known (elements_of history q))
  own_may q =
      subst (AllMayFollow (text_ops later name q 0 change.ops)) (sym (well_tree history b.grown q).known_is) (own_follows history change b.grown b.may q)

  -- what the change does to each text is possible
  pub may_join : (q : ElemId) → MayJoin (kept_at texts q) (group_at groups q)
  may_join q = by (kept_at texts q) (between q) where
    by : (o : Option KeptText) → IsBetween history later q o → MayJoin o (group_at groups q)
    by None is = tt
    by (Some kept) is =
        subst (λ (ops : List TextOp). AllMayFollow ops (is_known kept.text)) (sym (b.groups_are q))
        (subst (λ (xs : List Element). AllMayFollow (text_ops later name q 0 change.ops) (is_known xs)) (sym is.text) (own_may q))

  -- ---- the texts

  -- an object that is not touched has the same tree
  pub tree_stays : (q : ElemId) → has_id objects q ≡ false → tree_of later q ≡ tree_of history q
  tree_stays q apart =
      tree_step history change b.grown b.may q
      ∙ ap (λ (ops : List TextOp). after_ops ops (tree_of history q))
      (ops_none later name q 0 change.ops (ap (λ (ids : List ElemId). has_id ids q) (sym b.objects_are) ∙ apart))

  -- what a join leaves is the later reading
  pub elements_later : (q : ElemId) (kept : KeptText) (o : Option KeptText) (d : Option Cells) → IsTextBetween history later q kept
      → (j : IsTextJoined kept (group_at groups q) o d) → j.elements ≡ elements_of later q
  elements_later q kept o d is j =
      sym (j.order (tree_of history q) (well_tree history b.grown q).is_tree (sym is.text))
      ∙ ap (λ (ops : List TextOp). walk (after_ops ops (tree_of history q))) (b.groups_are q)
      ∙ ap walk (sym (tree_step history change b.grown b.may q))

  module _ (last : TextsView) (deltas : List (ElemId × Cells))
      (joined : (q : ElemId) → IsJoinedIfTold (kept_at texts q) (group_at groups q) (kept_at last q) (delta_at deltas q))
      (told : (q : ElemId) → delta_at deltas q ≡ None → has_id objects q ≡ true → kept_at texts q ≡ None) where
    -- an object that was made, and of which no delta is told, is not touched
    pub untold : (q : ElemId) (kept : KeptText) → kept_at texts q ≡ Some kept → delta_at deltas q ≡ None → has_id objects q ≡ false
    untold q kept is none = by (has_id objects q) refl where
      by : (x : Bool) → has_id objects q ≡ x → x ≡ false
      by false here = refl
      by true here = let never : Some kept ≡ None = sym is ∙ told q none here in cc

    pub kept_later : (q : ElemId) → IsKeptOf later q (kept_at last q)
    kept_later q = by (kept_at texts q) refl (between q) (delta_at deltas q) refl (joined q) where
      by : (o : Option KeptText) → kept_at texts q ≡ o → IsBetween history later q o → (d : Option Cells) → delta_at deltas q ≡ d
          → IsJoinedIfTold o (group_at groups q) (kept_at last q) d → IsKeptOf later q (kept_at last q)
      by None was is None none same = subst (IsKeptOf later q) (sym same) is
      by None was is (Some d) found j = subst (IsKeptOf later q) (sym j.0) is
      by (Some kept) was is None none same =
          subst (IsKeptOf later q) (sym same)
          (record { made = is.made; text = is.text ∙ sym (ap walk (tree_stays q (untold q kept was none))) })
      by (Some kept) was is (Some d) found j =
          subst (IsKeptOf later q) (sym j.later_is) (record { made = is.made; text = elements_later q kept (kept_at last q) (Some d) is j })

    -- ---- the directory

    turned : (q : ElemId) (ids : List ElemId) → list_any (λ id. is_id id q) ids ≡ has_id ids q
    turned q [] = refl
    turned q (x ∷ xs) = ap₂ (λ (u v : Bool). u || v) (id_turned x q) (turned q xs)

    or_swapped : (x y : Bool) → (x || y) ≡ (y || x)
    or_swapped true true = refl
    or_swapped true false = refl
    or_swapped false true = refl
    or_swapped false false = refl

    module _ (after : DirectoryView)
        (told_makes : (path : List ℕ) (q : ElemId) → is_made after path q ≡ (has_make makes path q || is_made directory path q))
        (told_removes : (q : ElemId) → is_removed after q ≡ (list_any (λ id. is_id id q) gone || is_removed directory q)) where
      pub directory_later : IsDirectoryOf later after
      directory_later = record {
        makes = λ path q.
            told_makes path q
            ∙ ap (λ (x : Bool). has_make makes path q || x) (b.readings.of_paths.makes path q)
            ∙ or_swapped (has_make makes path q) (has_id (makes_at history path) q)
            ∙ sym (has_made path q);
        removes = λ q.
            told_removes q
            ∙ ap₂ (λ (x y : Bool). x || y) (turned q gone ∙ ap (λ (ids : List ElemId). has_id ids q) b.gone_are) (b.readings.of_paths.removes q)
            ∙ or_swapped (has_id (flat_map (removes_of later name) change.ops) q) (has_id (removes history) q)
            ∙ sym (removed_now history change b.grown b.may q);
      }

      pub readings_later : AreReadings later after last
      readings_later = record { grown = Come history change b.grown b.may; of_paths = directory_later; of_objects = kept_later }
