-- What a directory and texts that follow a change come to, where it is one that comes next.
use Rattle.std.proofs.Common.{◌≡◌, ℕ, true, cond, ◌||◌, sym, ap, ◌∙◌, subst, List, [], flat_map, Some, None}
use Rattle.std.specs.List.{All, list_any}
use Rattle.std.specs.List.Sorted.{IsStrictlySortedBy}
use Rattle.std.specs.Map.{lookup, keys_of}
use Rattle.std.specs.Option.{unwrap_or}
use Rattle.std.specs.Ordering.{nat_cmp}
use Rattle.std.specs.Cmp.Lexicographic.{slice_cmp}
use Rattle.delta.specs.Cells.{Cells}
use Rattle.std.proofs.lemmas.List.Elements.{All-from_recursion}
use Rattle.tt_base.specs.declared.ids.Name.{Name}
use Rattle.tt_base.specs.declared.ids.ElemId.{ElemId}
use Rattle.change_codec.specs.Change.{Change}
use Rattle.change_codec.specs.declared.ops.Ref.{Ref}
use Rattle.change_codec.specs.declared.ops.Ref.TheVariants.{Here, There}
use Rattle.change_codec.specs.declared.ops.Parent.{Parent}
use Rattle.change_codec.specs.declared.ops.Parent.TheVariants.{Root, After}
use Rattle.change_codec.specs.declared.ops.Op.{Op}
use Rattle.change_codec.specs.declared.ops.Op.TheVariants.{Make, Remove, Insert, Delete}
use Rattle.change_graph.specs.History.{History, with_change}
use Rattle.replica_dir.specs.Ids.{is_path, is_id, has_id}
use Rattle.replica_dir.specs.DirectoryView.{DirectoryView, is_made, is_removed}
use Rattle.replica_views.specs.Effects.{AreEffects}
use Rattle.replica_views.specs.Growth.{IsGrown, Come}
use Rattle.replica_views.specs.Objects.{removes_of}
use Rattle.replica_views.specs.Texts.{text_ops}
use Rattle.replica_views.proofs.LayerLemmas.{all_more}
use Rattle.replica_views.proofs.StayLemmas.{IsHeldRef, IsHeldParent, HasHeldRefs, new_entry}
use Rattle.replica_history.specs.declared.deeds.Made.{Made}
use Rattle.replica_history.specs.Deeds.{PointsAtHeld, ParentIsHeld, RefsAreHeld, made_from, objects_from, has_make}
use Rattle.replica_history.specs.Groups.{GroupsView, group_at}
use Rattle.replica_history.specs.Texts.{TextsView, kept_at, begun, is_touched}
use Rattle.replica_history.specs.Joins.{MayJoin, IsJoinedIfTold, delta_at}
use Rattle.replica_history.specs.declared.standings.Standing.{Standing}
use Rattle.replica_history.specs.Standings.{standing_at, noted_at}
use Rattle.replica_history.specs.Shown.{effect_shown}
use Rattle.replica_history.specs.Replica.{AreReadings, IsNextOf}
use Rattle.replica_history.proofs.ReadingLemmas.{IsBegin, may_join, readings_later}
use Rattle.replica_history.proofs.ShownLemmas.{are_effects}

-- what the operations do was found, and the objects that they make were begun
pub record IsBegunWith (later : History) (name : Name) (ops : List Op) (first texts : TextsView) (makes : List Made) (objects gone : List ElemId)
    (groups : GroupsView) : Type 0 where
  pub makes_are : makes ≡ made_from later name 0 ops
  pub objects_are : objects ≡ objects_from later name 0 ops
  pub gone_are : gone ≡ flat_map (removes_of later name) ops
  pub groups_are : (q : ElemId) → group_at groups q ≡ text_ops later name q 0 ops
  pub begun_are : (q : ElemId) → kept_at texts q ≡ begun makes q (kept_at first q)

-- the directory was told the makes and then the removes, and the texts were joined
pub record IsEndedWith (directory between after : DirectoryView) (texts last : TextsView) (makes : List Made) (objects gone : List ElemId)
    (groups : GroupsView) (deltas : List (ElemId × Cells)) : Type 0 where
  pub told_makes : (path : List ℕ) (q : ElemId) → is_made between path q ≡ (has_make makes path q || is_made directory path q)
  pub removes_stay : between.removes ≡ directory.removes
  pub makes_stay : after.makes ≡ between.makes
  pub told_removes : (q : ElemId) → is_removed after q ≡ (list_any (λ id. is_id id q) gone || is_removed between q)
  pub joined : (q : ElemId) → IsJoinedIfTold (kept_at texts q) (group_at groups q) (kept_at last q) (delta_at deltas q)
  pub told : (q : ElemId) → delta_at deltas q ≡ None → has_id objects q ≡ true → kept_at texts q ≡ None

points : (g : History) (r : Ref) → IsHeldRef g r → PointsAtHeld g r
points g (Here index) held = tt
points g (There name index) held = held

parent_held : (g : History) (p : Parent) → IsHeldParent g p → ParentIsHeld g p
parent_held g Root held = tt
parent_held g (After place) held = points g place held

refs_held : (g : History) (op : Op) → HasHeldRefs g op → RefsAreHeld g op
refs_held g (Make path) held = tt
refs_held g (Remove object) held = points g object held
refs_held g (Insert object parent text) held = (points g object held.0, parent_held g parent held.1)
refs_held g (Delete object first count) held = (points g object held.0, points g first held.1)

module _ (history : History) (change : Change) (later : History) (name : Name) (ops : List Op) (directory : DirectoryView) (first : TextsView)
    (is : IsNextOf history change later name ops directory first) where
  pub grown_now : IsGrown later
  grown_now = subst IsGrown (sym is.later_is) (Come history change is.readings.grown is.may)

  refs_there : All (RefsAreHeld (with_change history change)) change.ops
  refs_there =
      All-from_recursion (RefsAreHeld (with_change history change)) change.ops
      (all_more (HasHeldRefs (with_change history change)) (RefsAreHeld (with_change history change)) change.ops (refs_held (with_change history change))
      (new_entry history change is.readings.grown is.may).refs)

  pub refs_now : All (RefsAreHeld later) ops
  refs_now =
      subst (λ (g : History). All (RefsAreHeld g) ops) (sym is.later_is)
      (subst (All (RefsAreHeld (with_change history change))) (sym is.ops_are) refs_there)

  module _ (texts : TextsView) (makes : List Made) (objects gone : List ElemId) (groups : GroupsView) (b : IsBegunWith later name ops first texts makes objects gone groups) where
    begin_is : IsBegin history change (with_change history change) directory first texts makes objects gone groups
    begin_is = record {
      grown = is.readings.grown;
      may = is.may;
      readings = is.readings;
      makes_are = b.makes_are ∙ (λ i. made_from (is.later_is i) (is.name_is i) 0 (is.ops_are i));
      objects_are = b.objects_are ∙ (λ i. objects_from (is.later_is i) (is.name_is i) 0 (is.ops_are i));
      gone_are = b.gone_are ∙ (λ i. flat_map (removes_of (is.later_is i) (is.name_is i)) (is.ops_are i));
      groups_are = λ q. b.groups_are q ∙ (λ i. text_ops (is.later_is i) (is.name_is i) q 0 (is.ops_are i));
      begun_are = b.begun_are;
    }

    pub may_join_now : (q : ElemId) → MayJoin (kept_at texts q) (group_at groups q)
    may_join_now = may_join history change directory first texts makes objects gone groups begin_is

    module _ (last : TextsView) (deltas : List (ElemId × Cells)) (between after : DirectoryView)
        (e : IsEndedWith directory between after texts last makes objects gone groups deltas) where
      made_after : (path : List ℕ) (q : ElemId) → is_made after path q ≡ (has_make makes path q || is_made directory path q)
      made_after path q =
          ap (λ (m : List (List ℕ × List ElemId)). has_id (unwrap_or (lookup (is_path path) m) []) q) e.makes_stay ∙ e.told_makes path q

      removed_after : (q : ElemId) → is_removed after q ≡ (list_any (λ id. is_id id q) gone || is_removed directory q)
      removed_after q =
          e.told_removes q ∙ ap (λ (ids : List ElemId). list_any (λ id. is_id id q) gone || has_id ids q) e.removes_stay

      pub readings_now : AreReadings later after last
      readings_now =
          subst (λ (g : History). AreReadings g after last) (sym is.later_is)
          (readings_later history change directory first texts makes objects gone groups begin_is last deltas e.joined e.told after made_after removed_after)

      pub effects_now : (standings : List (List ℕ × Standing)) → IsStrictlySortedBy (slice_cmp nat_cmp) (keys_of standings)
          → ((path : List ℕ) → noted_at standings path ≡ cond (is_touched texts objects path) (Some (standing_at texts directory path)) None)
          → AreEffects history later (flat_map (effect_shown after last deltas) standings)
      effects_now standings sorted noted =
          subst (λ (g : History). AreEffects history g (flat_map (effect_shown after last deltas) standings)) (sym is.later_is)
          (are_effects history change directory first texts makes objects gone groups begin_is last deltas e.joined e.told after made_after removed_after
          standings sorted noted)
