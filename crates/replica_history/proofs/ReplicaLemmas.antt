-- What a replica tells of its history, and a change that its graph has taken.
use Rattle.std.proofs.Common.{◌≡◌, ℕ, ◌<◌, ◌^◌, true, refl, sym, ap, ◌∙◌, subst, List, [], length, IsTrue, ◌↔◌, Option, Some, None, is_some}
use Rattle.std.specs.Prelude.{Result, Ok, Err, IfOk}
use Rattle.std.specs.Map.{lookup}
use Rattle.std.specs.Option.{option_map, unwrap_or}
use Rattle.std.specs.List.Sorted.{IsStrictlySortedBy}
use Rattle.std.specs.Ordering.{nat_cmp}
use Rattle.std.specs.Cmp.Lexicographic.{slice_cmp}
use Rattle.tt_base.specs.declared.ids.Name.{Name}
use Rattle.tt_base.specs.declared.ids.ElemId.{ElemId}
use Rattle.tt_base.specs.declared.elements.Element.{Element}
use Rattle.change_codec.specs.Change.{Change}
use Rattle.change_codec.specs.declared.ops.Op.{Op}
use Rattle.change_graph.specs.History.{History, change_at, is_held}
use Rattle.change_graph.specs.Refusals.{things}
use Rattle.replica_dir.specs.Ids.{is_path, has_id, has_path}
use Rattle.replica_dir.specs.DirectoryView.{DirectoryView, is_made}
use Rattle.replica_text.specs.Effect.{text_of}
use Rattle.replica_views.specs.Growth.{IsGrown, Begun, Come}
use Rattle.replica_views.specs.Ids.{id_at}
use Rattle.replica_views.specs.Objects.{makes_at, removes, winner_at, ArePaths}
use Rattle.replica_views.specs.Texts.{elements_of}
use Rattle.replica_views.specs.Views.{view_at}
use Rattle.replica_views.proofs.LayerLemmas.{change_found}
use Rattle.replica_history.specs.Texts.{TextsView, kept_at, elements_in}
use Rattle.replica_history.specs.Standings.{winner_in}
use Rattle.replica_history.specs.Replica.{IsKeptOf, AreReadings, IsNextOf, IsHeldNextOf}
use Rattle.replica_history.proofs.OneLemmas.{winner_has}
use Rattle.replica_history.proofs.ShownLemmas.{read_later}
use Rattle.replica_history.proofs.WinnerLemmas.{winner_of_history}

-- ---- at first

-- without changes there are no makes, no removes and no texts
pub begins : (history : History) (directory : DirectoryView) (texts : TextsView) → history ≡ [] → directory.makes ≡ [] → directory.removes ≡ [] → texts ≡ []
    → AreReadings history directory texts
begins history directory texts none no_makes no_removes no_texts = record {
  grown = subst IsGrown (sym none) Begun;
  of_paths = record {
    makes = λ path id.
        ap (λ (m : List (List ℕ × List ElemId)). has_id (unwrap_or (lookup (is_path path) m) []) id) no_makes
        ∙ sym (ap (λ (h : History). has_id (makes_at h path) id) none);
    removes = λ id. ap (λ (ids : List ElemId). has_id ids id) no_removes ∙ sym (ap (λ (h : History). has_id (removes h) id) none);
  };
  of_objects = λ q.
      subst (λ (t : TextsView). IsKeptOf history q (kept_at t q)) (sym no_texts) (λ path. ap (λ (h : History). has_id (makes_at h path) q) none);
}

-- ---- what is told

module _ (history : History) (directory : DirectoryView) (texts : TextsView) (readings : AreReadings history directory texts) (path : List ℕ) where
  view_is : view_at history path ≡ option_map (λ object. text_of (elements_in (kept_at texts object))) (winner_in directory path)
  unfolding view_at
  view_is =
      by (winner_at history path) refl
      ∙ ap (option_map (λ object. text_of (elements_in (kept_at texts object)))) (sym (winner_of_history history directory readings.of_paths path)) where
        by : (o : Option ElemId) → winner_at history path ≡ o
            → option_map (λ object. text_of (elements_of history object)) o ≡ option_map (λ object. text_of (elements_in (kept_at texts object))) o
        by None is = refl
        by (Some v) is =
            ap (λ (xs : List Element). Some (text_of xs)) (sym (read_later history v (kept_at texts v) path (readings.of_objects v) (winner_has history path v is)))

  -- the text of the winner
  pub view_some : (v : ElemId) → Some v ≡ winner_in directory path → Some (text_of (elements_in (kept_at texts v))) ≡ view_at history path
  view_some v is = ap (option_map (λ object. text_of (elements_in (kept_at texts object)))) is ∙ sym view_is

  pub view_none : None ≡ winner_in directory path → None ≡ view_at history path
  view_none is = ap (option_map (λ object. text_of (elements_in (kept_at texts object)))) is ∙ sym view_is

  -- where an object is read there is a file
  pub has_file : (v : ElemId) → Some v ≡ winner_in directory path → view_at history path ≡ None → ⊥
  has_file v is absent = let never : Some (text_of (elements_in (kept_at texts v))) ≡ None = view_some v is ∙ absent in cc

-- the paths of the directory are those of the history
pub paths_told : {E : Type 0} (history : History) (directory : DirectoryView) (texts : TextsView) → AreReadings history directory texts
    → (r : Result (List (List ℕ)) E) → IfOk r (λ list. (at : List ℕ) → IsTrue (has_path list at) ↔ ((q : ElemId) × IsTrue (is_made directory at q)))
    → IfOk r (λ list. IsStrictlySortedBy (slice_cmp nat_cmp) list) → IfOk r (ArePaths history)
paths_told history directory texts readings (Ok list) members rising = record {
  members = λ at. (
    (λ has. let made = (members at).0 has in (made.0, sym (readings.of_paths.makes at made.0) ∙ made.1)),
    (λ made. (members at).1 (made.0, readings.of_paths.makes at made.0 ∙ made.1)),
  );
  rising = rising;
}
paths_told history directory texts readings (Err fault) members rising = tt

-- ---- a change that the graph has taken

module _ (history : History) (change : Change) (later : History) (name : Name) (directory : DirectoryView) (texts : TextsView)
    (is : IsHeldNextOf history change later name directory texts) where
  pub grown_there : IsGrown later
  grown_there = subst IsGrown (sym is.later_is) (Come history change is.readings.grown is.may)

  pub found_there : change_at later name ≡ Some change
  found_there = (λ i. change_at (is.later_is i) (is.name_is i)) ∙ change_found history change

  pub held_there : is_held later name ≡ true
  held_there = ap (λ (o : Option Change). is_some o) found_there

  pub next_of : (own : ElemId) (held : Change) (ops : List Op) → own ≡ id_at later name 0 → Some held ≡ change_at later name → ops ≡ held.ops
      → IsNextOf history change later own.name ops directory texts
  next_of own held ops own_is held_is ops_are = record {
    may = is.may;
    readings = is.readings;
    later_is = is.later_is;
    name_is = ap (λ (id : ElemId). id.name) own_is ∙ is.name_is;
    ops_are = ops_are ∙ (let both : Some held ≡ Some change = held_is ∙ found_there in let one : held ≡ change = cc in ap (λ (x : Change). x.ops) one);
  }

  pub few_there : (held : Change) (ops : List Op) → Some held ≡ change_at later name → ops ≡ held.ops → length (things ops) < 2 ^ 64
  few_there held ops held_is ops_are =
      let both : Some held ≡ Some change = held_is ∙ found_there in
      let one : held ≡ change = cc in
      subst (λ (xs : List Op). length (things xs) < 2 ^ 64) (sym (ops_are ∙ ap (λ (x : Change). x.ops) one)) is.few
