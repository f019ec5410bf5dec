-- The texts at hand of a daemon over a store, when a change is made or a path noted.
use Rattle.std.proofs.Common.{◌≡◌, ℕ, ◌+◌, Bool, true, false, cond, List, [], Option, Some, None, refl, sym, ap, ◌∙◌}
use Rattle.std.specs.Cmp.Lexicographic.{slice_cmp, nat_list_cmp_total}
use Rattle.std.specs.Option.{unwrap_or}
use Rattle.std.specs.Ordering.{nat_cmp}
use Rattle.delta.specs.Cells.{Cells, applied}
use Rattle.replica_views.specs.Views as views
use Rattle.daemon_core.specs.History.{History, is_path, view_at, text_at, made}
use Rattle.daemon_core.proofs.FileLemmas.{lookup_put, path_same}
use Rattle.daemon_history.specs.Holding as holds
use Rattle.daemon_history.specs.Holding.{Holding}
use Rattle.daemon_history.specs.Shown.{ChangesOne}
use Rattle.daemon_events.specs.Serving.{noted}
use Rattle.daemon_events.proofs.HoldingLemmas.{KeepsTexts, apart, keeps_count, noted_keeps, read_text}
use Rattle.daemon_texts.specs.Texts.{IsAtHand, AreAtHand, AreAll}

text_at_hand : (h : Holding) (files : History) (path : List ℕ) → IsAtHand h files path → text_at files path ≡ holds.text_at h path
text_at_hand h files path is = ap (λ (v : Option (List ℕ)). unwrap_or v []) is ∙ sym (read_text h path)

view_made : (files : History) (path other : List ℕ) (d : Cells)
    → view_at (made files path d) other ≡ cond (is_path other path) (Some (applied d (text_at files path))) (view_at files other)
view_made files path other d = lookup_put (slice_cmp nat_cmp) nat_list_cmp_total path other (applied d (text_at files path)) files.files

module _ (h after : Holding) (files : History) (path : List ℕ) (d : Cells) (one : ChangesOne h path d after) (here : IsAtHand h files path) where
  same_at_hand : (other : List ℕ) → is_path other path ≡ true → IsAtHand after (made files path d) other
  same_at_hand other same =
      view_made files path other d
      ∙ ap (λ b. cond b (Some (applied d (text_at files path))) (view_at files other)) same
      ∙ ap (λ (text : List ℕ). Some (applied d text)) (text_at_hand h files path here)
      ∙ sym one.view
      ∙ ap (holds.view_at after) (sym (path_same other path same))

  other_made : (other : List ℕ) → is_path other path ≡ false → view_at (made files path d) other ≡ view_at files other
  other_made other differs =
      view_made files path other d ∙ ap (λ b. cond b (Some (applied d (text_at files path))) (view_at files other)) differs

  other_held : (other : List ℕ) → is_path other path ≡ false → holds.view_at after other ≡ holds.view_at h other
  other_held other differs = one.elsewhere other (apart path other differs)

  each_at_hand : (other : List ℕ) (b : Bool) → is_path other path ≡ b → IsAtHand h files other → IsAtHand after (made files path d) other
  each_at_hand other true same is = same_at_hand other same
  each_at_hand other false differs is = other_made other differs ∙ is ∙ sym (other_held other differs)

  pub changed_all : AreAll h files → AreAll after (made files path d)
  changed_all all = record {
    count = ap (λ k. k + 1) all.count ∙ sym one.count;
    each = λ other. each_at_hand other (is_path other path) refl (all.each other);
  }

  pub changed_at_hand : AreAtHand h files → AreAtHand after (made files path d)
  changed_at_hand some = record {
    count = ap (λ k. k + 1) some.count ∙ sym one.count;
    held_there = λ other text found. by other text (is_path other path) refl found;
  } where
    by : (other text : List ℕ) (b : Bool) → is_path other path ≡ b → view_at (made files path d) other ≡ Some text
        → holds.view_at after other ≡ Some text
    by other text true same found = sym (same_at_hand other same) ∙ found
    by other text false differs found = other_held other differs ∙ some.held_there other text (sym (other_made other differs) ∙ found)

-- where no text has changed, what is shown is what was
kept_view : (h after : Holding) → KeepsTexts h after → (path : List ℕ) → holds.view_at after path ≡ holds.view_at h path
kept_view h after kept path = ap (λ history. views.view_at history path) kept.history

pub noted_all : (opens : Option (List ℕ)) (h : Holding) (files : History) → AreAll h files → AreAll (noted opens h) files
noted_all opens h files all =
    let kept : KeepsTexts h (noted opens h) = noted_keeps opens h in
    record {
      count = all.count ∙ sym (keeps_count h (noted opens h) kept);
      each = λ path. all.each path ∙ sym (kept_view h (noted opens h) kept path);
    }

pub noted_at_hand : (opens : Option (List ℕ)) (h : Holding) (files : History) → AreAtHand h files → AreAtHand (noted opens h) files
noted_at_hand opens h files some =
    let kept : KeepsTexts h (noted opens h) = noted_keeps opens h in
    record {
      count = some.count ∙ sym (keeps_count h (noted opens h) kept);
      held_there = λ path text found. kept_view h (noted opens h) kept path ∙ some.held_there path text found;
    }
