-- Texts that come to hand.
use Rattle.std.proofs.Common.{◌≡◌, ℕ, Bool, true, false, cond, List, Some, is_some, refl, sym, ap, ◌∙◌}
use Rattle.std.specs.BTreeMap.{insert_entry}
use Rattle.std.specs.Cmp.Lexicographic.{slice_cmp, nat_list_cmp_total}
use Rattle.std.specs.Ordering.{nat_cmp}
use Rattle.daemon_core.specs.History.{History, is_path, view_at}
use Rattle.daemon_core.proofs.FileLemmas.{lookup_put, path_same, is_path_itself}
use Rattle.daemon_history.specs.Holding as holds
use Rattle.daemon_history.specs.Holding.{Holding}
use Rattle.daemon_texts.specs.Texts.{AreAtHand}
use Rattle.store_daemon.specs.Fetching.{Fetches}

-- a text was read of the changes
pub was_put : (h : Holding) (files new : History) (path text : List ℕ) → AreAtHand h files → is_some (view_at files path) ≡ false
    → holds.view_at h path ≡ Some text → new ≡ record files { files = insert_entry (slice_cmp nat_cmp) files.files path text }
    → Fetches h files new path
was_put h files new path text hand none read put = record {
  more = record {
    at_hand = record {
      count = ap (λ (f : History). f.held) put ∙ hand.count;
      held_there = λ other found_text found. here other found_text (is_path other path) refl found;
    };
    count = ap (λ (f : History). f.held) put;
    kept = λ other found_text found. still other found_text (is_path other path) refl found;
  };
  there = seen path ∙ ap (λ b. cond b (Some text) (view_at files path)) (is_path_itself path) ∙ sym read;
} where
  seen : (other : List ℕ) → view_at new other ≡ cond (is_path other path) (Some text) (view_at files other)
  seen other = ap (λ f. view_at f other) put ∙ lookup_put (slice_cmp nat_cmp) nat_list_cmp_total path other text files.files

  same : (other : List ℕ) → is_path other path ≡ true → view_at new other ≡ Some text
  same other is = seen other ∙ ap (λ b. cond b (Some text) (view_at files other)) is

  elsewhere : (other : List ℕ) → is_path other path ≡ false → view_at new other ≡ view_at files other
  elsewhere other differs = seen other ∙ ap (λ b. cond b (Some text) (view_at files other)) differs

  here : (other found_text : List ℕ) (b : Bool) → is_path other path ≡ b → view_at new other ≡ Some found_text
      → holds.view_at h other ≡ Some found_text
  here other found_text true is found = ap (holds.view_at h) (path_same other path is) ∙ read ∙ sym (same other is) ∙ found
  here other found_text false differs found = hand.held_there other found_text (sym (elsewhere other differs) ∙ found)

  still : (other found_text : List ℕ) (b : Bool) → is_path other path ≡ b → view_at files other ≡ Some found_text
      → view_at new other ≡ Some found_text
  still other found_text true is found =
      let some : is_some (view_at files path) ≡ true = ap (λ p. is_some (view_at files p)) (sym (path_same other path is)) ∙ ap is_some found in
      let never : true ≡ false = sym some ∙ none in cc
  still other found_text false differs found = elsewhere other differs ∙ found
