-- The text at a path, changed where it stands.
use Rattle.std.proofs.Common.{◌≡◌, ℕ, List, [], Option, Some, sym, ap, ◌∙◌}
use Rattle.std.specs.BTreeMap.{insert_entry}
use Rattle.std.specs.Cmp.Lexicographic.{slice_cmp, nat_list_cmp_total}
use Rattle.std.specs.List.Sorted.{IsStrictlySortedBy}
use Rattle.std.specs.Map.{lookup, keys_of, set_value}
use Rattle.std.specs.Option.{unwrap_or}
use Rattle.std.specs.Ordering.{nat_cmp}
use Rattle.std.proofs.lemmas.Map.Steps.{set_value_same}
use Rattle.delta.specs.Cells.{Cells, applied}
use Rattle.daemon_core.specs.History.{is_path}
use Rattle.daemon_links.proofs.MapLemmas.{put_found}

-- the texts, with a text at a path
abbrev Texts : Type 0
Texts = List (List ℕ × List ℕ)

pub text_changed : (path text after : List ℕ) (d : Cells) (texts new : Texts) → IsStrictlySortedBy (slice_cmp nat_cmp) (keys_of texts)
    → Some text ≡ lookup (is_path path) texts → new ≡ set_value (is_path path) texts after → after ≡ applied d text
    → new ≡ insert_entry (slice_cmp nat_cmp) texts path (applied d (unwrap_or (lookup (is_path path) texts) []))
text_changed path text after d texts new sorted found written is =
    written
    ∙ (put_found (slice_cmp nat_cmp) nat_list_cmp_total path texts text after sorted found
    ∙ ap (insert_entry (slice_cmp nat_cmp) texts path) (is ∙ ap (λ (o : Option (List ℕ)). applied d (unwrap_or o [])) found))

pub text_kept : (path text after : List ℕ) (texts new : Texts) → Some text ≡ lookup (is_path path) texts
    → new ≡ set_value (is_path path) texts after → after ≡ text → new ≡ texts
text_kept path text after texts new found written is =
    written ∙ (ap (set_value (is_path path) texts) is ∙ set_value_same (is_path path) texts text (sym found))
