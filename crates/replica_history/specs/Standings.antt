-- What stands at the paths that a change touches, before it.
use Rattle.std.specs.Prelude.{ℕ, not, List, length, Option}
use Rattle.std.specs.List.{filter}
use Rattle.std.specs.Map.{lookup}
use Rattle.tt_base.specs.declared.ids.ElemId.{ElemId}
use Rattle.replica_dir.specs.Ids.{is_path}
use Rattle.replica_dir.specs.DirectoryView.{DirectoryView, made_at, is_removed}
use Rattle.replica_text.specs.Effect.{text_of}
use Rattle.replica_views.specs.Objects.{greatest_id}
use Rattle.replica_history.specs.declared.standings.Standing.{Standing}
use Rattle.replica_history.specs.Texts.{TextsView, elements_of_winner}

-- the greatest object that a directory has at a path and that is not removed
unfoldable pub winner_in : DirectoryView → List ℕ → Option ElemId
winner_in directory path = greatest_id (filter (λ id. not (is_removed directory id)) (made_at directory path))

-- the object that is read at a path, and how long its text is
abbrev pub standing_at : TextsView → DirectoryView → List ℕ → Standing
standing_at texts directory path = record {
  winner = winner_in directory path;
  length = length (text_of (elements_of_winner texts (winner_in directory path)));
}

-- what stands at a path, where that is among those that are noted
abbrev pub noted_at : List (List ℕ × Standing) → List ℕ → Option Standing
noted_at standings path = lookup (is_path path) standings
