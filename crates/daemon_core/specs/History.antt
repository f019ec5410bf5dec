-- What a daemon's files hold.
use Rattle.std.specs.Prelude.{ℕ, ◌+◌, Bool, List, [], Option}
use Rattle.std.specs.BTreeMap.{is_at, insert_entry}
use Rattle.std.specs.Cmp.Lexicographic.{slice_cmp}
use Rattle.std.specs.Map.{lookup}
use Rattle.std.specs.Option.{unwrap_or}
use Rattle.std.specs.Ordering.{nat_cmp}
use Rattle.delta.specs.Cells.{Cells, applied}

-- The files that there are: each shared path, as its bytes, with the text there, in the order of paths; and how many
-- changes have made them so. All else speaks of a history by the words below, so that a history of changes can stand
-- in its place.
pub record History : Type 0 where
  pub files : List (List ℕ × List ℕ)
  pub held : ℕ

-- whether two paths are one
abbrev pub is_path : List ℕ → List ℕ → Bool
is_path path = is_at (slice_cmp nat_cmp path)

-- before the first change
abbrev pub beginning : History
beginning = record { files = []; held = 0 }

-- the text of the file at a path, where there is one
abbrev pub view_at : History → List ℕ → Option (List ℕ)
view_at history path = lookup (is_path path) history.files

-- a link reads a file that is absent as the empty text
abbrev pub text_at : History → List ℕ → List ℕ
text_at history path = unwrap_or (view_at history path) []

-- the history with one more change, which does d to the text at a path; where the file was absent, it makes it
abbrev pub made : History → List ℕ → Cells → History
made history path d =
    record {
      files = insert_entry (slice_cmp nat_cmp) history.files path (applied d (text_at history path));
      held = history.held + 1;
    }
