-- Which objects stand at each path of a directory, and which of them is the one that is read.
use Rattle.std.specs.Prelude.{◌≡◌, ℕ, Bool, false, not, ◌&&◌, List, [], Option, Some, None, IsTrue, IfSome, ◌<◌, length}
use Rattle.std.specs.Ordering.{is_lt}
use Rattle.std.specs.Option.{unwrap_or}
use Rattle.std.specs.Map.{lookup}
use Rattle.tt_base.specs.Ids.{id_cmp}
use Rattle.tt_base.specs.declared.ids.ElemId.{ElemId}
use Rattle.replica_dir.specs.Ids.{is_path, has_id}

-- The makes and the removes that a directory was told, as sets (after the two-phase set of Shapiro and others, 2011): at each
-- path the ids of the objects that were made there, and the ids that were removed, made already or not.
pub record DirectoryView : Type 0 where
  pub makes : List (List ℕ × List ElemId)
  pub removes : List ElemId

-- the objects that were ever made at the path
abbrev pub made_at : DirectoryView → List ℕ → List ElemId
made_at directory path = unwrap_or (lookup (is_path path) directory.makes) []

-- the object was made at the path
abbrev pub is_made : DirectoryView → List ℕ → ElemId → Bool
is_made directory path id = has_id (made_at directory path) id

-- a remove names the object
abbrev pub is_removed : DirectoryView → ElemId → Bool
is_removed directory id = has_id directory.removes id

-- the object was made at the path, and no remove names it
abbrev pub is_live : DirectoryView → List ℕ → ElemId → Bool
is_live directory path id = is_made directory path id && not (is_removed directory id)

-- the object is live at the path, and no live one there is greater
pub record IsGreatestLive (directory : DirectoryView) (path : List ℕ) (id : ElemId) : Type 0 where
  pub live : IsTrue (is_live directory path id)
  pub none_above : (other : ElemId) → IsTrue (is_live directory path other) → is_lt (id_cmp id other) ≡ false

-- the winner of a path is the greatest live object there; there is none exactly where no object is live
abbrev pub IsWinner : DirectoryView → List ℕ → Option ElemId → Type 0
IsWinner directory path None = (id : ElemId) → is_live directory path id ≡ false
IsWinner directory path (Some id) = IsGreatestLive directory path id

-- the two have equal makes and equal removes, in whatever order they were told
pub record HasSameEvents (one other : DirectoryView) : Type 0 where
  pub makes : (path : List ℕ) (id : ElemId) → is_made one path id ≡ is_made other path id
  pub removes : (id : ElemId) → is_removed one id ≡ is_removed other id

-- each path that is kept has an object that was made there
pub record HasNoEmptyPath (makes : List (List ℕ × List ElemId)) : Type 0 where
  pub each : (path : List ℕ) → IfSome (lookup (is_path path) makes) (λ ids. 0 < length ids)
