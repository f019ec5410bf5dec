-- Which texts are shared paths, and which rule a text breaks first.
use Rattle.std.specs.Prelude.{ℕ, Bool, ◌==◌, ◌||◌, List, length, Option, Some, None, nat_lt, codes, if◌then◌else◌}
use Rattle.std.specs.List.{slice_split, list_any, starts_with}
use Rattle.std.specs.Str.{bytes_eq}
use Rattle.tt_base.specs.declared.paths.TheConstants.{MAX_PATH_BYTES, MAX_PATH_PARTS}
use Rattle.tt_base.specs.declared.paths.PathFault.{PathFault}
use Rattle.tt_base.specs.declared.paths.PathFault.TheVariants.{TooLong, NulByte, Absolute, Empty, DotPart, Reserved, TooDeep}

-- the names between the slashes (POSIX, pathname resolution)
abbrev pub parts : List ℕ → List (List ℕ)
parts path = slice_split (λ b. b == 47) path

-- `.` and `..`, which do not name a file of their own
abbrev pub is_dot_part : List ℕ → Bool
is_dot_part part = bytes_eq part (codes ".") || bytes_eq part (codes "..")

-- what a directory keeps for git and for the daemon itself
abbrev pub is_reserved_part : List ℕ → Bool
is_reserved_part part = bytes_eq part (codes ".git") || bytes_eq part (codes ".teamd")

abbrev pub is_empty_part : List ℕ → Bool
is_empty_part part = length part == 0

abbrev pub is_nul : ℕ → Bool
is_nul b = b == 0

-- a slash stands first
abbrev pub is_absolute : List ℕ → Bool
is_absolute path = starts_with ◌==◌ path (codes "/")

-- the first rule that a text breaks, in the order of checking; none where it is a path
abbrev pub path_fault : List ℕ → Option PathFault
path_fault path =
    if nat_lt MAX_PATH_BYTES (length path) then Some TooLong
    else (if list_any is_nul path then Some NulByte
    else (if is_absolute path then Some Absolute
    else (if list_any is_empty_part (parts path) then Some Empty
    else (if list_any is_dot_part (parts path) then Some DotPart
    else (if list_any is_reserved_part (parts path) then Some Reserved
    else (if nat_lt MAX_PATH_PARTS (length (parts path)) then Some TooDeep
    else None))))))
