-- Laws of the grammar.
use Rattle.std.specs.Prelude.{◌≡◌, ◌↔◌, ℕ, ◌^◌, ◌<◌, List, length, true, Some, None, IsUtf8}
use Rattle.std.specs.Str.{all_scalars}
use Rattle.std.specs.List.{AllByRecursion}
use Rattle.hex.specs.Hex.{IsBytes}
use Rattle.tt_base.specs.Path.{path_fault}
use Rattle.tt_base.specs.declared.contents.Content.{Content}
use Rattle.tt_base.specs.declared.contents.Content.TheVariants.{Absent, Bytes, Larger}
use Rattle.replay_script.specs.Grammar.{Argument, Number, Path, Text, Contents, StopMode, Hexadecimal, Fixed, call_of, AsksFor, AsksNothing, IsOutside, line_of}
use Rattle.replay_script.specs.Lines.{line_asks}
use Rattle.replay_script.specs.declared.moves.Move.{Move}

-- a path in UTF-8 that breaks no rule
pub record IsShared (path : List ℕ) : Type 0 where
  pub utf8 : IsUtf8 path
  pub sound : path_fault path ≡ None

-- bytes, one or more
pub record IsSomeBytes (bytes : List ℕ) : Type 0 where
  pub some : 0 < length bytes
  pub all : IsBytes bytes

-- the bytes of a file are bytes
abbrev pub HoldsBytes : Content → Type 0
HoldsBytes Absent = Unit {0}
HoldsBytes (Bytes bytes) = IsBytes bytes
HoldsBytes Larger = Unit {0}

-- what the type of an argument keeps: numbers of 64 bits, paths, texts of scalar values, bytes; and bytes in hexadecimal are not none
abbrev pub IsWritable : Argument → Type 0
IsWritable (Number n) = n < 2 ^ 64
IsWritable (Path path) = IsShared path
IsWritable (Text text) = all_scalars text ≡ true
IsWritable (Contents content) = HoldsBytes content
IsWritable (StopMode mode) = Unit {0}
IsWritable (Hexadecimal bytes) = IsSomeBytes bytes
IsWritable (Fixed word) = Unit {0}

-- a move that has a line: any whose values are of their types, but a `Load` or a `Hear` without bytes
abbrev pub HasLine : Move → Type 0
HasLine moved = AllByRecursion IsWritable (call_of moved).arguments

-- the line that is written for a move asks for that move
abbrev pub WrittenLineAsks : Type 0
WrittenLineAsks = (moved : Move) → HasLine moved → AsksFor (line_of moved) moved

-- a line asks for one move at most, and for none where it asks for nothing
pub record IsUnambiguous (line : List ℕ) : Type 0 where
  pub one : (moved other : Move) → AsksFor line moved → AsksFor line other → moved ≡ other
  pub none : (moved : Move) → AsksFor line moved → AsksNothing line → ⊥

abbrev pub LinesAreUnambiguous : Type 0
LinesAreUnambiguous = (line : List ℕ) → IsUnambiguous line

-- for a line in UTF-8, `line_asks` computes what the grammar says of it
pub record IsDecided (line : List ℕ) : Type 0 where
  pub moves : (moved : Move) → (line_asks line ≡ Some (Some moved)) ↔ AsksFor line moved
  pub nothing : (line_asks line ≡ Some None) ↔ AsksNothing line
  pub outside : (line_asks line ≡ None) ↔ IsOutside line

abbrev pub GrammarIsDecided : Type 0
GrammarIsDecided = (line : List ℕ) → IsUtf8 line → IsDecided line
