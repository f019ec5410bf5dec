-- Lines and characters of a text, in the form of a Position of the Language Server Protocol 3.17. Three
-- things differ. The protocol ends a line at LF, CR LF and CR, and here LF alone ends it. Its unit is the
-- UTF-16 code unit unless another is agreed on, and here it is the Unicode scalar value. And it moves a
-- character past the end of a line back to that end, where here the position is refused.
use Rattle.std.specs.Prelude.{◌≡◌, ℕ, suc, ◌+◌, Bool, true, false, nat_le, List, [], ◌∷◌, ◌++◌, length, take, drop, Option, Some, None, option_and_then, if◌then◌else◌}
pub use Rattle.paged.specs.Chars.{is_line_end, line_ends}
use Rattle.paged.specs.Marks.{behind}
use Rattle.tt_base.specs.declared.edits.Position.{Position}

-- the text is empty, or its last character ends a line
abbrev pub IsWholeLines : List ℕ → Type 0
IsWholeLines [] = Unit {0}
IsWholeLines (ch ∷ []) = is_line_end ch ≡ true
IsWholeLines (ch ∷ (next ∷ text)) = IsWholeLines (next ∷ text)

-- the position is that of a place with so many characters before it: its line begins behind as many
-- line ends as it says, and so many characters of that line stand before the place
pub record IsPlace (text : List ℕ) (p : Position) (offset : ℕ) : Type 0 where
  pub lines : List ℕ
  pub before : List ℕ
  pub behind : List ℕ
  pub cut : text ≡ lines ++ (before ++ behind)
  pub whole : IsWholeLines lines
  pub line : line_ends lines ≡ p.line
  pub one_line : line_ends before ≡ 0
  pub character : length before ≡ p.character
  pub offset_is : length lines + length before ≡ offset

-- the number of characters before a line, where there are so many lines
abbrev pub line_start : List ℕ → ℕ → Option ℕ
line_start text line = behind is_line_end text line

-- the number of characters before the first line end, or of all where there is none
abbrev pub line_length : List ℕ → ℕ
line_length [] = 0
line_length (ch ∷ text) = if is_line_end ch then 0 else suc (line_length text)

-- a character of the line that begins behind so many characters
abbrev pub offset_in_line : List ℕ → ℕ → ℕ → Option ℕ
offset_in_line text character start =
    if nat_le character (line_length (drop start text)) then Some (start + character) else None

-- the number of characters before a position, where the text has it
abbrev pub offset_at : List ℕ → Position → Option ℕ
offset_at text p = option_and_then (offset_in_line text p.character) (line_start text p.line)

-- the position behind one character, which ends its line or not
abbrev pub position_behind_char : Bool → Position → Position
position_behind_char true p = record { line = p.line + 1; character = 0 }
position_behind_char false p = record { line = p.line; character = p.character + 1 }

-- the position behind a text that begins at a position
abbrev pub position_behind : Position → List ℕ → Position
position_behind p [] = p
position_behind p (ch ∷ text) = position_behind (position_behind_char (is_line_end ch) p) text

-- the position that every text begins with
abbrev pub first_position : Position
first_position = record { line = 0; character = 0 }

-- the position with so many characters of the text before it
abbrev pub position_at : List ℕ → ℕ → Position
position_at text offset = position_behind first_position (take offset text)
