-- The line ends of a text.
use Rattle.std.specs.Prelude.{ℕ, Bool, ◌==◌, List}
use Rattle.std.specs.List.{count_by}

-- LF, which ends a line
abbrev pub is_line_end : ℕ → Bool
is_line_end ch = ch == 10

-- the number of lines that end in a text
abbrev pub line_ends : List ℕ → ℕ
line_ends text = count_by is_line_end text
