-- How a line, given without its LF, is read as a move.
use Rattle.std.specs.Prelude.{ℕ, ◌==◌, List, [], ◌∷◌, Option, Some, None, if◌then◌else◌}
use Rattle.std.specs.Option.{option_map}
use Rattle.replay_script.specs.Arguments.{◌>>=◌, read_all}
use Rattle.replay_script.specs.Characters.{hash}
use Rattle.replay_script.specs.Cut.{cut}
use Rattle.replay_script.specs.Words.{forms_of, word_named, asked}
use Rattle.replay_script.specs.declared.moves.Move.{Move}
use Rattle.replay_script.specs.declared.words.Word.{Word}

-- what a word and its arguments ask for
abbrev pub asked_with : List ℕ → Word → Option Move
asked_with arguments word = option_map (asked word) (read_all (forms_of word) arguments)

-- what a text asks for: a word, a space, and the arguments of the word
abbrev pub asked_by : List ℕ → Option Move
asked_by text = cut text >>= (λ parts. word_named parts.argument >>= asked_with parts.rest)

-- what a line asks for: nothing, a move, or none where it is outside the grammar
abbrev pub line_asks : List ℕ → Option (Option Move)
line_asks [] = Some None
line_asks (b ∷ line) = if b == hash then Some None else option_map Some (asked_by (b ∷ line))
