-- How a path is read.
use Rattle.std.specs.Prelude.{List, ℕ, Option, Some, None, is_none, option_and_then, encode_utf8_all, if◌then◌else◌}
use Rattle.std.specs.List.{list_all}
use Rattle.tt_base.specs.Path.{path_fault}
use Rattle.replay_script.specs.Grammar.{is_bare}
use Rattle.replay_script.specs.Quotes.{text_of}

-- a text that breaks no rule of shared paths
abbrev pub sound_path : List ℕ → Option (List ℕ)
sound_path text = if is_none (path_fault text) then Some text else None

-- the path that an argument spells
abbrev pub path_of : List ℕ → Option (List ℕ)
path_of argument =
    if list_all is_bare argument then sound_path argument
    else option_and_then (λ text. sound_path (encode_utf8_all text)) (text_of argument)
