-- How contents of a file, modes of a stop, and the words for what speaks on a connection are read.
use Rattle.std.specs.Prelude.{ℕ, List, drop, Option, Some, None, codes, ◌==◌, encode_utf8_all, if◌then◌else◌}
use Rattle.std.specs.List.{starts_with}
use Rattle.std.specs.Option.{option_map}
use Rattle.std.specs.Str.{bytes_eq}
use Rattle.outside.specs.declared.modes.Mode.{Mode}
use Rattle.outside.specs.declared.modes.Mode.TheVariants.{Lost, Kept, Torn}
use Rattle.tt_base.specs.declared.contents.Content.{Content}
use Rattle.tt_base.specs.declared.contents.Content.TheVariants.{Absent, Bytes, Larger}
use Rattle.replay_script.specs.Numbers.{bytes_of}
use Rattle.replay_script.specs.Quotes.{text_of}
use Rattle.replay_script.specs.declared.contents.Speaker.{Speaker}
use Rattle.replay_script.specs.declared.contents.Speaker.TheVariants.{Editor, Peer}

-- the bytes of a file: hexadecimal digits behind the word `hex`, or the UTF-8 of a text in quotes
abbrev pub file_of : List ℕ → Option Content
file_of argument =
    if starts_with ◌==◌ argument (codes "hex ") then option_map Bytes (bytes_of (drop 4 argument))
    else option_map (λ text. Bytes (encode_utf8_all text)) (text_of argument)

-- the content that an argument spells
abbrev pub content_of : List ℕ → Option Content
content_of argument =
    if bytes_eq argument (codes "absent") then Some Absent
    else (if bytes_eq argument (codes "larger") then Some Larger
    else file_of argument)

-- the mode of a word
abbrev pub mode_of : List ℕ → Option Mode
mode_of argument =
    if bytes_eq argument (codes "lost") then Some Lost
    else (if bytes_eq argument (codes "kept") then Some Kept
    else (if bytes_eq argument (codes "torn") then Some Torn
    else None))

-- what speaks, by its word
abbrev pub speaker_of : List ℕ → Option Speaker
speaker_of argument =
    if bytes_eq argument (codes "editor") then Some Editor
    else (if bytes_eq argument (codes "peer") then Some Peer
    else None)

-- its word
abbrev pub speaker_word : Speaker → List ℕ
speaker_word Editor = codes "editor"
speaker_word Peer = codes "peer"
