-- The causes for which a URI names no shared path, and their names.
use Rattle.std.specs.Prelude.{ℕ, List, map, Option, option_and_then, slice_get, codes}
use Rattle.std.specs.List.{enumerate_from}
use Rattle.name_table.specs.Rows.{number_of}
use Rattle.rpc_message.specs.declared.causes.UriCause.{UriCause}
use Rattle.rpc_message.specs.declared.causes.UriCause.TheVariants.{NotAUri, NotFile, HasHost, OutsideBase, NotUtf8, TooLong, NulByte, Absolute, Empty, DotPart, Reserved, TooDeep}
use Rattle.rpc_message.specs.declared.causes.TheConstants.{CAUSES}

-- the name of a cause
abbrev pub name : UriCause → List ℕ
name NotAUri = codes "NotAUri"
name NotFile = codes "NotFile"
name HasHost = codes "HasHost"
name OutsideBase = codes "OutsideBase"
name NotUtf8 = codes "NotUtf8"
name TooLong = codes "TooLong"
name NulByte = codes "NulByte"
name Absolute = codes "Absolute"
name Empty = codes "Empty"
name DotPart = codes "DotPart"
name Reserved = codes "Reserved"
name TooDeep = codes "TooDeep"

-- the table of names, each with the place of its cause in `CAUSES` as its number
abbrev pub causes : List (ℕ × List ℕ)
causes = enumerate_from 0 (map name CAUSES)

-- the cause of this name
abbrev pub cause_named : List ℕ → Option UriCause
cause_named word = option_and_then (λ number. slice_get CAUSES number) (number_of word causes)
