-- Which ids there are.
use Rattle.std.specs.Prelude.{◌≡◌, ⊤, true, pos, int_lt, IsTrue}
use Rattle.std.specs.Str.{all_scalars}
use Rattle.rpc_message.specs.declared.messages.MessageId.{MessageId}
use Rattle.rpc_message.specs.declared.messages.MessageId.TheVariants.{Words, Below, Number, Null}

-- a number in `Below` is below 0
abbrev pub IsSigned : MessageId → Type 0
IsSigned (Below z) = IsTrue (int_lt z (pos 0))
IsSigned _ = ⊤

-- and words are characters
abbrev pub IsId : MessageId → Type 0
IsId (Words characters) = all_scalars characters ≡ true
IsId (Below z) = IsTrue (int_lt z (pos 0))
IsId (Number n) = ⊤
IsId Null = ⊤
