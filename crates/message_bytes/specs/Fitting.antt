-- Which messages there are: numbers fit in 64 bits, texts are characters, URIs are UTF-8. Each value of the types is so.
use Rattle.std.specs.Prelude.{◌≡◌, ⊤, ℕ, pos, negsuc, ◌^◌, ◌<◌, true, IsUtf8}
use Rattle.std.specs.Str.{all_scalars}
use Rattle.std.specs.List.{AllByRecursion}
use Rattle.hex.specs.Hex.{IsBytes}
use Rattle.tt_base.specs.declared.edits.Position.{Position}
use Rattle.tt_base.specs.declared.edits.TextEdit.{TextEdit}
use Rattle.tt_base.specs.declared.edits.TextRange.{TextRange}
use Rattle.rpc_message.specs.declared.messages.FromEditor.{FromEditor}
use Rattle.rpc_message.specs.declared.messages.FromEditor.TheVariants.{Open, Close, Cursor, Shutdown, Response}
use Rattle.rpc_message.specs.declared.messages.FromEditor.TheVariants as asks
use Rattle.rpc_message.specs.declared.messages.MessageId.{MessageId}
use Rattle.rpc_message.specs.declared.messages.MessageId.TheVariants.{Words, Below, Number, Null}
use Rattle.rpc_message.specs.declared.messages.ToEditor.{ToEditor}
use Rattle.rpc_message.specs.declared.messages.ToEditor.TheVariants.{Success, Refused, Edit}
use Rattle.rpc_message.specs.declared.refusals.Refusal.{Refusal}
use Rattle.rpc_message.specs.declared.refusals.Refusal.TheVariants.{BadPosition, BadRevision, TextTooLong, Clash, BackwardRange}

-- a number of 64 bits
abbrev pub IsCount : ℕ → Type 0
IsCount n = n < 2 ^ 64

-- both numbers of a position
abbrev pub IsPosition : Position → Type 0
IsPosition p = IsCount p.line × IsCount p.character

abbrev pub IsRange : TextRange → Type 0
IsRange r = IsPosition r.start × IsPosition r.end

abbrev pub IsTextEdit : TextEdit → Type 0
IsTextEdit e = IsPosition e.start × (IsPosition e.end × (all_scalars e.replacement ≡ true))

-- a number below 0 has 64 bits with its sign
abbrev pub IsIdFitting : MessageId → Type 0
IsIdFitting (Words characters) = all_scalars characters ≡ true
IsIdFitting (Below (pos n)) = ⊥
IsIdFitting (Below (negsuc n)) = n < 2 ^ 63
IsIdFitting (Number n) = IsCount n
IsIdFitting Null = ⊤

abbrev pub IsRefusalFitting : Refusal → Type 0
IsRefusalFitting (BadPosition edit) = IsCount edit
IsRefusalFitting (BadRevision confirmed issued seen) = IsCount confirmed × (IsCount issued × IsCount seen)
IsRefusalFitting (TextTooLong length) = IsCount length
IsRefusalFitting (Clash given held) = IsBytes given × IsBytes held
IsRefusalFitting (BackwardRange edit) = IsCount edit
IsRefusalFitting _ = ⊤

-- a message to an editor
abbrev pub IsAnswerFitting : ToEditor → Type 0
IsAnswerFitting (Success id) = IsIdFitting id
IsAnswerFitting (Refused id refusal) = IsIdFitting id × IsRefusalFitting refusal
IsAnswerFitting (Edit uri revision edits) = IsUtf8 uri × (IsCount revision × AllByRecursion IsTextEdit edits)

-- a request of an editor, which no response is
abbrev pub IsRequestFitting : FromEditor → Type 0
IsRequestFitting (Open uri content) = IsUtf8 uri × (all_scalars content ≡ true)
IsRequestFitting (Close uri) = IsUtf8 uri
IsRequestFitting (asks.Edit uri revision edits) = IsUtf8 uri × (IsCount revision × AllByRecursion IsTextEdit edits)
IsRequestFitting (Cursor uri ranges) = IsUtf8 uri × AllByRecursion IsRange ranges
IsRequestFitting Shutdown = ⊤
IsRequestFitting Response = ⊥
