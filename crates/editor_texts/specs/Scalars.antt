-- Which texts editors give: lists of Unicode scalar values (The Unicode Standard, section 3.9), as UTF-8 spells them.
use Rattle.std.specs.Prelude.{◌≡◌, true}
use Rattle.std.specs.List.{AllByRecursion}
use Rattle.std.specs.Str.{all_scalars}
use Rattle.tt_base.specs.declared.edits.TextEdit.{TextEdit}
use Rattle.rpc_message.specs.declared.messages.FromEditor.{FromEditor}
use Rattle.rpc_message.specs.declared.messages.FromEditor.TheVariants.{Open, Edit}

-- what the edit puts in the place of a range
abbrev pub ReplacesByScalars : TextEdit → Type 0
ReplacesByScalars edit = all_scalars edit.replacement ≡ true

-- each text that a message has
abbrev pub SaysScalars : FromEditor → Type 0
SaysScalars (Open uri content) = all_scalars content ≡ true
SaysScalars (Edit uri revision edits) = AllByRecursion ReplacesByScalars edits
SaysScalars message = Unit {0}
