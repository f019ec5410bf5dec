-- For private clauses: the texts of a message of an editor are characters.
use Rattle.std.specs.Prelude.{◌≡◌, ⊤, true}
use Rattle.std.specs.Str.{all_scalars}
use Rattle.std.specs.List.{AllByRecursion}
use Rattle.rpc_message.specs.Replies.{IsEdit}
use Rattle.rpc_message.specs.declared.messages.FromEditor.{FromEditor}
use Rattle.rpc_message.specs.declared.messages.FromEditor.TheVariants.{Open, Edit}

-- its texts are scalar values
abbrev pub HasCharacters : FromEditor → Type 0
HasCharacters (Open uri content) = all_scalars content ≡ true
HasCharacters (Edit uri revision edits) = AllByRecursion IsEdit edits
HasCharacters _ = ⊤
