-- Which operations on a text a change can write.
use Rattle.std.specs.Prelude.{◌<◌, length}
use Rattle.tt_base.specs.declared.text_ops.TextOp.{TextOp}
use Rattle.tt_base.specs.declared.text_ops.TextOp.TheVariants.{Insert, Delete}

-- an insertion has a character, and a deletion deletes one
abbrev pub CanBeWritten : TextOp → Type 0
CanBeWritten (Insert first parent text) = 0 < length text
CanBeWritten (Delete first count) = 0 < count
