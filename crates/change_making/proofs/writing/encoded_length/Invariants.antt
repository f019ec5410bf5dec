use Rattle.std.proofs.Common.{◌<◌, ◌^◌, drop}
use Rattle.change_making.proofs.WrittenLemmas.{Counts}
use Rattle.change_making.proofs.writing.encoded_length.Given as goal

abbrev pub invariant-loop-character : goal.invariant-loop-character
invariant-loop-character l = Counts l.characters l.bytes (drop l.character-index l.characters) × (l.bytes < 2 ^ 64)
