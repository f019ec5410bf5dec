use Rattle.std.proofs.Common.{◌≡◌, drop, fold, map}
use Rattle.outside.specs.Images.{overwritten}
use Rattle.outside_mem.specs.Replayed.{write_of}
use Rattle.outside_mem.proofs.histories.keep_all.Given as goal

-- what is made, and the rest on top of it, is what all give
abbrev pub invariant-loop-entry : goal.invariant-loop-entry
invariant-loop-entry l = fold overwritten l.content.items (map write_of (drop l.entry-index l.entries)) ≡ fold overwritten l.initial.content.items (map write_of l.entries)
