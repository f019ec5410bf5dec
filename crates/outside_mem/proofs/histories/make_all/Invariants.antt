use Rattle.std.proofs.Common.{◌≡◌, drop, fold, map}
use Rattle.outside_mem.specs.DiskHistory.{content_after}
use Rattle.outside_mem.specs.Replayed.{tried_of}
use Rattle.outside_mem.proofs.histories.make_all.Given as goal

-- what is made, and the rest on top of it, is what all give
abbrev pub invariant-loop-entry : goal.invariant-loop-entry
invariant-loop-entry l = fold content_after l.content.items (map tried_of (drop l.entry-index l.entries)) ≡ fold content_after l.initial.content.items (map tried_of l.entries)
