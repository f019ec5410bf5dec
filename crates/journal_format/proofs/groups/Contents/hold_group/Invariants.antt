use Rattle.std.proofs.Common.{◌≡◌, ◌++◌, take, replicate}
use Rattle.journal_format.proofs.groups.Contents.hold_group.Given as goal

-- the records so far are held, each with its gate
abbrev pub invariant-loop-entry : goal.invariant-loop-entry
invariant-loop-entry l =
    (l.self.records ≡ l.fn.self.records ++ take l.entry-index l.entries) × (l.self.gates ≡ l.fn.self.gates ++ replicate l.entry-index l.fn.self.end)
    × (l.self.end ≡ l.fn.self.end)
