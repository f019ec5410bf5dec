use Rattle.change_journal.proofs.Appends.{unmoved}
use Rattle.change_journal.proofs.Holds.{gate_of_held}
use Rattle.change_journal.proofs.records.append_held.Goals as goal

pub append_records-requires-clause-gate : goal.append_records-requires-clause-gate
append_records-requires-clause-gate g c = λ told.
    rw c.hold_group.ensures.end (gate_of_held (g.D.Disk.meaning c.args.disk.now) c.args.contents.now.records c.args.contents.now.gates c.args.contents.now.end c.requires.held told)

pub returns-in_err-hold_group-clause-moments : goal.returns-in_err-hold_group-clause-moments
returns-in_err-hold_group-clause-moments g c =
    unmoved (g.D.Disk.meaning c.args.disk.now) c.args.contents.now.records c.args.contents.now.gates c.args.contents.now.end c.args.added.now (g.met.D.Disk.sound c.args.disk.now) c.requires.held.rests
