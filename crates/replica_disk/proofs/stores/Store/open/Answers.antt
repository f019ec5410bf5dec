use Rattle.std.proofs.Common.{◌≡◌, ◌≤◌, inl, sym, ap, ◌∙◌, subst, arith}
use Rattle.outside.specs.Moments.{LeavesOnly}
use Rattle.change_journal.specs.declared.faults.JournalFault.{JournalFault}
use Rattle.replica_store.specs.Records.{actor_from}
use Rattle.replica_store.specs.Disk.{IsNotOpened, FailsToOpenSo, LeftByOpening}
use Rattle.replica_disk.proofs.Openings.{begin_fails, begin_refuses, left_by_journal, left_by_opening, opens_on, opens_store}
use Rattle.replica_disk.proofs.stores.Store.open.Goals as goal

pub invariant_of-result : goal.invariant_of-result
invariant_of-result g c = λ on.
    let begun = c.in-Ok.begun in (
      c.in-Ok.ensures.read.whole,
      opens_store (g.D.Disk.meaning c.args.disk) (g.D.Disk.meaning begun.journal.disk) (g.D.Disk.meaning c.begin.new.journal.disk) c.args.actor c.owner_of-owner.result
          begun.journal c.begin.new.journal begun.loaded c.from_vec.result c.in-Ok.ensures.read c.in-Ok-begin.ensures.written
          (c.owner_of-owner.ensures ∙ ap (actor_from c.args.actor) (c.as_slice.ensures ∙ c.records.ensures.records)) (c.from_vec.ensures ∙ c.new.ensures.items),
    )

pub returns-in-Ok-begin-clause-opened : goal.returns-in-Ok-begin-clause-opened
returns-in-Ok-begin-clause-opened g c =
    let begun = c.in-Ok.begun in
    opens_on (g.D.Disk.meaning c.args.disk) (g.D.Disk.meaning begun.journal.disk) (g.D.Disk.meaning c.begin.new.journal.disk) c.args.actor c.owner_of-owner.result
    begun.journal c.begin.new.journal begun.loaded c.from_vec.result c.in-Ok.ensures.read c.in-Ok-begin.ensures.written
    (c.owner_of-owner.ensures ∙ ap (actor_from c.args.actor) (c.as_slice.ensures ∙ c.records.ensures.records)) (c.from_vec.ensures ∙ c.new.ensures.items)
    c.in-Ok-begin.ensures.steps

pub returns-in-Ok-begin-clause-moments : goal.returns-in-Ok-begin-clause-moments
returns-in-Ok-begin-clause-moments g c = λ told some.
    let begun = c.in-Ok.begun in
    let read = c.in-Ok.ensures.read in
    left_by_opening (g.D.Disk.meaning c.args.disk) (g.D.Disk.meaning begun.journal.disk) (g.D.Disk.meaning c.begin.new.journal.disk) c.args.actor
    begun.journal.records begun.journal.gates begun.journal.end (read.placed told) (read.moments told some) c.in-Ok-begin.ensures.moments

pub returns-in-Ok-begin-clause-plan : goal.returns-in-Ok-begin-clause-plan
returns-in-Ok-begin-clause-plan g c = c.in-Ok-begin.ensures.plan ∙ c.in-Ok.ensures.read.plan

pub returns-in-Ok-begin-clause-later : goal.returns-in-Ok-begin-clause-later
returns-in-Ok-begin-clause-later g c = omega (arith, c.in-Ok.ensures.read.later, c.in-Ok-begin.ensures.later)

pub returns-in-Err-begin-clause-fault : goal.returns-in-Err-begin-clause-fault
returns-in-Err-begin-clause-fault g c =
    let begun = c.in-Ok.begun in
    subst (λ (d : g.row.D.Denot). IsNotOpened (g.D.Disk.meaning c.args.disk) (g.D.Disk.meaning d) c.from-fault.result) (sym c.into_disk-disk.ensures)
    (subst (λ (f : JournalFault). IsNotOpened (g.D.Disk.meaning c.args.disk) (g.D.Disk.meaning c.begin.new.journal.disk) f) (sym c.from-fault.ensures)
    (begin_refuses (g.D.Disk.meaning c.args.disk) (g.D.Disk.meaning begun.journal.disk) (g.D.Disk.meaning c.begin.new.journal.disk) c.in-Err-begin.fault
    c.in-Ok.ensures.read.later (λ is. c.in-Err-begin.ensures.fault (cc))))

pub returns-in-Err-begin-clause-steps : goal.returns-in-Err-begin-clause-steps
returns-in-Err-begin-clause-steps g c = λ told.
    let begun = c.in-Ok.begun in
    let read = c.in-Ok.ensures.read in
    subst (λ (d : g.row.D.Denot). FailsToOpenSo (g.D.Disk.meaning c.args.disk) (g.D.Disk.meaning d) c.args.actor c.from-fault.result) (sym c.into_disk-disk.ensures)
    (subst (λ (f : JournalFault). FailsToOpenSo (g.D.Disk.meaning c.args.disk) (g.D.Disk.meaning c.begin.new.journal.disk) c.args.actor f) (sym c.from-fault.ensures)
    (begin_fails (g.D.Disk.meaning c.args.disk) (g.D.Disk.meaning begun.journal.disk) (g.D.Disk.meaning c.begin.new.journal.disk) c.args.actor
    begun.journal.records begun.journal.gates begun.journal.end c.in-Err-begin.fault (read.placed told) (read.made told)
    (c.in-Err-begin.ensures.steps (read.told told))))

pub returns-in-Err-begin-clause-moments : goal.returns-in-Err-begin-clause-moments
returns-in-Err-begin-clause-moments g c = λ told some.
    let begun = c.in-Ok.begun in
    let read = c.in-Ok.ensures.read in
    subst (λ (d : g.row.D.Denot). LeavesOnly (g.D.Disk.meaning c.args.disk) (g.D.Disk.meaning d) (LeftByOpening (g.D.Disk.meaning c.args.disk) c.args.actor))
    (sym c.into_disk-disk.ensures)
    (left_by_opening (g.D.Disk.meaning c.args.disk) (g.D.Disk.meaning begun.journal.disk) (g.D.Disk.meaning c.begin.new.journal.disk) c.args.actor
    begun.journal.records begun.journal.gates begun.journal.end (read.placed told) (read.moments told some) c.in-Err-begin.ensures.moments)

pub returns-in-Err-begin-clause-plan : goal.returns-in-Err-begin-clause-plan
returns-in-Err-begin-clause-plan g c =
    subst (λ (d : g.row.D.Denot). (g.D.Disk.meaning d).plan ≡ (g.D.Disk.meaning c.args.disk).plan) (sym c.into_disk-disk.ensures)
    (c.in-Err-begin.ensures.plan ∙ c.in-Ok.ensures.read.plan)

pub returns-in-Err-begin-clause-later : goal.returns-in-Err-begin-clause-later
returns-in-Err-begin-clause-later g c =
    subst (λ (d : g.row.D.Denot). (g.D.Disk.meaning c.args.disk).faults ≤ (g.D.Disk.meaning d).faults) (sym c.into_disk-disk.ensures)
    (omega (arith, c.in-Ok.ensures.read.later, c.in-Err-begin.ensures.later))

pub returns-in-Err-clause-fault : goal.returns-in-Err-clause-fault
returns-in-Err-clause-fault g c = c.in-Err.ensures.fault.cause

pub returns-in-Err-clause-steps : goal.returns-in-Err-clause-steps
returns-in-Err-clause-steps g c = λ told. inl (c.in-Err.ensures.fault.so told)

pub returns-in-Err-clause-moments : goal.returns-in-Err-clause-moments
returns-in-Err-clause-moments g c = λ told some.
    left_by_journal (g.D.Disk.meaning c.args.disk) (g.D.Disk.meaning c.in-Err.refusal.disk) c.args.actor (c.in-Err.ensures.fault.moments told some)

pub returns-in-Err-clause-plan : goal.returns-in-Err-clause-plan
returns-in-Err-clause-plan g c = c.in-Err.ensures.fault.plan

pub returns-in-Err-clause-later : goal.returns-in-Err-clause-later
returns-in-Err-clause-later g c = c.in-Err.ensures.fault.later
