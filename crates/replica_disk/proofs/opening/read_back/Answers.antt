use Rattle.std.proofs.Common.{◌∙◌, sym, subst}
use Rattle.replica_disk.proofs.Openings.{journal_refuses, reads_back, load_refuses}
use Rattle.replica_disk.specs.Opening.{IsNotRead}
use Rattle.replica_disk.proofs.opening.read_back.Goals as goal

pub returns-in-Err-clause-fault : goal.returns-in-Err-clause-fault
returns-in-Err-clause-fault g c = record {
  cause = journal_refuses (g.D.Disk.meaning c.args.disk) (g.D.Disk.meaning c.in-Err.refusal.disk) c.in-Err.refusal.fault c.in-Err.ensures.fault;
  so = c.in-Err.ensures.steps;
  moments = c.in-Err.ensures.moments;
  plan = c.in-Err.ensures.plan;
  later = c.in-Err.ensures.later;
}

pub returns-in-Ok-load-clause-read : goal.returns-in-Ok-load-clause-read
returns-in-Ok-load-clause-read g c =
    let opened = c.in-Ok.ensures in
    reads_back (g.D.Disk.meaning c.args.disk) (g.D.Disk.meaning c.in-Ok.journal.disk) c.in-Ok.journal c.as_slice.result.now (c.as_slice.ensures ∙ c.records.ensures.records)
    opened.records opened.steps opened.moments opened.plan opened.later c.in-Ok-load.loaded opened.live c.records.ensures.actor opened.told
    c.in-Ok-load.ensures.live c.in-Ok-load.ensures.history c.in-Ok-load.ensures.notes c.in-Ok-load.ensures.taken

pub returns-in-Err-load-clause-fault : goal.returns-in-Err-load-clause-fault
returns-in-Err-load-clause-fault g c =
    let opened = c.in-Ok.ensures in
    subst (λ (d : g.row.D.Denot). IsNotRead (g.D.Disk.meaning c.args.disk) (g.D.Disk.meaning d) c.fault_of-fault.result) (sym c.into_disk-disk.ensures)
    (load_refuses (g.D.Disk.meaning c.args.disk) (g.D.Disk.meaning c.in-Ok.journal.disk) c.in-Ok.journal c.as_slice.result.now (c.as_slice.ensures ∙ c.records.ensures.records)
    opened.records opened.steps opened.moments opened.plan opened.later c.in-Err-load.stop c.fault_of-fault.result c.fault_of-fault.ensures c.in-Err-load.ensures.first)
