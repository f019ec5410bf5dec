use Rattle.replica_disk.proofs.Openings.{begin_leaves}
use Rattle.replica_disk.proofs.opening.begin.Goals as goal

pub returns-clause-durable : goal.returns-clause-durable
returns-clause-durable g c =
    begin_leaves (g.D.Disk.meaning c.append_staged.new.journal.disk) c.args.journal.now c.append_staged.new.journal _ c.append_staged.result
    c.append_staged.ensures.written c.append_staged.ensures.durable
