use Rattle.std.proofs.Common.{refl, None, false}
use Rattle.outside_mem.proofs.DiskSteps.{write_made}
use Rattle.outside_mem.proofs.sure_disks.SureDiskDisk.write_at.Goals as goal

pub returns-clause-writes : goal.returns-clause-writes
returns-clause-writes c =
    rw (← c.self.view_is, c.in_ok-write.ensures.ok, c.saturating_add-self-inside.ensures)
    (write_made c.self.inside.history (record { place = c.args.place; bytes = c.args.bytes.now }) (record { stop = None; calls = c.self.inside.calls }) false 0 refl)
