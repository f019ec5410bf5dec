use Rattle.std.proofs.Common.{refl, None, false}
use Rattle.outside_mem.proofs.DiskSteps.{sync_made}
use Rattle.outside_mem.proofs.sure_disks.SureDiskDisk.sync.Goals as goal

pub returns-clause-syncs : goal.returns-clause-syncs
returns-clause-syncs c = rw (← c.self.view_is, c.sync.ensures, c.saturating_add-self-inside.ensures) (sync_made c.self.inside.history (record { stop = None; calls = c.self.inside.calls }) false 0 refl)
