use Rattle.std.proofs.Common.{◌≡◌, ◌≤◌, Ok, true, false, ap, sym, subst, ◌∙◌}
use Rattle.outside.specs.DiskCalls.{Syncs}
use Rattle.outside_mem.specs.Calls.{faults_with}
use Rattle.outside_mem.specs.DiskHistory.{with_sync}
use Rattle.outside_mem.specs.MemDisk.{MemDiskView, mem_disk, counted_fails}
use Rattle.outside_mem.specs.contracts.mem_disks.MemDisk.{the_view}
use Rattle.outside_mem.proofs.MemSteps.{mem_sync_made, mem_sync_failed}
use Rattle.outside_mem.proofs.mem_disks.MemDiskDisk.sync.Goals as goal

pub returns-then-fails-clause-syncs : goal.returns-then-fails-clause-syncs
returns-then-fails-clause-syncs c =
    let disk : MemDiskView = the_view c.self.inside in
    let fails : counted_fails disk ≡ true = rw (← c.saturating_add-self-inside.ensures) (sym c.fails_at-fails.ensures ∙ c.if-fails.true) in
    let more : disk.faults ≤ faults_with true disk.faults = rw (c.count_try.ensures.counted, c.if-fails.true) at c.count_try.ensures.later in
    rw (← c.self.view_is, c.count_try.ensures.counted, c.saturating_add-self-inside.ensures, c.if-fails.true) (mem_sync_failed disk (record {}) fails more)

pub returns-clause-syncs : goal.returns-clause-syncs
returns-clause-syncs c =
    let disk : MemDiskView = the_view c.self.inside in
    let goes_on : counted_fails disk ≡ false = rw (← c.saturating_add-self-inside.ensures) (sym c.fails_at-fails.ensures ∙ c.if-fails.false) in
    let after = λ (counted : MemDiskView). Syncs (mem_disk c.args.self.now) (mem_disk (record counted { history = with_sync counted.history })) (Ok tt) in
    rw c.sync.ensures
    (subst after (sym (c.self-2.view_is ∙ c.count_try.ensures.counted))
    (rw (← c.self.view_is, c.saturating_add-self-inside.ensures, c.if-fails.false) (mem_sync_made disk goes_on)))
