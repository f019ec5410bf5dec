use Rattle.std.proofs.Common.{◌≡◌, ◌≤◌, true, ap, sym, ◌∙◌}
use Rattle.outside_mem.specs.Calls.{faults_with}
use Rattle.outside_mem.specs.MemDisk.{MemDiskView, fails_at}
use Rattle.outside_mem.proofs.MemSteps.{mem_read_failed}
use Rattle.outside_mem.proofs.mem_disks.MemDiskDisk.read_at.Goals as goal

pub returns-then-fails-clause-reads : goal.returns-then-fails-clause-reads
returns-then-fails-clause-reads c =
    let disk = c.args.self.now in
    let calls : c.self.inside.calls ≡ disk.arming.calls = ap (λ (d : MemDiskView). d.arming.calls) c.self.view_is in
    let fails : fails_at disk disk.arming.calls ≡ true = rw calls at (sym c.fails_at-fails.ensures ∙ c.if-fails.true) in
    let more : disk.faults ≤ faults_with true disk.faults = rw (c.count_try.ensures.counted, c.if-fails.true) at c.count_try.ensures.later in
    rw (c.count_try.ensures.counted, c.if-fails.true) (mem_read_failed disk c.args.place c.args.buf.now (record {}) fails more)
