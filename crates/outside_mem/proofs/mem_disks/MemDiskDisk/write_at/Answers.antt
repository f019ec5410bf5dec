use Rattle.std.proofs.Common.{◌≡◌, ◌≤◌, true, false, ap, sym, subst, ◌∙◌}
use Rattle.outside.specs.Calls.{counted}
use Rattle.outside_mem.specs.Calls.{faults_with}
use Rattle.outside_mem.specs.MemDisk.{MemDiskView, counted_fails}
use Rattle.outside_mem.specs.contracts.mem_disks.MemDisk.{the_view}
use Rattle.outside_mem.proofs.MemSteps.{mem_write_made, mem_write_failed}
use Rattle.outside_mem.proofs.mem_disks.MemDiskDisk.write_at.Goals as goal

pub returns-then-fails-clause-writes : goal.returns-then-fails-clause-writes
returns-then-fails-clause-writes c =
    let disk : MemDiskView = the_view c.self.inside in
    let calls : c.self.inside.calls ≡ c.args.self.now.arming.calls = ap (λ (d : MemDiskView). d.arming.calls) c.self.view_is in
    let number : c.saturating_add-calls.result ≡ counted c.args.self.now.arming.calls = c.saturating_add-calls.ensures ∙ ap counted calls in
    let fails_now : counted_fails c.args.self.now ≡ true = rw number at (sym c.fails_at-fails.ensures ∙ c.if-fails.true) in
    let fails : counted_fails disk ≡ true = subst (λ d. counted_fails d ≡ true) (sym c.self.view_is) fails_now in
    let more : disk.faults ≤ faults_with true disk.faults = rw (c.count_try.ensures.counted, c.if-fails.true) at c.count_try.ensures.later in
    rw (← c.self.view_is, c.count_try.ensures.counted, c.in_ok-write.ensures.ok, c.saturating_add-calls.ensures, c.if-fails.true)
    (mem_write_failed disk (record { place = c.args.place; bytes = c.args.bytes.now }) fails more)

pub returns-clause-writes : goal.returns-clause-writes
returns-clause-writes c =
    let disk : MemDiskView = the_view c.self.inside in
    let calls : c.self.inside.calls ≡ c.args.self.now.arming.calls = ap (λ (d : MemDiskView). d.arming.calls) c.self.view_is in
    let number : c.saturating_add-calls.result ≡ counted c.args.self.now.arming.calls = c.saturating_add-calls.ensures ∙ ap counted calls in
    let goes_on_now : counted_fails c.args.self.now ≡ false = rw number at (sym c.fails_at-fails.ensures ∙ c.if-fails.false) in
    let goes_on : counted_fails disk ≡ false = subst (λ d. counted_fails d ≡ false) (sym c.self.view_is) goes_on_now in
    rw (← c.self.view_is, c.count_try.ensures.counted, c.in_ok-write.ensures.ok, c.saturating_add-calls.ensures, c.if-fails.false)
    (mem_write_made disk (record { place = c.args.place; bytes = c.args.bytes.now }) goes_on)
