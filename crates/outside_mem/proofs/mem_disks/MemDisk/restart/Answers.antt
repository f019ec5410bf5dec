use Rattle.std.proofs.Common.{rules}
use Rattle.outside_mem.proofs.MemSteps.{restarted_may}
use Rattle.outside_mem.proofs.mem_disks.MemDisk.restart.Goals as goal

pub returns-clause-left : goal.returns-clause-left
returns-clause-left c = restarted_may c.args.self.now c.in_ok-self-inside.field-0 (search rules)
