use Rattle.std.proofs.Common.{sym, ap}
use Rattle.plain_world.specs.Base.{script_base, base_or}
use Rattle.daemon_world.proofs.machine.read_base.Goals as goal

pub returns-in-Ok : goal.returns-in-Ok
unfolding script_base
returns-in-Ok c = sym (ap base_or c.in-Ok.ensures)
