use Rattle.std.proofs.Common.{string_bytes}
use Rattle.kept_world.specs.Moves.{GoesUp}
use Rattle.daemon_world.proofs.machine.Machine.up_times.Given as goal

abbrev pub invariant-loop : goal.invariant-loop
invariant-loop l = GoesUp l.e l.counter l.fn.self (record { world = l.self; printed = string_bytes l.printed })
