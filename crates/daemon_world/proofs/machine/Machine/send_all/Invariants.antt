use Rattle.std.proofs.Common.{◌≡◌, string_bytes}
use Rattle.kept_world.specs.Events.{fed_lines}
use Rattle.daemon_world.specs.Serving.{told}
use Rattle.daemon_world.proofs.machine.Machine.send_all.Given as goal

abbrev pub invariant-loop-output : goal.invariant-loop-output
invariant-loop-output l = record {
  editors : l.self ≡ told l.fn.self l.fn.d l.yielded;
  printed : string_bytes l.printed ≡ fed_lines l.fn.d l.yielded;
}
