use Rattle.std.proofs.Common.{string_bytes}
use Rattle.std.specs.Vec.Iter.{into_iter_items}
use Rattle.daemon_world.proofs.FedLemmas.{HearsBehind}
use Rattle.daemon_world.proofs.machine.Machine.hear_bodies.Given as goal

abbrev pub invariant-loop-body : goal.invariant-loop-body
invariant-loop-body l =
    HearsBehind l.d l.c l.fn.bodies (into_iter_items l.body-iterator) l.fn.self l.self (string_bytes l.printed)
