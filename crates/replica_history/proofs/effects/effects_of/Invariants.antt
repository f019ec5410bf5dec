use Rattle.std.proofs.Common.{◌≡◌, ◌++◌, flat_map}
use Rattle.replica_history.specs.Shown.{effect_shown}
use Rattle.replica_history.proofs.effects.effects_of.Given as goal

abbrev pub invariant-loop-path : goal.invariant-loop-path
invariant-loop-path l =
    l.effects.items ++ flat_map (effect_shown l.directory l.texts l.deltas.entries) l.path-iterator
    ≡ flat_map (effect_shown l.directory l.texts l.deltas.entries) l.fn.standings.entries
