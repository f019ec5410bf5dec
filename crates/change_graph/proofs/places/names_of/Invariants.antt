use Rattle.std.proofs.Common.{◌≡◌, ◌++◌, map}
use Rattle.change_graph.proofs.places.names_of.Given as goal

abbrev pub invariant-loop-place : goal.invariant-loop-place
invariant-loop-place l = l.names.items ++ map (λ place. place.name) l.place-iterator ≡ map (λ place. place.name) l.places.keys
