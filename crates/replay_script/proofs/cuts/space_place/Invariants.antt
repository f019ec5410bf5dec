use Rattle.std.proofs.Common.{◌≡◌, ◌+◌, drop}
use Rattle.std.specs.Prelude.{option_map}
use Rattle.replay_script.specs.Cut.{space_place}
use Rattle.replay_script.specs.declared.cuts.Quoting.TheVariants.{Outside}
use Rattle.replay_script.proofs.cuts.space_place.Given as goal

-- the space is where the search finds it in the rest
abbrev pub invariant-loop-place : goal.invariant-loop-place
invariant-loop-place l = space_place Outside l.text ≡ option_map (λ place. l.place + place) (space_place l.quoting (drop l.place l.text))
