use Rattle.std.proofs.Common.{◌≡◌, not, reverse}
use Rattle.std.specs.List.{find}
use Rattle.std.specs.Option.{option_or}
use Rattle.replica_dir.specs.Ids.{has_id}
use Rattle.replica_dir.proofs.id_sets.last_outside.Given as goal

abbrev pub invariant-loop-id : goal.invariant-loop-id
invariant-loop-id l =
    option_or (find (λ id. not (has_id l.others.keys id)) (reverse l.id-iterator)) l.kept
    ≡ find (λ id. not (has_id l.others.keys id)) (reverse l.ids.keys)
