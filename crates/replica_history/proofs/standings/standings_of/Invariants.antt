use Rattle.std.proofs.Common.{◌≡◌, ℕ, List, Some, None, cond, take}
use Rattle.replica_history.specs.Texts.{is_touched}
use Rattle.replica_history.specs.Standings.{standing_at, noted_at}
use Rattle.replica_history.proofs.standings.standings_of.Given as goal

abbrev pub invariant-loop-object : goal.invariant-loop-object
invariant-loop-object l = (path : List ℕ) → noted_at l.standings.entries path
    ≡ cond (is_touched l.texts (take l.object-index l.objects) path) (Some (standing_at l.texts l.directory path)) None
