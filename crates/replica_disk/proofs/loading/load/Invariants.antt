use Rattle.replica_disk.specs.Loading.{IsLoaded}
use Rattle.replica_disk.proofs.loading.load.Given as goal

abbrev pub invariant-loop-place : goal.invariant-loop-place
invariant-loop-place l = IsLoaded l.records l.place l.loaded
