use Rattle.replica_store.proofs.RecordLemmas.{store_staged, store_noted, store_committed}
use Rattle.replica_store.proofs.laws.a_store_goes_on.Goals as goal

pub returns : goal.returns
returns g c = record { changes = store_staged; notes = store_noted; commits = store_committed }
