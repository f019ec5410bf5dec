use Rattle.replica_store.proofs.RecordLemmas.{store_opened}
use Rattle.replica_store.proofs.laws.an_opened_store_is_one.Goals as goal

pub returns : goal.returns
returns g c = store_opened
