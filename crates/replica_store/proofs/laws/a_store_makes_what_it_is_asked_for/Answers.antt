use Rattle.replica_store.proofs.RecordLemmas.{store_makes, store_grown}
use Rattle.replica_store.proofs.laws.a_store_makes_what_it_is_asked_for.Goals as goal

pub returns : goal.returns
returns g c = record { made = store_makes; grown = store_grown }
