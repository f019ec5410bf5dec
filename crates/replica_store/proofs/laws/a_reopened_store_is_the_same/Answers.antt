use Rattle.replica_store.proofs.RecordLemmas.{reopened_history, reopened_notes}
use Rattle.replica_store.proofs.laws.a_reopened_store_is_the_same.Goals as goal

pub returns : goal.returns
returns g c = record { history = reopened_history; notes = reopened_notes }
