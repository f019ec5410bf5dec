use Rattle.replica_store.proofs.RecordLemmas.{history-append, notes-append}
use Rattle.replica_store.proofs.laws.records_add_to_others.Goals as goal

pub returns : goal.returns
returns c = record { history = history-append; notes = notes-append }
