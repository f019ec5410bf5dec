use Rattle.replica_store.proofs.EncodedLemmas.{well_formed_fits}
use Rattle.replica_store.proofs.laws.well_formed_changes_have_encodings.Goals as goal

pub returns : goal.returns
returns c = well_formed_fits
