use Rattle.frame_world.proofs.RequestLemmas.{requests_are_read, changes_are_read}
use Rattle.frame_world.proofs.laws.requests_are_read.Goals as goal

pub returns-clause-requests : goal.returns-clause-requests
returns-clause-requests c = requests_are_read

pub returns-clause-changes : goal.returns-clause-changes
returns-clause-changes c = changes_are_read
