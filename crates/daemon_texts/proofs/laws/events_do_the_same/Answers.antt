use Rattle.daemon_texts.proofs.SameLemmas.{does_the_same}
use Rattle.daemon_texts.proofs.laws.events_do_the_same.Goals as goal

pub returns : goal.returns
returns c = does_the_same
