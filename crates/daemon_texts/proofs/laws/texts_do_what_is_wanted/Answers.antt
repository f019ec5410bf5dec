use Rattle.daemon_texts.proofs.WantedLemmas.{as_wanted}
use Rattle.daemon_texts.proofs.laws.texts_do_what_is_wanted.Goals as goal

pub returns : goal.returns
returns c = as_wanted
