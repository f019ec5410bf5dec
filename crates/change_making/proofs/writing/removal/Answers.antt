use Rattle.change_making.proofs.FitsLemmas.{remove_fits}
use Rattle.change_making.proofs.writing.removal.Goals as goal

pub returns-clause-fits : goal.returns-clause-fits
returns-clause-fits c = remove_fits c.args.object c.requires
