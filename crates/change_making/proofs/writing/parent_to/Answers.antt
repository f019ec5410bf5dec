use Rattle.change_making.proofs.FitsLemmas.{root_fits, after_fits}
use Rattle.change_making.proofs.writing.parent_to.Goals as goal

pub returns-in-None-clause-fits : goal.returns-in-None-clause-fits
returns-in-None-clause-fits c = root_fits

pub returns-in-Some-clause-fits : goal.returns-in-Some-clause-fits
returns-in-Some-clause-fits c = after_fits c.ref_to.result c.ref_to.ensures.fits
