use Rattle.change_making.proofs.FitsLemmas.{delete_fits, count_fits}
use Rattle.change_making.proofs.writing.deletion.Goals as goal

pub returns-clause-fits : goal.returns-clause-fits
returns-clause-fits c =
    delete_fits c.args.object c.args.first c.args.count c.requires.object c.requires.first (count_fits c.args.count c.requires.some c.ranges.count.fits)
