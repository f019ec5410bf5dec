use Rattle.change_making.proofs.FitsLemmas.{name_fits, there_fits}
use Rattle.change_making.proofs.writing.place_in.Goals as goal

pub returns-clause-fits : goal.returns-clause-fits
returns-clause-fits c =
    there_fits c.args.name c.args.index (name_fits c.args.name c.name_length-length.ensures.long c.name_length-length.ensures.bytes) c.ranges.index.fits
