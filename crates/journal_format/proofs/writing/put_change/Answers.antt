use Rattle.std.proofs.Common.{length, ap, arith}
use Rattle.journal_format.proofs.Fits.{change_fits}
use Rattle.journal_format.proofs.writing.put_change.Goals as goal

pub returns-clause-fits : goal.returns-clause-fits
returns-clause-fits c = change_fits c.args.encoding.now c.requires (omega (arith, c.as_slice.type_inv.0, ap length c.as_slice.ensures))
