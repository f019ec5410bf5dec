use Rattle.std.proofs.Common.{rules}
use Rattle.paged.proofs.SpliceLemmas.{columns-splice}
use Rattle.paged.proofs.replacing.replace_pages.Goals as goal

pub returns-clause-columns : goal.returns-clause-columns
returns-clause-columns g c =
    columns-splice g.T.PageItem.marked c.args.pages.now.items c.args.run.items _ c.args.lengths.now.items c.in_ok-run_lengths.run_lengths.items _
    c.args.marks.now.items c.in_ok-run_marks.run_marks.items _ c.args.from c.args.to c.requires.columns (search rules) (search rules) (search rules) (search rules) (search rules)
