use Rattle.std.proofs.Common.{rules}
use Rattle.paged.proofs.SpliceLemmas.{set-splice, columns-set}
use Rattle.paged.proofs.replacing.replace_page.Goals as goal

pub returns-clause-pages : goal.returns-clause-pages
returns-clause-pages g c = set-splice c.args.pages.now.items c.args.index c.args.page c.requires.within

pub returns-clause-columns : goal.returns-clause-columns
returns-clause-columns g c =
    columns-set g.T.PageItem.marked c.args.pages.now.items c.args.lengths.now.items c.args.marks.now.items c.args.index _ _ c.args.page c.requires.columns (search rules) (search rules)
