use Rattle.std.proofs.Common.{arith}
use Rattle.paged.proofs.SpliceLemmas.{replaced-page}
use Rattle.paged.proofs.replacing.put_items.Goals as goal

pub returns-then-len-most-clause-ok : goal.returns-then-len-most-clause-ok
returns-then-len-most-clause-ok g c =
    replaced-page g.T.PageItem.HALF c.args.from c.args.to c.args.pages.now.items c.replace_page.new.pages.items c.from_vec.result c.args.items.items
    (omega arith) c.from_vec.ensures c.requires.long (omega arith) c.replace_page.ensures.pages
