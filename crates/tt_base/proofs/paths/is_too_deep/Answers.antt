-- The pieces of the split are the parts, and the chain counts them.
use Rattle.std.proofs.Common.{ap, lit<, nat_lt}
use Rattle.std.proofs.lemmas.Iterator.Consumers.{count_from_yields_List}
use Rattle.std.proofs.lemmas.Iterator.Splits.{YieldsList-from_str_split}
use Rattle.tt_base.proofs.paths.is_too_deep.Goals as goal

pub returns : goal.returns
returns c =
    let split = c.split.ensures in
    ap (nat_lt 32) (count_from_yields_List _ c.count.result c.count.ensures.ran (YieldsList-from_str_split 47 c.args.text.now (lit< tt) split.text split.has_more split.pattern))
