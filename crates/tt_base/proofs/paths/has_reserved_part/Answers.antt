-- The pieces of the split are the parts, and the closure is the test.
use Rattle.std.proofs.Common.{rules, tests, lit<}
use Rattle.std.proofs.lemmas.Iterator.Search.{any_from_yields_List}
use Rattle.std.proofs.lemmas.Iterator.Splits.{YieldsList-from_str_split}
use Rattle.tt_base.specs.Path.{is_reserved_part}
use Rattle.tt_base.proofs.paths.has_reserved_part.Goals as goal

pub returns : goal.returns
returns c =
    let split = c.split.ensures in
    any_from_yields_List is_reserved_part _ _ c.any.result c.any.ensures.ran (YieldsList-from_str_split 47 c.args.text.now (lit< tt) split.text split.has_more split.pattern)
    (λ x b q k. search (rules, tests))
