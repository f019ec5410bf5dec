-- The pieces of the split are the parts, and the closure is the test.
use Rattle.std.proofs.Common.{◌==◌, rules, tests}
use Rattle.std.proofs.lemmas.Iterator.Search.{any_from_yields_List}
use Rattle.std.proofs.lemmas.Iterator.Splits.{YieldsList-from_slice_split}
use Rattle.tt_base.specs.Path.{is_dot_part}
use Rattle.file_uri.proofs.plain.has_dot_part.Goals as goal

pub returns : goal.returns
returns c =
    let split = c.split.ensures in
    any_from_yields_List is_dot_part _ _ c.any.result c.any.ensures.ran
    (YieldsList-from_slice_split _ (λ b. b == 47) c.args.path.now split.rest split.done split.closure (λ x b q k. search (rules, tests))) (λ x b q k. search (rules, tests))
