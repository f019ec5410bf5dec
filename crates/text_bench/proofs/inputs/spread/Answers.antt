use Rattle.std.proofs.Common.{ap, arith}
use Rattle.delta.specs.Cells.{base_length}
use Rattle.delta.proofs.NormalLemmas.{base_length-normal}
use Rattle.delta.proofs.BuilderLemmas.{base_length-keep, base_length-delete, base_length-insert}
use Rattle.text_bench.proofs.inputs.spread.Goals as goal

pub keep-requires : goal.keep-requires
keep-requires c = omega (arith, c.loop.invariant, c.min-kept.ensures, c.ranges.size)

pub delete-requires : goal.delete-requires
delete-requires c =
    omega (arith, c.loop.invariant, c.min-kept.ensures, c.min-deleted.ensures, c.ranges.size, base_length-keep c.loop.builder c.keep.new.self c.min-kept.result c.in_ok-keep.ensures.ok)

pub loop-preserved : goal.loop-preserved
loop-preserved c =
    omega (arith, c.loop.invariant, c.min-kept.ensures, c.min-deleted.ensures, base_length-keep c.loop.builder c.keep.new.self c.min-kept.result c.in_ok-keep.ensures.ok, base_length-delete c.keep.new.self c.delete.new.self c.min-deleted.result c.in_ok-delete.ensures.ok, base_length-insert c.delete.new.self c.insert.new.self c.in_ok-word.word c.in_ok-insert.ensures.ok)

pub keep-requires-2 : goal.keep-requires-2
keep-requires-2 c = omega (arith, c.loop.invariant, c.ranges.size)

pub returns : goal.returns
returns c =
    omega (arith, c.loop.invariant, base_length-keep c.loop.builder c.keep-2.new.self c.loop.left c.in_ok-keep-2.ensures.ok, ap base_length c.in_ok-delta.ensures, base_length-normal c.keep-2.new.self)
