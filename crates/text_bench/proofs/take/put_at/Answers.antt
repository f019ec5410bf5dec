-- What is kept and deleted is the base, which is the length.
use Rattle.std.proofs.Common.{ap, arith}
use Rattle.delta.specs.Cells.{base_length}
use Rattle.delta.proofs.BuilderLemmas.{base_length-keep, base_length-delete, base_length-insert}
use Rattle.text_bench.proofs.take.put_at.Goals as goal

pub delete-requires : goal.delete-requires
delete-requires c =
    omega (arith, c.ranges.length, c.min-place.ensures, c.min-deleted.ensures, ap base_length c.in_ok-builder.ensures, base_length-keep c.in_ok-builder.builder c.keep.new.self c.min-place.result c.in_ok-keep.ensures.ok)

pub keep-requires-2 : goal.keep-requires-2
keep-requires-2 c =
    omega (arith, c.ranges.length, c.min-place.ensures, c.min-deleted.ensures, ap base_length c.in_ok-builder.ensures, base_length-keep c.in_ok-builder.builder c.keep.new.self c.min-place.result c.in_ok-keep.ensures.ok, base_length-delete c.keep.new.self c.delete.new.self c.min-deleted.result c.in_ok-delete.ensures.ok, base_length-insert c.delete.new.self c.insert.new.self c.in_ok-from_str.field-0 c.in_ok-insert.ensures.ok)
