use Rattle.std.proofs.Common.{ap, arith}
use Rattle.delta.specs.Cells.{base_length}
use Rattle.delta.proofs.WriterLemmas.{IsAlike-deletes, IsWriting-deletes, base_length-with_group}
use Rattle.delta.proofs.writers.Writer.delete.Goals as goal

pub overflow_add-result : goal.overflow_add-result
overflow_add-result c =
    let w = c.self.inside in
    omega (arith, c.requires, ap base_length c.self.view_is, base_length-with_group w.written.items w.kept w.text.items w.deleted)

pub invariant_of-result : goal.invariant_of-result
invariant_of-result c =
    let w = c.self.inside in
    IsWriting-deletes w.written.items w.kept w.text.items w.deleted w.length c.args.count c.self.invariant

pub returns : goal.returns
returns c =
    let w = c.self.inside in
    IsAlike-deletes w.written.items w.kept w.text.items w.deleted c.args.count c.args.self c.self.view_is
