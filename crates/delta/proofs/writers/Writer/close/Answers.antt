use Rattle.std.proofs.Common.{◌∙◌, arith}
use Rattle.delta.proofs.WriterLemmas.{IsWritten-from_writing}
use Rattle.delta.proofs.writers.Writer.close.Goals as goal

pub returns-clause-written : goal.returns-clause-written
returns-clause-written c =
    let w = c.self.inside in
    IsWritten-from_writing w.written.items c.from_vec.result w.kept w.text.items w.deleted w.length c.args.base c.args.self c.self.invariant
    (c.from_vec.ensures ∙ c.in_ok-write_group.ensures) c.self.view_is c.requires (omega (arith, c.ranges.base))
