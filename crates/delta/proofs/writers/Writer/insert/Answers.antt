use Rattle.std.proofs.Common.{◌+◌, ap, ◌∙◌}
use Rattle.delta.proofs.WriterLemmas.{IsAlike-inserts, IsWriting-inserts}
use Rattle.delta.proofs.writers.Writer.insert.Goals as goal

pub invariant_of-result : goal.invariant_of-result
invariant_of-result c =
    let w = c.self.inside in
    IsWriting-inserts w.written.items w.kept w.text.items c.args.added.now c.append_to.new.chars.items w.deleted w.length c.in_ok-length.length
    c.in_ok-append_to.ensures.ok c.self.invariant (c.in_ok-length.ensures.sum ∙ ap (λ n. w.length + n) c.len.ensures)
    c.in_ok-length.ensures.fits

pub returns : goal.returns
returns c =
    let w = c.self.inside in
    IsAlike-inserts w.written.items w.kept w.text.items c.args.added.now c.append_to.new.chars.items w.deleted c.args.self
    c.in_ok-append_to.ensures.ok c.self.view_is
