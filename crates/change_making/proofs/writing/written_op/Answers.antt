use Rattle.std.proofs.Common.{ap, subst, sym, ◌∙◌}
use Rattle.change_codec.specs.Encoding.{op_field, parent_field}
use Rattle.change_codec.specs.declared.ops.Op.TheVariants.{Delete}
use Rattle.replica_views.specs.Made.{written_op}
use Rattle.change_making.specs.Writing.{CanBeWritten}
use Rattle.change_making.proofs.FitsLemmas.{insert_fits}
use Rattle.change_making.proofs.writing.written_op.Goals as goal

pub returns-in_ok-copied_text-in-Insert-clause-fits : goal.returns-in_ok-copied_text-in-Insert-clause-fits
returns-in_ok-copied_text-in-Insert-clause-fits c =
    subst (λ op. op_field.Fits (written_op c.args.object op)) (sym c.in-Insert.is)
    (insert_fits c.args.object _ c.in-Insert.text c.requires.object (subst parent_field.Fits c.parent_to.ensures.is c.parent_to.ensures.fits)
    (c.in_ok-copied_text-in-Insert.ensures.fits (subst CanBeWritten c.in-Insert.is c.requires.some)))

pub returns-in-Delete-clause-fits : goal.returns-in-Delete-clause-fits
returns-in-Delete-clause-fits c =
    subst (λ op. op_field.Fits (written_op c.args.object op)) (sym c.in-Delete.is)
    (subst op_field.Fits (c.deletion.ensures.is ∙ ap (λ r. Delete c.args.object r c.in-Delete.count) c.ref_to.ensures.is) c.deletion.ensures.fits)
