use Rattle.std.proofs.Common.{[], ◌∷◌, subst, sym}
use Rattle.tt_base.specs.declared.text_ops.TextOp.TheVariants.{Insert}
use Rattle.replica_text.specs.Making.{DeletionsFit}
use Rattle.replica_text.proofs.MadeLemmas.{fit-append}
use Rattle.replica_text.proofs.making.push_step.Goals as goal

pub returns-in_ok-push-in-Insert-clause-fit : goal.returns-in_ok-push-in-Insert-clause-fit
returns-in_ok-push-in-Insert-clause-fit g c =
    λ h. subst DeletionsFit (sym c.in_ok-push-in-Insert.ensures.items)
    (fit-append c.args.ops.now.items (Insert c.args.at.next c.left_of.result c.in_ok-copied-in-Insert.field-0 ∷ []) h tt)
