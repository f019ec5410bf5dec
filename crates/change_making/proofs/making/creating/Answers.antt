use Rattle.std.proofs.Common.{List, [], ◌∷◌, ◌++◌, map, ap, ◌∙◌, lit<}
use Rattle.std.proofs.lemmas.Result.{IfOk-weaker}
use Rattle.change_codec.specs.declared.ops.Op.{Op}
use Rattle.change_codec.specs.declared.ops.Ref.TheVariants.{Here}
use Rattle.replica_text.specs.Made.{made_ops}
use Rattle.replica_views.specs.Made.{written_op}
use Rattle.change_making.proofs.FitsLemmas.{here_fits}
use Rattle.change_making.proofs.MadeLemmas.{creating_is}
use Rattle.change_making.proofs.making.creating.Goals as goal

pub push_delta-requires-clause-object : goal.push_delta-requires-clause-object
push_delta-requires-clause-object c = here_fits 0 (lit< tt)

pub returns : goal.returns
returns c =
    IfOk-weaker c.own_change.result _ _
    (λ change is.
    is
    ∙ creating_is c.args.graph.now c.args.actor c.args.path.now c.args.d.now c.in_ok-text.text c.id_above-above.result c.push_delta.new.ops.items c.requires.absent
    c.in_ok-text.ensures
    (c.in_ok-push_delta.ensures.ops
    ∙ ap (λ (os : List Op). os ++ map (written_op (Here 0)) (made_ops c.in_ok-text.text c.args.d.now c.id_above-above.result))
    (c.in_ok-push.ensures.items ∙ (λ i. c.new-ops.ensures.items i ++ c.in_ok-new_object.ensures.is i ∷ []))))
    c.own_change.ensures
