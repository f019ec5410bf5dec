use Rattle.std.proofs.Common.{ℕ, ◌<◌, ◌++◌, map, subst, ◌∙◌}
use Rattle.std.proofs.lemmas.Result.{IfOk-weaker}
use Rattle.replica_text.specs.Made.{made_ops}
use Rattle.replica_views.specs.Made.{written_op}
use Rattle.change_making.proofs.MadeLemmas.{above_all, changing_is}
use Rattle.change_making.proofs.making.changing.Goals as goal

pub push_delta-requires-clause-above : goal.push_delta-requires-clause-above
push_delta-requires-clause-above g c =
    above_all c.args.graph.now c.requires.grown c.args.object c.id_above-above.result c.args.text.now c.requires.text
    (subst (λ (n : ℕ). n < c.id_above-above.result.depth) c.count.ensures.count c.id_above-above.ensures.deep)

pub returns : goal.returns
returns g c =
    IfOk-weaker c.own_change.result _ _
    (λ change is path found.
    is
    ∙ changing_is c.args.graph.now c.args.actor path c.args.d.now c.args.object c.args.text.now c.id_above-above.result c.push_delta.new.ops.items found c.requires.text
    (c.in_ok-push_delta.ensures.ops
    ∙ (λ i. c.new-ops.ensures.items i ++ map (written_op (c.ref_to.ensures.is i)) (made_ops c.args.text.now c.args.d.now c.id_above-above.result))))
    c.own_change.ensures
