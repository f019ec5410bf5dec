use Rattle.std.proofs.Common.{◌∙◌, ap, ◌++◌, List, map}
use Rattle.std.proofs.lemmas.Result.{IfOk-weaker}
use Rattle.change_codec.specs.declared.ops.Op.{Op}
use Rattle.replica_views.specs.Made.{removal}
use Rattle.change_making.proofs.MadeLemmas.{removing_is}
use Rattle.change_making.proofs.making.removing.Goals as goal

pub returns : goal.returns
returns c =
    IfOk-weaker c.own_change.result _ _
    (λ change is path live.
    is
    ∙ removing_is c.args.graph.now c.args.actor path c.args.objects.now c.push_removals.new.ops.items
    (c.in_ok-push_removals.ensures.ops ∙ ap (λ (os : List Op). os ++ map removal c.args.objects.now) c.new-ops.ensures.items) live)
    c.own_change.ensures
