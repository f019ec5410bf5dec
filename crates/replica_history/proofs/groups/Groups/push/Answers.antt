use Rattle.std.proofs.Common.{IsSome, ◌∙◌, ap, refl, subst, List, [], ◌∷◌, ◌++◌, Option}
use Rattle.std.specs.Option.{unwrap_or}
use Rattle.std.proofs.lemmas.Result.{on_ok_weaker}
use Rattle.tt_base.specs.declared.text_ops.TextOp.{TextOp}
use Rattle.replica_history.proofs.GroupLemmas.{pushed}
use Rattle.replica_history.proofs.groups.Groups.push.Goals as goal

pub returns-in-Some : goal.returns-in-Some
returns-in-Some c =
    rw (← c.self.view_is)
    (on_ok_weaker c.push.result
    (λ is.
    pushed c.self.inside.by_object.entries _ c.args.object c.args.op _
    (is ∙ ap (λ (o : Option (List TextOp)). unwrap_or o [] ++ c.args.op ∷ []) c.in-Some.ensures.value)
    ((c.get_mut.follows.holds c.push.new.self).3 (subst IsSome c.in-Some.ensures.value refl)).0)
    c.push.ensures.ok)

pub returns-in_ok-insert-in-None : goal.returns-in_ok-insert-in-None
returns-in_ok-insert-in-None c =
    rw (← c.self.view_is)
    (pushed c.self.inside.by_object.entries c.insert.new.self.entries c.args.object c.args.op c.from_vec.result
    (c.from_vec.ensures
    ∙ c.in_ok-push-in-None.ensures.items
    ∙ ap (λ (xs : List TextOp). xs ++ c.args.op ∷ []) c.new-ops.ensures.items
    ∙ ap (λ (o : Option (List TextOp)). unwrap_or o [] ++ c.args.op ∷ []) c.in-None.ensures.value)
    (rw (← c.get_mut.follows.holds-at-none) c.in_ok-insert-in-None.ensures.updates.0))
