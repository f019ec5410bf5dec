use Rattle.std.proofs.Common.{◌∙◌, ap, sym, subst, cond, refl, Option, Some, Bool, IsSome}
use Rattle.replica_history.specs.declared.texts.KeptText.{KeptText}
use Rattle.replica_history.specs.Texts.{TextsView, kept_at, kept_of}
use Rattle.replica_history.specs.Joins.{MayJoin}
use Rattle.replica_history.proofs.texts.Texts.join.Goals as goal

pub join-requires : goal.join-requires
join-requires c =
    subst (λ (o : Option KeptText). MayJoin o c.args.ops.now) (sym c.in-Some.ensures.value)
    (subst (λ (t : TextsView). MayJoin (kept_at t c.args.object.now) c.args.ops.now) (sym c.self.view_is) c.requires)

pub returns-clause-others : goal.returns-clause-others
returns-clause-others c =
    rw (← c.self.view_is)
    (λ q apart.
    ((c.get_mut.follows.holds (record { path = c.in-Some.kept.now.path; text = c.join.new.self })).3 (subst IsSome c.in-Some.ensures.value refl)).0 q
    ∙ ap (λ (b : Bool). cond b (Some (kept_of c.in-Some.kept.now.path c.join.new.self)) (kept_at c.self.inside.by_object.entries q)) apart)
