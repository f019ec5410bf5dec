use Rattle.std.proofs.Common.{IsSome, refl, subst}
use Rattle.std.proofs.lemmas.Result.{IfOk-weaker}
use Rattle.replica_dir.proofs.MakeLemmas.{made_found, made_first, written_back, on_err}
use Rattle.replica_dir.proofs.directories.Directory.made.Goals as goal

pub returns-in-Some-clause-makes : goal.returns-in-Some-clause-makes
returns-in-Some-clause-makes c =
    rw (← c.self.view_is)
    (IfOk-weaker c.insert.result _ _
    (λ _ members.
    made_found _ _ c.args.path.now c.args.id _ _ c.in-Some.ensures.value
    ((c.get_mut.follows.holds c.insert.new.self).3 (subst IsSome c.in-Some.ensures.value refl)).0 members)
    c.insert.ensures.members)

pub returns-in-Some-clause-err : goal.returns-in-Some-clause-err
returns-in-Some-clause-err c =
    rw (← c.self.view_is)
    (on_err c.insert.result _ _
    (written_back _ _ c.self.inside.removes c.args.path.now _ c.insert.new.self c.in-Some.ensures.value (c.get_mut.follows.holds c.insert.new.self).0)
    c.insert.ensures.err)

pub returns-in_ok-insert-in-None-2-clause-makes : goal.returns-in_ok-insert-in-None-2-clause-makes
returns-in_ok-insert-in-None-2-clause-makes c =
    rw (← c.self.view_is)
    (made_first _ _ c.args.path.now _ c.args.id _ _ c.in-None.ensures.value c.in_ok-key-in-None.ensures c.empty-ids.ensures
    (rw (← c.get_mut.follows.holds-at-none) c.in_ok-insert-in-None-2.ensures.updates.0) c.in_ok-insert-in-None.ensures.members)
