use Rattle.std.proofs.Common.{◌∙◌, ap, cond, Some}
use Rattle.replica_dir.specs.Ids.{is_id}
use Rattle.replica_history.specs.declared.texts.KeptText.{KeptText}
use Rattle.replica_history.specs.Texts.{kept_at}
use Rattle.replica_history.proofs.texts.Texts.begin.Goals as goal

pub returns : goal.returns
returns c =
    rw (← c.self.view_is)
    (λ q.
    c.in_ok-insert.ensures.updates.0 q
    ∙ ap (λ (k : KeptText). cond (is_id c.args.made.now.object q) (Some k) (kept_at c.self.inside.by_object.entries q))
    (λ i. record { path = c.in_ok-copied.ensures i; text = c.in_ok-new.ensures i }))
