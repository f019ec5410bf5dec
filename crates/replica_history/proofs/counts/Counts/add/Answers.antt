use Rattle.std.proofs.Common.{◌+◌, ℕ, sym, ap, ◌∙◌}
use Rattle.replica_history.specs.Counts.{CountsView, count_at}
use Rattle.replica_history.proofs.CountLemmas.{counted}
use Rattle.replica_history.proofs.counts.Counts.add.Goals as goal

pub returns : goal.returns
returns c =
    rw (← c.self.view_is)
    (counted c.self.inside.by_actor.entries c.insert.new.self.entries c.args.actor c.in-Some.count
    (c.in-Some.ensures.1
    ∙ ap (λ (n : ℕ). n + 1) (c.of.ensures ∙ sym (ap (λ (v : CountsView). count_at v c.args.actor) c.self.view_is)))
    c.in_ok-insert.ensures.updates.0)
