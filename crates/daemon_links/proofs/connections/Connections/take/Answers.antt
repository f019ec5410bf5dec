use Rattle.std.proofs.Common.{not, filter, ℕ, ap, ◌∙◌, List}
use Rattle.std.specs.Cmp.{nat_cmp_total}
use Rattle.std.specs.Ordering.{nat_cmp}
use Rattle.daemon_core.specs.State.{Links, is_number}
use Rattle.daemon_links.proofs.MapLemmas.{taken_out}
use Rattle.daemon_links.proofs.connections.Connections.take.Goals as goal

pub returns-clause-others : goal.returns-clause-others
returns-clause-others c =
    c.remove.ensures.entries
    ∙ (taken_out nat_cmp nat_cmp_total c.args.n c.self.inside.open.entries c.len.ensures.ordered
    ∙ ap (λ (cs : List (ℕ × Links)). filter (λ e. not (is_number c.args.n e.0)) cs) c.self.view_is)
