use Rattle.std.proofs.Common.{ap, ◌∙◌}
use Rattle.std.specs.Cmp.Lexicographic.{slice_cmp, nat_list_cmp_total}
use Rattle.std.specs.Ordering.{nat_cmp}
use Rattle.daemon_core.specs.Outcome.{Gone, own_links}
use Rattle.daemon_links.proofs.MapLemmas.{taken_out}
use Rattle.daemon_links.proofs.open_files.OpenFiles.close.Goals as goal

pub returns-clause-gone : goal.returns-clause-gone
returns-clause-gone c =
    c.remove.ensures.entries
    ∙ (taken_out (slice_cmp nat_cmp) nat_list_cmp_total c.args.path.now c.self.inside.links.entries c.len.ensures.ordered
    ∙ ap (own_links (Gone c.args.path.now)) c.self.view_is)
