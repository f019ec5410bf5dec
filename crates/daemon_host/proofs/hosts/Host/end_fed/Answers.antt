use Rattle.std.proofs.Common.{◌∙◌}
use Rattle.std.specs.Cmp.{nat_cmp_total}
use Rattle.std.specs.Ordering.{nat_cmp}
use Rattle.daemon_links.proofs.MapLemmas.{taken_out}
use Rattle.daemon_host.proofs.HostLemmas.{without_raw_is}
use Rattle.daemon_host.proofs.hosts.Host.end_fed.Goals as goal

pub returns : goal.returns
returns c =
    without_raw_is c.args.c c.self.inside.daemon c.self.inside.streams.entries c.args.self.now c.end.new.self c.remove.new.self.entries c.self.view_is c.end.ensures
    (c.remove.ensures.entries ∙ taken_out nat_cmp nat_cmp_total c.args.c c.self.inside.streams.entries c.len.ensures.ordered)
