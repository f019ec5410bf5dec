use Rattle.std.proofs.Common.{length, ap, ◌∙◌}
use Rattle.daemon_links.proofs.LinkLemmas.{replacement_fits}
use Rattle.daemon_links.proofs.link_edits.lead.Goals as goal

pub push-requires-clause-fits : goal.push-requires-clause-fits
push-requires-clause-fits c =
    replacement_fits c.args.view.now c.len.result c.in_ok-d.d c.args.link.now c.in_ok-d.ensures
    (c.len.ensures ∙ ap length c.confirmed_text-then-ne.ensures.base) c.requires
