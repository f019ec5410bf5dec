use Rattle.daemon_events.proofs.RefusalLemmas.{refusals_end_links_so}
use Rattle.daemon_events.proofs.laws.refusals_end_links_so.Goals as goal

pub returns : goal.returns
returns c = refusals_end_links_so
