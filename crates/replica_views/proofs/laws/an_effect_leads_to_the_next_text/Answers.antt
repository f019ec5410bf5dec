use Rattle.replica_views.proofs.ViewLemmas.{effect_leads_at}
use Rattle.replica_views.proofs.laws.an_effect_leads_to_the_next_text.Goals as goal

pub returns : goal.returns
returns c = effect_leads_at
