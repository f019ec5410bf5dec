use Rattle.text_position.proofs.LawLemmas.{edits_lead_in_turn}
use Rattle.text_position.proofs.laws.delta_leads_as_edits.Goals as goal

pub returns : goal.returns
returns c = edits_lead_in_turn
