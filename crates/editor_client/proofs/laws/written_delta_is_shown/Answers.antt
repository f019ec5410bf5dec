use Rattle.editor_client.proofs.HearingLemmas.{written_is_shown}
use Rattle.editor_client.proofs.laws.written_delta_is_shown.Goals as goal

pub returns : goal.returns
returns c = written_is_shown
