use Rattle.text_position.proofs.LawLemmas.{delta_of_one_edit}
use Rattle.editor_client.proofs.laws.sent_edit_is_the_change.Goals as goal

pub returns : goal.returns
returns c = delta_of_one_edit
