use Rattle.std.proofs.Common.{sym}
use Rattle.text_position.proofs.LawLemmas.{base_length-edits}
use Rattle.editor_client.proofs.clients.Client.show.Goals as goal

pub apply_at_once-requires : goal.apply_at_once-requires
apply_at_once-requires c = sym (base_length-edits c.self.inside.text c.args.edits.now c.in-Ok.delta c.in-Ok.ensures.gives)
