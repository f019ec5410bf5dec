use Rattle.editor_texts.proofs.MessageScalars.{message_says}
use Rattle.editor_texts.proofs.laws.messages_say_scalars.Goals as goal

pub returns : goal.returns
returns c = message_says
