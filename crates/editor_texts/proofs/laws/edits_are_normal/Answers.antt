use Rattle.editor_texts.proofs.EditLemmas.{edits_normal, carried_edit_normal}
use Rattle.editor_texts.proofs.laws.edits_are_normal.Goals as goal

pub returns-clause-edits : goal.returns-clause-edits
returns-clause-edits c = edits_normal

pub returns-clause-carried : goal.returns-clause-carried
returns-clause-carried c = carried_edit_normal
