use Rattle.editor_texts.proofs.ComposedScalars.{edits_scalars}
use Rattle.editor_texts.proofs.DeltaScalars.{carried_edit_scalars}
use Rattle.editor_texts.proofs.laws.edits_insert_scalars.Goals as goal

pub returns-clause-edits : goal.returns-clause-edits
returns-clause-edits c = edits_scalars

pub returns-clause-carried : goal.returns-clause-carried
returns-clause-carried c = carried_edit_scalars
