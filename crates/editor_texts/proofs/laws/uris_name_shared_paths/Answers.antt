use Rattle.editor_texts.proofs.EditLemmas.{path_named}
use Rattle.editor_texts.proofs.laws.uris_name_shared_paths.Goals as goal

pub returns : goal.returns
returns c = path_named
