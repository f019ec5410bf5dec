use Rattle.std.proofs.Common.{◌∙◌, ap, sym, length, Option}
use Rattle.replica_text.specs.Effect.{text_of}
use Rattle.replica_history.specs.declared.texts.KeptText.{KeptText}
use Rattle.replica_history.specs.Texts.{elements_in}
use Rattle.replica_history.proofs.KeptLemmas.{text_length}
use Rattle.replica_history.proofs.texts.Texts.object_length.Goals as goal

pub returns-in-Some : goal.returns-in-Some
returns-in-Some c =
    rw (← c.self.view_is)
    (c.alive.ensures ∙ sym (text_length c.in-Some.kept.now.text)
    ∙ ap (λ (o : Option KeptText). length (text_of (elements_in o))) c.in-Some.ensures.value)
