use Rattle.std.proofs.Common.{◌∙◌, ap, Option}
use Rattle.std.proofs.lemmas.Result.{IfOk-weaker}
use Rattle.replica_text.specs.Effect.{text_of}
use Rattle.replica_history.specs.declared.texts.KeptText.{KeptText}
use Rattle.replica_history.specs.Texts.{elements_in}
use Rattle.replica_history.proofs.texts.Texts.object_text.Goals as goal

pub returns-in-Some : goal.returns-in-Some
returns-in-Some c =
    rw (← c.self.view_is)
    (IfOk-weaker c.text.result _ _
    (λ text is. is ∙ ap (λ (o : Option KeptText). text_of (elements_in o)) c.in-Some.ensures.value)
    c.text.ensures)
