use Rattle.std.proofs.Common.{◌≡◌, ◌∷◌, Err, Result, ◌⊎◌, rules, sym, ap, ◌∙◌, subst}
use Rattle.tt_base.specs.Answers.{Gives}
use Rattle.delta.specs.Cells.{Cells}
use Rattle.text_position.specs.Edits.{delta_of_edits}
use Rattle.text_position.specs.declared.faults.EditsFault.{EditsFault}
use Rattle.text_position.specs.declared.faults.EditsFault.TheVariants.{Memory}
use Rattle.text_position.proofs.LawLemmas.{first_edit, first_gives_refusal}
use Rattle.text_position.proofs.edit_lists.from_edits.Goals as goal

pub returns-in_err-delta-2-clause-gives : goal.returns-in_err-delta-2-clause-gives
returns-in_err-delta-2-clause-gives c =
    let fault = c.in_err-delta-2.field-0.0 in
    let cut : c.args.edits.now ≡ c.in-Some.first.now ∷ c.in-Some.rest.now = c.in-Some.ensures.cases.0 in
    let refused : (delta_of_edits c.args.text.now c.args.edits.now ≡ Err fault) ⊎ (fault ≡ Memory) =
    first_gives_refusal c.args.text.now c.args.edits.now c.in-Some.first.now c.in-Some.rest.now fault cut c.in_err-delta-2.ensures.gives in
    search rules

pub returns-clause-gives : goal.returns-clause-gives
returns-clause-gives c =
    let text = c.args.text.now in
    let first = c.in-Some.first.now in
    let rest = c.in-Some.rest.now in
    let cut : c.args.edits.now ≡ first ∷ rest = c.in-Some.ensures.cases.0 in
    let P : Result Cells EditsFault → Type 0 = λ expected. Gives Memory c.then_edits.result expected in
    subst P (first_edit text first rest c.in_ok-delta-2.delta c.in_ok-delta-2.ensures.gives ∙ ap (delta_of_edits text) (sym cut)) c.then_edits.ensures
