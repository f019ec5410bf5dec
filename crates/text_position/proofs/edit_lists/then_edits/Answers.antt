use Rattle.std.proofs.Common.{◌≡◌, ◌+◌, Ok, Err, List, ℕ, ◌⊎◌, length, rules, sym, ap, ◌∙◌, subst}
use Rattle.delta.specs.Marks.{composed}
use Rattle.delta.proofs.LawLemmas.{length-applied}
use Rattle.tt_base.specs.Answers.{and_then}
use Rattle.text_position.specs.Edits.{with_edits, delta_of_edit}
use Rattle.text_position.specs.declared.faults.EditsFault.TheVariants.{Memory}
use Rattle.text_position.proofs.EditLemmas.{with_edits-next, with_edits-refused}
use Rattle.text_position.proofs.edit_lists.then_edits.Goals as goal

pub then_edit-requires : goal.then_edit-requires
then_edit-requires c =
    let l = c.loop-index in ap length l.invariant.reached ∙ length-applied l.delta c.args.text.now (sym l.invariant.base)

pub loop-index-preserved : goal.loop-index-preserved
loop-index-preserved c =
    let l = c.loop-index in
    let edit = c.index-edits-index.result in
    let done = c.in_ok-delta.ensures in record {
      gives =
          with_edits-next (l.index + 1) l.index c.args.text.now l.delta c.in_ok-delta.delta c.args.edits.now edit _ c.loop-index-test.true c.index-edits-index.is
          (ap (λ t. and_then (delta_of_edit (l.index + 1) t edit) (λ d. Ok (composed l.delta d))) (sym l.invariant.reached) ∙ done.gives) l.invariant.gives;
      base = l.invariant.base ∙ sym done.base;
      reached = done.reached c.args.text.now l.invariant.base l.invariant.reached;
    }

pub returns-in_err-delta : goal.returns-in_err-delta
returns-in_err-delta c =
    let l = c.loop-index in
    let edit = c.index-edits-index.result in
    let fault = c.in_err-delta.field-0.0 in
    let Refused : List ℕ → Type 0 = λ t. (and_then (delta_of_edit (l.index + 1) t edit) (λ d. Ok (composed l.delta d)) ≡ Err fault) ⊎ (fault ≡ Memory) in
    let refused : (with_edits 1 c.args.text.now c.args.so_far c.args.edits.now ≡ Err fault) ⊎ (fault ≡ Memory) =
    with_edits-refused (l.index + 1) l.index c.args.text.now l.delta c.args.edits.now edit _ fault c.loop-index-test.true c.index-edits-index.is
    (subst Refused l.invariant.reached c.in_err-delta.ensures.gives) l.invariant.gives in
    search rules
