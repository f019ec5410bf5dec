use Rattle.std.proofs.Common.{◌≡◌, refl, sym, subst}
use Rattle.std.proofs.lemmas.Result.{on_ok_weaker}
use Rattle.delta.specs.Cells.{Cells, base_length, joined, nothing}
use Rattle.delta.specs.Steps.{cells_of}
use Rattle.delta.specs.declared.steps.DeltaStep.TheVariants.{Insert}
use Rattle.transform.specs.Carried.{daemon_text}
use Rattle.transform.specs.Walk.{PassesStep}
use Rattle.transform.proofs.WalkLemmas.{step_text, step_text_fits}
use Rattle.transform.proofs.transforms.pass_step.Goals as goal

pub pass_daemon_text-requires : goal.pass_daemon_text-requires
pass_daemon_text-requires c =
    step_text_fits c.args.side c.args.step.now c.in-Insert.text c.in-Insert.text (base_length c.args.built.now) (cells_of c.args.editor.now) c.in-Insert.is refl c.requires.fits

pub returns-in-Insert : goal.returns-in-Insert
returns-in-Insert c =
    let a : Cells = cells_of c.args.editor.now in
    let s = c.args.side in
    let text = c.in-Insert.text in
    let b = c.args.built.now in
    on_ok_weaker c.pass_daemon_text.result (λ (built : c.pass_daemon_text.new.built ≡ joined b (daemon_text s text nothing)).
    subst (λ r. PassesStep s r b c.pass_daemon_text.new.built a a) (sym c.in-Insert.is)
    (subst (λ e. PassesStep s (Insert text) b e a a) (sym built) (step_text s text b a))) c.pass_daemon_text.ensures
