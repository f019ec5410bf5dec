use Rattle.std.proofs.Common.{drop, ap, sym, ◌∙◌, arith, rules}
use Rattle.delta.specs.Steps.{step_base}
use Rattle.delta.proofs.ApplyLemmas.{drop-inserted}
use Rattle.delta.proofs.application.change_step.Goals as goal

pub returns-in_ok-splice_text-in-Insert-clause-left :
    goal.returns-in_ok-splice_text-in-Insert-clause-left
returns-in_ok-splice_text-in-Insert-clause-left c =
    let old = c.args.text.now in
    drop-inserted old c.in-Insert.added c.splice_text.new.self c.args.place _ (omega (arith, c.requires)) c.in_ok-splice_text-in-Insert.ensures.ok (search rules)
    ∙ ap (λ s. drop (step_base s) (drop c.args.place old)) (sym c.in-Insert.is)
