use Rattle.std.proofs.Common.{ℕ, List, drop, sym, ◌∙◌, subst, add-one}
use Rattle.tt_base.specs.declared.elements.Element.{Element}
use Rattle.replica_text.specs.Made.{IsAbove}
use Rattle.replica_text.proofs.OrderLemmas.{less_is}
use Rattle.replica_text.proofs.TestLemmas.{above_more, above_none}
use Rattle.replica_text.proofs.texts.tests.+is_above.Goals as goal

pub returns-then-place-len : goal.returns-then-place-len
returns-then-place-len g t c =
    λ h. above_none c.args.id.now (g.E.Elements.elements c.args.elements.now) c.args.place (c.if-place-len.true ∙ c.len.ensures)

pub returns-then-is_before : goal.returns-then-is_before
returns-then-is_before g t c =
    let all : List Element = g.E.Elements.elements c.args.elements.now in
    λ h. above_more c.args.id.now all c.args.place c.at.result c.at.ensures
    (less_is c.at.result.id c.args.id.now ∙ sym c.is_before.ensures ∙ c.if-is_before.true)
    (subst (λ (n : ℕ). IsAbove c.args.id.now (drop n all)) (add-one c.args.place) (c.is_above.ensures h))
