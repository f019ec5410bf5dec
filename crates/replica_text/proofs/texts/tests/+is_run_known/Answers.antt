use Rattle.std.proofs.Common.{◌≡◌, ℕ, ◌-◌, Bool, sym, ◌∙◌, subst, rules, arith, add-one}
use Rattle.tt_base.specs.declared.ids.ElemId.{ElemId}
use Rattle.replica_text.specs.Ids.{is_known}
use Rattle.replica_text.specs.Ops.{IsRunKnown}
use Rattle.replica_text.proofs.TestLemmas.{run_known_more}
use Rattle.replica_text.proofs.texts.tests.+is_run_known.Goals as goal

pub returns-then-count-eq0 : goal.returns-then-count-eq0
returns-then-count-eq0 g t c =
    let known : ElemId → Bool = is_known (g.E.Elements.elements c.args.elements.now) in
    λ h. subst (λ (n : ℕ). IsRunKnown c.args.answer c.args.first.now n known) (sym c.if-count-eq0.true) tt

pub returns : goal.returns
returns g t c =
    let known : ElemId → Bool = is_known (g.E.Elements.elements c.args.elements.now) in
    let first : ElemId = c.args.first.now in
    let has : c.has.result ≡ c.args.answer = search rules in
    let same : known first ≡ c.args.answer = sym c.has.ensures ∙ has in
    λ h. run_known_more c.args.answer first c.args.count known (omega arith) same
    (subst (λ (i : ℕ). IsRunKnown c.args.answer (record first { index = i }) (c.args.count - 1) known) (add-one first.index) (c.is_run_known.ensures h))
