use Rattle.std.proofs.Common.{◌≡◌, List, subst, sym, ap, ◌∙◌, arith, rules}
use Rattle.delta.specs.Cells.{Cells, IsNormal}
use Rattle.delta.proofs.StepsLemmas.{IsNormal-cells_of}
use Rattle.tt_base.specs.Elements.{AreDistinct}
use Rattle.tt_base.specs.declared.text_ops.TextOp.{TextOp}
use Rattle.replica_text.specs.Ids.{is_known}
use Rattle.replica_text.specs.Tree.{walk}
use Rattle.replica_text.specs.Ops.{after_ops, AllMayFollow}
use Rattle.replica_text.specs.Made.{made_ops}
use Rattle.replica_text.specs.Making.{DeletionsFit}
use Rattle.replica_text.proofs.MadeMay.{made_may}
use Rattle.replica_text.proofs.MadeEffects.{made_effect}
use Rattle.replica_text.proofs.texts.ReplicaText.ops_of.Goals as goal

pub returns-clause-may_follow : goal.returns-clause-may_follow
returns-clause-may_follow g c =
    let is : c.from_vec.result ≡ made_ops c.args.self.now c.args.delta.now c.args.next = search rules in
    subst (λ (ops : List TextOp). AllMayFollow ops (is_known c.args.self.now)) (sym is)
    (made_may c.args.self.now c.args.delta.now c.args.next c.requires.above (omega (arith, c.requires.fits))
    (subst DeletionsFit is (subst DeletionsFit (sym c.from_vec.ensures) c.in_ok-ops.ensures.fit)))

pub returns-clause-answers : goal.returns-clause-answers
returns-clause-answers g c =
    let is : c.from_vec.result ≡ made_ops c.args.self.now c.args.delta.now c.args.next = search rules in
    let distinct : AreDistinct c.args.self.now = subst AreDistinct c.self.view_is (g.met.E.Elements.distinct c.self.inside.elements) in
    let normal : IsNormal c.args.delta.now = subst (λ (d : Cells). IsNormal d) c.steps.ensures.cells (IsNormal-cells_of c.steps.result.now c.steps.ensures.canonical) in
    λ new order.
    made_effect c.args.self.now new c.args.delta.now c.args.next distinct normal c.requires.base c.requires.above
    (λ tree t w. ap (λ (ops : List TextOp). walk (after_ops ops tree)) (sym is) ∙ order tree t w)
