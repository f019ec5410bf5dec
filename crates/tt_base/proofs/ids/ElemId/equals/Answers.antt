use Rattle.std.proofs.Common.{◌↔◌, ◌≡◌, ap, sym, ◌∙◌, subst, Bool}
use Rattle.std.specs.Prelude.{IsTrue}
use Rattle.std.specs.Ordering.{is_eq}
use Rattle.tt_base.specs.Ids.{id_cmp}
use Rattle.tt_base.proofs.IdOrders.{id_decided}
use Rattle.tt_base.proofs.ids.ElemId.equals.Goals as goal

pub returns : goal.returns
returns c =
    let is : c.is_eq.result ≡ is_eq (id_cmp c.args.self.now c.args.other.now) = c.is_eq.ensures ∙ ap is_eq c.cmp.ensures in
    subst (λ (b : Bool). IsTrue b ↔ (c.args.self.now ≡ c.args.other.now)) (sym is) (id_decided c.args.self.now c.args.other.now)
