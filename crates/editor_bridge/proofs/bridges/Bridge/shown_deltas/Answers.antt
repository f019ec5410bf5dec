use Rattle.std.proofs.Common.{◌≡◌, ℕ, ◌<◌, ◌≤◌, List, length, take, subst, sym, ap, ◌∙◌, arith, IfOk}
use Rattle.std.proofs.lemmas.Result.{IfOk-weaker}
use Rattle.std.proofs.lemmas.List.{length-take-le}
use Rattle.delta.specs.Cells.{Cells, base_length}
use Rattle.transform.specs.Carried.{IsChain}
use Rattle.transform.proofs.ChainLemmas.{IsChain-take}
use Rattle.editor_bridge.specs.Link.{Link}
use Rattle.editor_bridge.specs.Carrying.{StandsFor}
use Rattle.editor_bridge.proofs.ChangeLemmas.{AreInTurn-chain, one_base}
use Rattle.editor_bridge.proofs.bridges.Bridge.shown_deltas.Goals as goal

pub compose_all-requires : goal.compose_all-requires
compose_all-requires c =
    let queue : List Cells = c.as_slice.result.now in
    let base : ℕ = length c.self.inside.base in
    let chain : IsChain base queue = subst (IsChain base) (sym c.as_slice.ensures) c.self.invariant.chain in
    let same : queue ≡ c.args.self.now.unconfirmed = c.as_slice.ensures ∙ ap (λ (l : Link). l.unconfirmed) c.self.view_is in
    let within : c.args.shown ≤ length queue = subst (λ q. c.args.shown ≤ length q) (sym same) c.requires.within in
    record {
      some = omega (arith, length-take-le c.args.shown queue within, c.requires.some);
      in_turn = AreInTurn-chain base (take c.args.shown queue) (IsChain-take c.args.shown base queue chain);
    }

pub returns-clause-shown : goal.returns-clause-shown
returns-clause-shown c =
    subst (λ queue. IfOk c.compose_all.result (StandsFor (take c.args.shown queue))) (c.as_slice.ensures ∙ ap (λ (l : Link). l.unconfirmed) c.self.view_is)
    c.compose_all.ensures

pub returns-clause-base : goal.returns-clause-base
returns-clause-base c =
    let queue : List Cells = c.as_slice.result.now in
    let base : ℕ = length c.self.inside.base in
    let chain : IsChain base queue = subst (IsChain base) (sym c.as_slice.ensures) c.self.invariant.chain in
    let same : queue ≡ c.args.self.now.unconfirmed = c.as_slice.ensures ∙ ap (λ (l : Link). l.unconfirmed) c.self.view_is in
    let within : c.args.shown ≤ length queue = subst (λ q. c.args.shown ≤ length q) (sym same) c.requires.within in
    let some : 0 < length (take c.args.shown queue) = omega (arith, length-take-le c.args.shown queue within, c.requires.some) in
    IfOk-weaker c.compose_all.result (StandsFor (take c.args.shown queue)) (λ all. base_length all ≡ length c.args.self.now.base)
    (λ (all : Cells) h. one_base (take c.args.shown queue) (base_length all) base some h.chain (IsChain-take c.args.shown base queue chain)
    ∙ ap (λ (l : Link). length l.base) c.self.view_is) c.compose_all.ensures
