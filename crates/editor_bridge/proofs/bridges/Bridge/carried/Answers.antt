use Rattle.std.proofs.Common.{◌≡◌, ◌≤◌, ◌-◌, ◌+◌, ℕ, length, take, sym, ap, ◌∙◌, subst}
use Rattle.delta.specs.Cells.{Cells, base_length}
use Rattle.transform.specs.Carried.{IsChain, applied_all}
use Rattle.editor_bridge.specs.Link.{Link}
use Rattle.editor_bridge.specs.Carrying.{CanTake}
use Rattle.editor_bridge.proofs.QueueLemmas.{carry_linked, carry_chain, carry_carries}
use Rattle.editor_bridge.proofs.bridges.Bridge.carried.Goals as goal

-- the length that is tested is that of the editor's text
can_take : (l : Link) (seen shown : ℕ) (p : Cells) (tested long : ℕ) → shown ≡ seen - l.confirmed → shown ≤ length l.unconfirmed → l.confirmed ≤ seen → tested ≡ base_length p
    → tested ≡ long → long ≡ length (applied_all (take shown l.unconfirmed) l.base) → CanTake l seen p
can_take l seen shown p tested long is within back length_is same text =
    record {
      back = back;
      within = subst (λ n. n ≤ length l.unconfirmed) is within;
      fits = sym length_is ∙ same ∙ text ∙ ap (λ n. length (applied_all (take n l.unconfirmed) l.base)) is;
    }

-- the parts of the bridge are those of the link
chain_of : (l view : Link) → l ≡ view → IsChain (length l.base) l.unconfirmed → IsChain (length view.base) view.unconfirmed
chain_of l view is chain = subst (λ (k : Link). IsChain (length k.base) k.unconfirmed) is chain

pub carry-requires-clause-linked : goal.carry-requires-clause-linked
carry-requires-clause-linked c =
    let can =
    can_take c.args.self.now c.args.seen c.in_ok-shown.shown c.args.p _ _ c.in_ok-shown.ensures.shown c.in_ok-shown.ensures.within c.in_ok-shown.ensures.back
    c.base_length.ensures c.if-base_length-length.false c.length_after-length.ensures in
    carry_linked c.args.self.now c.args.seen c.in_ok-shown.shown c.args.p c.as_slice.result.now (chain_of _ _ c.self.view_is c.self.invariant.chain) can
    c.in_ok-shown.ensures.shown (c.as_slice.ensures ∙ ap (λ (l : Link). l.unconfirmed) c.self.view_is)

pub carry-requires-clause-chain : goal.carry-requires-clause-chain
carry-requires-clause-chain c =
    let can =
    can_take c.args.self.now c.args.seen c.in_ok-shown.shown c.args.p _ _ c.in_ok-shown.ensures.shown c.in_ok-shown.ensures.within c.in_ok-shown.ensures.back
    c.base_length.ensures c.if-base_length-length.false c.length_after-length.ensures in
    carry_chain c.args.self.now c.args.seen c.in_ok-shown.shown c.args.p c.as_slice.result.now (chain_of _ _ c.self.view_is c.self.invariant.chain) can
    c.in_ok-shown.ensures.shown (c.as_slice.ensures ∙ ap (λ (l : Link). l.unconfirmed) c.self.view_is)

pub returns-clause-carried : goal.returns-clause-carried
returns-clause-carried c =
    let can =
    can_take c.args.self.now c.args.seen c.in_ok-shown.shown c.args.p _ _ c.in_ok-shown.ensures.shown c.in_ok-shown.ensures.within c.in_ok-shown.ensures.back
    c.base_length.ensures c.if-base_length-length.false c.length_after-length.ensures in
    carry_carries c.args.self.now c.args.seen c.in_ok-shown.shown (c.self.inside.taken + 1) c.args.p c.as_slice.result.now c.in_ok-carried.carried can
    c.in_ok-shown.ensures.shown (c.as_slice.ensures ∙ ap (λ (l : Link). l.unconfirmed) c.self.view_is) (ap (λ (l : Link). l.taken + 1) c.self.view_is)
    c.in_ok-carried.ensures.change c.in_ok-carried.ensures.delta c.in_ok-carried.ensures.queue c.in_ok-carried.ensures.again
