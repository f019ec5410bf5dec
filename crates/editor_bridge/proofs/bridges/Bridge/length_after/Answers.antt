use Rattle.std.proofs.Common.{◌≤◌, length, take, sym, ap, ◌∙◌, subst}
use Rattle.transform.specs.Carried.{applied_all}
use Rattle.editor_bridge.specs.Link.{Link}
use Rattle.editor_bridge.proofs.QueueLemmas.{length-after_first}
use Rattle.editor_bridge.proofs.bridges.Bridge.length_after.Goals as goal

pub returns-else-shown-eq0 : goal.returns-else-shown-eq0
returns-else-shown-eq0 c =
    c.result_length.ensures
    ∙ length-after_first c.self.inside.base c.self.inside.queue c.args.shown c.at.result.now c.self.invariant.chain c.if-shown-eq0.false
    (subst (λ (l : Link). c.args.shown ≤ length l.unconfirmed) (sym c.self.view_is) c.requires) c.at.ensures
    ∙ ap (λ (l : Link). length (applied_all (take c.args.shown l.unconfirmed) l.base)) c.self.view_is
