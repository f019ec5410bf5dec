use Rattle.std.proofs.Common.{sym, ap, ◌∙◌}
use Rattle.transform.proofs.ChainLemmas.{length-applied_all}
use Rattle.editor_bridge.specs.Link.{daemon_length}
use Rattle.editor_bridge.proofs.bridges.Bridge.daemon_length.Goals as goal

pub returns : goal.returns
returns c =
    c.self.invariant.long
    ∙ sym (length-applied_all c.self.inside.queue c.self.inside.base c.self.invariant.chain)
    ∙ ap daemon_length c.self.view_is
