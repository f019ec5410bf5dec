use Rattle.std.proofs.Common.{sym, ap, ◌∙◌}
use Rattle.editor_bridge.specs.Link.{daemon_length}
use Rattle.editor_bridge.proofs.QueueLemmas.{IsBridge-push}
use Rattle.editor_bridge.proofs.bridges.Bridge.push.Goals as goal

pub invariant_of-self-2 : goal.invariant_of-self-2
invariant_of-self-2 c =
    IsBridge-push c.self.inside.base c.self.inside.queue c.push.new.self c.self.inside.issued _ c.args.d _ c.self.invariant
    (c.requires.fits ∙ sym (ap daemon_length c.self.view_is)) c.in_ok-push.ensures.ok c.result_length-text_length.ensures
