use Rattle.std.proofs.Common.{ap, ◌∙◌, [], ◌∷◌, ◌++◌}
use Rattle.editor_bridge.specs.declared.frames.BridgeFrame.{BridgeFrame}
use Rattle.bridge_world.specs.Counted.{new_frame}
use Rattle.bridge_world.proofs.RoomLemmas.{grown}
use Rattle.bridge_world.proofs.editors.append.Goals as goal

pub loop-frame-preserved : goal.loop-frame-preserved
loop-frame-preserved c =
    c.in_ok-push.ensures.ok
    ∙ ap (λ d. c.loop-frame.wire ++ new_frame c.args.session c.frame-item.result.revision d ∷ []) c.in_ok-delta.ensures
    ∙ grown (λ (f : BridgeFrame). new_frame c.args.session f.revision f.delta) c.args.again.now c.loop-frame.frame-index c.frame-item.result c.args.wire.now c.loop-frame.wire c.loop-frame-test.true c.frame-item.is c.loop-frame.invariant
