use Rattle.std.proofs.Common.{◌≡◌, ◌++◌, map, ◌∙◌, ap}
use Rattle.editor_bridge.specs.Frames.{frames}
use Rattle.editor_bridge.specs.declared.frames.BridgeFrame.{BridgeFrame}
use Rattle.bridge_world.specs.Counted.{Held, new_frame}
use Rattle.bridge_world.proofs.RoomLemmas.{took_by_parts}
use Rattle.bridge_world.proofs.editors.Editor.carry.Goals as goal

pub returns-clause-new : goal.returns-clause-new
returns-clause-new c =
    let again : c.as_slice.result.now ≡ frames c.take.new.self.link.taken c.take.new.self.link.unconfirmed = c.as_slice.ensures ∙ c.in_ok-taken.ensures.again in
    took_by_parts c.args.session c.args.seen c.args.p c.args.held c.take.new.self c.args.self.now c.age.new.self _ c.as_slice.result.now c.append.new.wire
    c.in_ok-taken.ensures.new c.age.ensures (c.self.view_is ∙ c.in_ok-answer.ensures) again
    (c.in_ok-append.ensures
    ∙ ap (λ s. c.self.inside.wire ++ map (λ (f : BridgeFrame). new_frame s f.revision f.delta) c.as_slice.result.now) (ap (λ (h : Held). h.session) c.held.view_is))
