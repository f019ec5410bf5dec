use Rattle.std.proofs.Common.{◌<◌, length, ap, sym, subst, ◌∙◌, slice_set}
use Rattle.std.proofs.lemmas.List.Edits.{map_over_more}
use Rattle.bridge_world.specs.Counted.{aged_frame}
use Rattle.bridge_world.proofs.editors.age_all.Goals as goal

pub loop-frame-preserved : goal.loop-frame-preserved
loop-frame-preserved c =
    let lt = subst (λ l. c.loop-frame.frame-index < length l) c.deref_mut-frame-items.ensures.value c.loop-frame-test.true in
    ap (slice_set c.loop-frame.frame-items c.loop-frame.frame-index) (c.age.ensures ∙ ap aged_frame (sym c.frame-item.is))
    ∙ map_over_more aged_frame c.args.frames.now.items c.loop-frame.frame-items c.loop-frame.frame-index c.frame-item.result lt c.loop-frame.invariant c.frame-item.is
