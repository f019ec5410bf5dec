use Rattle.std.proofs.Common.{◌<◌, length, ap, sym, subst, ◌∙◌, slice_set}
use Rattle.std.proofs.lemmas.List.Edits.{map_over_more}
use Rattle.bridge_world.specs.Counted.{Editor, told}
use Rattle.bridge_world.specs.Steps.{IsForLink, HeldHasRoom, HasRoom}
use Rattle.bridge_world.proofs.ListLemmas.{each_weaker}
use Rattle.bridge_world.proofs.RoomLemmas.{each_ahead}
use Rattle.bridge_world.proofs.rooms.tell_all.Goals as goal

pub tell-requires-clause-fits : goal.tell-requires-clause-fits
tell-requires-clause-fits c =
    let there : c.loop-editor.editor-index < length c.args.editors.items = subst (λ l. c.loop-editor.editor-index < length l) c.deref_mut-editor-items.ensures.value c.loop-editor-test.true in
    each_ahead (λ (e : Editor). IsForLink c.args.d.now e.link) (told c.args.d.now) c.args.editors.items c.loop-editor.editor-items c.loop-editor.editor-index c.editor-item.result c.requires.fits there c.loop-editor.invariant

pub tell-requires-clause-room : goal.tell-requires-clause-room
tell-requires-clause-room c =
    let there : c.loop-editor.editor-index < length c.args.editors.items = subst (λ l. c.loop-editor.editor-index < length l) c.deref_mut-editor-items.ensures.value c.loop-editor-test.true in
    each_ahead (λ (e : Editor). HeldHasRoom e.link) (told c.args.d.now) c.args.editors.items c.loop-editor.editor-items c.loop-editor.editor-index c.editor-item.result
    (each_weaker HasRoom (λ (e : Editor). HeldHasRoom e.link) c.args.editors.items (λ e room. room.link) c.requires.room) there c.loop-editor.invariant

pub loop-editor-preserved : goal.loop-editor-preserved
loop-editor-preserved c =
    let there : c.loop-editor.editor-index < length c.args.editors.items = subst (λ l. c.loop-editor.editor-index < length l) c.deref_mut-editor-items.ensures.value c.loop-editor-test.true in
    ap (slice_set c.loop-editor.editor-items c.loop-editor.editor-index) (c.in_ok-tell.ensures ∙ ap (told c.args.d.now) (sym c.editor-item.is))
    ∙ map_over_more (told c.args.d.now) c.args.editors.items c.loop-editor.editor-items c.loop-editor.editor-index c.editor-item.result there c.loop-editor.invariant c.editor-item.is
