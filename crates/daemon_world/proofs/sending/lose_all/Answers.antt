use Rattle.std.proofs.Common.{sym, ap, ◌∙◌, slice_set}
use Rattle.std.proofs.lemmas.List.Edits.{map_over_more}
use Rattle.kept_world.specs.Worlds.{lost_with}
use Rattle.daemon_world.proofs.sending.lose_all.Goals as goal

pub loop-editor-preserved : goal.loop-editor-preserved
loop-editor-preserved c =
    ap (slice_set c.loop-editor.editors c.loop-editor.editor-index) (c.lose.ensures ∙ ap (lost_with c.args.d) (sym c.editor-item.is))
    ∙ map_over_more (lost_with c.args.d) c.args.editors.now c.loop-editor.editors c.loop-editor.editor-index c.editor-item.result c.loop-editor-test.true c.loop-editor.invariant
    c.editor-item.is
