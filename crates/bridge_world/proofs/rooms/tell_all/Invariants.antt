use Rattle.std.proofs.Common.{◌≡◌, ◌++◌, take, drop, map}
use Rattle.bridge_world.specs.Counted.{told}
use Rattle.bridge_world.proofs.rooms.tell_all.Given as goal

abbrev pub invariant-loop-editor : goal.invariant-loop-editor
invariant-loop-editor l = l.editor-items ≡ map (told l.d) (take l.editor-index l.fn.editors.items) ++ drop l.editor-index l.fn.editors.items
