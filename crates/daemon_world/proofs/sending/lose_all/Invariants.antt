use Rattle.std.proofs.Common.{◌≡◌, ◌++◌, take, drop, map}
use Rattle.kept_world.specs.Worlds.{lost_with}
use Rattle.daemon_world.proofs.sending.lose_all.Given as goal

abbrev pub invariant-loop-editor : goal.invariant-loop-editor
invariant-loop-editor l = l.editors ≡ map (lost_with l.d) (take l.editor-index l.initial.editors) ++ drop l.editor-index l.initial.editors
