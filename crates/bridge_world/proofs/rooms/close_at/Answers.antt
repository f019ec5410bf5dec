use Rattle.bridge_world.specs.Counted.{closed}
use Rattle.bridge_world.proofs.RoomLemmas.{set_if_ok}
use Rattle.bridge_world.proofs.rooms.close_at.Goals as goal

pub returns-clause-ok : goal.returns-clause-ok
returns-clause-ok c =
    set_if_ok closed c.args.editors.now.items c.args.n c.index_mut-editor.result.now c.close.new.self c.close.result c.requires c.index_mut-editor.ensures.value c.close.ensures.ok
