use Rattle.bridge_world.specs.Counted.{opened}
use Rattle.bridge_world.proofs.RoomLemmas.{set_if_ok}
use Rattle.bridge_world.proofs.rooms.open_at.Goals as goal

pub returns-clause-ok : goal.returns-clause-ok
returns-clause-ok c =
    set_if_ok opened c.args.editors.now.items c.args.n c.index_mut-editor.result.now c.open.new.self c.open.result c.requires.there c.index_mut-editor.ensures.value c.open.ensures.ok
