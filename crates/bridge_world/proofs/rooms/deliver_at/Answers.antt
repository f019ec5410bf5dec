use Rattle.bridge_world.specs.Counted.{delivered}
use Rattle.bridge_world.proofs.RoomLemmas.{set_if_ok}
use Rattle.bridge_world.proofs.rooms.deliver_at.Goals as goal

pub returns : goal.returns
returns c =
    set_if_ok delivered c.args.editors.now.items c.args.n c.index_mut-editor.result.now c.deliver.new.self c.deliver.result c.requires.there c.index_mut-editor.ensures.value c.deliver.ensures
