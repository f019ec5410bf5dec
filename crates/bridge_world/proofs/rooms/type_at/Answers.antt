use Rattle.bridge_world.specs.Counted.{typed}
use Rattle.bridge_world.proofs.RoomLemmas.{set_if_ok}
use Rattle.bridge_world.proofs.rooms.type_at.Goals as goal

pub returns-clause-ok : goal.returns-clause-ok
returns-clause-ok c =
    set_if_ok (typed c.args.p.now) c.args.editors.now.items c.args.n c.index_mut-editor.result.now c.type_delta.new.self c.type_delta.result c.requires.there c.index_mut-editor.ensures.value c.type_delta.ensures.ok
