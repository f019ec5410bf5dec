use Rattle.std.proofs.Common.{ap, ◌∙◌, slice_set}
use Rattle.bridge_world.specs.Counted.{lost}
use Rattle.bridge_world.proofs.RoomLemmas.{one_set}
use Rattle.bridge_world.proofs.rooms.lose_at.Goals as goal

pub returns : goal.returns
returns c =
    ap (slice_set c.args.editors.now.items c.args.n) c.lose.ensures
    ∙ one_set lost c.args.editors.now.items c.args.n c.index_mut-editor.result.now c.requires c.index_mut-editor.ensures.value
