use Rattle.std.proofs.Common.{◌≡◌, ◌<◌, true, length, Some, refl, subst, arith}
use Rattle.bridge_world.specs.Counted as counted
use Rattle.bridge_world.specs.Counted.{Editor}
use Rattle.bridge_world.specs.Room.{Room, Loses, plain_step, counted_step, plain_room}
use Rattle.bridge_world.proofs.RoomLemmas.{Stepped, stepped, own_moved, item_at}
use Rattle.bridge_world.proofs.rooms.EditorRoom.lose.Goals as goal

made : (c : goal.After-lose_at) → Stepped (Loses c.args.n) (record { view = c.self.inside.view; editors = c.self.inside.editors.items }) (record { view = c.self.inside.view; editors = c.lose_at.new.editors.items })
made c =
    let there : c.args.n < length c.self.inside.editors.items = omega arith in
    let found = item_at c.self.inside.editors.items c.args.n there in
    stepped (Loses c.args.n) _ _ c.self.invariant (own_moved (λ (x : Editor). true) counted.lost c.args.n _ found.0 _ found.1 refl c.lose_at.ensures)

pub invariant_of-self : goal.invariant_of-self
invariant_of-self c = (made c).good

pub returns-clause-counted : goal.returns-clause-counted
returns-clause-counted c = subst (λ (w : Room Editor). counted_step (Loses c.args.n) w ≡ Some (record { view = c.self.inside.view; editors = c.lose_at.new.editors.items })) c.self.view_is (made c).counted

pub returns-clause-plain : goal.returns-clause-plain
returns-clause-plain c = subst (λ (w : Room Editor). plain_step (Loses c.args.n) (plain_room w) ≡ Some (plain_room (record { view = c.self.inside.view; editors = c.lose_at.new.editors.items }))) c.self.view_is (made c).plain
