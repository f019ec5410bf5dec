use Rattle.std.proofs.Common.{◌≡◌, sym, subst, map}
use Rattle.bridge_world.specs.Counted.{told}
use Rattle.bridge_world.specs.Room.{told_of}
use Rattle.bridge_world.proofs.RoomLemmas.{none_told}
use Rattle.bridge_world.proofs.rooms.tell_of.Goals as goal

pub returns-in-None : goal.returns-in-None
returns-in-None c = subst (λ o. c.args.editors.items ≡ map (told_of told o) c.args.editors.items) (sym c.in-None.is) (none_told c.args.editors.items)
