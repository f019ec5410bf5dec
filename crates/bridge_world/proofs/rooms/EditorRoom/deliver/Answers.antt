use Rattle.std.proofs.Common.{◌≡◌, ◌<◌, true, length, Vec, Global, Some, IfSome, refl, sym, ap, ◌∙◌, subst, arith}
use Rattle.std.specs.Prelude.{slice_get}
use Rattle.bridge_world.specs.Lists.{Each, one_and_others, same}
use Rattle.bridge_world.specs.Counted as counted
use Rattle.bridge_world.specs.Counted.{Editor}
use Rattle.bridge_world.specs.Room.{Room, Delivers, plain_step, counted_step, plain_room}
use Rattle.bridge_world.specs.Steps.{FirstApplies, HasRoom}
use Rattle.bridge_world.specs.MoveFaults.{all_have_room, no_fault}
use Rattle.bridge_world.proofs.RoomLemmas.{Stepped, stepped, own_moved, item_at, first_at, all_room, memory_named, faultless}
use Rattle.bridge_world.proofs.rooms.EditorRoom.deliver.Goals as goal

pub deliver_at-requires-clause-fits : goal.deliver_at-requires-clause-fits
deliver_at-requires-clause-fits c =
    let items : c.replace-editors.result.items ≡ c.self.inside.editors.items = ap (λ (v : Vec Editor Global). v.items) c.replace-editors.ensures.value in
    subst (λ es. IfSome (slice_get es c.args.n) (λ (e : Editor). FirstApplies e e.wire)) (sym items) (first_at c.self.inside.view c.self.inside.editors.items c.args.n c.self.invariant)

pub deliver_at-requires-clause-room : goal.deliver_at-requires-clause-room
deliver_at-requires-clause-room c =
    let items : c.replace-editors.result.items ≡ c.self.inside.editors.items = ap (λ (v : Vec Editor Global). v.items) c.replace-editors.ensures.value in
    subst (Each HasRoom) (sym items) (all_room c.self.inside.editors.items (ap (λ (w : Room Editor). all_have_room w.editors) c.self.view_is ∙ c.requires))

pub returns-in_err-deliver_at-clause-fault : goal.returns-in_err-deliver_at-clause-fault
returns-in_err-deliver_at-clause-fault c =
    let there : c.args.n < length c.self.inside.editors.items = omega arith in
    let found = item_at c.self.inside.editors.items c.args.n there in
    memory_named c.from_residual.result _
    (faultless no_fault c.args.n (record { view = c.self.inside.view; editors = c.self.inside.editors.items }) c.args.self.now found.0 c.self.view_is found.1 refl)
    c.from_residual.ensures.1

made : (c : goal.After-drop-self-inside) → Stepped (Delivers c.args.n) (record { view = c.self.inside.view; editors = c.self.inside.editors.items }) (record { view = c.self.inside.view; editors = c.deliver_at.new.editors.items })
made c =
    let items : c.replace-editors.result.items ≡ c.self.inside.editors.items = ap (λ (v : Vec Editor Global). v.items) c.replace-editors.ensures.value in
    let there : c.args.n < length c.self.inside.editors.items = omega arith in
    let found = item_at c.self.inside.editors.items c.args.n there in
    stepped (Delivers c.args.n) _ _ c.self.invariant
    (own_moved (λ (x : Editor). true) counted.delivered c.args.n _ found.0 _ found.1 refl (c.in_ok-deliver_at.ensures ∙ ap (one_and_others counted.delivered same c.args.n) items))

pub invariant_of-self-2 : goal.invariant_of-self-2
invariant_of-self-2 c = (made c).good

pub returns-clause-counted : goal.returns-clause-counted
returns-clause-counted c = subst (λ (w : Room Editor). counted_step (Delivers c.args.n) w ≡ Some (record { view = c.self.inside.view; editors = c.deliver_at.new.editors.items })) c.self.view_is (made c).counted

pub returns-clause-plain : goal.returns-clause-plain
returns-clause-plain c = subst (λ (w : Room Editor). plain_step (Delivers c.args.n) (plain_room w) ≡ Some (plain_room (record { view = c.self.inside.view; editors = c.deliver_at.new.editors.items }))) c.self.view_is (made c).plain
