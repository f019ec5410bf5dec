use Rattle.std.proofs.Common.{◌≡◌, map, Vec, Global, Some, sym, ap, ◌∙◌, subst}
use Rattle.bridge_world.specs.Lists.{Each}
use Rattle.bridge_world.specs.Counted as counted
use Rattle.bridge_world.specs.Counted.{Editor}
use Rattle.bridge_world.specs.Room.{Room, Pushes, plain_step, counted_step, plain_room}
use Rattle.bridge_world.specs.Steps.{IsForLink, HasRoom}
use Rattle.bridge_world.specs.MoveFaults.{all_have_room}
use Rattle.bridge_world.proofs.RoomLemmas.{Stepped, stepped, all_for_link, pushed_moved, all_room}
use Rattle.bridge_world.proofs.rooms.EditorRoom.push.Goals as goal

pub tell_all-requires-clause-fits : goal.tell_all-requires-clause-fits
tell_all-requires-clause-fits c =
    let items : c.replace-editors.result.items ≡ c.self.inside.editors.items = ap (λ (v : Vec Editor Global). v.items) c.replace-editors.ensures.value in
    subst (Each (λ (e : Editor). IsForLink c.args.d.now e.link)) (sym items)
    (all_for_link c.self.inside.view c.args.d.now c.self.inside.editors.items (sym c.base_length.ensures ∙ c.if-base_length-len.false ∙ c.len.ensures) c.self.invariant)

pub tell_all-requires-clause-room : goal.tell_all-requires-clause-room
tell_all-requires-clause-room c =
    let items : c.replace-editors.result.items ≡ c.self.inside.editors.items = ap (λ (v : Vec Editor Global). v.items) c.replace-editors.ensures.value in
    subst (Each HasRoom) (sym items) (all_room c.self.inside.editors.items (ap (λ (w : Room Editor). all_have_room w.editors) c.self.view_is ∙ c.requires))

made : (c : goal.After-drop-self-inside) → Stepped (Pushes c.args.d.now) (record { view = c.self.inside.view; editors = c.self.inside.editors.items }) (record { view = c.apply_at_once.new.text; editors = c.in_ok-editors.editors.items })
made c =
    let items : c.replace-editors.result.items ≡ c.self.inside.editors.items = ap (λ (v : Vec Editor Global). v.items) c.replace-editors.ensures.value in
    stepped (Pushes c.args.d.now) _ _ c.self.invariant
    (pushed_moved c.args.d.now (record { view = c.self.inside.view; editors = c.self.inside.editors.items }) c.apply_at_once.new.text c.in_ok-editors.editors.items (sym c.base_length.ensures ∙ c.if-base_length-len.false ∙ c.len.ensures) c.in_ok-apply_at_once.ensures.ok
    (c.in_ok-editors.ensures ∙ ap (map (counted.told c.args.d.now)) items))

pub invariant_of-self-2 : goal.invariant_of-self-2
invariant_of-self-2 c = (made c).good

pub returns-clause-counted : goal.returns-clause-counted
returns-clause-counted c = subst (λ (w : Room Editor). counted_step (Pushes c.args.d.now) w ≡ Some (record { view = c.apply_at_once.new.text; editors = c.in_ok-editors.editors.items })) c.self.view_is (made c).counted

pub returns-clause-plain : goal.returns-clause-plain
returns-clause-plain c = subst (λ (w : Room Editor). plain_step (Pushes c.args.d.now) (plain_room w) ≡ Some (plain_room (record { view = c.apply_at_once.new.text; editors = c.in_ok-editors.editors.items }))) c.self.view_is (made c).plain
