use Rattle.std.proofs.Common.{◌≡◌, true, Some, sym, ap, ◌∙◌, subst}
use Rattle.std.specs.Prelude.{slice_get}
use Rattle.bridge_world.specs.Plain.{is_closed}
use Rattle.bridge_world.specs.Counted as counted
use Rattle.bridge_world.specs.Counted.{Editor}
use Rattle.bridge_world.specs.Room.{Room, Opens, plain_step, counted_step, plain_room}
use Rattle.bridge_world.specs.MoveFaults.{all_have_room, open_fault}
use Rattle.bridge_world.proofs.RoomLemmas.{Stepped, stepped, own_moved, got, all_room, memory_named, faultless}
use Rattle.bridge_world.proofs.rooms.EditorRoom.open.Goals as goal

made : (c : goal.In_ok-open_at) → Stepped (Opens c.args.n) (record { view = c.self.inside.view; editors = c.self.inside.editors.items }) (record { view = c.self.inside.view; editors = c.open_at.new.editors.items })
made c =
    let look = c.in-Some.ensures.lookup in
    let found : slice_get c.self.inside.editors.items c.args.n ≡ Some c.in-Some.editor.now =
    ap (λ xs. slice_get xs c.args.n) (sym c.deref.ensures.value) ∙ got c.deref.result.now c.args.n c.in-Some.editor.now look.3.0 look.1 in
    let yes : is_closed c.in-Some.editor.now.state ≡ true =
    ap (λ (x : Editor). is_closed x.state) (sym c.editor.view_is) ∙ sym c.is_closed.ensures ∙ c.if-not-is_closed.false in
    stepped (Opens c.args.n) _ _ c.self.invariant (own_moved (λ (x : Editor). is_closed x.state) counted.opened c.args.n _ c.in-Some.editor.now _ found yes c.in_ok-open_at.ensures.ok)

pub invariant_of-self-2 : goal.invariant_of-self-2
invariant_of-self-2 c = (made c).good

pub returns-clause-counted : goal.returns-clause-counted
returns-clause-counted c = subst (λ (w : Room Editor). counted_step (Opens c.args.n) w ≡ Some (record { view = c.self.inside.view; editors = c.open_at.new.editors.items })) c.self.view_is (made c).counted

pub returns-clause-plain : goal.returns-clause-plain
returns-clause-plain c = subst (λ (w : Room Editor). plain_step (Opens c.args.n) (plain_room w) ≡ Some (plain_room (record { view = c.self.inside.view; editors = c.open_at.new.editors.items }))) c.self.view_is (made c).plain

pub open_at-requires-clause-room : goal.open_at-requires-clause-room
open_at-requires-clause-room c = all_room c.self.inside.editors.items (ap (λ (w : Room Editor). all_have_room w.editors) c.self.view_is ∙ c.requires)

pub returns-in_err-open_at-clause-fault : goal.returns-in_err-open_at-clause-fault
returns-in_err-open_at-clause-fault c =
    let look = c.in-Some.ensures.lookup in
    let found : slice_get c.self.inside.editors.items c.args.n ≡ Some c.in-Some.editor.now =
    ap (λ xs. slice_get xs c.args.n) (sym c.deref.ensures.value) ∙ got c.deref.result.now c.args.n c.in-Some.editor.now look.3.0 look.1 in
    let yes : is_closed c.in-Some.editor.now.state ≡ true =
    ap (λ (x : Editor). is_closed x.state) (sym c.editor.view_is) ∙ sym c.is_closed.ensures ∙ c.if-not-is_closed.false in
    memory_named c.from_residual.result _
    (faultless (λ (e : Editor). open_fault (is_closed e.state)) c.args.n (record { view = c.self.inside.view; editors = c.self.inside.editors.items }) c.args.self.now c.in-Some.editor.now c.self.view_is found (ap open_fault yes))
    c.from_residual.ensures.1
