use Rattle.std.proofs.Common.{◌≡◌, Some, sym, ap, ◌∙◌, subst}
use Rattle.std.specs.Prelude.{slice_get, not}
use Rattle.bridge_world.specs.Plain.{is_closed}
use Rattle.bridge_world.specs.Counted as counted
use Rattle.bridge_world.specs.Counted.{Editor}
use Rattle.bridge_world.specs.Room.{Room, Closes, plain_step, counted_step, plain_room}
use Rattle.bridge_world.proofs.RoomLemmas.{Stepped, stepped, own_moved, got}
use Rattle.bridge_world.proofs.rooms.EditorRoom.close.Goals as goal

made : (c : goal.In_ok-close_at) → Stepped (Closes c.args.n) (record { view = c.self.inside.view; editors = c.self.inside.editors.items }) (record { view = c.self.inside.view; editors = c.close_at.new.editors.items })
made c =
    let look = c.in-Some.ensures.lookup in
    let found : slice_get c.self.inside.editors.items c.args.n ≡ Some c.in-Some.editor.now =
    ap (λ xs. slice_get xs c.args.n) (sym c.deref.ensures.value) ∙ got c.deref.result.now c.args.n c.in-Some.editor.now look.3.0 look.1 in
    stepped (Closes c.args.n) _ _ c.self.invariant (own_moved (λ (x : Editor). not (is_closed x.state)) counted.closed c.args.n _ c.in-Some.editor.now _ found (ap (λ (x : Editor). not (is_closed x.state)) (sym c.editor.view_is) ∙ ap not (sym c.is_closed.ensures ∙ c.if-is_closed.false)) c.in_ok-close_at.ensures.ok)

pub invariant_of-self-2 : goal.invariant_of-self-2
invariant_of-self-2 c = (made c).good

pub returns-clause-counted : goal.returns-clause-counted
returns-clause-counted c = subst (λ (w : Room Editor). counted_step (Closes c.args.n) w ≡ Some (record { view = c.self.inside.view; editors = c.close_at.new.editors.items })) c.self.view_is (made c).counted

pub returns-clause-plain : goal.returns-clause-plain
returns-clause-plain c = subst (λ (w : Room Editor). plain_step (Closes c.args.n) (plain_room w) ≡ Some (plain_room (record { view = c.self.inside.view; editors = c.close_at.new.editors.items }))) c.self.view_is (made c).plain
