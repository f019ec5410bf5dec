use Rattle.std.proofs.Common.{◌≡◌, length, Some, sym, ap, ◌∙◌, subst}
use Rattle.std.specs.Prelude.{slice_get}
use Rattle.delta.specs.Cells.{base_length}
use Rattle.std.specs.Prelude.{◌==◌}
use Rattle.std.proofs.lemmas.Bool.{eq-eqb}
use Rattle.bridge_world.specs.Counted as counted
use Rattle.bridge_world.specs.Counted.{Editor}
use Rattle.bridge_world.specs.Room.{Room, Types, plain_step, counted_step, plain_room}
use Rattle.bridge_world.specs.MoveFaults.{all_have_room, length_fault}
use Rattle.bridge_world.proofs.RoomLemmas.{Stepped, stepped, own_moved, got, all_room, memory_named, faultless, fits_length}
use Rattle.bridge_world.proofs.rooms.EditorRoom.type_edit.Goals as goal

made : (c : goal.In_ok-type_at) → Stepped (Types c.args.n c.args.p.now) (record { view = c.self.inside.view; editors = c.self.inside.editors.items }) (record { view = c.self.inside.view; editors = c.type_at.new.editors.items })
made c =
    let look = c.in-Some.ensures.lookup in
    let found : slice_get c.self.inside.editors.items c.args.n ≡ Some c.in-Some.editor.now =
    ap (λ xs. slice_get xs c.args.n) (sym c.deref.ensures.value) ∙ got c.deref.result.now c.args.n c.in-Some.editor.now look.3.0 look.1 in
    stepped (Types c.args.n c.args.p.now) _ _ c.self.invariant (own_moved (λ (x : Editor). base_length c.args.p.now == length x.text) (counted.typed c.args.p.now) c.args.n _ c.in-Some.editor.now _ found (eq-eqb _ _ (sym c.base_length.ensures ∙ c.if-base_length-len.false ∙ c.len-2.ensures ∙ ap (λ (x : Editor). length x.text) c.editor.view_is)) c.in_ok-type_at.ensures.ok)

pub invariant_of-self-2 : goal.invariant_of-self-2
invariant_of-self-2 c = (made c).good

pub returns-clause-counted : goal.returns-clause-counted
returns-clause-counted c = subst (λ (w : Room Editor). counted_step (Types c.args.n c.args.p.now) w ≡ Some (record { view = c.self.inside.view; editors = c.type_at.new.editors.items })) c.self.view_is (made c).counted

pub returns-clause-plain : goal.returns-clause-plain
returns-clause-plain c = subst (λ (w : Room Editor). plain_step (Types c.args.n c.args.p.now) (plain_room w) ≡ Some (plain_room (record { view = c.self.inside.view; editors = c.type_at.new.editors.items }))) c.self.view_is (made c).plain

pub type_at-requires-clause-room : goal.type_at-requires-clause-room
type_at-requires-clause-room c = all_room c.self.inside.editors.items (ap (λ (w : Room Editor). all_have_room w.editors) c.self.view_is ∙ c.requires)

pub returns-in_err-type_at-clause-fault : goal.returns-in_err-type_at-clause-fault
returns-in_err-type_at-clause-fault c =
    let look = c.in-Some.ensures.lookup in
    let found : slice_get c.self.inside.editors.items c.args.n ≡ Some c.in-Some.editor.now =
    ap (λ xs. slice_get xs c.args.n) (sym c.deref.ensures.value) ∙ got c.deref.result.now c.args.n c.in-Some.editor.now look.3.0 look.1 in
    memory_named c.from_residual.result _
    (faultless (λ (e : Editor). length_fault c.args.p.now e.text) c.args.n (record { view = c.self.inside.view; editors = c.self.inside.editors.items }) c.args.self.now c.in-Some.editor.now c.self.view_is found
    (fits_length c.args.p.now c.in-Some.editor.now.text (sym c.base_length.ensures ∙ c.if-base_length-len.false ∙ c.len-2.ensures ∙ ap (λ (x : Editor). length x.text) c.editor.view_is)))
    c.from_residual.ensures.1
