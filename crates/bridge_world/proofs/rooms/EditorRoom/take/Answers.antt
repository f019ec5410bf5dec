use Rattle.std.proofs.Common.{◌≡◌, ◌<◌, length, map, get_or, Vec, Global, Some, refl, sym, ap, ◌∙◌, subst, arith}
use Rattle.std.specs.Prelude.{slice_get, insert, remove}
use Rattle.bridge_world.specs.Kept.{as_verdict}
use Rattle.bridge_world.specs.Lists.{Each}
use Rattle.bridge_world.specs.Counted as counted
use Rattle.bridge_world.specs.Counted.{Editor}
use Rattle.bridge_world.specs.Room.{Room, Handles, plain_step, counted_step, plain_room, told_of}
use Rattle.bridge_world.specs.Steps.{HasRoom}
use Rattle.bridge_world.specs.Tie.{Good}
use Rattle.bridge_world.specs.MoveFaults.{all_have_room, no_fault}
use Rattle.bridge_world.proofs.ListLemmas.{each_at}
use Rattle.bridge_world.proofs.RoomLemmas.{Stepped, stepped, got, item_at, can_take_first, effect_for, others_for, each_without, handled_moved, all_room, memory_named, faultless}
use Rattle.bridge_world.proofs.rooms.EditorRoom.take.Goals as goal

pub handle-requires-clause-fits : goal.handle-requires-clause-fits
handle-requires-clause-fits c =
    let items : c.replace-others.result.items ≡ c.self.inside.editors.items = ap (λ (v : Vec Editor Global). v.items) c.replace-others.ensures.value in
    let there : c.args.n < length c.self.inside.editors.items = omega arith in
    let found : slice_get c.self.inside.editors.items c.args.n ≡ Some c.remove-editor.result =
    got c.self.inside.editors.items c.args.n c.remove-editor.result there (c.remove-editor.ensures.value ∙ ap (λ xs. get_or xs c.args.n c.remove-editor.result) items) in
    can_take_first c.self.inside.view c.remove-editor.result (each_at (Good c.self.inside.view) c.self.inside.editors.items c.args.n c.remove-editor.result found c.self.invariant)

pub with_told-requires-clause-fits : goal.with_told-requires-clause-fits
with_told-requires-clause-fits c =
    let items : c.replace-others.result.items ≡ c.self.inside.editors.items = ap (λ (v : Vec Editor Global). v.items) c.replace-others.ensures.value in
    let there : c.args.n < length c.self.inside.editors.items = omega arith in
    let found : slice_get c.self.inside.editors.items c.args.n ≡ Some c.remove-editor.result =
    got c.self.inside.editors.items c.args.n c.remove-editor.result there (c.remove-editor.ensures.value ∙ ap (λ xs. get_or xs c.args.n c.remove-editor.result) items) in
    let good : Good c.self.inside.view c.remove-editor.result = each_at (Good c.self.inside.view) c.self.inside.editors.items c.args.n c.remove-editor.result found c.self.invariant in
    let others : c.remove-editor.new.self.items ≡ remove c.self.inside.editors.items c.args.n = c.remove-editor.ensures.items ∙ ap (λ xs. remove xs c.args.n) items in
    others_for c.self.inside.view c.self.inside.editors.items c.remove-editor.new.self.items c.args.n c.in_ok-effect.effect c.self.invariant others
    (effect_for (as_verdict c.args.verdict) c.self.inside.view c.remove-editor.result c.in_ok-effect.effect good c.in_ok-effect.ensures.effect)

pub with_told-requires-clause-room : goal.with_told-requires-clause-room
with_told-requires-clause-room c =
    let items : c.replace-others.result.items ≡ c.self.inside.editors.items = ap (λ (v : Vec Editor Global). v.items) c.replace-others.ensures.value in
    let there : c.args.n < length c.self.inside.editors.items = omega arith in
    let found : slice_get c.self.inside.editors.items c.args.n ≡ Some c.remove-editor.result =
    got c.self.inside.editors.items c.args.n c.remove-editor.result there (c.remove-editor.ensures.value ∙ ap (λ xs. get_or xs c.args.n c.remove-editor.result) items) in
    let good : Good c.self.inside.view c.remove-editor.result = each_at (Good c.self.inside.view) c.self.inside.editors.items c.args.n c.remove-editor.result found c.self.invariant in
    let others : c.remove-editor.new.self.items ≡ remove c.self.inside.editors.items c.args.n = c.remove-editor.ensures.items ∙ ap (λ xs. remove xs c.args.n) items in
    subst (Each HasRoom) (sym others) (each_without HasRoom c.self.inside.editors.items c.args.n (all_room c.self.inside.editors.items (ap (λ (w : Room Editor). all_have_room w.editors) c.self.view_is ∙ c.requires)))

pub change-requires : goal.change-requires
change-requires c =
    let items : c.replace-others.result.items ≡ c.self.inside.editors.items = ap (λ (v : Vec Editor Global). v.items) c.replace-others.ensures.value in
    let there : c.args.n < length c.self.inside.editors.items = omega arith in
    let found : slice_get c.self.inside.editors.items c.args.n ≡ Some c.remove-editor.result =
    got c.self.inside.editors.items c.args.n c.remove-editor.result there (c.remove-editor.ensures.value ∙ ap (λ xs. get_or xs c.args.n c.remove-editor.result) items) in
    let good : Good c.self.inside.view c.remove-editor.result = each_at (Good c.self.inside.view) c.self.inside.editors.items c.args.n c.remove-editor.result found c.self.invariant in
    let others : c.remove-editor.new.self.items ≡ remove c.self.inside.editors.items c.args.n = c.remove-editor.ensures.items ∙ ap (λ xs. remove xs c.args.n) items in
    (effect_for (as_verdict c.args.verdict) c.self.inside.view c.remove-editor.result c.in_ok-effect.effect good c.in_ok-effect.ensures.effect)

pub returns-in_err-effect-clause-fault : goal.returns-in_err-effect-clause-fault
returns-in_err-effect-clause-fault c =
    let there : c.args.n < length c.self.inside.editors.items = omega arith in
    let found = item_at c.self.inside.editors.items c.args.n there in
    memory_named c.from_residual.result _
    (faultless no_fault c.args.n (record { view = c.self.inside.view; editors = c.self.inside.editors.items }) c.args.self.now found.0 c.self.view_is found.1 refl)
    c.from_residual.ensures.1

pub returns-in_err-editors-clause-fault : goal.returns-in_err-editors-clause-fault
returns-in_err-editors-clause-fault c =
    let there : c.args.n < length c.self.inside.editors.items = omega arith in
    let found = item_at c.self.inside.editors.items c.args.n there in
    memory_named c.from_residual-in_err-editors.result _
    (faultless no_fault c.args.n (record { view = c.self.inside.view; editors = c.self.inside.editors.items }) c.args.self.now found.0 c.self.view_is found.1 refl)
    c.from_residual-in_err-editors.ensures.1

pub returns-in_err-change-clause-fault : goal.returns-in_err-change-clause-fault
returns-in_err-change-clause-fault c =
    let there : c.args.n < length c.self.inside.editors.items = omega arith in
    let found = item_at c.self.inside.editors.items c.args.n there in
    memory_named c.from_residual-in_err-change.result _
    (faultless no_fault c.args.n (record { view = c.self.inside.view; editors = c.self.inside.editors.items }) c.args.self.now found.0 c.self.view_is found.1 refl)
    c.from_residual-in_err-change.ensures.1

made : (c : goal.Joined-effect-3) → Stepped (Handles c.args.n (as_verdict c.args.verdict)) (record { view = c.self.inside.view; editors = c.self.inside.editors.items }) (record { view = c.change.new.text; editors = c.in_ok-editors.editors.items })
made c =
    let items : c.replace-others.result.items ≡ c.self.inside.editors.items = ap (λ (v : Vec Editor Global). v.items) c.replace-others.ensures.value in
    let there : c.args.n < length c.self.inside.editors.items = omega arith in
    let found : slice_get c.self.inside.editors.items c.args.n ≡ Some c.remove-editor.result =
    got c.self.inside.editors.items c.args.n c.remove-editor.result there (c.remove-editor.ensures.value ∙ ap (λ xs. get_or xs c.args.n c.remove-editor.result) items) in
    let good : Good c.self.inside.view c.remove-editor.result = each_at (Good c.self.inside.view) c.self.inside.editors.items c.args.n c.remove-editor.result found c.self.invariant in
    let others : c.remove-editor.new.self.items ≡ remove c.self.inside.editors.items c.args.n = c.remove-editor.ensures.items ∙ ap (λ xs. remove xs c.args.n) items in
    stepped (Handles c.args.n (as_verdict c.args.verdict)) _ _ c.self.invariant
    (handled_moved c.args.n (as_verdict c.args.verdict) (record { view = c.self.inside.view; editors = c.self.inside.editors.items }) c.remove-editor.result c.handle.new.self c.in_ok-effect.effect c.change.new.text c.in_ok-editors.editors.items c.self.invariant found
    c.in_ok-effect.ensures.new c.in_ok-effect.ensures.effect
    (c.in_ok-editors.ensures ∙ ap (λ xs. insert (map (told_of counted.told c.in_ok-effect.effect) xs) c.args.n c.handle.new.self) others)
    c.in_ok-change.ensures.ok)

pub invariant_of-self-2 : goal.invariant_of-self-2
invariant_of-self-2 c = (made c).good

pub returns-clause-counted : goal.returns-clause-counted
returns-clause-counted c = subst (λ (w : Room Editor). counted_step (Handles c.args.n (as_verdict c.args.verdict)) w ≡ Some (record { view = c.change.new.text; editors = c.in_ok-editors.editors.items })) c.self.view_is (made c).counted

pub returns-clause-plain : goal.returns-clause-plain
returns-clause-plain c = subst (λ (w : Room Editor). plain_step (Handles c.args.n (as_verdict c.args.verdict)) (plain_room w) ≡ Some (plain_room (record { view = c.change.new.text; editors = c.in_ok-editors.editors.items }))) c.self.view_is (made c).plain
