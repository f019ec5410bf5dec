use Rattle.std.proofs.Common.{◌≡◌, ◌-◌, ◌++◌, length, ap, ◌∙◌, arith}
use Rattle.std.specs.List.{splice}
use Rattle.std.proofs.lemmas.List.{length-drop}
use Rattle.std.proofs.lemmas.Result.{IfOk-weaker}
use Rattle.delta.specs.Cells.{applied}
use Rattle.delta.specs.Steps.{cells_of}
use Rattle.delta.proofs.ApplyLemmas.{between, length-between, applied-between}
use Rattle.delta.proofs.deltas.Delta.apply_at_once.Goals as goal

pub runs-left-requires : goal.runs-left-requires
runs-left-requires c =
    let inner = cells_of c.kept_behind-behind.result.0.now in
    let front = c.kept_in_front-front.result.0 in
    let behind = c.kept_behind-behind.result.1 in
    let parts =
    between c.args.self.now c.steps.result.now c.as_slice.result.now c.kept_in_front-front.result.1.now c.kept_behind-behind.result.0.now front behind c.steps.ensures.cells c.as_slice.ensures
    c.kept_in_front-front.ensures c.kept_behind-behind.ensures in
    omega (arith, length-between c.args.self.now inner front behind c.args.text.now parts c.requires)

pub write_changes-requires : goal.write_changes-requires
write_changes-requires c =
    let inner = cells_of c.kept_behind-behind.result.0.now in
    let front = c.kept_in_front-front.result.0 in
    let behind = c.kept_behind-behind.result.1 in
    let parts =
    between c.args.self.now c.steps.result.now c.as_slice.result.now c.kept_in_front-front.result.1.now c.kept_behind-behind.result.0.now front behind c.steps.ensures.cells c.as_slice.ensures
    c.kept_in_front-front.ensures c.kept_behind-behind.ensures in
    omega (arith, length-between c.args.self.now inner front behind c.args.text.now parts c.requires, ap length c.runs-left.ensures, length-drop front c.args.text.now)

pub overflow_sub-len : goal.overflow_sub-len
overflow_sub-len c =
    let inner = cells_of c.kept_behind-behind.result.0.now in
    let front = c.kept_in_front-front.result.0 in
    let behind = c.kept_behind-behind.result.1 in
    let parts =
    between c.args.self.now c.steps.result.now c.as_slice.result.now c.kept_in_front-front.result.1.now c.kept_behind-behind.result.0.now front behind c.steps.ensures.cells c.as_slice.ensures
    c.kept_in_front-front.ensures c.kept_behind-behind.ensures in
    omega (arith, length-between c.args.self.now inner front behind c.args.text.now parts c.requires, c.len.ensures)

pub splice-requires-clause-order : goal.splice-requires-clause-order
splice-requires-clause-order c =
    let inner = cells_of c.kept_behind-behind.result.0.now in
    let front = c.kept_in_front-front.result.0 in
    let behind = c.kept_behind-behind.result.1 in
    let parts =
    between c.args.self.now c.steps.result.now c.as_slice.result.now c.kept_in_front-front.result.1.now c.kept_behind-behind.result.0.now front behind c.steps.ensures.cells c.as_slice.ensures
    c.kept_in_front-front.ensures c.kept_behind-behind.ensures in
    omega (arith, length-between c.args.self.now inner front behind c.args.text.now parts c.requires, c.len.ensures)

pub returns-clause-ok : goal.returns-clause-ok
returns-clause-ok c =
    let inner = cells_of c.kept_behind-behind.result.0.now in
    let text = c.args.text.now in
    let front = c.kept_in_front-front.result.0 in
    let behind = c.kept_behind-behind.result.1 in
    let parts =
    between c.args.self.now c.steps.result.now c.as_slice.result.now c.kept_in_front-front.result.1.now c.kept_behind-behind.result.0.now front behind c.steps.ensures.cells c.as_slice.ensures
    c.kept_in_front-front.ensures c.kept_behind-behind.ensures in
    IfOk-weaker c.splice.result (λ _. c.splice.new.self ≡ splice text front (c.len.result - behind) c.as_slice-2.result.now) (λ _. c.splice.new.self ≡ applied c.args.self.now text)
    (λ _ is.
    is
    ∙ ap (λ n. splice text front (n - behind) c.as_slice-2.result.now) c.len.ensures
    ∙ ap (splice text front (length text - behind)) (c.as_slice-2.ensures.value ∙ c.in_ok-write_changes.ensures ∙ ap (λ l. l ++ applied inner c.runs-left.result) c.new-run.ensures.items ∙ ap (applied inner) c.runs-left.ensures)
    ∙ applied-between c.args.self.now inner front behind text parts c.requires)
    c.splice.ensures.ok
