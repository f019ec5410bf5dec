use Rattle.std.proofs.Common.{◌-◌, List, ◌++◌, length, take, drop, ap, ◌∙◌}
use Rattle.std.proofs.lemmas.List.{take_at, length-drop}
use Rattle.delta.specs.Cells.{Cells}
use Rattle.editor_bridge.proofs.carrying.without_first.Goals as goal

pub returns : goal.returns
returns c =
    let queue = c.args.queue in
    let shown = c.args.shown in
    let turned : List Cells = drop shown queue ++ take shown queue in
    c.from_vec.ensures
    ∙ c.truncate.ensures.items
    ∙ ap (take (c.len.result - shown)) (c.rotate_left.ensures.items ∙ ap (λ l. drop shown l ++ take shown l) c.into_vec-deltas.ensures)
    ∙ ap (λ n. take (n - shown) turned) c.len.ensures
    ∙ take_at (drop shown queue) (take shown queue) (length queue - shown) (length-drop shown queue)
