use Rattle.std.proofs.Common.{◌≡◌, ℕ, ◌/◌, ◌<◌, ◌++◌, List, length, take, drop, sym, subst, ◌∙◌, ap₂, arith}
use Rattle.std.proofs.lemmas.List.{take-append-drop}
use Rattle.std.proofs.lemmas.Result.{IfOk-weaker}
use Rattle.delta.specs.Cells.{Cells}
use Rattle.delta.specs.Marks.{composed}
use Rattle.editor_bridge.specs.Carrying.{AreInTurn, StandsFor}
use Rattle.editor_bridge.proofs.ChangeLemmas.{AreInTurn-front, AreInTurn-back, StandsFor-meet, StandsFor-append}
use Rattle.editor_bridge.proofs.carrying.+compose_all.Goals as goal

-- the two halves are the whole
halves : (deltas front back : List Cells) (half : ℕ) → front ≡ take half deltas → back ≡ drop half deltas → deltas ≡ front ++ back
halves deltas front back half f b = sym (take-append-drop half deltas) ∙ ap₂ (λ xs ys. xs ++ ys) (sym f) (sym b)

pub compose_all-requires : goal.compose_all-requires
compose_all-requires t c =
    let deltas : List Cells = c.args.deltas.now in
    let front : List Cells = c.split_at.result.0.now in
    let back : List Cells = c.split_at.result.1.now in
    let whole : deltas ≡ front ++ back = halves deltas front back (length deltas / 2) c.split_at.ensures.front c.split_at.ensures.back in
    let some : 0 < length front = omega arith in
    let smaller : length front < t = omega arith in
    (smaller, (some, AreInTurn-front front back (subst AreInTurn whole c.requires.in_turn)))

pub compose_all-requires-2 : goal.compose_all-requires-2
compose_all-requires-2 t c =
    let deltas : List Cells = c.args.deltas.now in
    let front : List Cells = c.split_at.result.0.now in
    let back : List Cells = c.split_at.result.1.now in
    let whole : deltas ≡ front ++ back = halves deltas front back (length deltas / 2) c.split_at.ensures.front c.split_at.ensures.back in
    let some : 0 < length back = omega arith in
    let smaller : length back < t = omega arith in
    (smaller, (some, AreInTurn-back front back (subst AreInTurn whole c.requires.in_turn)))

pub compose-requires : goal.compose-requires
compose-requires t c =
    let deltas : List Cells = c.args.deltas.now in
    let front : List Cells = c.split_at.result.0.now in
    let back : List Cells = c.split_at.result.1.now in
    let whole : deltas ≡ front ++ back = halves deltas front back (length deltas / 2) c.split_at.ensures.front c.split_at.ensures.back in
    StandsFor-meet front back c.in_ok-first.first c.in_ok-second.second (omega arith) (omega arith)
    (subst AreInTurn whole c.requires.in_turn) c.in_ok-first.ensures c.in_ok-second.ensures

pub returns : goal.returns
returns t c =
    let deltas : List Cells = c.args.deltas.now in
    let front : List Cells = c.split_at.result.0.now in
    let back : List Cells = c.split_at.result.1.now in
    let first : Cells = c.in_ok-first.first in
    let second : Cells = c.in_ok-second.second in
    let whole : deltas ≡ front ++ back = halves deltas front back (length deltas / 2) c.split_at.ensures.front c.split_at.ensures.back in
    let fits = StandsFor-meet front back first second (omega arith) (omega arith) (subst AreInTurn whole c.requires.in_turn)
    c.in_ok-first.ensures c.in_ok-second.ensures in
    IfOk-weaker c.compose.result (λ d. d ≡ composed first second) (StandsFor deltas)
    (λ d is. subst (λ l. StandsFor l d) (sym whole) (StandsFor-append front back first second d c.in_ok-first.ensures c.in_ok-second.ensures fits is))
    c.compose.ensures
