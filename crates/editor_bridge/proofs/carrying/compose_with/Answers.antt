use Rattle.std.proofs.Common.{◌≡◌, ◌<◌, ◌∷◌, ◌++◌, [], List, length, refl, arith}
use Rattle.std.proofs.lemmas.Result.{IfOk-weaker}
use Rattle.delta.specs.Cells.{Cells, base_length, result_length}
use Rattle.delta.specs.Marks.{composed}
use Rattle.editor_bridge.specs.Carrying.{StandsFor}
use Rattle.editor_bridge.proofs.ChangeLemmas.{AreInTurn-front, StandsFor-one, StandsFor-meet, StandsFor-append}
use Rattle.editor_bridge.proofs.carrying.compose_with.Goals as goal

pub compose_all-requires : goal.compose_all-requires
compose_all-requires c =
    record { some = grind arith; in_turn = AreInTurn-front c.args.shown.now (c.args.p.now ∷ []) c.requires }

pub compose-requires : goal.compose-requires
compose-requires c =
    let p : Cells = c.args.p.now in
    StandsFor-meet c.args.shown.now (p ∷ []) c.in_ok-all.all p (grind arith) (omega arith) c.requires c.in_ok-all.ensures (StandsFor-one p p refl)

pub returns-in_ok-all : goal.returns-in_ok-all
returns-in_ok-all c =
    let shown : List Cells = c.args.shown.now in
    let p : Cells = c.args.p.now in
    let all : Cells = c.in_ok-all.all in
    let some : 0 < length shown = grind arith in
    let fits : result_length all ≡ base_length p = StandsFor-meet shown (p ∷ []) all p some (omega arith) c.requires c.in_ok-all.ensures (StandsFor-one p p refl) in
    IfOk-weaker c.compose.result (λ d. d ≡ composed all p) (StandsFor (shown ++ p ∷ []))
    (λ d is. StandsFor-append shown (p ∷ []) all p d c.in_ok-all.ensures (StandsFor-one p p refl) fits is)
    c.compose.ensures
