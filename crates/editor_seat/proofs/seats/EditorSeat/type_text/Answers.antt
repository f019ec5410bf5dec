use Rattle.std.proofs.Common.{◌+◌, ◌≤◌, length, ap, subst, arith}
use Rattle.editor_client.specs.Editor.{change_at}
use Rattle.frame_world.specs.Laws.{TellsOf}
use Rattle.kept_world.specs.Worlds.{KeptEditor}
use Rattle.editor_seat.proofs.SeatLemmas.{tells_of}
use Rattle.editor_seat.proofs.seats.EditorSeat.type_text.Goals as goal

pub returns-in-Some-clause-tells : goal.returns-in-Some-clause-tells
returns-in-Some-clause-tells c =
    let change = change_at c.args.place c.args.gone c.args.text.now in
    let within : c.args.place + c.args.gone ≤ length c.self.inside.client.text =
    omega (arith, c.len-length.ensures, ap length c.shown.ensures, c.if-place-length.false, c.if-gone-length.false) in
    subst (λ (k : KeptEditor). TellsOf k.seat.client change) c.self.view_is
    (tells_of c.self.inside.client change c.in_ok-body.field-0 (omega arith) within c.in_ok-body.ensures.body c.in_ok-body.ensures.back)
