use Rattle.std.proofs.Common.{◌≡◌, sym, ap, ◌∙◌, string_bytes, ◌++◌}
use Rattle.kept_world.specs.Events.{KeptPlayed}
use Rattle.kept_world.specs.Moves.{then_played}
use Rattle.daemon_world.proofs.FedLemmas.{is_heard}
use Rattle.daemon_world.proofs.machine.Machine.hear.Goals as goal

pub returns : goal.returns
returns c = λ reader.
    let printed = string_bytes c.in_ok-printed.printed in
    let bodies : KeptPlayed = record { world = c.hear_bodies.new.self; printed = printed } in
    let told : string_bytes c.push_str.new.self ≡ printed ++ string_bytes c.in_ok-line.line =
    c.in_ok-push_str.ensures.bytes ∙ ap (λ line. printed ++ line) c.as_str.ensures.value in
    is_heard reader c.args.self.now c.read_piece.new.self c.args.d c.args.c c.args.piece.now c.in_ok-read.read bodies _ (c.in_ok-read.ensures reader)
    c.in_ok-printed.ensures
    (ap (λ lines. record { world = c.end_if.new.self; printed = lines }) told ∙ ap (then_played bodies) (sym c.in_ok-line.ensures))
