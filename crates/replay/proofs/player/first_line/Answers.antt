use Rattle.std.proofs.Common.{◌∙◌, ◌+◌, sym, ap, ◌++◌, ◌∷◌, take}
use Rattle.std.proofs.lemmas.List.{take_rest}
use Rattle.replay.proofs.LineCuts.{no_newline, newline_cuts}
use Rattle.replay.proofs.player.first_line.Goals as goal

pub returns-in_err-place : goal.returns-in_err-place
returns-in_err-place c = rw c.from_residual.ensures (no_newline c.args.bytes.now (sym c.newline_place.ensures ∙ c.in_err-place.was))

pub returns : goal.returns
returns c =
    let bytes = c.args.bytes.now in
    let place = c.in_ok-place.place in
    let cut = newline_cuts bytes place (sym c.newline_place.ensures ∙ c.in_ok-place.was) in
    (cut.0 ∙ ap (λ rest. take place bytes ++ 10 ∷ rest) (sym (take_rest bytes (place + 1))), cut.1)
