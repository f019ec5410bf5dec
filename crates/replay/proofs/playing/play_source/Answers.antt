use Rattle.replay.proofs.Pieced.{nothing_begun}
use Rattle.replay.proofs.playing.play_source.Goals as goal

pub returns-in_err-player : goal.returns-in_err-player
returns-in_err-player g c = nothing_begun _ _ _ _ c.requires c.from_residual.ensures.1

pub returns-in_err-buf : goal.returns-in_err-buf
returns-in_err-buf g c = nothing_begun _ _ _ _ c.requires c.from_residual-in_err-buf.ensures.1
