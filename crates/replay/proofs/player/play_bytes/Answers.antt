use Rattle.std.proofs.Common.{Some, ap, ◌∙◌}
use Rattle.replay.proofs.LineEnds.{move_played, nothing_asked}
use Rattle.replay.proofs.player.play_bytes.Goals as goal

pub returns-in_ok-play-in-Some : goal.returns-in_ok-play-in-Some
returns-in_ok-play-in-Some c = λ reader w stands.
    move_played reader w _ _ _ c.in-Some.moved (c.in_ok-moved.ensures ∙ ap Some c.in-Some.is) (c.in_ok-play-in-Some.ensures.plays reader w stands)

pub returns-in-None : goal.returns-in-None
returns-in-None c = λ reader w stands. nothing_asked reader w _ _ _ (c.in_ok-moved.ensures ∙ ap Some c.in-None.is) c.new.ensures.bytes stands
