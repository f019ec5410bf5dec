-- What the playing of a line does: by what its reading and its move answer, and by how far its output was written.
use Rattle.std.proofs.Common.{◌≡◌, ◌<◌, ℕ, List, [], length, Some, None, Result, Ok, Err, IsErrAnd, refl, sym, ap, ◌∙◌, subst, arith}
use Rattle.std.specs.Io.KnownBytes.{append_known}
use Rattle.outside.proofs.ToldLemmas.{append_known_nothing}
use Rattle.outside.specs.SinkMeaning.{SinkMeaning}
use Rattle.daemon_world.specs.Worlds.{WorldView}
use Rattle.kept_world.specs.Laws.{Plays}
use Rattle.plain_world.specs.Base.{script_base}
use Rattle.plain_world.specs.Playing.{quietly}
use Rattle.plain_world.specs.RawFrames.{Reader}
use Rattle.plain_world.specs.World.{World}
use Rattle.replay_script.specs.declared.moves.Move.{Move}
use Rattle.replay.specs.Ending.{StandsFor, CountsFaults, NotPlayed, IsPlayedAs, LineSo, PlaysLine, WroteSo, WroteShort, WroteFront, printed_by}
use Rattle.replay.specs.Script.{bytes_ask, line_played, asked_played, or_not_possible}
use Rattle.replay.specs.declared.faults.ReplayFault.{ReplayFault}
use Rattle.replay.specs.declared.faults.ReplayFault.TheVariants.{NotAMove, NotPossible, SinkFailed, Memory}
use Rattle.replay.proofs.Asked.{printing_asks}

-- a line whose move was played
pub move_played : (reader : Reader) (w : World) (world' : WorldView) (line printed : List ℕ) (moved : Move) → bytes_ask line ≡ Some (Some moved)
    → Plays script_base reader w moved (record { world = world'.kept; printed = printed }) → IsPlayedAs reader w world' line printed
move_played reader w world' line printed moved asks plays =
    record { played = plays.next; is = ap (asked_played reader w) asks ∙ ap or_not_possible plays.is; tied = plays.tied; prints = plays.printed }

-- a line that asks for nothing
pub nothing_asked : (reader : Reader) (w : World) (world : WorldView) (line printed : List ℕ) → bytes_ask line ≡ Some None → printed ≡ [] → StandsFor world w
    → IsPlayedAs reader w world line printed
nothing_asked reader w world line printed asks none stands = record { played = quietly w; is = ap (asked_played reader w) asks; tied = stands; prints = none }

pub err_is : {V : Type 0} (r : Result V ReplayFault) (cause : ReplayFault) → IsErrAnd r (λ given. given ≡ cause) → r ≡ Err cause
err_is (Ok v) cause is = absurd is
err_is (Err e) cause is = ap Err is

-- a line that is not played prints nothing
line_refused : (reader : Reader) (w : World) (world' : WorldView) (m : SinkMeaning) (line : List ℕ) (cause : ReplayFault)
    → NotPlayed reader w line cause → LineSo reader w world' m m line (Err cause)
line_refused reader w world' m line NotAMove gives = (gives, refl)
line_refused reader w world' m line NotPossible gives = (gives, refl)
line_refused reader w world' m line Memory gives = ((0, sym (append_known_nothing m.written)), gives)
line_refused reader w world' m line other gives = absurd gives

pub line_not_played : (world world' : WorldView) (m : SinkMeaning) (line : List ℕ) (cause : ReplayFault)
    → ((reader : Reader) (w : World) → StandsFor world w → NotPlayed reader w line cause) → PlaysLine world world' m m line (Err cause)
line_not_played world world' m line cause gives =
    record {
      counts = record { later = omega arith; kept = λ _. refl };
      so = λ reader w stands. line_refused reader w world' m line cause (gives reader w stands);
    }

-- what a line prints was written so far
line_wrote : (reader : Reader) (w : World) (world' : WorldView) (old new : SinkMeaning) (line printed : List ℕ) (result : Result (Unit {0}) ReplayFault)
    → IsPlayedAs reader w world' line printed → WroteSo old new printed result → (result ≡ Err Memory → 0 < length printed) → LineSo reader w world' old new line result
line_wrote reader w world' old new line printed (Ok done) is wrote some =
    record { played = is.played; is = is.is; tied = is.tied; written = wrote ∙ ap (append_known old.written) is.prints }
line_wrote reader w world' old new line printed (Err SinkFailed) is wrote some =
    let same : printed ≡ printed_by (line_played reader w line) = is.prints ∙ sym (ap printed_by is.is) in
    (subst (λ (bytes : List ℕ). WroteShort old new bytes) same wrote.0, wrote.1)
line_wrote reader w world' old new line printed (Err Memory) is wrote some =
    let same : printed ≡ printed_by (line_played reader w line) = is.prints ∙ sym (ap printed_by is.is) in (
      subst (λ (bytes : List ℕ). WroteFront old new bytes) same wrote,
      printing_asks reader w line is.played is.is (subst (λ (bytes : List ℕ). 0 < length bytes) is.prints (some refl)),
    )
line_wrote reader w world' old new line printed other is wrote some = absurd wrote

pub line_written : (world world' : WorldView) (old new : SinkMeaning) (line bytes printed : List ℕ) (result : Result (Unit {0}) ReplayFault) → bytes ≡ printed
    → ((reader : Reader) (w : World) → StandsFor world w → IsPlayedAs reader w world' line printed) → CountsFaults old new result → WroteSo old new bytes result
    → (result ≡ Err Memory → 0 < length bytes) → PlaysLine world world' old new line result
line_written world world' old new line bytes printed result same plays counts wrote some =
    record {
      counts = counts;
      so = λ reader w stands.
          line_wrote reader w world' old new line printed result (plays reader w stands) (subst (λ (b : List ℕ). WroteSo old new b result) same wrote)
          (subst (λ (b : List ℕ). result ≡ Err Memory → 0 < length b) same some);
    }
