-- The loop over the lines of a piece: where it stands, and what each of its ends says of the whole piece.
use Rattle.std.proofs.Common.{◌≡◌, ◌≤◌, ℕ, ◌+◌, true, List, [], ◌∷◌, ◌++◌, length, take, None, Result, Ok, Err, IsErrAnd, refl, sym, ap, ◌∙◌, subst, append_assoc, arith}
use Rattle.std.proofs.lemmas.List.{append-nil, length-append}
use Rattle.std.proofs.lemmas.List.Sums.{fold-append}
use Rattle.std.specs.List.{list_all}
use Rattle.outside.proofs.ToldLemmas.{append_known_nothing, append_known_more}
use Rattle.outside.specs.SinkMeaning.{SinkMeaning}
use Rattle.std.specs.Io.KnownBytes.{append_known}
use Rattle.plain_world.specs.Handling.{Played}
use Rattle.plain_world.specs.RawFrames.{Reader}
use Rattle.plain_world.specs.World.{World}
use Rattle.replay.specs.Ending.{StandsFor, run_at, printed_by, WroteFront, StopsShort, LineSo, PlaysLine, PieceSo, PlaysToRefused, PlaysPiece}
use Rattle.replay.specs.Script.{Run, Lines, lines_of, next, goes_on, moved_on, line_played, is_inner, run_on}
use Rattle.replay.specs.declared.faults.ReplayFault.{ReplayFault}
use Rattle.replay.specs.declared.faults.ReplayFault.TheVariants.{NotAMove, NotPossible, SinkFailed, Memory}
use Rattle.replay.specs.declared.player.Player.{Player}
use Rattle.replay.proofs.LineCuts.{line_ended, line_begun, inner_append}
use Rattle.replay.proofs.LineEnds.{err_is}
use Rattle.replay.proofs.Runs.{fold-stopped}

-- the lines of a piece, with the bytes begun before it
abbrev pub lines_from : Player → List ℕ → Lines
lines_from player piece = lines_of (player.pending.items ++ piece)

-- the lines `done` of the piece were played from a world on, and their output written; the rest is still to come
pub record PlayedSo (reader : Reader) (w : World) (first player : Player) (before now : SinkMeaning) (piece rest : List ℕ) : Type 0 where
  pub done : List (List ℕ)
  pub whole : (lines_from first piece).whole ≡ done ++ (lines_from player rest).whole
  pub behind : (lines_from first piece).rest ≡ (lines_from player rest).rest
  pub going : (run_on reader (run_at w first.line) done).stop ≡ None
  pub tied : StandsFor player.world (run_on reader (run_at w first.line) done).world
  pub line : player.line ≡ (run_on reader (run_at w first.line) done).line
  pub written : now.written ≡ append_known before.written (run_on reader (run_at w first.line) done).printed

-- the same from whichever world the first player stands for
pub record PlayedTo (first player : Player) (before now : SinkMeaning) (piece rest : List ℕ) : Type 0 where
  pub same : now.faults ≡ before.faults
  pub inner : list_all is_inner player.pending.items ≡ true
  pub fits : player.line + length rest ≤ first.line + length piece
  pub so : (reader : Reader) (w : World) → StandsFor first.world w → PlayedSo reader w first player before now piece rest

pub nothing_played : (first : Player) (m : SinkMeaning) (piece : List ℕ) → list_all is_inner first.pending.items ≡ true → PlayedTo first first m m piece piece
nothing_played first m piece inner =
    record {
      same = refl;
      inner = inner;
      fits = omega arith;
      so = λ reader w tied. record {
        done = [];
        whole = refl;
        behind = refl;
        going = refl;
        tied = tied;
        line = refl;
        written = sym (append_known_nothing m.written);
      };
    }

-- a line that ends in the rest, and what follows it
pub record EndsLine (rest line after : List ℕ) : Type 0 where
  pub cut : rest ≡ line ++ 10 ∷ after
  pub inner : list_all is_inner line ≡ true

-- the player before its next line, from one world on
module _ (reader : Reader) (w : World) (first player : Player) (before now : SinkMeaning) (piece rest line after : List ℕ)
    (to : PlayedSo reader w first player before now piece rest) (inner : list_all is_inner player.pending.items ≡ true) (ends : EndsLine rest line after) where
  abbrev start : Run
  start = run_at w first.line

  abbrev pub run : Run
  run = run_on reader start to.done

  abbrev pub begun : List ℕ
  begun = player.pending.items ++ line

  lines_cut : lines_from player rest ≡ record { whole = begun ∷ (lines_of after).whole; rest = (lines_of after).rest }
  lines_cut =
      ap lines_of (ap (λ r. player.pending.items ++ r) ends.cut ∙ sym (append_assoc player.pending.items line (10 ∷ after)))
      ∙ line_ended (player.pending.items ++ line) after (inner_append player.pending.items line inner ends.inner)

  whole_is : (lines_from first piece).whole ≡ to.done ++ begun ∷ (lines_of after).whole
  whole_is = to.whole ∙ ap (λ l. to.done ++ l.whole) lines_cut

  -- the machine at the line
  at_line : (played : Result Played ReplayFault) → line_played reader run.world begun ≡ played → next reader run begun ≡ moved_on run played
  at_line played is = ap (λ s. goes_on reader s run begun) to.going ∙ ap (moved_on run) is

  run_further : (played : Result Played ReplayFault) → line_played reader run.world begun ≡ played → run_on reader start (to.done ++ begun ∷ []) ≡ moved_on run played
  run_further played is = fold-append (next reader) start to.done (begun ∷ []) ∙ at_line played is

  pub played_so : (player' : Player) (new : SinkMeaning) → LineSo reader run.world player'.world now new begun (Ok tt) → player'.line ≡ player.line + 1
      → player'.pending.items ≡ [] → PlayedSo reader w first player' before new piece after
  played_so player' new so line_is emptied =
      let further = run_further (Ok so.played) so.is in
      record {
        done = to.done ++ begun ∷ [];
        whole =
            whole_is ∙ sym (append_assoc to.done (begun ∷ []) (lines_of after).whole)
            ∙ ap (λ pending. (to.done ++ begun ∷ []) ++ (lines_of (pending ++ after)).whole) (sym emptied);
        behind = to.behind ∙ ap (λ l. l.rest) lines_cut ∙ ap (λ pending. (lines_of (pending ++ after)).rest) (sym emptied);
        going = ap (λ r. r.stop) further;
        tied = subst (λ r. StandsFor player'.world r.world) (sym further) so.tied;
        line = line_is ∙ ap (λ n. n + 1) to.line ∙ sym (ap (λ r. r.line) further);
        written =
            so.written ∙ ap (λ w. append_known w so.played.printed) to.written
            ∙ append_known_more before.written run.printed so.played.printed
            ∙ ap (append_known before.written) (sym (ap (λ r. r.printed) further));
      }

  -- of the line's output a front was written
  abbrev front_written : (new : SinkMeaning) → WroteFront now new (printed_by (line_played reader run.world begun))
      → StopsShort reader start (lines_from first piece).whole to.done before new
  front_written new wrote =
      let front = take wrote.0 (printed_by (line_played reader run.world begun)) in
      record {
        left = begun ∷ (lines_of after).whole;
        lines_are = whole_is;
        going = to.going;
        count = wrote.0;
        written = wrote.1 ∙ ap (λ w. append_known w front) to.written ∙ append_known_more before.written run.printed front;
      }

  stopped : (cause : ReplayFault) → line_played reader run.world begun ≡ Err cause → run_on reader start (lines_from first piece).whole ≡ moved_on run (Err cause)
  stopped cause is =
      ap (run_on reader start) whole_is
      ∙ fold-append (next reader) start to.done (begun ∷ (lines_of after).whole)
      ∙ ap (λ r. run_on reader r (lines_of after).whole) (at_line (Err cause) is)
      ∙ fold-stopped reader (lines_of after).whole (moved_on run (Err cause)) cause refl

  refused : (player' : Player) (new : SinkMeaning) (cause : ReplayFault) → line_played reader run.world begun ≡ Err cause → new.written ≡ now.written
      → player'.line ≡ player.line + 1 → PlaysToRefused reader start player' before new (lines_from first piece) cause
  refused player' new cause is nothing line_is =
      let end = stopped cause is in
      record {
        stopped = ap (λ r. r.stop) end;
        line = line_is ∙ ap (λ n. n + 1) (to.line ∙ sym (ap (λ r. r.line) end));
        written = nothing ∙ to.written ∙ ap (append_known before.written) (sym (ap (λ r. r.printed) end));
      }

  -- a line that ends the piece, by its end
  pub ended_so : (player' : Player) (new : SinkMeaning) (cause : ReplayFault) → now.faults ≡ before.faults → LineSo reader run.world player'.world now new begun (Err cause)
      → player'.line ≡ player.line + 1 → PieceSo reader start player' before new (lines_from first piece) (Err cause)
  ended_so player' new NotAMove same so line_is = refused player' new NotAMove so.0 so.1 line_is
  ended_so player' new NotPossible same so line_is = refused player' new NotPossible so.0 so.1 line_is
  ended_so player' new SinkFailed same so line_is =
      record {
        done = to.done;
        stops = front_written new (so.0.count, so.0.written);
        short = so.0.short;
        line = line_is ∙ ap (λ n. n + 1) to.line;
        rose = omega (arith, so.1, same);
      }
  ended_so player' new Memory same so line_is =
      record { done = to.done; stops = front_written new so.0; line = omega (arith, line_is, to.line) }
  ended_so player' new other same so line_is = absurd so

-- one line more was played
pub played_on : (first player player' : Player) (before now new : SinkMeaning) (piece rest line after : List ℕ) → PlayedTo first player before now piece rest → EndsLine rest line after
    → PlaysLine player.world player'.world now new (player.pending.items ++ line) (Ok tt) → player'.line ≡ player.line + 1 → player'.pending.items ≡ []
    → PlayedTo first player' before new piece after
played_on first player player' before now new piece rest line after to ends plays line_is emptied =
    record {
      same = plays.counts.kept (λ failed. cc) ∙ to.same;
      inner = ap (λ pending. list_all is_inner pending) emptied;
      fits = omega (arith, ap length ends.cut, length-append line (10 ∷ after), to.fits);
      so = λ reader w tied.
          let here = to.so reader w tied in
          played_so reader w first player before now piece rest line after here to.inner ends player' new
          (plays.so reader (run_on reader (run_at w first.line) here.done).world here.tied) line_is emptied;
    }

-- a line was not played whole
pub piece_ended : (first player player' : Player) (before now new : SinkMeaning) (piece rest line after : List ℕ) (cause : ReplayFault) (result : Result (Unit {0}) ReplayFault)
    → IsErrAnd result (λ given. given ≡ cause) → PlayedTo first player before now piece rest → EndsLine rest line after
    → PlaysLine player.world player'.world now new (player.pending.items ++ line) (Err cause) → player'.line ≡ player.line + 1 → PlaysPiece first player' before new piece result
piece_ended first player player' before now new piece rest line after cause result is to ends plays line_is =
    subst (λ r. PlaysPiece first player' before new piece r) (sym (err_is result cause is))
    (record {
      counts = record { later = omega (arith, plays.counts.later, to.same); kept = λ not_failed. plays.counts.kept not_failed ∙ to.same };
      few_lines = omega (arith, ap length ends.cut, length-append line (10 ∷ after), to.fits);
      so = λ reader w tied.
          let here = to.so reader w tied in
          ended_so reader w first player before now piece rest line after here to.inner ends player' new cause to.same
          (plays.so reader (run_on reader (run_at w first.line) here.done).world here.tied) line_is;
    })

-- memory ran out before the line was played
pub line_not_kept : (first player player' : Player) (before now : SinkMeaning) (piece rest line after : List ℕ) (result : Result (Unit {0}) ReplayFault)
    → IsErrAnd result (λ given. given ≡ Memory) → PlayedTo first player before now piece rest → EndsLine rest line after
    → player'.line ≡ player.line + 1 → PlaysPiece first player' before now piece result
line_not_kept first player player' before now piece rest line after result is to ends line_is =
    subst (λ r. PlaysPiece first player' before now piece r) (sym (err_is result Memory is))
    (record {
      counts = record { later = omega (arith, to.same); kept = λ _. to.same };
      few_lines = omega (arith, ap length ends.cut, length-append line (10 ∷ after), to.fits);
      so = λ reader w tied.
          let here = to.so reader w tied in
          record {
            done = here.done;
            stops = front_written reader w first player before now piece rest line after here to.inner ends now (0, sym (append_known_nothing now.written));
            line = omega (arith, line_is, here.line);
          };
    })

-- no line ends in the rest
module _ (first player player' : Player) (before now : SinkMeaning) (piece rest : List ℕ) (to : PlayedTo first player before now piece rest) (inner : list_all is_inner rest ≡ true)
    (same_line : player'.line ≡ player.line) where
  begun_only : lines_from player rest ≡ record { whole = []; rest = player.pending.items ++ rest }
  begun_only = line_begun (player.pending.items ++ rest) (inner_append player.pending.items rest to.inner inner)

  pub piece_begun : player'.world ≡ player.world → player'.pending.items ≡ player.pending.items ++ rest → PlaysPiece first player' before now piece (Ok tt)
  piece_begun same_world kept =
      record {
        counts = record { later = omega (arith, to.same); kept = λ _. to.same };
        few_lines = omega (arith, same_line, to.fits);
        so = λ reader w tied.
            let here = to.so reader w tied in
            let start = run_at w first.line in
            let whole : (lines_from first piece).whole ≡ here.done = here.whole ∙ ap (λ l. here.done ++ l.whole) begun_only ∙ append-nil here.done in
            let run : run_on reader start (lines_from first piece).whole ≡ run_on reader start here.done = ap (run_on reader start) whole in
            record {
              going = ap (λ r. r.stop) run ∙ here.going;
              tied = subst (λ v. StandsFor v (run_on reader start (lines_from first piece).whole).world) (sym same_world) (subst (λ r. StandsFor player.world r.world) (sym run) here.tied);
              pending = kept ∙ sym (here.behind ∙ ap (λ l. l.rest) begun_only);
              line = same_line ∙ here.line ∙ sym (ap (λ r. r.line) run);
              written = here.written ∙ ap (append_known before.written) (sym (ap (λ r. r.printed) run));
            };
      }

  -- memory ran out for the bytes behind the last LF
  pub rest_not_kept : (result : Result (Unit {0}) ReplayFault) → IsErrAnd result (λ given. given ≡ Memory) → PlaysPiece first player' before now piece result
  rest_not_kept result is =
      subst (λ r. PlaysPiece first player' before now piece r) (sym (err_is result Memory is))
      (record {
        counts = record { later = omega (arith, to.same); kept = λ _. to.same };
        few_lines = omega (arith, same_line, to.fits);
        so = λ reader w tied.
            let here = to.so reader w tied in
            record {
              done = here.done;
              stops = record {
                left = [];
                lines_are = here.whole ∙ ap (λ l. here.done ++ l.whole) begun_only;
                going = here.going;
                count = 0;
                written = here.written ∙ ap (append_known before.written) (sym (append-nil (run_on reader (run_at w first.line) here.done).printed));
              };
              line = omega (arith, same_line, here.line);
            };
      })
