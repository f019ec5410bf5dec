-- The loop over the pieces of a script: where it stands, and what each of its ends says of the bytes taken.
use Rattle.std.proofs.Common.{◌≡◌, ◌≤◌, ℕ, ◌+◌, true, List, [], ◌++◌, length, take, min, None, Result, Ok, Err, IsErrAnd, refl, sym, ap, ◌∙◌, subst, append_assoc, arith}
use Rattle.std.proofs.lemmas.List.{append-nil, length-append, length-take-le}
use Rattle.std.proofs.lemmas.List.Sums.{fold-append}
use Rattle.std.specs.List.{list_all}
use Rattle.outside.proofs.ToldLemmas.{append_known_nothing, append_known_more, prepend_known_nothing, prepend_known_more}
use Rattle.outside.specs.SinkMeaning.{SinkMeaning}
use Rattle.outside.specs.SourceMeaning.{SourceMeaning}
use Rattle.outside.specs.Takes.{Takes}
use Rattle.std.specs.Io.KnownBytes.{append_known, prepend_known}
use Rattle.outside.specs.declared.sources.Took.TheVariants as Took
use Rattle.daemon_world.specs.Worlds.{new_world}
use Rattle.kept_world.proofs.LawLemmas.{beginnings_are_alike}
use Rattle.plain_world.specs.Base.{script_base}
use Rattle.plain_world.specs.RawFrames.{Reader}
use Rattle.plain_world.specs.World.{beginning}
use Rattle.plain_world.proofs.Readers.{there_is_a_reader}
use Rattle.replay.specs.Ending.{StandsFor, run_at, GaveBytes, WroteOutput, StopsShort, PieceSo, PlaysToRefused, PlaysPiece, EndsRefused, EndsSource, EndedSo, printed_next}
use Rattle.replay.specs.Script.{Run, Lines, lines_of, next, not_started, run_on, run_over, is_inner, most_bytes}
use Rattle.replay.specs.declared.faults.ReplayFault.{ReplayFault}
use Rattle.replay.specs.declared.faults.ReplayFault.TheVariants.{NotAMove, NotPossible, SinkFailed, Memory}
use Rattle.replay.specs.declared.player.Player.{Player}
use Rattle.replay.proofs.LineCuts.{lines_more, rest_inner}
use Rattle.replay.proofs.LineEnds.{err_is}
use Rattle.replay.proofs.Runs.{ahead, fold-ahead}

-- all lines that end in these bytes were played, and their output written
pub record TakenSo (reader : Reader) (k k' : SinkMeaning) (player : Player) (bytes : List ℕ) : Type 0 where
  pub going : (run_over reader bytes).stop ≡ None
  pub tied : StandsFor player.world (run_over reader bytes).world
  pub line : player.line ≡ (run_over reader bytes).line
  pub pending : player.pending.items ≡ (lines_of bytes).rest
  pub written : WroteOutput reader k k' bytes

-- so many bytes were taken, and all lines that end in them were played and their output written
pub record TakenTo (s s' : SourceMeaning) (k k' : SinkMeaning) (player : Player) (count : ℕ) : Type 0 where
  pub source_same : s'.faults ≡ s.faults
  pub sink_same : k'.faults ≡ k.faults
  pub bytes : List ℕ
  pub count_is : length bytes ≡ count
  pub gave : GaveBytes s s' bytes
  pub ended : s'.ended ≡ s.ended
  pub few_lines : player.line ≤ count
  pub within : count ≤ most_bytes
  pub so : (reader : Reader) → TakenSo reader k k' player bytes

pub nothing_taken : (s : SourceMeaning) (k : SinkMeaning) (player : Player) → player.world ≡ new_world → player.pending.items ≡ [] → player.line ≡ 0 → TakenTo s s k k player 0
nothing_taken s k player world pending line =
    record {
      source_same = refl;
      sink_same = refl;
      bytes = [];
      count_is = refl;
      gave = sym (prepend_known_nothing s.left);
      ended = refl;
      few_lines = omega arith;
      within = omega arith;
      so = λ reader. record {
        going = refl;
        tied = subst (λ v. StandsFor v beginning) (sym world) (beginnings_are_alike script_base);
        line = line;
        pending = pending;
        written = sym (append_known_nothing k.written);
      };
    }

-- the bytes begun have no LF
pub pending_inner : (s s' : SourceMeaning) (k k' : SinkMeaning) (player : Player) (count : ℕ) → TakenTo s s' k k' player count → list_all is_inner player.pending.items ≡ true
pending_inner s s' k k' player count to = ap (list_all is_inner) (to.so there_is_a_reader).pending ∙ rest_inner to.bytes

run_is_ahead : (run : Run) (line : ℕ) → line ≡ run.line → run.stop ≡ None → run ≡ ahead run.printed (run_at run.world line)
run_is_ahead run line line_is going = λ i. record { world = run.world; printed = sym (append-nil run.printed) i; line = sym line_is i; stop = going i }

-- one piece more, for one reader
module _ (reader : Reader) (k k' : SinkMeaning) (player : Player) (bytes piece : List ℕ) (to : TakenSo reader k k' player bytes) where
  abbrev pub before : Run
  before = run_over reader bytes

  abbrev start : Run
  start = run_at before.world player.line

  abbrev lines : Lines
  lines = lines_of (player.pending.items ++ piece)

  lines_are : lines_of (bytes ++ piece) ≡ record { whole = (lines_of bytes).whole ++ lines.whole; rest = lines.rest }
  lines_are =
      lines_more bytes piece
      ∙ ap (λ pending. record { whole = (lines_of bytes).whole ++ (lines_of (pending ++ piece)).whole; rest = (lines_of (pending ++ piece)).rest }) (sym to.pending)

  run_after : (done : List (List ℕ)) → run_on reader not_started ((lines_of bytes).whole ++ done) ≡ ahead before.printed (run_on reader start done)
  run_after done =
      fold-append (next reader) not_started (lines_of bytes).whole done
      ∙ ap (λ run. run_on reader run done) (run_is_ahead before player.line to.line to.going)
      ∙ fold-ahead reader before.printed done start

  run_is : run_over reader (bytes ++ piece) ≡ ahead before.printed (run_on reader start lines.whole)
  run_is = ap (λ l. run_on reader not_started l.whole) lines_are ∙ run_after lines.whole

  output : (k'' : SinkMeaning) → k''.written ≡ append_known k'.written (run_on reader start lines.whole).printed → WroteOutput reader k k'' (bytes ++ piece)
  output k'' wrote =
      wrote
      ∙ ap (λ w. append_known w (run_on reader start lines.whole).printed) to.written
      ∙ append_known_more k.written before.printed (run_on reader start lines.whole).printed
      ∙ ap (append_known k.written) (sym (ap (λ run. run.printed) run_is))

  pub taken_on : (player' : Player) (k'' : SinkMeaning) → PieceSo reader start player' k' k'' lines (Ok tt) → TakenSo reader k k'' player' (bytes ++ piece)
  taken_on player' k'' so =
      record {
        going = ap (λ run. run.stop) run_is ∙ so.going;
        tied = subst (λ run. StandsFor player'.world run.world) (sym run_is) so.tied;
        line = so.line ∙ sym (ap (λ run. run.line) run_is);
        pending = so.pending ∙ sym (ap (λ l. l.rest) lines_are);
        written = output k'' so.written;
      }

  abbrev stops_short : (k'' : SinkMeaning) (done : List (List ℕ)) → StopsShort reader start lines.whole done k' k''
      → StopsShort reader not_started (lines_of (bytes ++ piece)).whole ((lines_of bytes).whole ++ done) k k''
  stops_short k'' done stops =
      let here = run_on reader start done in
      let front = take stops.count (printed_next reader here.world stops.left) in
      record {
        left = stops.left;
        lines_are =
            ap (λ l. l.whole) lines_are ∙ ap (λ ls. (lines_of bytes).whole ++ ls) stops.lines_are
            ∙ sym (append_assoc (lines_of bytes).whole done stops.left);
        going = ap (λ run. run.stop) (run_after done) ∙ stops.going;
        count = stops.count;
        written =
            stops.written ∙ ap (λ w. append_known w (here.printed ++ front)) to.written
            ∙ append_known_more k.written before.printed (here.printed ++ front)
            ∙ ap (append_known k.written) (sym (append_assoc before.printed here.printed front))
            ∙ ap (λ run. append_known k.written (run.printed ++ take stops.count (printed_next reader run.world stops.left))) (sym (run_after done));
      }

  refused_so : (s s' : SourceMeaning) (player' : Player) (k'' : SinkMeaning) (cause : ReplayFault) → s'.ended ≡ s.ended → PlaysToRefused reader start player' k' k'' lines cause
      → EndsRefused reader s s' k k'' (bytes ++ piece) cause player'.line
  refused_so s s' player' k'' cause goes_on so =
      record {
        refused = record { stopped = ap (λ run. run.stop) run_is ∙ so.stopped; first = so.line ∙ ap (λ run. run.line + 1) (sym run_is) };
        output = output k'' so.written;
        goes_on = goes_on;
      }

  -- what each end of a piece says of how much was taken
  pub ends_so : (s s' : SourceMeaning) (player' : Player) (k'' : SinkMeaning) (cause : ReplayFault) → s'.ended ≡ s.ended → k'.faults ≡ k.faults
      → PieceSo reader start player' k' k'' lines (Err cause) → EndedSo reader s s' k k'' (bytes ++ piece) (Err cause) player'.line
  ends_so s s' player' k'' NotAMove goes_on same so = refused_so s s' player' k'' NotAMove goes_on so
  ends_so s s' player' k'' NotPossible goes_on same so = refused_so s s' player' k'' NotPossible goes_on so
  ends_so s s' player' k'' SinkFailed goes_on same so =
      record {
        done = (lines_of bytes).whole ++ so.done;
        stops = stops_short k'' so.done so.stops;
        short = omega (arith, so.short, ap (λ run. length (printed_next reader run.world so.stops.left)) (run_after so.done));
        last = so.line ∙ ap (λ run. run.line + 1) (sym (run_after so.done));
        rose = omega (arith, same, so.rose);
        goes_on = goes_on;
      }
  ends_so s s' player' k'' Memory goes_on same so =
      record {
        done = (lines_of bytes).whole ++ so.done;
        stops = stops_short k'' so.done so.stops;
        last = so.line ∙ ap (λ run. run.line + min 1 (length so.stops.left)) (sym (run_after so.done));
        goes_on = goes_on;
      }
  ends_so s s' player' k'' other goes_on same so = absurd so

-- one piece more
module _ (s s' s'' : SourceMeaning) (k k' : SinkMeaning) (player : Player) (count : ℕ) (to : TakenTo s s' k k' player count) (buf : List ℕ) (n : ℕ) (takes : Takes s' s'' buf (Took.Bytes n))
    (within : count + n ≤ most_bytes) where
  gave : GaveBytes s s'' (to.bytes ++ take n buf)
  gave = to.gave ∙ ap (prepend_known to.bytes) takes.so.left ∙ prepend_known_more s''.left to.bytes (take n buf)

  size : length (to.bytes ++ take n buf) ≡ count + n
  size = omega (arith, length-append to.bytes (take n buf), to.count_is, length-take-le n buf takes.so.fits)

  pub pieced_on : (player' : Player) (k'' : SinkMeaning) → PlaysPiece player player' k' k'' (take n buf) (Ok tt) → TakenTo s s'' k k'' player' (count + n)
  pieced_on player' k'' plays =
      record {
        source_same = takes.so.faults ∙ to.source_same;
        sink_same = plays.counts.kept (λ failed. cc) ∙ to.sink_same;
        bytes = to.bytes ++ take n buf;
        count_is = size;
        gave = gave;
        ended = takes.so.ended ∙ to.ended;
        few_lines = omega (arith, plays.few_lines, to.few_lines, length-take-le n buf takes.so.fits);
        within = within;
        so = λ reader.
            let here = to.so reader in
            taken_on reader k k' player to.bytes (take n buf) here player' k'' (plays.so reader (run_over reader to.bytes).world here.tied);
      }

  -- a piece was not played whole
  pub piece_stops : (player' : Player) (k'' : SinkMeaning) (cause : ReplayFault) (result : Result (Unit {0}) ReplayFault) → IsErrAnd result (λ given. given ≡ cause)
      → PlaysPiece player player' k' k'' (take n buf) (Err cause) → EndsSource s s'' k k'' result player'.line
  piece_stops player' k'' cause result is plays =
      subst (λ r. EndsSource s s'' k k'' r player'.line) (sym (err_is result cause is))
      (record {
        taken = to.bytes ++ take n buf;
        gave = gave;
        few = omega (arith, size);
        source_kept = λ _. takes.so.faults ∙ to.source_same;
        sink_kept = λ not_failed. plays.counts.kept not_failed ∙ to.sink_same;
        so = λ reader.
            let here = to.so reader in
            ends_so reader k k' player to.bytes (take n buf) here s s'' player' k'' cause (takes.so.ended ∙ to.ended) to.sink_same
            (plays.so reader (run_over reader to.bytes).world here.tied);
      })

-- memory ran out before anything was taken
pub nothing_begun : (s : SourceMeaning) (k : SinkMeaning) (line : ℕ) (result : Result (Unit {0}) ReplayFault) → line ≡ 0 → IsErrAnd result (λ given. given ≡ Memory)
    → EndsSource s s k k result line
nothing_begun s k line result none is =
    subst (λ r. EndsSource s s k k r line) (sym (err_is result Memory is))
    (record {
      taken = [];
      gave = sym (prepend_known_nothing s.left);
      few = omega arith;
      source_kept = λ _. refl;
      sink_kept = λ _. refl;
      so = λ reader. record {
        done = [];
        stops = record { left = []; lines_are = refl; going = refl; count = 0; written = sym (append_known_nothing k.written) };
        last = none;
        goes_on = refl;
      };
    })
