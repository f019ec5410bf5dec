-- What was written short of the whole output is a front of it.
use Rattle.std.proofs.Common.{◌≡◌, ◌-◌, ◌≤◌, ◌<◌, ℕ, ◌+◌, List, [], ◌∷◌, ◌++◌, length, take, drop, min, None, Result, Ok, Err, refl, sym, ap, ◌∙◌, append_assoc, arith}
use Rattle.std.proofs.Math.Seq.{take-append-add}
use Rattle.std.proofs.lemmas.List.{append-nil, length-append, length-take, take-append-drop, take-append-le, take_min}
use Rattle.std.proofs.lemmas.List.Sums.{fold-append}
use Rattle.outside.specs.SinkMeaning.{SinkMeaning}
use Rattle.plain_world.specs.Handling.{Played}
use Rattle.plain_world.specs.RawFrames.{Reader}
use Rattle.plain_world.specs.World.{World}
use Rattle.replay.specs.Ending.{StopsShort, printed_next, printed_by}
use Rattle.replay.specs.Script.{Run, lines_of, next, moved_on, goes_on, line_played, not_started, run_on}
use Rattle.replay.specs.Table.{IsFrontOf, IsShortOf, run_to}
use Rattle.replay.specs.declared.faults.ReplayFault.{ReplayFault}
use Rattle.replay.proofs.Runs.{printed_later, line_counts}

printed_moved : (run : Run) (played : Result Played ReplayFault) → (moved_on run played).printed ≡ run.printed ++ printed_by played
printed_moved run (Err cause) = sym (append-nil run.printed)
printed_moved run (Ok played) = refl

-- a front of what stands behind, clipped to its length, is a front of the whole
front_clipped : (a b more : List ℕ) (n : ℕ) → a ++ take n b ≡ take (length a + min n (length b)) (a ++ (b ++ more))
front_clipped a b more n =
    ap (λ t. a ++ t) (sym (take_min n b) ∙ sym (take-append-le (min n (length b)) b more (omega arith)))
    ∙ sym (take-append-add a (b ++ more) (min n (length b)))

-- where the next line prints something, there is one
pub next_is_there : (reader : Reader) (w : World) (left : List (List ℕ)) (n : ℕ) → n < length (printed_next reader w left) → min 1 (length left) ≡ 1
next_is_there reader w [] n h = absurd (omega arith)
next_is_there reader w (line ∷ left) n h = omega arith

module _ (reader : Reader) where
  -- what the machine has printed after the next line
  printed_at_next : (run : Run) (lines : List (List ℕ)) → run.stop ≡ None → (run_on reader run (take 1 lines)).printed ≡ run.printed ++ printed_next reader run.world lines
  printed_at_next run [] going = sym (append-nil run.printed)
  printed_at_next run (line ∷ lines) going = ap (λ stop. (goes_on reader stop run line).printed) going ∙ printed_moved run (line_played reader run.world line)

  -- fewer lines print no more
  fewer_printed : (lines : List (List ℕ)) (n : ℕ) → length (run_on reader not_started (take n lines)).printed ≤ length (run_on reader not_started lines).printed
  fewer_printed lines n =
      let later = printed_later reader (drop n lines) (run_on reader not_started (take n lines)) in
      let whole : run_on reader not_started lines ≡ run_on reader (run_on reader not_started (take n lines)) (drop n lines) =
      ap (run_on reader not_started) (sym (take-append-drop n lines)) ∙ fold-append (next reader) not_started (take n lines) (drop n lines) in
      omega (
        arith,
        ap (λ r. length r.printed) whole,
        ap length later.1,
        length-append (run_on reader not_started (take n lines)).printed later.0,
      )

module _ (reader : Reader) (lines done : List (List ℕ)) (k k' : SinkMeaning) (stops : StopsShort reader not_started lines done k k') where
  abbrev run : Run
  run = run_on reader not_started done

  abbrev pub written_front : List ℕ
  written_front = run.printed ++ take stops.count (printed_next reader run.world stops.left)

  whole_run : run_on reader not_started lines ≡ run_on reader run stops.left
  whole_run = ap (run_on reader not_started) stops.lines_are ∙ fold-append (next reader) not_started done stops.left

  -- the run over the rest prints what its next line prints, and more
  rest_prints : (left : List (List ℕ)) → (more : List ℕ) × ((run_on reader run left).printed ≡ run.printed ++ (printed_next reader run.world left ++ more))
  rest_prints [] = ([], sym (append-nil run.printed))
  rest_prints (line ∷ left) =
      let later = printed_later reader left (next reader run line) in (
        later.0,
        later.1 ∙ ap (λ p. p ++ later.0) (printed_at_next reader run (line ∷ left) stops.going) ∙ append_assoc run.printed (printed_next reader run.world (line ∷ left)) later.0,
      )

  pub is_front : IsFrontOf written_front (run_on reader not_started lines).printed
  is_front =
      let rest = rest_prints stops.left in
      let shown = printed_next reader run.world stops.left in (
        length run.printed + min stops.count (length shown),
        front_clipped run.printed shown rest.0 stops.count
            ∙ ap (take (length run.printed + min stops.count (length shown))) (sym (ap (λ r. r.printed) whole_run ∙ rest.1)),
      )

  done_counts : run.line ≡ length done
  done_counts = omega (arith, line_counts reader done not_started stops.going)

  run_at : (n : ℕ) → run_on reader not_started (take (length done + n) lines) ≡ run_on reader run (take n stops.left)
  run_at n =
      ap (λ l. run_on reader not_started (take (length done + n) l)) stops.lines_are
      ∙ ap (run_on reader not_started) (take-append-add done stops.left n)
      ∙ fold-append (next reader) not_started done (take n stops.left)

  next_line : (bytes : List ℕ) (line : ℕ) → (lines_of bytes).whole ≡ lines → line ≡ run.line + min 1 (length stops.left) → run_to reader line bytes ≡ run_on reader run (take 1 stops.left)
  next_line bytes line same_lines last =
      ap (λ l. run_on reader not_started (take line l)) same_lines
      ∙ ap (λ n. run_on reader not_started (take n lines)) (last ∙ ap (λ n. n + min 1 (length stops.left)) done_counts)
      ∙ run_at (min 1 (length stops.left))
      ∙ ap (run_on reader run) (take_min 1 stops.left)

  line_prints : (bytes : List ℕ) (line : ℕ) → (lines_of bytes).whole ≡ lines → line ≡ run.line + min 1 (length stops.left)
      → (run_to reader line bytes).printed ≡ run.printed ++ printed_next reader run.world stops.left
  line_prints bytes line same_lines last = ap (λ r. r.printed) (next_line bytes line same_lines last) ∙ printed_at_next reader run stops.left stops.going

  pub is_short : (bytes : List ℕ) (line : ℕ) → (lines_of bytes).whole ≡ lines → line ≡ run.line + min 1 (length stops.left) → IsShortOf reader bytes written_front line
  is_short bytes line same_lines last =
      let shown = printed_next reader run.world stops.left in
      let earlier : take (line - 1) lines ≡ take (line - 1) done = ap (take (line - 1)) stops.lines_are ∙ take-append-le (line - 1) done stops.left (omega (arith, last, done_counts)) in
      record {
        begun = omega (arith, last, done_counts, ap length same_lines, ap length stops.lines_are, length-append done stops.left);
        count = length run.printed + stops.count;
        front =
            sym (take-append-add run.printed shown stops.count)
            ∙ ap (take (length run.printed + stops.count)) (sym (line_prints bytes line same_lines last));
        enough =
            omega (
              arith,
              ap (λ l. length (run_on reader not_started (take (line - 1) l)).printed) same_lines,
              ap (λ l. length (run_on reader not_started l).printed) earlier,
              fewer_printed reader done (line - 1),
            );
      }

  pub is_cut : (bytes : List ℕ) (line : ℕ) → (lines_of bytes).whole ≡ lines → line ≡ run.line + min 1 (length stops.left)
      → stops.count < length (printed_next reader run.world stops.left) → length written_front < length (run_to reader line bytes).printed
  is_cut bytes line same_lines last short =
      let shown = printed_next reader run.world stops.left in
      omega (
        arith,
        ap length (line_prints bytes line same_lines last),
        length-append run.printed shown,
        length-append run.printed (take stops.count shown),
        length-take stops.count shown,
      )
