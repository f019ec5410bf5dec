-- What each status says, by the end that it stands for.
use Rattle.std.proofs.Common.{◌≡◌, ◌≢◌, ◌⊎◌, ◌≤◌, ◌<◌, ℕ, ◌+◌, ◌-◌, ◌==◌, true, false, List, [], ◌∷◌, ◌++◌, length, take, min, Option, Some, None, IfSome, Result, Ok, Err, inl, inr, refl, sym, ap, ◌∙◌, subst, arith}
use Rattle.std.proofs.lemmas.Bool.Decides.{nat_tests}
use Rattle.std.proofs.lemmas.List.{append-nil, append_cancel_left, append_cancel_right, length-append, take-append-le}
use Rattle.std.proofs.lemmas.List.Sums.{fold-append}
use Rattle.std.specs.Result.{result_err}
use Rattle.outside.specs.Faults.{Rose}
use Rattle.outside.specs.SinkMeaning.{SinkMeaning}
use Rattle.outside.specs.SourceMeaning.{SourceMeaning}
use Rattle.std.specs.Io.KnownBytes.{append_known, prepend_known}
use Rattle.plain_world.specs.RawFrames.{Reader}
use Rattle.plain_world.proofs.Readers.{there_is_a_reader}
use Rattle.replay.specs.Ending.{GaveBytes, WroteOutput, StopsShort, EndsPlayed, EndsAtSource, EndsAtSink, EndsForMemory, EndsTooLong, EndsSource, EndedSo}
use Rattle.replay.specs.Faults.{status_of}
use Rattle.replay.specs.Script.{lines_of, next, not_started, run_on, run_over, most_bytes}
use Rattle.replay.specs.Table.{HasEnded, GoesOn, WasGiven, WasWritten, IsPlayable, IsPlayedTo, IsRefusedFor, IsShortOf, IsLineBegun, IsFrontOf, run_to}
use Rattle.replay.specs.declared.faults.ReplayFault.{ReplayFault}
use Rattle.replay.specs.declared.faults.ReplayFault.TheVariants.{NotAMove, NotPossible, NoLineEnd, SourceFailed, SinkFailed, Memory, TooLong, Words}
use Rattle.replay.proofs.Fronts.{written_front, is_front, is_short, is_cut, next_is_there}
use Rattle.replay.proofs.LineCuts.{lines_more}
use Rattle.replay.proofs.Runs.{going_before, front_goes, line_counts}

-- what a source tells fixes the bytes that it gave
given_is : (s s' : SourceMeaning) (taken bytes : List ℕ) → GaveBytes s s' taken → WasGiven s s' bytes → taken ≡ bytes
given_is s s' taken bytes gave given =
    let same : Some (taken ++ given.left) ≡ Some (bytes ++ given.left) = ap (prepend_known taken) (sym given.after) ∙ sym gave ∙ given.before in
    append_cancel_right taken bytes given.left cc

-- what a sink tells fixes the bytes written
written_is : (k k' : SinkMeaning) (out written : List ℕ) → k'.written ≡ append_known k.written out → WasWritten k k' written → out ≡ written
written_is k k' out written wrote told =
    let same : Some (told.front ++ out) ≡ Some (told.front ++ written) = ap (λ w. append_known w out) (sym told.before) ∙ sym wrote ∙ told.after in
    append_cancel_left told.front out written cc

all_of : (left : Option (List ℕ)) (taken all : List ℕ) → prepend_known taken left ≡ Some all → IfSome left (λ l. l ≡ []) → taken ≡ all
all_of None taken all gave none = cc
all_of (Some l) taken all gave none =
    let same : taken ++ l ≡ all = cc in
    sym (append-nil taken) ∙ ap (λ rest. taken ++ rest) (sym none) ∙ same

left_of : (left : Option (List ℕ)) (taken all : List ℕ) → prepend_known taken left ≡ Some all → (l : List ℕ) × (left ≡ Some l)
left_of None taken all gave = cc
left_of (Some l) taken all gave = (l, refl)

-- where nothing is left, all was taken
all_taken : (s s' : SourceMeaning) (taken all : List ℕ) → GaveBytes s s' taken → HasEnded s' → s.left ≡ Some all → taken ≡ all
all_taken s s' taken all gave ended told = all_of s'.left taken all (sym gave ∙ told) ended.1

no_lines : (lines : List (List ℕ)) → length lines ≡ 0 → lines ≡ []
no_lines [] none = refl
no_lines (line ∷ lines) none = absurd (omega arith)

-- where the lines `done` were played, the line begun is the one behind them, or the last of them
line_begun : (reader : Reader) (bytes : List ℕ) (done left : List (List ℕ)) (line : ℕ) → (lines_of bytes).whole ≡ done ++ left → (run_on reader not_started done).stop ≡ None
    → line ≡ (run_on reader not_started done).line + min 1 (length left) → IsLineBegun reader bytes line
line_begun reader bytes done left line whole going last =
    let counted : (run_on reader not_started done).line ≡ 0 + length done = line_counts reader done not_started going in
    let size : length (lines_of bytes).whole ≡ length done + length left = ap length whole ∙ length-append done left in
    let before : line - 1 ≤ length done = omega arith in
    let front : take (line - 1) (lines_of bytes).whole ≡ take (line - 1) done = ap (take (line - 1)) whole ∙ take-append-le (line - 1) done left before in
    record {
      within = omega arith;
      going = ap (λ lines. (run_on reader not_started lines).stop) front ∙ front_goes reader (line - 1) done not_started going;
      none = λ nothing. no_lines (lines_of bytes).whole (omega arith);
    }

-- the end that a status stands for
module _ (reader : Reader) (s s' : SourceMeaning) (k k' : SinkMeaning) (taken : List ℕ) (line : ℕ) where
  abbrev So : Result (Unit {0}) ReplayFault → Type 0
  So result = EndedSo reader s s' k k' taken result line

  abbrev status : Result (Unit {0}) ReplayFault → ℕ
  status result = status_of (result_err result)

  played_end : (result : Result (Unit {0}) ReplayFault) → status result ≡ 0 → So result → EndsPlayed reader s' k k' taken line
  played_end (Ok done) zero so = so
  played_end (Err Words) zero so = absurd so
  played_end other zero so = cc

  words_end : (result : Result (Unit {0}) ReplayFault) → status result ≡ 1 → So result → ⊥
  words_end (Err Words) one so = so
  words_end other one so = cc

  source_end : (result : Result (Unit {0}) ReplayFault) → status result ≡ 4 → So result → EndsAtSource reader s s' k k' taken line
  source_end (Err SourceFailed) four so = so
  source_end other four so = cc

  sink_end : (result : Result (Unit {0}) ReplayFault) → status result ≡ 5 → So result → EndsAtSink reader s s' k k' taken line
  sink_end (Err SinkFailed) five so = so
  sink_end other five so = cc

  memory_end : (result : Result (Unit {0}) ReplayFault) → status result ≡ 6 → So result → EndsForMemory reader s s' k k' taken line
  memory_end (Err Memory) six so = so
  memory_end other six so = cc

  long_end : (result : Result (Unit {0}) ReplayFault) → status result ≡ 7 → So result → EndsTooLong reader s s' k k' taken line
  long_end (Err TooLong) seven so = so
  long_end other seven so = cc

  refused_end : (result : Result (Unit {0}) ReplayFault) (cause : ReplayFault) → status result ≡ 2 → result_err result ≡ Some cause → So result → IsRefusedFor reader s s' taken cause line
  refused_end (Err NotAMove) cause two is so = let same : NotAMove ≡ cause = cc in subst (λ c. IsRefusedFor reader s s' taken c line) same (so.refused, so.goes_on)
  refused_end (Err NotPossible) cause two is so = let same : NotPossible ≡ cause = cc in subst (λ c. IsRefusedFor reader s s' taken c line) same (so.refused, so.goes_on)
  refused_end (Err NoLineEnd) cause two is so = let same : NoLineEnd ≡ cause = cc in subst (λ c. IsRefusedFor reader s s' taken c line) same (so.cut, so.ended)
  refused_end other cause two is so = cc

  goes_end : (result : Result (Unit {0}) ReplayFault) → (status result ≡ 0 → ⊥) → (result_err result ≡ Some NoLineEnd → ⊥) → So result → GoesOn s s'
  goes_end (Ok done) not_none whole so = absurd (not_none refl)
  goes_end (Err Words) not_none whole so = absurd so
  goes_end (Err NoLineEnd) not_none whole so = absurd (whole refl)
  goes_end other not_none whole so = so.goes_on

  room_end : (result : Result (Unit {0}) ReplayFault) → (status result ≡ 0) ⊎ (status result ≡ 4) → So result → length taken < most_bytes
  room_end (Ok done) which so = so.room
  room_end (Err SourceFailed) which so = so.room
  room_end other which so = elim which [ inl h ↦ cc | inr h ↦ cc ]

  output_end : (result : Result (Unit {0}) ReplayFault) → (status result ≡ 5 → ⊥) → (status result ≡ 6 → ⊥) → So result → WroteOutput reader k k' taken
  output_end (Err Words) not_five not_six so = absurd so
  output_end (Err SinkFailed) not_five not_six so = absurd (not_five refl)
  output_end (Err Memory) not_five not_six so = absurd (not_six refl)
  output_end other not_five not_six so = so.output

  refuses_end : (result : Result (Unit {0}) ReplayFault) (cause : ReplayFault) → So result → (run_over reader taken).stop ≡ Some cause
      → (result_err result ≡ Some cause) ⊎ (status result ≡ 5) ⊎ (status result ≡ 6)
  refuses_end (Ok done) cause so stopped = let bad : None ≡ Some cause = sym so.played.going ∙ stopped in cc
  refuses_end (Err Words) cause so stopped = absurd so
  refuses_end (Err NotAMove) cause so stopped = inl (sym so.refused.stopped ∙ stopped)
  refuses_end (Err NotPossible) cause so stopped = inl (sym so.refused.stopped ∙ stopped)
  refuses_end (Err NoLineEnd) cause so stopped = let bad : None ≡ Some cause = sym so.cut.going ∙ stopped in cc
  refuses_end (Err SourceFailed) cause so stopped = let bad : None ≡ Some cause = sym so.played.going ∙ stopped in cc
  refuses_end (Err SinkFailed) cause so stopped = inr (inl refl)
  refuses_end (Err Memory) cause so stopped = inr (inr refl)
  refuses_end (Err TooLong) cause so stopped = let bad : None ≡ Some cause = sym so.played.going ∙ stopped in cc

  cut_end : (result : Result (Unit {0}) ReplayFault) → So result → s.ended ≡ false → s'.ended ≡ true → (lines_of taken).rest ≢ [] → result_err result ≡ Some NoLineEnd
  cut_end (Ok done) so before after behind = absurd (behind so.whole)
  cut_end (Err Words) so before after behind = absurd so
  cut_end (Err NoLineEnd) so before after behind = refl
  cut_end other so before after behind = let bad : true ≡ false = sym after ∙ so.goes_on ∙ before in cc

  full_end : (result : Result (Unit {0}) ReplayFault) → So result → length taken ≡ most_bytes → (status result ≡ 7) ⊎ (status result ≡ 2) ⊎ (status result ≡ 5) ⊎ (status result ≡ 6)
  full_end (Ok done) so full = absurd (omega (arith, so.room))
  full_end (Err Words) so full = absurd so
  full_end (Err NotAMove) so full = inr (inl refl)
  full_end (Err NotPossible) so full = inr (inl refl)
  full_end (Err NoLineEnd) so full = inr (inl refl)
  full_end (Err SourceFailed) so full = absurd (omega (arith, so.room))
  full_end (Err SinkFailed) so full = inr (inr (inl refl))
  full_end (Err Memory) so full = inr (inr (inr refl))
  full_end (Err TooLong) so full = inl refl

  -- what was written, whatever the end
  out_end : (result : Result (Unit {0}) ReplayFault) → So result → (out : List ℕ) × (k'.written ≡ append_known k.written out)
  out_end (Err Words) so = absurd so
  out_end (Err SinkFailed) so = (written_front reader (lines_of taken).whole so.done k k' so.stops, so.stops.written)
  out_end (Err Memory) so = (written_front reader (lines_of taken).whole so.done k k' so.stops, so.stops.written)
  out_end other so = ((run_over reader taken).printed, so.output)

  -- what was written short of the whole output
  short_end : (result : Result (Unit {0}) ReplayFault) → (status result ≡ 5) ⊎ (status result ≡ 6) → So result → (done : List (List ℕ)) × StopsShort reader not_started (lines_of taken).whole done k k'
  short_end (Err SinkFailed) which so = (so.done, so.stops)
  short_end (Err Memory) which so = (so.done, so.stops)
  short_end other which so = elim which [ inl h ↦ cc | inr h ↦ cc ]

module _ (s s' : SourceMeaning) (k k' : SinkMeaning) (result : Result (Unit {0}) ReplayFault) (line : ℕ) (ends : EndsSource s s' k k' result line) where
  abbrev state : ℕ
  state = status_of (result_err result)

  pub no_words : state ≡ 1 → ⊥
  no_words one = words_end _ s s' k k' ends.taken line result one (ends.so there_is_a_reader)

  pub finished_at_end : state ≡ 0 → HasEnded s'
  finished_at_end zero = (played_end _ s s' k k' ends.taken line result zero (ends.so there_is_a_reader)).ended

  pub source_rose : state ≡ 4 → Rose s.faults s'.faults
  source_rose four = (source_end _ s s' k k' ends.taken line result four (ends.so there_is_a_reader)).rose

  pub sink_rose : state ≡ 5 → Rose k.faults k'.faults
  sink_rose five = (sink_end _ s s' k k' ends.taken line result five (ends.so there_is_a_reader)).rose

  pub source_goes_on : (state ≡ 0 → ⊥) → (result_err result ≡ Some NoLineEnd → ⊥) → GoesOn s s'
  source_goes_on not_none whole = goes_end _ s s' k k' ends.taken line result not_none whole (ends.so there_is_a_reader)

  pub source_is_kept : (state ≡ 4 → ⊥) → s'.faults ≡ s.faults
  source_is_kept not_four = ends.source_kept (λ failed. not_four (ap (λ r. status_of (result_err r)) failed))

  pub sink_is_kept : (state ≡ 5 → ⊥) → k'.faults ≡ k.faults
  sink_is_kept not_five = ends.sink_kept (λ failed. not_five (ap (λ r. status_of (result_err r)) failed))

  -- where the source tells what it has left, it tells what it gave
  pub bytes_given : (all : List ℕ) → s.left ≡ Some all → (bytes : List ℕ) × WasGiven s s' bytes
  bytes_given all told =
      let rest = left_of s'.left ends.taken all (sym ends.gave ∙ told) in
      (ends.taken, record { left = rest.0; before = ends.gave ∙ ap (prepend_known ends.taken) rest.1; after = rest.1 })

  -- where the sink tells what was written, it tells what it took
  pub bytes_written : (front : List ℕ) → k.written ≡ Some front → (bytes : List ℕ) × WasWritten k k' bytes
  bytes_written front told =
      let out = out_end _ s s' k k' ends.taken line result (ends.so there_is_a_reader) in
      (out.0, record { front = front; before = told; after = out.1 ∙ ap (λ w. append_known w out.0) told })

  -- what holds of the bytes taken holds of those that the source tells
  of_given : (Holds : List ℕ → Type 0) (bytes : List ℕ) → WasGiven s s' bytes → Holds ends.taken → Holds bytes
  of_given Holds bytes given here = subst Holds (given_is s s' ends.taken bytes ends.gave given) here

  taken_of : (bytes : List ℕ) → WasGiven s s' bytes → bytes ≡ ends.taken
  taken_of bytes given = sym (given_is s s' ends.taken bytes ends.gave given)

  pub bytes_are_few : (bytes : List ℕ) → WasGiven s s' bytes → length bytes ≤ most_bytes
  bytes_are_few bytes given = of_given (λ b. length b ≤ most_bytes) bytes given ends.few

  pub room_was_left : (state ≡ 0) ⊎ (state ≡ 4) → (bytes : List ℕ) → WasGiven s s' bytes → length bytes < most_bytes
  room_was_left which bytes given =
      of_given (λ b. length b < most_bytes) bytes given (room_end _ s s' k k' ends.taken line result which (ends.so there_is_a_reader))

  pub cut_off_is_refused : (bytes : List ℕ) → WasGiven s s' bytes → s.ended ≡ false → s'.ended ≡ true → (lines_of bytes).rest ≢ [] → result_err result ≡ Some NoLineEnd
  cut_off_is_refused bytes given before after behind =
      cut_end _ s s' k k' ends.taken line result (ends.so there_is_a_reader) before after (λ none. behind (ap (λ b. (lines_of b).rest) (taken_of bytes given) ∙ none))

  pub full_is_too_long : (bytes : List ℕ) → WasGiven s s' bytes → length bytes ≡ most_bytes → (state ≡ 7) ⊎ (state ≡ 2) ⊎ (state ≡ 5) ⊎ (state ≡ 6)
  full_is_too_long bytes given full =
      full_end _ s s' k k' ends.taken line result (ends.so there_is_a_reader) (ap length (sym (taken_of bytes given)) ∙ full)

  -- what is said of each reader
  module _ (reader : Reader) where
    abbrev so : EndedSo reader s s' k k' ends.taken result line
    so = ends.so reader

    pub finished_script : state ≡ 0 → (all : List ℕ) → s.left ≡ Some all → IsPlayable reader all × (line ≡ (run_over reader all).line)
    finished_script zero all told =
        let end = played_end reader s s' k k' ends.taken line result zero so in
        let Holds : List ℕ → Type 0 = λ bytes. IsPlayable reader bytes × (line ≡ (run_over reader bytes).line) in
        let taken : Holds ends.taken = (record { going = end.played.going; ended = end.whole }, end.played.last) in
        subst Holds (all_taken s s' ends.taken all ends.gave end.ended told) taken

    pub finished_output : state ≡ 0 → (all front : List ℕ) → s.left ≡ Some all → k.written ≡ Some front → k'.written ≡ Some (front ++ (run_over reader all).printed)
    finished_output zero all front told wrote =
        let end = played_end reader s s' k k' ends.taken line result zero so in
        end.output ∙ ap (λ w. append_known w (run_over reader ends.taken).printed) wrote
        ∙ ap (λ bytes. Some (front ++ (run_over reader bytes).printed)) (all_taken s s' ends.taken all ends.gave end.ended told)

    pub refused_line : (cause : ReplayFault) → state ≡ 2 → result_err result ≡ Some cause → (bytes : List ℕ) → WasGiven s s' bytes → IsRefusedFor reader s s' bytes cause line
    refused_line cause two is bytes given =
        of_given (λ b. IsRefusedFor reader s s' b cause line) bytes given (refused_end reader s s' k k' ends.taken line result cause two is so)

    pub stopped_is_refused : (cause : ReplayFault) (bytes : List ℕ) → WasGiven s s' bytes → (run_over reader bytes).stop ≡ Some cause
        → (result_err result ≡ Some cause) ⊎ (state ≡ 5) ⊎ (state ≡ 6)
    stopped_is_refused cause bytes given stopped =
        refuses_end reader s s' k k' ends.taken line result cause so (ap (λ b. (run_over reader b).stop) (sym (taken_of bytes given)) ∙ stopped)

    pub failed_after : state ≡ 4 → (bytes : List ℕ) → WasGiven s s' bytes → IsPlayedTo reader bytes line
    failed_after four bytes given =
        of_given (λ b. IsPlayedTo reader b line) bytes given (source_end reader s s' k k' ends.taken line result four so).played

    pub too_long_after : state ≡ 7 → (bytes : List ℕ) → WasGiven s s' bytes → (length bytes ≡ most_bytes) × IsPlayedTo reader bytes line × GoesOn s s'
    too_long_after seven bytes given =
        let end = long_end reader s s' k k' ends.taken line result seven so in
        of_given (λ b. (length b ≡ most_bytes) × IsPlayedTo reader b line × GoesOn s s') bytes given (end.full, end.played, end.goes_on)

    pub whole_output : (state ≡ 5 → ⊥) → (state ≡ 6 → ⊥) → (bytes written : List ℕ) → WasGiven s s' bytes → WasWritten k k' written → written ≡ (run_over reader bytes).printed
    whole_output not_five not_six bytes written given told =
        sym (written_is k k' _ written (output_end reader s s' k k' ends.taken line result not_five not_six so) told)
        ∙ ap (λ b. (run_over reader b).printed) (sym (taken_of bytes given))

    pub sink_failed_short : state ≡ 5 → (bytes written : List ℕ) → WasGiven s s' bytes → WasWritten k k' written
        → IsShortOf reader bytes written line × (length written < length (run_to reader line bytes).printed)
    sink_failed_short five bytes written given told =
        let end = sink_end reader s s' k k' ends.taken line result five so in
        let lines = (lines_of ends.taken).whole in
        let one = next_is_there reader (run_on reader not_started end.done).world end.stops.left end.stops.count end.short in
        let last : line ≡ (run_on reader not_started end.done).line + min 1 (length end.stops.left) = omega (arith, end.last, one) in
        let Holds : List ℕ → List ℕ → Type 0 = λ b w. IsShortOf reader b w line × (length w < length (run_to reader line b).printed) in
        let here : Holds ends.taken (written_front reader lines end.done k k' end.stops) =
        (is_short reader lines end.done k k' end.stops ends.taken line refl last, is_cut reader lines end.done k k' end.stops ends.taken line refl last end.short) in
        of_given (λ b. Holds b written) bytes given (subst (Holds ends.taken) (written_is k k' _ written end.stops.written told) here)

    pub memory_short : state ≡ 6 → (bytes written : List ℕ) → WasGiven s s' bytes → WasWritten k k' written → IsShortOf reader bytes written line
    memory_short six bytes written given told =
        let end = memory_end reader s s' k k' ends.taken line result six so in
        let here = is_short reader (lines_of ends.taken).whole end.done k k' end.stops ends.taken line refl end.last in
        of_given (λ b. IsShortOf reader b written line) bytes given
        (subst (λ w. IsShortOf reader ends.taken w line) (written_is k k' _ written end.stops.written told) here)

    pub memory_line : state ≡ 6 → (bytes : List ℕ) → WasGiven s s' bytes → IsLineBegun reader bytes line
    memory_line six bytes given =
        let end = memory_end reader s s' k k' ends.taken line result six so in
        let here = line_begun reader ends.taken end.done end.stops.left line end.stops.lines_are end.stops.going end.last in
        of_given (λ b. IsLineBegun reader b line) bytes given here

    pub short_output : (state ≡ 5) ⊎ (state ≡ 6) → (bytes written : List ℕ) → WasGiven s s' bytes → WasWritten k k' written → IsFrontOf written (run_over reader bytes).printed
    short_output which bytes written given told =
        let end = short_end reader s s' k k' ends.taken line result which so in
        of_given (λ b. IsFrontOf written (run_over reader b).printed) bytes given
        (subst (λ w. IsFrontOf w (run_over reader ends.taken).printed) (written_is k k' _ written end.1.written told) (is_front reader (lines_of ends.taken).whole end.0 k k' end.1))

-- what was taken of a script that can be played can be played
front_plays : (reader : Reader) (left : Option (List ℕ)) (taken script : List ℕ) → prepend_known taken left ≡ Some script → (run_over reader script).stop ≡ None
    → ((run_over reader taken).stop ≡ None) × (length taken ≤ length script)
front_plays reader None taken script gave plays = cc
front_plays reader (Some l) taken script gave plays =
    let same : taken ++ l ≡ script = cc in
    let all : run_on reader not_started (lines_of (taken ++ l)).whole ≡ run_on reader (run_over reader taken) (lines_of ((lines_of taken).rest ++ l)).whole =
    ap (λ lines. run_on reader not_started lines.whole) (lines_more taken l) ∙ fold-append (next reader) not_started (lines_of taken).whole (lines_of ((lines_of taken).rest ++ l)).whole in (
      going_before reader (lines_of ((lines_of taken).rest ++ l)).whole (run_over reader taken) (sym (ap (λ r. r.stop) all) ∙ ap (λ b. (run_over reader b).stop) same ∙ plays),
      omega (arith, ap length same, length-append taken l),
    )

module _ (reader : Reader) (s s' : SourceMeaning) (k k' : SinkMeaning) (result : Result (Unit {0}) ReplayFault) (line : ℕ) (ends : EndsSource s s' k k' result line) (script : List ℕ)
    (told : s.left ≡ Some script) (plays : IsPlayable reader script) (small : length script < most_bytes) (sure_source : Rose s.faults s'.faults → ⊥) (sure_sink : Rose k.faults k'.faults → ⊥) where
  front : ((run_over reader ends.taken).stop ≡ None) × (length ends.taken ≤ length script)
  front = front_plays reader s'.left ends.taken script (sym ends.gave ∙ told) plays.going

  plays_so : (result : Result (Unit {0}) ReplayFault) → EndedSo reader s s' k k' ends.taken result line → (status_of (result_err result) ≡ 0) ⊎ (status_of (result_err result) ≡ 6)
  plays_so (Ok done) so = inl refl
  plays_so (Err Words) so = absurd so
  plays_so (Err NotAMove) so = let bad : None ≡ Some NotAMove = sym front.0 ∙ so.refused.stopped in cc
  plays_so (Err NotPossible) so = let bad : None ≡ Some NotPossible = sym front.0 ∙ so.refused.stopped in cc
  plays_so (Err NoLineEnd) so = absurd (so.cut.behind (ap (λ b. (lines_of b).rest) (all_taken s s' ends.taken script ends.gave so.ended told) ∙ plays.ended))
  plays_so (Err SourceFailed) so = absurd (sure_source so.rose)
  plays_so (Err SinkFailed) so = absurd (sure_sink so.rose)
  plays_so (Err Memory) so = inr refl
  plays_so (Err TooLong) so = absurd (omega (arith, front.1, so.full))

  pub playable_is_played : (status_of (result_err result) ≡ 0) ⊎ (status_of (result_err result) ≡ 6)
  playable_is_played = plays_so result (ends.so reader)

-- an empty list has no length
pub none_there : (n : ℕ) → true ≡ (n == 0) → 0 < n → ⊥
none_there n empty some =
    let none : n ≡ 0 = grind (arith, nat_tests) in
    omega (arith, none, some)

-- between one moment and itself nothing is given or written
pub given_at_once : (s : SourceMeaning) (all : List ℕ) → s.left ≡ Some all → (bytes : List ℕ) × WasGiven s s bytes
given_at_once s all told = ([], record { left = all; before = told; after = told })

pub written_at_once : (k : SinkMeaning) (front : List ℕ) → k.written ≡ Some front → (bytes : List ℕ) × WasWritten k k bytes
written_at_once k front told = ([], record { front = front; before = told; after = told ∙ ap Some (sym (append-nil front)) })

pub nothing_given : (s : SourceMeaning) (bytes : List ℕ) → WasGiven s s bytes → bytes ≡ []
nothing_given s bytes given =
    let same : Some (bytes ++ given.left) ≡ Some given.left = sym given.before ∙ given.after in
    append_cancel_right bytes [] given.left cc

pub nothing_written : (k : SinkMeaning) (bytes : List ℕ) → WasWritten k k bytes → bytes ≡ []
nothing_written k bytes told =
    let same : Some (told.front ++ bytes) ≡ Some told.front = sym told.after ∙ told.before in
    let plain : told.front ++ bytes ≡ told.front = cc in
    append_cancel_left told.front bytes [] (plain ∙ sym (append-nil told.front))
