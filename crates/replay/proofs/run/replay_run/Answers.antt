-- With words nothing is given or written; else each status says what its end says.
use Rattle.std.proofs.Common.{◌≡◌, length, None, Some, inl, inr, sym, ap, ◌∙◌, arith}
use Rattle.replay.specs.Script.{run_over, most_bytes}
use Rattle.replay.proofs.Statuses.{nothing_given, nothing_written, none_there, no_words, bytes_written, bytes_are_few, room_was_left}
use Rattle.replay.proofs.Statuses.{finished_at_end, finished_script, finished_output, source_goes_on, source_rose, sink_rose, refused_line}
use Rattle.replay.proofs.Statuses.{stopped_is_refused, cut_off_is_refused, failed_after, too_long_after, full_is_too_long, whole_output, short_output, sink_failed_short}
use Rattle.replay.proofs.Statuses.{memory_short, memory_line, playable_is_played}
use Rattle.replay.proofs.run.replay_run.Goals as goal

pub returns-then-not-is_empty-clause-bounded : goal.returns-then-not-is_empty-clause-bounded
returns-then-not-is_empty-clause-bounded g c = λ bytes given. omega (arith, ap length (nothing_given _ bytes given))

pub returns-then-not-is_empty-clause-refuses : goal.returns-then-not-is_empty-clause-refuses
returns-then-not-is_empty-clause-refuses g c = λ reader cause bytes given stopped.
    let bad : None ≡ Some cause = ap (λ b. (run_over reader b).stop) (sym (nothing_given _ bytes given)) ∙ stopped in
    cc

pub returns-then-not-is_empty-clause-full : goal.returns-then-not-is_empty-clause-full
returns-then-not-is_empty-clause-full g c = λ bytes given full.
    let none : 0 ≡ most_bytes = ap length (sym (nothing_given _ bytes given)) ∙ full in
    absurd (omega arith)

pub returns-then-not-is_empty-clause-written : goal.returns-then-not-is_empty-clause-written
returns-then-not-is_empty-clause-written g c = λ reader _ _ bytes written given told.
    nothing_written _ written told ∙ ap (λ b. (run_over reader b).printed) (sym (nothing_given _ bytes given))

pub returns-clause-words : goal.returns-clause-words
returns-clause-words g c =
    rw (c.new-2.ensures, c.err.ensures.value) (λ one. absurd (no_words _ _ _ _ _ _ c.play_source-played.ensures one), λ some. absurd (none_there _ c.if-not-is_empty.ensures some))

pub returns-clause-untouched : goal.returns-clause-untouched
returns-clause-untouched g c = rw (c.new-2.ensures, c.err.ensures.value) (λ one. absurd (no_words _ _ _ _ _ _ c.play_source-played.ensures one))

pub returns-clause-wrote : goal.returns-clause-wrote
returns-clause-wrote g c = bytes_written _ _ _ _ _ _ c.play_source-played.ensures

pub returns-clause-bounded : goal.returns-clause-bounded
returns-clause-bounded g c = bytes_are_few _ _ _ _ _ _ c.play_source-played.ensures

pub returns-clause-room : goal.returns-clause-room
returns-clause-room g c = rw (c.new-2.ensures, c.err.ensures.value) (room_was_left _ _ _ _ _ _ c.play_source-played.ensures)

pub returns-clause-goes_on : goal.returns-clause-goes_on
returns-clause-goes_on g c = rw (c.new-2.ensures, c.err.ensures.value) (source_goes_on _ _ _ _ _ _ c.play_source-played.ensures)

pub returns-clause-ended : goal.returns-clause-ended
returns-clause-ended g c = rw (c.new-2.ensures, c.err.ensures.value) (finished_at_end _ _ _ _ _ _ c.play_source-played.ensures)

pub returns-clause-cut_off : goal.returns-clause-cut_off
returns-clause-cut_off g c = rw (c.new-2.ensures, c.err.ensures.value) (cut_off_is_refused _ _ _ _ _ _ c.play_source-played.ensures)

pub returns-clause-source_fault : goal.returns-clause-source_fault
returns-clause-source_fault g c = rw (c.new-2.ensures, c.err.ensures.value) (source_rose _ _ _ _ _ _ c.play_source-played.ensures)

pub returns-clause-sink_fault : goal.returns-clause-sink_fault
returns-clause-sink_fault g c = rw (c.new-2.ensures, c.err.ensures.value) (sink_rose _ _ _ _ _ _ c.play_source-played.ensures)

pub returns-clause-full : goal.returns-clause-full
returns-clause-full g c = rw (c.new-2.ensures, c.err.ensures.value) (full_is_too_long _ _ _ _ _ _ c.play_source-played.ensures)

pub returns-clause-played : goal.returns-clause-played
returns-clause-played g c = rw (c.new-2.ensures, c.err.ensures.value) (finished_script _ _ _ _ _ _ c.play_source-played.ensures)

pub returns-clause-output : goal.returns-clause-output
returns-clause-output g c = rw (c.new-2.ensures, c.err.ensures.value) (finished_output _ _ _ _ _ _ c.play_source-played.ensures)

pub returns-clause-failed_after : goal.returns-clause-failed_after
returns-clause-failed_after g c = rw (c.new-2.ensures, c.err.ensures.value) (failed_after _ _ _ _ _ _ c.play_source-played.ensures)

pub returns-clause-too_long : goal.returns-clause-too_long
returns-clause-too_long g c = rw (c.new-2.ensures, c.err.ensures.value) (too_long_after _ _ _ _ _ _ c.play_source-played.ensures)

pub returns-clause-memory : goal.returns-clause-memory
returns-clause-memory g c = rw (c.new-2.ensures, c.err.ensures.value) (memory_line _ _ _ _ _ _ c.play_source-played.ensures)

pub returns-clause-written : goal.returns-clause-written
returns-clause-written g c = rw (c.new-2.ensures, c.err.ensures.value) (whole_output _ _ _ _ _ _ c.play_source-played.ensures)

pub returns-clause-front : goal.returns-clause-front
returns-clause-front g c = rw (c.new-2.ensures, c.err.ensures.value) (short_output _ _ _ _ _ _ c.play_source-played.ensures)

pub returns-clause-refused : goal.returns-clause-refused
returns-clause-refused g c = rw (c.new-2.ensures, c.err.ensures.value) (λ reader cause two is. refused_line _ _ _ _ _ _ c.play_source-played.ensures reader cause two is)

pub returns-clause-refuses : goal.returns-clause-refuses
returns-clause-refuses g c = rw (c.new-2.ensures, c.err.ensures.value) (λ reader cause bytes given stopped. stopped_is_refused _ _ _ _ _ _ c.play_source-played.ensures reader cause bytes given stopped)

pub returns-clause-short : goal.returns-clause-short
returns-clause-short g c =
    let ends = c.play_source-played.ensures in
    rw (c.new-2.ensures, c.err.ensures.value) (λ reader which bytes written given told. elim which [
      | inl five ↦ (sink_failed_short _ _ _ _ _ _ ends reader five bytes written given told).0
      | inr six ↦ memory_short _ _ _ _ _ _ ends reader six bytes written given told
    ])

pub returns-clause-cut : goal.returns-clause-cut
returns-clause-cut g c =
    rw (c.new-2.ensures, c.err.ensures.value) (λ reader five bytes written given told. (sink_failed_short _ _ _ _ _ _ c.play_source-played.ensures reader five bytes written given told).1)

pub returns-clause-complete : goal.returns-clause-complete
returns-clause-complete g c =
    rw (c.new-2.ensures, c.err.ensures.value) (λ reader all told plays small _ sure_source sure_sink. playable_is_played reader _ _ _ _ _ _ c.play_source-played.ensures all told plays small
    sure_source sure_sink)
