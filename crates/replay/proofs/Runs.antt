-- Laws of runs: a run after more lines, and what was printed before it.
use Rattle.std.proofs.Common.{◌≡◌, ℕ, ◌+◌, List, [], ◌∷◌, ◌++◌, length, take, drop, Option, Some, None, Result, Ok, Err, ◌⊎◌, inl, inr, arith, refl, sym, ap, ◌∙◌, append_assoc}
use Rattle.std.proofs.lemmas.List.{append-nil, take-append-drop}
use Rattle.std.proofs.lemmas.List.Sums.{fold-append}
use Rattle.plain_world.specs.Handling.{Played}
use Rattle.plain_world.specs.RawFrames.{Reader}
use Rattle.replay.specs.Script.{Run, next, goes_on, moved_on, line_played, run_on}
use Rattle.replay.specs.declared.faults.ReplayFault.{ReplayFault}

-- the same run, with this printed before it
abbrev pub ahead : List ℕ → Run → Run
ahead printed run = record run { printed = printed ++ run.printed }

ahead_moved : (printed : List ℕ) (run : Run) (played : Result Played ReplayFault) → moved_on (ahead printed run) played ≡ ahead printed (moved_on run played)
ahead_moved printed run (Err cause) = refl
ahead_moved printed run (Ok played) = ap (λ p. record { world = played.world; printed = p; line = run.line + 1; stop = None }) (append_assoc printed run.printed played.printed)

stop_cases : (stop : Option ReplayFault) → (stop ≡ None) ⊎ ((cause : ReplayFault) × (stop ≡ Some cause))
stop_cases None = inl refl
stop_cases (Some cause) = inr (cause, refl)

more_moved : (run : Run) (played : Result Played ReplayFault) → (more : List ℕ) × ((moved_on run played).printed ≡ run.printed ++ more)
more_moved run (Err cause) = ([], sym (append-nil run.printed))
more_moved run (Ok played) = (played.printed, refl)

line_moved : (run : Run) (played : Result Played ReplayFault) → (moved_on run played).stop ≡ None → (moved_on run played).line ≡ run.line + 1
line_moved run (Err cause) going = cc
line_moved run (Ok played) going = refl

module _ (reader : Reader) where
  ahead_goes : (printed : List ℕ) (stop : Option ReplayFault) (run : Run) (line : List ℕ) → goes_on reader stop (ahead printed run) line ≡ ahead printed (goes_on reader stop run line)
  ahead_goes printed (Some cause) run line = refl
  ahead_goes printed None run line = ahead_moved printed run (line_played reader run.world line)

  -- what was printed before stays in front
  pub fold-ahead : (printed : List ℕ) (lines : List (List ℕ)) (run : Run) → run_on reader (ahead printed run) lines ≡ ahead printed (run_on reader run lines)
  fold-ahead printed [] run = refl
  fold-ahead printed (line ∷ lines) run = ap (λ r. run_on reader r lines) (ahead_goes printed run.stop run line) ∙ fold-ahead printed lines (next reader run line)

  -- a machine that has stopped stays as it is
  pub fold-stopped : (lines : List (List ℕ)) (run : Run) (cause : ReplayFault) → run.stop ≡ Some cause → run_on reader run lines ≡ run
  fold-stopped [] run cause stopped = refl
  fold-stopped (line ∷ lines) run cause stopped =
      ap (λ r. run_on reader r lines) (ap (λ s. goes_on reader s run line) stopped) ∙ fold-stopped lines run cause stopped

  more_goes : (stop : Option ReplayFault) (run : Run) (line : List ℕ) → (more : List ℕ) × ((goes_on reader stop run line).printed ≡ run.printed ++ more)
  more_goes (Some cause) run line = ([], sym (append-nil run.printed))
  more_goes None run line = more_moved run (line_played reader run.world line)

  -- what was printed stays in front of what is printed later
  pub printed_later : (lines : List (List ℕ)) (run : Run) → (more : List ℕ) × ((run_on reader run lines).printed ≡ run.printed ++ more)
  printed_later [] run = ([], sym (append-nil run.printed))
  printed_later (line ∷ lines) run =
      let here = more_goes run.stop run line in
      let later = printed_later lines (next reader run line) in
      (here.0 ++ later.0, later.1 ∙ ap (λ p. p ++ later.0) here.1 ∙ append_assoc run.printed here.0 later.0)

  -- a machine that goes on later goes on now
  pub going_before : (lines : List (List ℕ)) (run : Run) → (run_on reader run lines).stop ≡ None → run.stop ≡ None
  going_before lines run going =
      elim (stop_cases run.stop) [
        | inl here ↦ here
        | inr stopped ↦ ap (λ r. r.stop) (sym (fold-stopped lines run stopped.0 stopped.1)) ∙ going
      ]

  line_goes : (stop : Option ReplayFault) (run : Run) (line : List ℕ) → stop ≡ None → (goes_on reader stop run line).stop ≡ None → (goes_on reader stop run line).line ≡ run.line + 1
  line_goes (Some cause) run line none going = cc
  line_goes None run line none going = line_moved run (line_played reader run.world line) going

  -- the lines before a line that is reached can be played
  pub front_goes : (n : ℕ) (lines : List (List ℕ)) (run : Run) → (run_on reader run lines).stop ≡ None → (run_on reader run (take n lines)).stop ≡ None
  front_goes n lines run going =
      let all : run_on reader (run_on reader run (take n lines)) (drop n lines) ≡ run_on reader run lines =
      sym (fold-append (next reader) run (take n lines) (drop n lines)) ∙ ap (run_on reader run) (take-append-drop n lines) in
      going_before (drop n lines) (run_on reader run (take n lines)) (ap (λ r. r.stop) all ∙ going)

  -- as long as it goes on, the machine counts the lines
  pub line_counts : (lines : List (List ℕ)) (run : Run) → (run_on reader run lines).stop ≡ None → (run_on reader run lines).line ≡ run.line + length lines
  line_counts [] run going = omega arith
  line_counts (line ∷ lines) run going =
      let after = going_before lines (next reader run line) going in
      let before = going_before (line ∷ []) run after in
      omega (arith, line_counts lines (next reader run line) going, line_goes run.stop run line before after)
