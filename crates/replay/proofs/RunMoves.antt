-- The run of a script is one of moves: those that its lines ask for, as far as they can be played.
use Rattle.std.proofs.Common.{◌≡◌, ℕ, List, [], ◌∷◌, ◌++◌, Option, Some, None, refl, sym, subst}
use Rattle.std.proofs.lemmas.List.{append-nil}
use Rattle.plain_world.specs.Base.{script_base}
use Rattle.plain_world.specs.Handling.{Played}
use Rattle.plain_world.specs.RawFrames.{Reader}
use Rattle.plain_world.specs.Step.{Leads, Begins, Then, played}
use Rattle.plain_world.proofs.LawLemmas.{quiet_shows_file}
use Rattle.replay_script.specs.declared.moves.Move.{Move}
use Rattle.replay.specs.Laws.{QuietEditorShowsItsFile}
use Rattle.replay.specs.Script.{Run, run_on, next, not_started, goes_on, moved_on, asked_played, or_not_possible, bytes_ask, lines_of}
use Rattle.replay.specs.declared.faults.ReplayFault.{ReplayFault}

-- some moves lead to the world of a run, and have printed what it has
record IsLedTo (reader : Reader) (run : Run) : Type 0 where
  moves : List Move
  leads : Leads script_base reader moves run.world run.printed

move_leads : (reader : Reader) (run : Run) (moved : Move) (next : Option Played) → played script_base reader run.world moved ≡ next → IsLedTo reader run
    → IsLedTo reader (moved_on run (or_not_possible next))
move_leads reader run moved None is so_far = record { moves = so_far.moves; leads = so_far.leads }
move_leads reader run moved (Some next) is so_far =
    record { moves = so_far.moves ++ moved ∷ []; leads = Then so_far.moves run.world run.printed moved next so_far.leads is }

asked_leads : (reader : Reader) (run : Run) (asked : Option (Option Move)) → IsLedTo reader run → IsLedTo reader (moved_on run (asked_played reader run.world asked))
asked_leads reader run None so_far = record { moves = so_far.moves; leads = so_far.leads }
asked_leads reader run (Some None) so_far =
    record { moves = so_far.moves; leads = subst (λ printed. Leads script_base reader so_far.moves run.world printed) (sym (append-nil run.printed)) so_far.leads }
asked_leads reader run (Some (Some moved)) so_far = move_leads reader run moved (played script_base reader run.world moved) refl so_far

next_leads : (reader : Reader) (stop : Option ReplayFault) (run : Run) (line : List ℕ) → IsLedTo reader run → IsLedTo reader (goes_on reader stop run line)
next_leads reader (Some cause) run line so_far = so_far
next_leads reader None run line so_far = asked_leads reader run (bytes_ask line) so_far

run_leads : (reader : Reader) (lines : List (List ℕ)) (run : Run) → IsLedTo reader run → IsLedTo reader (run_on reader run lines)
run_leads reader [] run so_far = so_far
run_leads reader (line ∷ lines) run so_far = run_leads reader lines (next reader run line) (next_leads reader run.stop run line so_far)

pub quiet_editor_shows_its_file : QuietEditorShowsItsFile
quiet_editor_shows_its_file reader script e x there quiet =
    let run = run_leads reader (lines_of script).whole not_started (record { moves = []; leads = Begins }) in
    quiet_shows_file script_base reader run.moves (run_on reader not_started (lines_of script).whole).world (run_on reader not_started (lines_of script).whole).printed e x run.leads there quiet
