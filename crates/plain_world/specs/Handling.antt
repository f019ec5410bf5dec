-- What a daemon makes of a message of a script's editor, and whom it tells.
use Rattle.std.specs.Prelude.{ℕ, ◌==◌, ◌&&◌, List, [], ◌∷◌, flat_map, Option, Some, None, Ok, Err, slice_set, if◌then◌else◌}
use Rattle.transform.specs.Carried.{past_list}
use Rattle.bridge_world.specs.Lists.{one_and_others}
use Rattle.bridge_world.specs.Plain as P
use Rattle.bridge_world.specs.Plain.{Cause, Verdict, Accepts, Refuses}
use Rattle.rpc_message.specs.Codes.{code}
use Rattle.rpc_message.specs.declared.refusals.Refusal.{Refusal}
use Rattle.rpc_message.specs.declared.refusals.Refusal.TheVariants.{NotOpen, AlreadyOpen, BadRevision}
use Rattle.daemon_core.specs.History.{is_path, view_at, text_at}
use Rattle.daemon_core.specs.Outcome.{Stays, Silence, Success, Effect, Outcome, answers, state_told}
use Rattle.daemon_core.specs.Outputs.{told_outputs}
use Rattle.daemon_core.specs.Refusing.{Step, refused}
use Rattle.daemon_core.specs.Serving.{opening, changed, or_refusal}
use Rattle.daemon_core.specs.State.{State}
use Rattle.plain_world.specs.Lines.{told_lines}
use Rattle.plain_world.specs.World.{Host, Seat, World}

-- As of any editor's message, but by the link without counts: an edit comes as its delta, and has no number that could be
-- refused.
abbrev pub plain_step : State → List ℕ → P.Message → Option P.Link → Step Outcome
plain_step s path (P.Opens content) None = opening s path content (view_at s.history path)
plain_step s path (P.Opens content) (Some link) = refused AlreadyOpen
plain_step s path (P.Edits p) None = refused NotOpen
plain_step s path (P.Edits p) (Some link) = changed s path (past_list p link.down) Stays Stays
plain_step s path P.Closes None = refused NotOpen
plain_step s path P.Closes (Some link) = Ok (answers s Success)

-- the same of the first message under way
abbrev pub first_step : State → List ℕ → List P.Sent → Option P.Link → Step Outcome
first_step s path [] link = Ok (answers s Silence)
first_step s path (m ∷ sent) link = plain_step s path m.message link

-- the cause that an editor of a script is told
abbrev pub cause_of : Refusal → Cause
cause_of NotOpen = P.NotOpen
cause_of AlreadyOpen = P.AlreadyOpen
cause_of (BadRevision confirmed issued seen) = P.BadRevision
cause_of refusal = P.Other (code refusal)

abbrev pub verdict_of : Step Outcome → Verdict
verdict_of (Ok outcome) = Accepts
verdict_of (Err refused) = Refuses (cause_of refused.refusal)

-- an editor is told of an effect on its file
abbrev pub told_seat : ℕ → Effect → Seat → Seat
told_seat d effect x =
    if x.daemon == d && is_path effect.path x.path then record x { editor = P.told effect.delta x.editor } else x

-- and of several in turn
abbrev pub told_seats : ℕ → List Effect → Seat → Seat
told_seats d [] x = x
told_seats d (effect ∷ effects) x = told_seats d effects (told_seat d effect x)

-- the next world, and the lines that are printed
pub record Played : Type 0 where
  pub world : World
  pub printed : List ℕ

-- an editor's first message is handled, by a daemon that has come to this step
abbrev pub handled_seat : Step Outcome → List ℕ → Seat → Seat
handled_seat step view x = record x { editor = P.handled (verdict_of step) view x.editor }

-- the world after a message of editor e, and what the connections are sent that the script feeds
abbrev pub handled_so : World → ℕ → Seat → Host → Step Outcome → Outcome → Played
handled_so w e x h step o =
    record {
      world = record w {
        hosts = slice_set w.hosts x.daemon (record h { state = state_told h.state o });
        seats = one_and_others (handled_seat step (text_at o.history x.path)) (told_seats x.daemon o.effects) e w.seats;
      };
      printed = told_lines x.daemon (flat_map (told_outputs h.state.base o.effects) h.state.connections);
    }

-- the first message of editor e comes to its daemon
abbrev pub handled : World → ℕ → Seat → Host → Played
handled w e x h =
    let step = first_step h.state x.path x.editor.sent x.editor.link in handled_so w e x h step (or_refusal h.state step)
