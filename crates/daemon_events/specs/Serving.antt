-- What a daemon makes of each message of an editor.
use Rattle.std.specs.Prelude.{ℕ, List, [], ◌∷◌, Option, Some, None, Result, Ok, Err}
use Rattle.rpc_message.specs.declared.messages.FromEditor.{FromEditor}
use Rattle.rpc_message.specs.declared.refusals.Refusal.{Refusal}
use Rattle.rpc_message.specs.declared.refusals.Refusal.TheVariants as refusals
use Rattle.daemon_core.specs.Outcome.{LinkEvent, Refuses, Effect, effects_of}
use Rattle.daemon_core.specs.Refusing.{Step, ◌>>=◌}
use Rattle.daemon_history.specs.Holding.{Holding, view_at}
use Rattle.daemon_history.specs.Making as history
use Rattle.daemon_history.specs.Making.{Clash, making}
use Rattle.daemon_events.specs.Outcome.{Outcome, answers}
use Rattle.daemon_events.specs.State.{State, links_of}
use Rattle.daemon_events.specs.Wanting.{Desk, Wanted, wanted}

-- what connection n is shown
abbrev pub desk_of : State → ℕ → Desk
desk_of s n = record { base = s.base; view = view_at s.holding; links = links_of s n }

-- that an editor has opened a path is noted
abbrev pub noted : Option (List ℕ) → Holding → Holding
noted None holding = holding
noted (Some path) holding = history.opening holding path

-- what is held with a change, unless another has its name
abbrev pub unless_clash : LinkEvent → Result Holding Clash → Step Holding
unless_clash if_refused (Ok after) = Ok after
unless_clash if_refused (Err clash) = Err (record { refusal = refusals.Clash clash.given clash.held; own = if_refused })

-- what is held once the change is made, if there is one
abbrev pub made : State → LinkEvent → Option Effect → Step Holding
made s if_refused None = Ok s.holding
made s if_refused (Some change) = unless_clash if_refused (making s.holding change.path change.delta)

-- what all other links are told of it
abbrev pub effects_if : Option Effect → List Effect
effects_if None = []
effects_if (Some change) = effects_of change.path change.delta

-- what was asked for is done
abbrev pub done : State → Wanted → Holding → Outcome
done s w after = record (answers s w.answer) {
  holding = noted w.opens after;
  own = w.own;
  effects = effects_if w.change;
  shuts_down = w.shuts_down;
}

-- a change is made, and then noted; or it is refused
abbrev pub carried_out : State → Wanted → Step Outcome
carried_out s w = do
  after ← made s w.if_refused w.change
  Ok (done s w after)

-- what a message comes to, or why it is refused
abbrev pub on_message : State → ℕ → FromEditor → Step Outcome
on_message s n message = do
  w ← wanted (desk_of s n) message
  carried_out s w

-- which changes have one name, where that is why a message is refused
abbrev pub clashes : Refusal → List Clash
clashes (refusals.Clash given held) = record { held = held; given = given } ∷ []
clashes refusal = []

-- a refusal is an outcome too; that two changes have one name is told to a person besides
abbrev pub or_refusal : State → Step Outcome → Outcome
or_refusal s (Ok outcome) = outcome
or_refusal s (Err refused) =
    record (answers s (Refuses refused.refusal)) { own = refused.own; notices = clashes refused.refusal }
