-- What the code of each message comes to, against the daemon's definition.
use Rattle.std.specs.Prelude.{◌≡◌, [], ◌∷◌, length, Option, Some, None, Result, Ok, Err, MatchResult}
use Rattle.delta.specs.Cells.{base_length}
use Rattle.file_uri.specs.Base.{BaseView}
use Rattle.rpc_message.specs.declared.refusals.Refusal.{Refusal}
use Rattle.daemon_core.specs.History.{History, text_at, made}
use Rattle.daemon_core.specs.Outcome as outcome
use Rattle.daemon_core.specs.Outcome.{LinkEvent, Outcome, effects_of, own_links}
use Rattle.daemon_core.specs.Outputs.{own_messages}
use Rattle.daemon_core.specs.Refusing.{Step}
use Rattle.daemon_core.specs.State.{Links, State, links_of}
use Rattle.daemon_links.specs.Editing.{Stops}
use Rattle.daemon_links.specs.declared.changes.Change.{Change}
use Rattle.daemon_links.specs.declared.stops.Stop.{Stop}
use Rattle.daemon_server.specs.declared.handled.Answer.{Answer}
use Rattle.daemon_server.specs.declared.handled.Answer.TheVariants.{Silence, Success, Refuses}
use Rattle.daemon_server.specs.declared.handled.Handled.{Handled}

-- a daemon whose one connection, 0, has these files open: no more is looked at for a message of that connection
abbrev pub desk : BaseView → History → Links → State
desk base history links = record { base = base; history = history; connections = (0, links) ∷ [] }

-- an answer, in the field's words
abbrev pub answer_of : Answer → outcome.Answer
answer_of Silence = outcome.Silence
answer_of Success = outcome.Success
answer_of (Refuses refusal) = outcome.Refuses refusal

-- an outcome makes this change of the files, which is for their text, and tells it
pub record IsOneChange (s : State) (o : Outcome) (change : Change) : Type 0 where
  pub history : o.history ≡ made s.history change.path change.delta
  pub effects : o.effects ≡ effects_of change.path change.delta
  pub fits : base_length change.delta ≡ length (text_at s.history change.path)

-- an outcome leaves the files as they are, and tells nothing
pub record IsQuiet (s : State) (o : Outcome) : Type 0 where
  pub history : o.history ≡ s.history
  pub effects : o.effects ≡ []

abbrev pub Changes : State → Outcome → Option Change → Type 0
Changes s o None = IsQuiet s o
Changes s o (Some change) = IsOneChange s o change

-- what was handled is this outcome, and the connection then has these files open
pub record Handles (s : State) (o : Outcome) (own : Links) (handled : Handled) : Type 0 where
  pub answer : o.answer ≡ answer_of handled.answer
  pub messages : handled.messages ≡ own_messages s.base o.own (links_of s 0)
  pub own_is : own ≡ own_links o.own (links_of s 0)
  pub change : Changes s o handled.change
  pub stops : o.shuts_down ≡ handled.shuts_down

-- what was handled is the outcome of a step
pub record Does (s : State) (step : Step Outcome) (own : Links) (handled : Handled) : Type 0 where
  pub outcome : Outcome
  pub step_is : step ≡ Ok outcome
  pub handles : Handles s outcome own handled

-- a step is refused so, and the connection then has these files open
pub record IsRefused (s : State) (step : Step Outcome) (own : Links) (refusal : Refusal) : Type 0 where
  pub event : LinkEvent
  pub step_is : step ≡ Err (record { refusal = refusal; own = event })
  pub own_is : own ≡ own_links event (links_of s 0)
  pub silent : own_messages s.base event (links_of s 0) ≡ []

-- the code has done a step of the definition, or was stopped where it is refused or memory ran out
abbrev pub Follows : State → Step Outcome → Links → Result Handled Stop → Type 0
Follows s step own result = MatchResult result (Does s step own) (Stops (IsRefused s step own))
