-- What one change of the files is to the daemon's other connections, and to the files.
use Rattle.std.specs.Prelude.{◌≡◌, ℕ, List, [], ◌∷◌, Option, Some, None}
use Rattle.std.specs.List.{flat_map}
use Rattle.daemon_core.specs.History.{History, made}
use Rattle.daemon_core.specs.Outcome.{Effect, effects_of, state_after}
use Rattle.daemon_core.specs.Outputs.{reply, outputs, id_of, outcome_of}
use Rattle.daemon_core.specs.Sending.{EachCanBeSent, AllCanBeSent, messages_told}
use Rattle.daemon_core.specs.State.{Links, State}
use Rattle.daemon_core.specs.declared.events.Event.TheVariants.{EditorFrame}
use Rattle.file_uri.specs.Base.{BaseView}
use Rattle.rpc_message.specs.Messages.{message_of}
use Rattle.daemon_links.specs.Changing.{AllLinked}
use Rattle.daemon_links.specs.declared.changes.Change.{Change}
use Rattle.daemon_server.specs.Following.{answer_of, Changes}
use Rattle.daemon_server.specs.declared.frames.Served.{Served}
use Rattle.daemon_server.specs.declared.messages.Heard.{Heard}

-- what the others are told, if there is a change
abbrev pub effects_if : Option Change → List Effect
effects_if None = []
effects_if (Some change) = effects_of change.path change.delta

-- the files after it
abbrev pub made_if : Option Change → History → History
made_if None history = history
made_if (Some change) history = made history change.path change.delta

-- each connection's links lead to the daemon's texts
abbrev pub AllConnected : History → List (ℕ × Links) → Type 0
AllConnected history [] = Unit {0}
AllConnected history (c ∷ connections) = AllLinked history c.1 × AllConnected history connections

-- each message that is sent for what was heard, on its own connection and on the others, can be sent
pub record AreRead (base : BaseView) (heard : Heard) (others : List (ℕ × Links)) : Type 0 where
  pub reply : EachCanBeSent (reply heard.id (answer_of heard.handled.answer))
  pub own : EachCanBeSent heard.handled.messages
  pub told : EachCanBeSent (flat_map (messages_told base (effects_if heard.handled.change)) others)

-- a frame of connection n is served so far: only the change of the files is not made yet
pub record Serves (s : State) (n : ℕ) (body : List ℕ) (connections : List (ℕ × Links)) (served : Served) : Type 0 where
  pub outputs_are : served.sent ≡ outputs s n (id_of (message_of body)) (outcome_of s n (message_of body))
  pub connections_are : connections ≡ (state_after s n (outcome_of s n (message_of body))).connections
  pub change : Changes s (outcome_of s n (message_of body)) served.change
  pub read : AllCanBeSent s (EditorFrame n body)
