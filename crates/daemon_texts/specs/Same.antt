-- What holds of a daemon over a store and of one that keeps its texts, as statements.
use Rattle.std.specs.Prelude.{◌≡◌, ℕ, ◌<◌, ◌^◌, List, [], Ok}
use Rattle.rpc_message.specs.Messages.{message_of}
use Rattle.rpc_message.specs.declared.messages.FromEditor.{FromEditor}
use Rattle.daemon_core.specs.Outputs as texts_out
use Rattle.daemon_core.specs.Refusing.{◌>>=◌}
use Rattle.daemon_core.specs.Sending as texts_sent
use Rattle.daemon_core.specs.Serving.{on_message}
use Rattle.daemon_core.specs.State as texts
use Rattle.daemon_core.specs.declared.events.Event.{Event}
use Rattle.daemon_core.specs.declared.events.Event.TheVariants.{EditorBegan, Ended, EditorFrame}
use Rattle.daemon_history.specs.Holding.{held}
use Rattle.daemon_history.specs.Making.{Clash}
use Rattle.daemon_events.specs.Laws.{IsServing}
use Rattle.daemon_events.specs.Outputs.{serve, outcome_of}
use Rattle.daemon_events.specs.Sending as events_sent
use Rattle.daemon_events.specs.State.{State}
use Rattle.daemon_events.specs.Wanting.{wanted}
use Rattle.daemon_texts.specs.Texts.{HasTextsOf, desk_of, done}

-- a daemon of texts does with each message what is wanted of the desk that it shows
abbrev pub TextsDoWhatIsWanted : Type 0
TextsDoWhatIsWanted =
    (t : texts.State) (n : ℕ) (message : FromEditor)
    → on_message t n message ≡ (wanted (desk_of t n) message >>= λ w. Ok (done t w))

-- the pairs of changes of one name that a daemon over a store meets with an event
abbrev pub clashes_of : State → Event → List Clash
clashes_of s (EditorBegan n) = []
clashes_of s (Ended n) = []
clashes_of s (EditorFrame n body) = (outcome_of s n (message_of body)).notices

-- the one goes on with the texts of the other, they ask for the same, and the messages that they send are the same
pub record DoesTheSame (s : State) (t : texts.State) (event : Event) : Type 0 where
  pub texts : HasTextsOf (serve s event).state (texts_out.serve t event).state
  pub outputs : (serve s event).outputs ≡ (texts_out.serve t event).outputs
  pub sent : events_sent.messages_of s event ≡ texts_sent.messages_of t event

-- so they do with each event with which no two changes have one name
abbrev pub EventsDoTheSame : Type 0
EventsDoTheSame =
    (s : State) (t : texts.State) (event : Event) → HasTextsOf s t → IsServing s → held s.holding < 2 ^ 63 → clashes_of s event ≡ []
    → DoesTheSame s t event
