-- What serving a frame comes to, in the contracts of private functions alone.
use Rattle.std.specs.Prelude.{◌≡◌, ℕ, List, [], ◌∷◌, ◌++◌, map, Option, Result, Ok, Err}
use Rattle.std.specs.List.{flat_map}
use Rattle.file_uri.specs.Base.{BaseView}
use Rattle.rpc_message.specs.declared.messages.FromEditor.{FromEditor}
use Rattle.rpc_message.specs.declared.messages.MessageId.{MessageId}
use Rattle.rpc_message.specs.declared.refusals.Refusal.{Refusal}
use Rattle.daemon_core.specs.History.{History}
use Rattle.daemon_core.specs.Outcome.{Stays, told_links}
use Rattle.daemon_core.specs.Outputs.{reply}
use Rattle.daemon_core.specs.Sending.{EachCanBeSent, messages_told}
use Rattle.daemon_core.specs.State.{Links}
use Rattle.daemon_core.specs.declared.events.Output.{Output}
use Rattle.daemon_history.specs.Holding.{Holding}
use Rattle.daemon_events.specs.Outcome.{Outcome}
use Rattle.daemon_events.specs.Outputs.{send, told, told_outputs, stop_if}
use Rattle.daemon_events.specs.Serving.{noted, on_message, or_refusal}
use Rattle.daemon_links.specs.Changing.{AllLinked}
use Rattle.message_steps.specs.Following.{answer_of}
use Rattle.store_daemon.specs.Fetching.{asks_to_open}
use Rattle.store_daemon.specs.Making.{CanCarry, Carries, told_of, made_of, notices_of, state_with}
use Rattle.store_daemon.specs.declared.making.Done.{Done}

-- each connection's links lead to the texts
abbrev pub AllConnected : History → List (ℕ × Links) → Type 0
AllConnected files [] = Unit {0}
AllConnected files (c ∷ connections) = AllLinked files c.1 × AllConnected files connections

-- what was done as frames: the reply, what else the connection of the message is sent, what the others are told, the notice, and that
-- the daemon is to stop
abbrev pub outputs_for : BaseView → ℕ → Option MessageId → Done → List (ℕ × Links) → List Output
outputs_for base n id done others =
    map (send n) (reply id (answer_of done.step.answer)) ++ map (send n) done.step.messages
    ++ flat_map (told_outputs base (told_of done.step.change)) others ++ (map told (notices_of done.notice) ++ stop_if done.step.shuts_down)

-- each message of them can be sent
pub record AreRead (base : BaseView) (id : Option MessageId) (done : Done) (others : List (ℕ × Links)) : Type 0 where
  pub reply : EachCanBeSent (reply id (answer_of done.step.answer))
  pub own : EachCanBeSent done.step.messages
  pub told : EachCanBeSent (flat_map (messages_told base (told_of done.step.change)) others)

-- what was asked comes to, for a daemon that holds this and one connection of these links; a body that is no message is refused
abbrev pub outcome_asked : Holding → BaseView → Links → Result FromEditor Refusal → Outcome
outcome_asked h base links (Ok message) = or_refusal (state_with h base links) (on_message (state_with h base links) 0 message)
outcome_asked h base links (Err refusal) =
    or_refusal (state_with h base links) (Err (record { refusal = refusal; own = Stays }))

-- what was asked finds, and so do the other connections
pub record CanDo (h : Holding) (files : History) (base : BaseView) (links : Links) (others : List (ℕ × Links)) (asked : Result FromEditor Refusal) : Type 0 where
  pub carry : CanCarry h files links (asks_to_open base asked)
  pub connected : AllConnected files others

-- What was asked is done and noted, it is sent, and the texts at hand and the others' links are those after it.
pub record IsHeard (h now : Holding) (files texts : History) (base : BaseView) (links own : Links) (others after : List (ℕ × Links))
    (n : ℕ) (id : Option MessageId) (asked : Result FromEditor Refusal) (sent : List Output) : Type 0 where
  pub held : Holding
  pub done : Done
  pub carries : Carries h held files base links own (outcome_asked h base links asked) done
  pub noted_is : now ≡ noted done.step.opens held
  pub files_are : texts ≡ made_of done.step.change files
  pub told_are : after ≡ map (λ c. (c.0, told_links (told_of done.step.change) c.1)) others
  pub sent_is : sent ≡ outputs_for base n id done others
  pub read : AreRead base id done others
