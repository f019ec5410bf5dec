-- What the code of each message comes to, against what the message asks for.
use Rattle.std.specs.Prelude.{◌≡◌, true, ◌⊎◌, [], length, Option, Some, None, Result, Ok, Err, MatchResult}
use Rattle.delta.specs.Cells.{base_length, applied}
use Rattle.rpc_message.specs.Refusing.{refusal_for}
use Rattle.rpc_message.specs.declared.faults.Cause.{Cause}
use Rattle.rpc_message.specs.declared.faults.MessageFault.{MessageFault}
use Rattle.rpc_message.specs.declared.faults.MessageFault.TheVariants as fault
use Rattle.rpc_message.specs.declared.messages.Incoming.{Incoming}
use Rattle.rpc_message.specs.declared.messages.MessageId.{MessageId}
use Rattle.rpc_message.specs.declared.refusals.Refusal.{Refusal}
use Rattle.daemon_core.specs.History.{History}
use Rattle.daemon_core.specs.Outcome as outcome
use Rattle.daemon_core.specs.Outcome.{LinkEvent, Stays, Gone, own_links}
use Rattle.daemon_core.specs.Outputs.{own_messages}
use Rattle.daemon_core.specs.Refusing as refusing
use Rattle.daemon_core.specs.Refusing.{may_grow}
use Rattle.daemon_core.specs.State.{Links}
use Rattle.daemon_events.specs.Wanting.{Desk, Wanted, text_on, asks}
use Rattle.daemon_links.specs.Changing.{effect_of}
use Rattle.daemon_links.specs.Editing.{Stops}
use Rattle.daemon_links.specs.declared.changes.Change.{Change}
use Rattle.daemon_links.specs.declared.stops.Stop.{Stop}
use Rattle.message_steps.specs.Asking.{Shows}
use Rattle.message_steps.specs.declared.heard.Heard.{Heard}
use Rattle.message_steps.specs.declared.steps.Answer.{Answer}
use Rattle.message_steps.specs.declared.steps.Answer.TheVariants.{Silence, Success, Refuses}
use Rattle.message_steps.specs.declared.steps.Step.{Step}

-- a body is no message, and its id is answered with this refusal
pub record IsNoMessage (read : Result Incoming MessageFault) (id : Option MessageId) (refusal : Refusal) : Type 0 where
  pub cause : Cause
  pub read_is : read ≡ Err (fault.Refused id cause)
  pub refusal_is : refusal ≡ refusal_for cause

-- what was heard is the message that a body is read as, with its id, or that it is none
abbrev pub Hears : Result Incoming MessageFault → Heard → Type 0
Hears read heard =
    MatchResult heard.asked (λ message. read ≡ Ok (record { id = heard.id; message = message })) (IsNoMessage read heard.id)

-- what a message asks for, or why it is refused
abbrev pub Asked : Type 0
Asked = refusing.Step Wanted

-- a refusal asks for its answer, and for what it does to the links
abbrev pub or_refused : Asked → Wanted
or_refused (Ok w) = w
or_refused (Err refused) = record (asks (outcome.Refuses refused.refusal)) { own = refused.own }

-- an answer, in the field's words
abbrev pub answer_of : Answer → outcome.Answer
answer_of Silence = outcome.Silence
answer_of Success = outcome.Success
answer_of (Refuses refusal) = outcome.Refuses refusal

-- The change of the step is the one that is asked for, and it may be made: it is for the text that the desk shows, which is at hand, and
-- makes it no longer than a text may be. Where it cannot be made, its link ends: that leaves the links that are then asked for, and
-- nothing is sent.
pub record IsWantedChange (files : History) (d : Desk) (w : Wanted) (own : Links) (change : Change) : Type 0 where
  pub is : w.change ≡ Some (effect_of change)
  pub at_hand : Shows files d.view change.path
  pub fits : base_length change.delta ≡ length (text_on d change.path)
  pub short : may_grow (length (text_on d change.path)) (length (applied change.delta (text_on d change.path))) ≡ true
  pub if_refused : (w.if_refused ≡ Stays) ⊎ (w.if_refused ≡ Gone change.path)
  pub undone : own_links w.if_refused d.links ≡ own_links (Gone change.path) own
  pub unsent : own_messages d.base w.if_refused d.links ≡ []

-- the change of the step, if one is asked for
abbrev pub Changes : History → Desk → Wanted → Links → Option Change → Type 0
Changes files d w own None = w.change ≡ None
Changes files d w own (Some change) = IsWantedChange files d w own change

-- the step is what is asked for, and the connection then has these files open
pub record Meets (files : History) (d : Desk) (w : Wanted) (own : Links) (step : Step) : Type 0 where
  pub answer : w.answer ≡ answer_of step.answer
  pub messages : step.messages ≡ own_messages d.base w.own d.links
  pub own_is : own ≡ own_links w.own d.links
  pub change : Changes files d w own step.change
  pub opens : w.opens ≡ step.opens
  pub stops : w.shuts_down ≡ step.shuts_down

-- the step is what a message asks for, which is not refused
pub record Does (files : History) (d : Desk) (asked : Asked) (own : Links) (step : Step) : Type 0 where
  pub w : Wanted
  pub asked_is : asked ≡ Ok w
  pub meets : Meets files d w own step

-- a message is refused so, and the connection then has these files open
pub record IsRefused (d : Desk) (asked : Asked) (own : Links) (refusal : Refusal) : Type 0 where
  pub event : LinkEvent
  pub asked_is : asked ≡ Err (record { refusal = refusal; own = event })
  pub own_is : own ≡ own_links event d.links
  pub silent : own_messages d.base event d.links ≡ []

-- the code comes to what a message asks for, or is stopped where it is refused or memory ran out
abbrev pub Follows : History → Desk → Asked → Links → Result Step Stop → Type 0
Follows files d asked own result = MatchResult result (Does files d asked own) (Stops (IsRefused d asked own))
