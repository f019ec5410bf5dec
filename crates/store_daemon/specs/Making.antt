-- What becomes of a message in the store: the change that it asks for is made, or another has its name.
use Rattle.std.specs.Prelude.{◌≡◌, true, false, ◌⊎◌, ◌<◌, ◌^◌, ◌-◌, ℕ, List, [], ◌∷◌, length, Option, Some, None, Ok, Err}
use Rattle.delta.specs.Cells.{base_length, applied}
use Rattle.file_uri.specs.Base.{BaseView}
use Rattle.rpc_message.specs.declared.refusals.Refusal.{Refusal}
use Rattle.rpc_message.specs.declared.refusals.Refusal.TheVariants as refusals
use Rattle.daemon_core.specs.History as texts
use Rattle.daemon_core.specs.History.{History}
use Rattle.daemon_core.specs.Outcome.{Effect, Gone, effects_of, own_links}
use Rattle.daemon_core.specs.Outputs.{own_messages}
use Rattle.daemon_core.specs.Refusing.{may_grow}
use Rattle.daemon_core.specs.State.{Links}
use Rattle.daemon_core.specs.declared.events.Notice.{Notice}
use Rattle.daemon_core.specs.declared.events.Notice.TheVariants as notice
use Rattle.daemon_history.specs.Holding.{Holding, text_at}
use Rattle.daemon_history.specs.Making.{Clash, making}
use Rattle.daemon_history.specs.Shown.{ChangesOne}
use Rattle.daemon_events.specs.Outcome.{Outcome}
use Rattle.daemon_events.specs.Serving.{noted}
use Rattle.daemon_events.specs.State.{State}
use Rattle.daemon_links.specs.Changing.{AllLinked}
use Rattle.daemon_links.specs.declared.changes.Change.{Change}
use Rattle.daemon_texts.specs.Texts.{IsAtHand, AreAtHand}
use Rattle.message_steps.specs.Following.{answer_of}
use Rattle.message_steps.specs.declared.steps.Answer.TheVariants as answers
use Rattle.message_steps.specs.declared.steps.Step.{Step}
use Rattle.store_daemon.specs.declared.making.Done.{Done}

-- ---- a change

-- a change may be made of what is held: it is for the text at its path, and makes it no longer than a text may be
pub record HoldsChange (h : Holding) (change : Change) : Type 0 where
  pub fits : base_length change.delta ≡ length (text_at h change.path)
  pub short : may_grow (length (text_at h change.path)) (length (applied change.delta (text_at h change.path))) ≡ true

-- it was made, and has changed one text
pub record IsMade (h : Holding) (change : Change) (after : Holding) : Type 0 where
  pub is : making h change.path change.delta ≡ Ok after
  pub one : ChangesOne h change.path change.delta after

-- another change was met under its name, and nothing changed
pub record IsMet (h : Holding) (change : Change) (after : Holding) (refusal : Refusal) : Type 0 where
  pub clash : Clash
  pub is : making h change.path change.delta ≡ Err clash
  pub refusal_is : refusal ≡ refusals.Clash clash.given clash.held
  pub same : after ≡ h

abbrev pub MakesSo : Holding → Change → Holding → Option Refusal → Type 0
MakesSo h change after None = IsMade h change after
MakesSo h change after (Some refusal) = IsMet h change after refusal

-- ---- a step

-- what is told to a person, if anything is
abbrev pub notices_of : Option Notice → List Clash
notices_of None = []
notices_of (Some (notice.Clash held given)) = record { held = held; given = given } ∷ []

-- what a refused message comes to
abbrev pub refused_step : Refusal → Step
refused_step refusal = record { answer = answers.Refuses refusal; messages = []; change = None; opens = None; shuts_down = false }

-- a step's change was made, and the links are as the step leaves them
pub record IsKept (h : Holding) (change : Change) (after : Holding) (step : Step) (links own : Links) (done : Done) : Type 0 where
  pub made : IsMade h change after
  pub done_is : done ≡ record { step = step; notice = None }
  pub own_is : own ≡ links

-- it met another of its name: the message is refused, and the link at its path has ended
pub record IsUndone (h : Holding) (change : Change) (after : Holding) (links own : Links) (done : Done) : Type 0 where
  pub clash : Clash
  pub is : making h change.path change.delta ≡ Err clash
  pub same : after ≡ h
  pub step_is : done.step ≡ refused_step (refusals.Clash clash.given clash.held)
  pub notices_are : notices_of done.notice ≡ clash ∷ []
  pub own_is : own ≡ own_links (Gone change.path) links

-- a step without a change leaves all as it is
pub record IsStill (h after : Holding) (step : Step) (links own : Links) (done : Done) : Type 0 where
  pub same : after ≡ h
  pub done_is : done ≡ record { step = step; notice = None }
  pub own_is : own ≡ links

abbrev pub CarriesStep : Holding → Option Change → Holding → Step → Links → Links → Done → Type 0
CarriesStep h None after step links own done = IsStill h after step links own done
CarriesStep h (Some change) after step links own done =
    IsKept h change after step links own done ⊎ IsUndone h change after links own done

-- ---- a message

-- what the others are told, if there is a change
abbrev pub told_of : Option Change → List Effect
told_of None = []
told_of (Some change) = effects_of change.path change.delta

-- the texts at hand with it
abbrev pub made_of : Option Change → History → History
made_of None files = files
made_of (Some change) files = texts.made files change.path change.delta

-- a change was made of a text that is at hand
pub record IsMadeAtHand (h after : Holding) (files : History) (change : Change) : Type 0 where
  pub one : ChangesOne h change.path change.delta after
  pub here : IsAtHand h files change.path
  pub fits : base_length change.delta ≡ length (texts.text_at files change.path)

abbrev pub HoldsAtHand : Holding → Holding → History → Option Change → Type 0
HoldsAtHand h after files None = after ≡ h
HoldsAtHand h after files (Some change) = IsMadeAtHand h after files change

-- what a message finds: each link leads to a text at hand, which is one that is read of the changes, and so is that at the path which
-- it opens
pub record CanCarry (h : Holding) (files : History) (links : Links) (to_open : Option (List ℕ)) : Type 0 where
  pub linked : AllLinked files links
  pub room : files.held < 2 ^ 64 - 2
  pub hand : AreAtHand h files
  pub opened : (path : List ℕ) → to_open ≡ Some path → IsAtHand h files path

-- a daemon that holds this, with one connection, 0: no more is looked at for a message of that connection
abbrev pub state_with : Holding → BaseView → Links → State
state_with h base links = record { base = base; holding = h; connections = (0, links) ∷ [] }

-- What was done is this outcome, but for the note of the path that was opened.
pub record Carries (h after : Holding) (files : History) (base : BaseView) (links own : Links) (o : Outcome) (done : Done) : Type 0 where
  pub answer : o.answer ≡ answer_of done.step.answer
  pub messages : done.step.messages ≡ own_messages base o.own links
  pub own_is : own ≡ own_links o.own links
  pub effects : o.effects ≡ told_of done.step.change
  pub notices : o.notices ≡ notices_of done.notice
  pub holding : o.holding ≡ noted done.step.opens after
  pub stops : o.shuts_down ≡ done.step.shuts_down
  pub change : HoldsAtHand h after files done.step.change
  pub linked : AllLinked (made_of done.step.change files) own
