-- Texts that come to hand, which were read of the changes.
use Rattle.std.specs.Prelude.{◌≡◌, ℕ, List, Option, Some, None, Result, Ok, Err}
use Rattle.file_uri.specs.Base.{BaseView}
use Rattle.rpc_message.specs.declared.messages.FromEditor.{FromEditor}
use Rattle.rpc_message.specs.declared.refusals.Refusal.{Refusal}
use Rattle.daemon_core.specs.History.{History, view_at}
use Rattle.daemon_history.specs.Holding.{Holding}
use Rattle.daemon_texts.specs.Texts.{IsAtHand, AreAtHand}
use Rattle.message_steps.specs.Asking.{path_to_open}

-- the texts at hand are those from before, and perhaps more
pub record HasMore (h : Holding) (old new : History) : Type 0 where
  pub at_hand : AreAtHand h new
  pub count : new.held ≡ old.held
  pub kept : (path text : List ℕ) → view_at old path ≡ Some text → view_at new path ≡ Some text

-- the text at a path is among them, if there is a file
pub record Fetches (h : Holding) (old new : History) (path : List ℕ) : Type 0 where
  pub more : HasMore h old new
  pub there : IsAtHand h new path

-- the path that is opened by what was asked, if one is
abbrev pub asks_to_open : BaseView → Result FromEditor Refusal → Option (List ℕ)
asks_to_open base (Ok message) = path_to_open base message
asks_to_open base (Err refusal) = None

-- the text at that path is among them
pub record FetchesFor (h : Holding) (old new : History) (to_open : Option (List ℕ)) : Type 0 where
  pub more : HasMore h old new
  pub there : (path : List ℕ) → to_open ≡ Some path → IsAtHand h new path
