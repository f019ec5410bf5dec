-- What a connection may be told, in the field's words.
use Rattle.std.specs.Prelude.{◌≡◌, ℕ, ◌^◌, ◌-◌, ◌<◌, List, [], ◌∷◌, Some}
use Rattle.editor_bridge.specs.Link.{Link}
use Rattle.daemon_core.specs.History.{History, text_at}
use Rattle.daemon_core.specs.Laws.{IsLinked}
use Rattle.daemon_core.specs.Outcome.{Effect}
use Rattle.daemon_core.specs.State.{Links, link_at}
use Rattle.daemon_links.specs.declared.changes.Change.{Change}

-- each link that is open leads to the daemon's text of its file
pub record AllLinked (history : History) (links : Links) : Type 0 where
  pub linked : (path : List ℕ) (link : Link) → link_at links path ≡ Some link → IsLinked history path link

-- what links are told of a change
abbrev pub effect_of : Change → Effect
effect_of change = record { path = change.path; delta = change.delta }

-- links may be told of a change of the text at a path: it is the text of a history that they lead to, which has room to count
pub record MayTell (text path : List ℕ) (links : Links) : Type 0 where
  pub history : History
  pub there : text_at history path ≡ text
  pub linked : AllLinked history links
  pub room : history.held < 2 ^ 64 - 2

-- each connection may be told
abbrev pub AllMayTell : List ℕ → List ℕ → List (ℕ × Links) → Type 0
AllMayTell text path [] = Unit {0}
AllMayTell text path (c ∷ connections) = MayTell text path c.1 × AllMayTell text path connections
