-- What a message comes to, before anything is sent: one record for all messages, from which the next state and the
-- outputs follow in one way.
use Rattle.std.specs.Prelude.{ℕ, Bool, false, not, List, [], ◌∷◌, map, filter, if◌then◌else◌}
use Rattle.std.specs.BTreeMap.{insert_entry}
use Rattle.std.specs.Cmp.Lexicographic.{slice_cmp}
use Rattle.std.specs.Ordering.{nat_cmp}
use Rattle.delta.specs.Cells.{Cells, changes_nothing}
use Rattle.editor_bridge.specs.Link.{Link, new_link, with_edit, with_pushed}
use Rattle.rpc_message.specs.declared.refusals.Refusal.{Refusal}
use Rattle.daemon_core.specs.History.{History, is_path}
use Rattle.daemon_core.specs.State.{Links, State, is_number, at_path}

-- what is answered to a message that has an id: nothing to a response, else success or a refusal
pub data Answer : Type 0 where
  Silence : Answer
  Success : Answer
  Refuses : (refusal : Refusal) → Answer

-- What a message does to the links of its own connection: nothing; a file is opened with the editor's content and with
-- the deltas that lead from there to the daemon's text; an edit is taken, made when the editor had shown so many of
-- the daemon's deltas; or the link to a file ends.
pub data LinkEvent : Type 0 where
  Stays : LinkEvent
  Opened : (path content : List ℕ) → (first : List Cells) → LinkEvent
  Taken : (path : List ℕ) → (seen : ℕ) → (edit : Cells) → LinkEvent
  Gone : (path : List ℕ) → LinkEvent

-- what has changed in the text of a file
pub record Effect : Type 0 where
  pub path : List ℕ
  pub delta : Cells

pub record Outcome : Type 0 where
  -- the files after the message
  pub history : History
  pub answer : Answer
  pub own : LinkEvent
  -- what all links of other connections are told, in order
  pub effects : List Effect
  -- the daemon is to stop
  pub shuts_down : Bool

-- a message that changes nothing and has this answer
abbrev pub answers : State → Answer → Outcome
answers s answer =
    record { history = s.history; answer = answer; own = Stays; effects = []; shuts_down = false }

-- a change that changes nothing in the text is not told
abbrev pub effects_of : List ℕ → Cells → List Effect
effects_of path d = if changes_nothing d then [] else record { path = path; delta = d } ∷ []

-- the link that is opened
abbrev pub opened_link : List ℕ → List Cells → Link
opened_link content first = record (new_link content) { unconfirmed = first }

-- what the message's own connection then has open
abbrev pub own_links : LinkEvent → Links → Links
own_links Stays links = links
own_links (Opened path content first) links = insert_entry (slice_cmp nat_cmp) links path (opened_link content first)
own_links (Taken path seen edit) links = at_path path (with_edit seen edit) links
own_links (Gone path) links = filter (λ file. not (is_path path file.0)) links

-- what another connection has open, whose links are told of these effects in turn
abbrev pub told_links : List Effect → Links → Links
told_links [] links = links
told_links (effect ∷ effects) links = told_links effects (at_path effect.path (with_pushed effect.delta) links)

-- what connection c has open after a message of connection n
abbrev pub links_after : ℕ → Outcome → ℕ → Links → Links
links_after n o c links = if is_number n c then own_links o.own links else told_links o.effects links

-- the daemon after it
abbrev pub state_after : State → ℕ → Outcome → State
state_after s n o =
    record s { history = o.history; connections = map (λ c. (c.0, links_after n o c.0 c.1)) s.connections }

-- the daemon after a message that came on none of its connections
abbrev pub state_told : State → Outcome → State
state_told s o =
    record s { history = o.history; connections = map (λ c. (c.0, told_links o.effects c.1)) s.connections }
