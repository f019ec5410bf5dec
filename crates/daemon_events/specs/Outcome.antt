-- What a message comes to, before anything is sent: one record for all messages, from which the next state and the outputs follow in
-- one way.
use Rattle.std.specs.Prelude.{ℕ, Bool, false, List, [], map, if◌then◌else◌}
use Rattle.daemon_core.specs.Outcome.{Answer, LinkEvent, Stays, Effect, own_links, told_links}
use Rattle.daemon_core.specs.State.{Links, is_number}
use Rattle.daemon_history.specs.Holding.{Holding}
use Rattle.daemon_history.specs.Making.{Clash}
use Rattle.daemon_events.specs.State.{State}

pub record Outcome : Type 0 where
  -- what the daemon holds and has recorded after the message
  pub holding : Holding
  pub answer : Answer
  pub own : LinkEvent
  -- what all links of other connections are told, in order
  pub effects : List Effect
  -- what a person is told: two changes that have one name
  pub notices : List Clash
  -- the daemon is to stop
  pub shuts_down : Bool

-- a message that changes nothing and has this answer
abbrev pub answers : State → Answer → Outcome
answers s answer =
    record { holding = s.holding; answer = answer; own = Stays; effects = []; notices = []; shuts_down = false }

-- what connection c has open after a message of connection n
abbrev pub links_after : ℕ → Outcome → ℕ → Links → Links
links_after n o c links = if is_number n c then own_links o.own links else told_links o.effects links

-- the daemon after it
abbrev pub state_after : State → ℕ → Outcome → State
state_after s n o =
    record s { holding = o.holding; connections = map (λ c. (c.0, links_after n o c.0 c.1)) s.connections }
