-- What ties a world that a program keeps to one of the plain machine.
use Rattle.std.specs.Prelude.{◌≡◌, ℕ, ◌≤◌, ◌<◌, nat_lt, true, false, Bool, List, [], map, filter, Option, Some, None, Ok, All}
use Rattle.std.specs.List.{AllZip}
use Rattle.std.specs.List.Sorted.{IsStrictlySortedBy}
use Rattle.std.specs.Ordering.{nat_cmp}
use Rattle.bridge_world.specs.Counted as N
use Rattle.bridge_world.specs.Lists.{Each}
use Rattle.bridge_world.specs.Tie.{Good}
use Rattle.file_uri.specs.Base.{BaseView, IsBase}
use Rattle.file_uri.specs.PathOf.{path_of}
use Rattle.file_uri.specs.UriOf.{uri_of}
use Rattle.rpc_frame.specs.Stream.{StreamEnd}
use Rattle.daemon_core.specs.History.{text_at}
use Rattle.daemon_core.specs.Laws.{IsServing}
use Rattle.daemon_core.specs.State.{Links, State}
use Rattle.frame_world.specs.Serving.{IsAt}
use Rattle.frame_world.specs.Tie.{IsTied}
use Rattle.plain_world.specs.World as P
use Rattle.plain_world.specs.declared.TheConstants.{FIRST_OWN}
use Rattle.kept_world.specs.Worlds.{KeptHost, KeptEditor, KeptWorld, next_connection, running, editor_of}

-- a connection that the script feeds
abbrev pub is_fed_one : ℕ × Links → Bool
is_fed_one c = nat_lt c.0 FIRST_OWN

abbrev pub numbers_of : State → List ℕ
numbers_of s = map (λ (c : ℕ × Links). c.0) s.connections

-- A daemon that runs has the files of the plain one, and of its connections the plain one has those that the script feeds.
pub record IsTiedHost (base : BaseView) (next : ℕ) (h : KeptHost) (g : P.Host) : Type 0 where
  pub runs : g.runs ≡ true
  pub is_base : IsBase base
  pub base_is : h.state.base ≡ base
  pub plain_base : g.state.base ≡ base
  pub history : g.state.history ≡ h.state.history
  pub connections : g.state.connections ≡ filter is_fed_one h.state.connections
  pub readers : g.readers ≡ h.readers
  -- each connection that has a reader is one that the script feeds
  pub fed : Each (λ (r : ℕ × StreamEnd). nat_lt r.0 FIRST_OWN ≡ true) h.readers
  -- each link of the daemon is as it should be
  pub serves : IsServing h.state
  -- each connection has one number, and the next one is new
  pub rising : IsStrictlySortedBy nat_cmp (numbers_of h.state)
  pub below : All (λ (n : ℕ). n < next) (numbers_of h.state)

abbrev pub HostTied : BaseView → ℕ → Option KeptHost → P.Host → Type 0
HostTied base next None g = g.runs ≡ false
HostTied base next (Some h) g = IsTiedHost base next h g

-- Where an editor is connected its daemon has that connection, on which just the editor's file is open; else nothing is under way.
pub record IsConnectedAt (k : KeptWorld) (x : KeptEditor) (n : ℕ) (counted : N.Editor) : Type 0 where
  pub host : KeptHost
  pub runs : running k x.daemon ≡ Some host
  pub at : IsAt host.state n x.path counted
  pub own : FIRST_OWN ≤ n
  pub below : n < next_connection k

pub record IsApart (x : KeptEditor) (counted : N.Editor) : Type 0 where
  pub link : counted.link ≡ None
  pub sent : counted.sent ≡ []
  pub wire : counted.wire ≡ []

abbrev pub ConnectedAs : KeptWorld → KeptEditor → N.Editor → Option ℕ → Type 0
ConnectedAs k x counted None = IsApart x counted
ConnectedAs k x counted (Some n) = IsConnectedAt k x n counted

-- The editor with its link is the plain one, with counts between: the client and what is under way are tied to one of the machine with
-- counts, and this to the plain one.
pub record IsTiedEditor (base : BaseView) (k : KeptWorld) (w : P.World) (x : KeptEditor) (y : P.Seat) : Type 0 where
  pub daemon : y.daemon ≡ x.daemon
  pub path : y.path ≡ x.path
  pub connection : y.connection ≡ x.connection
  pub path_is : path_of base (uri_of base x.path) ≡ Ok x.path
  pub host : P.Host
  pub there : P.host_of w x.daemon ≡ Some host
  pub counted : N.Editor
  pub plain : y.editor ≡ N.plain_of counted
  pub good : Good (text_at host.state.history x.path) counted
  pub tied : IsTied (uri_of base x.path) x.seat counted
  pub connected : ConnectedAs k x counted x.connection

-- no two editors have one connection
abbrev pub AreOnTheirOwn : KeptWorld → Type 0
AreOnTheirOwn k =
    (e f n : ℕ) (x y : KeptEditor) → editor_of k e ≡ Some x → editor_of k f ≡ Some y → x.connection ≡ Some n → y.connection ≡ Some n → e ≡ f

pub record Ties (base : BaseView) (k : KeptWorld) (w : P.World) : Type 0 where
  pub hosts : AllZip (HostTied base (next_connection k)) k.hosts w.hosts
  pub editors : AllZip (IsTiedEditor base k w) k.editors w.seats
  pub connections : w.connections ≡ k.connections
  pub on_their_own : AreOnTheirOwn k
