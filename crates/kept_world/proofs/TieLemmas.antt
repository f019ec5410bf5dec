-- What stands across in the plain machine, and what stays tied where something else has changed.
use Rattle.std.proofs.Common.{◌≡◌, inl, inr, ℕ, ◌≤◌, true, Option, Some, None, refl, sym, ap, ◌∙◌, subst, arith}
use Rattle.std.specs.Prelude.{slice_get, slice_set, option_and_then, if◌then◌else◌}
use Rattle.file_uri.specs.Base.{BaseView}
use Rattle.file_uri.specs.UriOf.{uri_of}
use Rattle.bridge_world.specs.Counted as N
use Rattle.bridge_world.specs.Tie.{Good}
use Rattle.daemon_core.specs.History.{History, text_at}
use Rattle.frame_world.specs.Seats.{Seat}
use Rattle.frame_world.specs.Tie.{IsTied}
use Rattle.plain_world.specs.Playing as plain
use Rattle.plain_world.specs.World as P
use Rattle.plain_world.proofs.ListLemmas.{from_set}
use Rattle.kept_world.specs.Tie.{IsTiedHost, HostTied, ConnectedAs, IsTiedEditor, AreOnTheirOwn, Ties}
use Rattle.kept_world.specs.Worlds.{KeptHost, KeptEditor, KeptWorld, next_connection, if_there, running, editor_of, with_seat}
use Rattle.kept_world.proofs.ZipLemmas.{Across, across, none_across, zip_set}

-- Daemons.

pub running_at : (k : KeptWorld) (d : ℕ) (h : KeptHost) → running k d ≡ Some h → slice_get k.hosts d ≡ Some (Some h)
running_at k d h runs = by (slice_get k.hosts d) runs where
  by : (found : Option (Option KeptHost)) → option_and_then if_there found ≡ Some h → found ≡ Some (Some h)
  by None is = cc
  by (Some host) is = ap Some is

-- a plain daemon, if it runs
abbrev if_runs : P.Host → Option P.Host
if_runs g = if g.runs then Some g else None

pub plain_running : (w : P.World) (d : ℕ) (g : P.Host) → P.host_of w d ≡ Some g → g.runs ≡ true → P.running w d ≡ Some g
plain_running w d g there runs = ap (option_and_then if_runs) there ∙ ap (λ b. if b then Some g else None) runs

-- a daemon that runs, across
pub record RunsAlike (base : BaseView) (k : KeptWorld) (w : P.World) (d : ℕ) (h : KeptHost) : Type 0 where
  pub plain : P.Host
  pub there : P.host_of w d ≡ Some plain
  pub runs : P.running w d ≡ Some plain
  pub tied : IsTiedHost base (next_connection k) h plain

pub runs_alike : (base : BaseView) (k : KeptWorld) (w : P.World) (d : ℕ) (h : KeptHost) → Ties base k w → running k d ≡ Some h
    → RunsAlike base k w d h
runs_alike base k w d h ties runs =
    let one = across (HostTied base (next_connection k)) k.hosts w.hosts d (Some h) ties.hosts (running_at k d h runs) in
    record { plain = one.item; there = one.there; runs = plain_running w d one.item one.there one.tied.runs; tied = one.tied }

pub stopped_alike : (base : BaseView) (k : KeptWorld) (w : P.World) (d : ℕ) → Ties base k w → running k d ≡ None → P.running w d ≡ None
stopped_alike base k w d ties stopped = by (slice_get k.hosts d) refl stopped where
  by : (found : Option (Option KeptHost)) → slice_get k.hosts d ≡ found → option_and_then if_there found ≡ None → P.running w d ≡ None
  by None is none = ap (option_and_then if_runs) (none_across (HostTied base (next_connection k)) k.hosts w.hosts d ties.hosts is)
  by (Some None) is none =
      let one = across (HostTied base (next_connection k)) k.hosts w.hosts d None ties.hosts is in
      ap (option_and_then if_runs) one.there ∙ ap (λ b. if b then Some one.item else None) one.tied
  by (Some (Some h)) is none = cc

-- Editors.

pub sits_alike : (base : BaseView) (k : KeptWorld) (w : P.World) (e : ℕ) (x : KeptEditor) → Ties base k w → editor_of k e ≡ Some x
    → Across (IsTiedEditor base k w) w.seats e x
sits_alike base k w e x ties found = across (IsTiedEditor base k w) k.editors w.seats e x ties.editors found

pub none_sits : (base : BaseView) (k : KeptWorld) (w : P.World) (e : ℕ) → Ties base k w → editor_of k e ≡ None → P.seat_of w e ≡ None
none_sits base k w e ties found = none_across (IsTiedEditor base k w) k.editors w.seats e ties.editors found

-- the connection of an editor is as it was
pub connected_on : (k l : KeptWorld) (x : KeptEditor) (counted : N.Editor) (c : Option ℕ) → running l x.daemon ≡ running k x.daemon
    → k.connections ≤ l.connections → ConnectedAs k x counted c → ConnectedAs l x counted c
connected_on k l x counted None same more apart = apart
connected_on k l x counted (Some n) same more at = record {
  host = at.host;
  runs = same ∙ at.runs;
  at = at.at;
  own = at.own;
  below = omega (arith, at.below, more);
}

-- a daemon has these files
pub record HasFiles (v : P.World) (d : ℕ) (history : History) : Type 0 where
  pub host : P.Host
  pub there : P.host_of v d ≡ Some host
  pub files : host.state.history ≡ history

-- each editor's daemon has the files that it had
abbrev pub SameFiles : P.World → P.World → Type 0
SameFiles w v = (d : ℕ) (g : P.Host) → P.host_of w d ≡ Some g → HasFiles v d g.state.history

pub no_other_files : (w v : P.World) → v.hosts ≡ w.hosts → SameFiles w v
no_other_files w v same d g there = record { host = g; there = ap (λ hosts. slice_get hosts d) same ∙ there; files = refl }

-- an editor that has not changed is still tied
pub still_tied : (base : BaseView) (k l : KeptWorld) (w v : P.World) (x : KeptEditor) (y : P.Seat) → SameFiles w v
    → ((counted : N.Editor) → ConnectedAs k x counted x.connection → ConnectedAs l x counted x.connection)
    → IsTiedEditor base k w x y → IsTiedEditor base l v x y
still_tied base k l w v x y files connected t =
    let new = files x.daemon t.host t.there in
    record {
      daemon = t.daemon;
      path = t.path;
      connection = t.connection;
      path_is = t.path_is;
      host = new.host;
      there = new.there;
      counted = t.counted;
      plain = t.plain;
      good = subst (λ history. Good (text_at history x.path) t.counted) (sym new.files) t.good;
      tied = t.tied;
      connected = connected t.counted t.connected;
    }

-- Connections of one's own.

-- an editor has this connection
pub record Has (k : KeptWorld) (e n : ℕ) : Type 0 where
  pub editor : KeptEditor
  pub there : editor_of k e ≡ Some editor
  pub connection : editor.connection ≡ Some n

-- none has a connection that it had not
pub own_again : (k l : KeptWorld) → ((e n : ℕ) → Has l e n → Has k e n) → AreOnTheirOwn k → AreOnTheirOwn l
own_again k l had own e f n x y at_e at_f of_x of_y =
    let a = had e n (record { editor = x; there = at_e; connection = of_x }) in
    let b = had f n (record { editor = y; there = at_f; connection = of_y }) in
    own e f n a.editor b.editor a.there b.there a.connection b.connection

-- where one editor has changed, all but its connection
pub had_before : (k l : KeptWorld) (e : ℕ) (x z : KeptEditor) → editor_of k e ≡ Some x → l.editors ≡ slice_set k.editors e z
    → ((n : ℕ) → z.connection ≡ Some n → x.connection ≡ Some n) → (f n : ℕ) → Has l f n → Has k f n
had_before k l e x z found is kept f n had =
    elim (from_set k.editors e f z had.editor (ap (λ xs. slice_get xs f) (sym is) ∙ had.there)) [
      | inl same ↦ record { editor = had.editor; there = same; connection = had.connection }
      | inr set ↦
          record {
            editor = x;
            there = ap (editor_of k) set.0 ∙ found;
            connection = kept n (ap (λ (q : KeptEditor). q.connection) (sym set.1) ∙ had.connection);
          }
    ]

-- One editor has changed, and no daemon.

pub seat_tied : (base : BaseView) (k : KeptWorld) (w : P.World) (e : ℕ) (x : KeptEditor) (y : P.Seat) (s : Seat) (next : N.Editor) → Ties base k w
    → editor_of k e ≡ Some x → (t : IsTiedEditor base k w x y) → Good (text_at t.host.state.history x.path) next → IsTied (uri_of base x.path) s next
    → ConnectedAs k (record x { seat = s }) next x.connection → Ties base (with_seat k e x s) (plain.with_editor w e y (N.plain_of next))
seat_tied base k w e x y s next ties found t good tied connected =
    let z : KeptEditor = record x { seat = s } in
    let l : KeptWorld = with_seat k e x s in
    let v : P.World = plain.with_editor w e y (N.plain_of next) in
    let none : k.connections ≤ k.connections = omega arith in
    record {
      hosts = ties.hosts;
      editors =
          zip_set (IsTiedEditor base k w) (IsTiedEditor base l v) k.editors w.seats e z (record y { editor = N.plain_of next })
          (λ j a b apart at there r.
          still_tied base k l w v a b (no_other_files w v refl) (λ counted. connected_on k l a counted a.connection refl none) r)
          (record {
            daemon = t.daemon;
            path = t.path;
            connection = t.connection;
            path_is = t.path_is;
            host = t.host;
            there = t.there;
            counted = next;
            plain = refl;
            good = good;
            tied = tied;
            connected = connected_on k l z next x.connection refl none connected;
          })
          ties.editors;
      connections = ties.connections;
      on_their_own = own_again k l (had_before k l e x z found refl (λ n is. is)) ties.on_their_own;
    }
