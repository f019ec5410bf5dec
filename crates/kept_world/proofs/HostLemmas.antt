-- What stays tied where a daemon has changed, and none of its files.
use Rattle.std.proofs.Common.{◌≡◌, ℕ, ◌==◌, ◌≤◌, ◌<◌, Bool, true, false, List, Option, Some, None, refl, sym, ap, ◌∙◌, subst, arith}
use Rattle.std.specs.Prelude.{slice_get, slice_set, option_and_then}
use Rattle.std.specs.List.{AllZip}
use Rattle.std.proofs.lemmas.Bool.{eqb-true, eqb-false}
use Rattle.file_uri.specs.Base.{BaseView}
use Rattle.bridge_world.specs.Counted as N
use Rattle.frame_world.specs.Serving.{IsAt}
use Rattle.plain_world.specs.World as P
use Rattle.plain_world.specs.declared.TheConstants.{FIRST_OWN}
use Rattle.plain_world.proofs.ListLemmas.{at_set, beside_set}
use Rattle.kept_world.specs.Tie.{HostTied, IsConnectedAt, ConnectedAs, IsTiedEditor}
use Rattle.kept_world.specs.Worlds.{KeptHost, KeptEditor, KeptWorld, next_connection, if_there, running}
use Rattle.kept_world.proofs.TieLemmas.{running_at, HasFiles, SameFiles, still_tied}
use Rattle.kept_world.proofs.ZipLemmas.{zip_set}

-- The daemons.

-- more connections may be made
pub host_more : (base : BaseView) (n m : ℕ) (x : Option KeptHost) (g : P.Host) → n ≤ m → HostTied base n x g → HostTied base m x g
host_more base n m None g more t = t
host_more base n m (Some h) g more t = record {
  runs = t.runs;
  is_base = t.is_base;
  base_is = t.base_is;
  plain_base = t.plain_base;
  history = t.history;
  connections = t.connections;
  readers = t.readers;
  fed = t.fed;
  serves = t.serves;
  rising = t.rising;
  below = λ k d within. omega (arith, t.below k d within, more);
}

-- one daemon is another one
pub hosts_set : (base : BaseView) (n m : ℕ) (xs : List (Option KeptHost)) (gs : List P.Host) (d : ℕ) (x : Option KeptHost) (g : P.Host) → n ≤ m
    → HostTied base m x g → AllZip (HostTied base n) xs gs → AllZip (HostTied base m) (slice_set xs d x) (slice_set gs d g)
hosts_set base n m xs gs d x g more one tied =
    zip_set (HostTied base n) (HostTied base m) xs gs d x g (λ j a b apart at across t. host_more base n m a b more t) one tied

-- the files of the daemons
pub files_set : (w v : P.World) (d : ℕ) (g next : P.Host) → P.host_of w d ≡ Some g → next.state.history ≡ g.state.history
    → v.hosts ≡ slice_set w.hosts d next → SameFiles w v
files_set w v d g next found same is k f there = by (k == d) refl where
  by : (b : Bool) → (k == d) ≡ b → HasFiles v k f.state.history
  by false apart = record {
    host = f;
    there = ap (λ hosts. slice_get hosts k) is ∙ beside_set w.hosts d k next (eqb-false k d apart) ∙ there;
    files = refl;
  }
  by true here =
      let one : Some g ≡ Some f = sym found ∙ ap (slice_get w.hosts) (sym (eqb-true k d here)) ∙ there in
      let host : g ≡ f = cc in
      record {
        host = next;
        there = ap (λ hosts. slice_get hosts k) is ∙ ap (slice_get (slice_set w.hosts d next)) (eqb-true k d here) ∙ at_set w.hosts d next g found;
        files = same ∙ ap (λ (q : P.Host). q.state.history) host;
      }

-- The connections of editors.

pub running_set : (k l : KeptWorld) (d : ℕ) (h next : KeptHost) → running k d ≡ Some h → l.hosts ≡ slice_set k.hosts d (Some next)
    → running l d ≡ Some next
running_set k l d h next runs is =
    ap (λ hosts. option_and_then if_there (slice_get hosts d)) is
    ∙ ap (option_and_then if_there) (at_set k.hosts d (Some next) (Some h) (running_at k d h runs))

pub running_beside : (k l : KeptWorld) (d i : ℕ) (next : Option KeptHost) → (i ≡ d → ⊥) → l.hosts ≡ slice_set k.hosts d next → running l i ≡ running k i
running_beside k l d i next apart is =
    ap (λ hosts. option_and_then if_there (slice_get hosts i)) is ∙ ap (option_and_then if_there) (beside_set k.hosts d i next apart)

-- where a daemon has changed, an editor has its connection if it has it still at that daemon
pub connected_set : (k l : KeptWorld) (d : ℕ) (h next : KeptHost) (x : KeptEditor) (counted : N.Editor) (c : Option ℕ) → running k d ≡ Some h
    → l.hosts ≡ slice_set k.hosts d (Some next) → k.connections ≤ l.connections
    → ((n : ℕ) → c ≡ Some n → FIRST_OWN ≤ n → n < next_connection k → IsAt h.state n x.path counted → IsAt next.state n x.path counted)
    → ConnectedAs k x counted c → ConnectedAs l x counted c
connected_set k l d h next x counted None runs is more still at = at
connected_set k l d h next x counted (Some n) runs is more still at = by (x.daemon == d) refl where
  by : (b : Bool) → (x.daemon == d) ≡ b → IsConnectedAt l x n counted
  by false apart = record {
    host = at.host;
    runs = running_beside k l d x.daemon (Some next) (eqb-false x.daemon d apart) is ∙ at.runs;
    at = at.at;
    own = at.own;
    below = omega (arith, at.below, more);
  }
  by true here =
      let one : Some at.host ≡ Some h = sym at.runs ∙ ap (running k) (eqb-true x.daemon d here) ∙ runs in
      let host : at.host ≡ h = cc in
      record {
        host = next;
        runs = ap (running l) (eqb-true x.daemon d here) ∙ running_set k l d h next runs is;
        at = still n refl at.own at.below (subst (λ (q : KeptHost). IsAt q.state n x.path counted) host at.at);
        own = at.own;
        below = omega (arith, at.below, more);
      }

-- an editor that has not changed is tied still
pub beside_host : (base : BaseView) (k l : KeptWorld) (w v : P.World) (d : ℕ) (h next : KeptHost) (x : KeptEditor) (y : P.Seat) → running k d ≡ Some h
    → l.hosts ≡ slice_set k.hosts d (Some next) → k.connections ≤ l.connections → SameFiles w v
    → ((counted : N.Editor) (n : ℕ) → x.connection ≡ Some n → FIRST_OWN ≤ n → n < next_connection k → IsAt h.state n x.path counted
    → IsAt next.state n x.path counted)
    → IsTiedEditor base k w x y → IsTiedEditor base l v x y
beside_host base k l w v d h next x y runs is more files still t =
    still_tied base k l w v x y files (λ counted. connected_set k l d h next x counted x.connection runs is more (still counted)) t
