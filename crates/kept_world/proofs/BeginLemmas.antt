-- A daemon begins, and a connection of the script's own begins at one.
use Rattle.std.proofs.Common.{◌≡◌, ◌⊎◌, inl, inr, ℕ, ◌+◌, ◌==◌, ◌≤◌, ◌<◌, false, ◌&&◌, [], ◌∷◌, ◌++◌, length, Option, Some, None, nat_lt, refl, sym, ap, ◌∙◌, subst, arith}
use Rattle.std.specs.Prelude.{slice_get, slice_set, option_and_then}
use Rattle.std.specs.List.{AllZip}
use Rattle.std.specs.List.Sorted.{IsStrictlySortedBy}
use Rattle.std.specs.Ordering.{nat_cmp}
use Rattle.std.proofs.lemmas.Bool.{lt-leb}
use Rattle.std.proofs.lemmas.Map.Views.{All-keys-insert_entry}
use Rattle.std.proofs.lemmas.Slice.Zip.{AllZip-long}
use Rattle.file_uri.specs.Base.{BaseView, IsBase}
use Rattle.bridge_world.specs.Counted as N
use Rattle.bridge_world.specs.Lists.{only_if}
use Rattle.daemon_core.specs.Outputs.{serve}
use Rattle.daemon_core.specs.State.{new_state}
use Rattle.daemon_core.specs.declared.events.Event.TheVariants.{EditorBegan}
use Rattle.daemon_core.proofs.ServeLemmas.{began}
use Rattle.frame_world.proofs.ConnectionLemmas.{connections_are_alike}
use Rattle.plain_world.specs.Playing as plain
use Rattle.plain_world.specs.World as P
use Rattle.plain_world.specs.declared.TheConstants.{FIRST_OWN, MOST_DAEMONS}
use Rattle.plain_world.proofs.ListLemmas.{at_push}
use Rattle.plain_world.proofs.StepLemmas.{allowed_if}
use Rattle.kept_world.specs.Events.{KeptPlayed}
use Rattle.kept_world.specs.Steps.{quietly, begins}
use Rattle.kept_world.specs.Tie.{IsTiedHost, HostTied, ConnectedAs, IsTiedEditor, AreOnTheirOwn, Ties}
use Rattle.kept_world.specs.Worlds.{KeptHost, KeptEditor, KeptWorld, next_connection, if_there, running}
use Rattle.kept_world.proofs.Alike.{Comes, comes_to}
use Rattle.kept_world.proofs.FedLemmas.{own_put}
use Rattle.kept_world.proofs.HostLemmas.{hosts_set, host_more, beside_host}
use Rattle.kept_world.proofs.NumberLemmas.{rising_put, other_number}
use Rattle.kept_world.proofs.TieLemmas.{sits_alike, running_at, Has, own_again, no_other_files, still_tied}
use Rattle.kept_world.proofs.ZipLemmas.{zip_each, zip_push, set_itself}

-- A connection of the script's own begins.

-- the daemon with it
abbrev pub with_own : KeptHost → ℕ → KeptHost
with_own h n = record h { state = (serve h.state (EditorBegan n)).state }

-- it is none that the script feeds
pub own_number : (n : ℕ) → nat_lt (FIRST_OWN + n) FIRST_OWN ≡ false
own_number n = lt-leb _ _ (omega arith)

own_begun : (base : BaseView) (k : KeptWorld) (h : KeptHost) (g : P.Host) → IsTiedHost base (next_connection k) h g
    → IsTiedHost base (FIRST_OWN + (k.connections + 1)) (with_own h (next_connection k)) g
own_begun base k h g t =
    let n : ℕ = next_connection k in
    let m : ℕ = FIRST_OWN + (k.connections + 1) in
    let more : IsTiedHost base m h g = host_more base n m (Some h) g (omega arith) t in
    record {
      runs = t.runs;
      is_base = t.is_base;
      base_is = t.base_is;
      plain_base = t.plain_base;
      history = t.history;
      connections = t.connections ∙ sym (own_put n [] h.state.connections (own_number k.connections));
      readers = t.readers;
      fed = t.fed;
      serves = began h.state n t.serves;
      rising = rising_put n [] h.state.connections t.rising;
      below = All-keys-insert_entry nat_cmp n [] (λ (i : ℕ). i < m) h.state.connections more.below (omega arith);
    }

-- the daemons with it
pub own_hosts : (base : BaseView) (k : KeptWorld) (w : P.World) (d : ℕ) (h : KeptHost) (g : P.Host) → Ties base k w → P.host_of w d ≡ Some g
    → IsTiedHost base (next_connection k) h g
    → AllZip (HostTied base (FIRST_OWN + (k.connections + 1))) (slice_set k.hosts d (Some (with_own h (next_connection k)))) w.hosts
own_hosts base k w d h g ties there t =
    let n : ℕ = next_connection k in
    let m : ℕ = FIRST_OWN + (k.connections + 1) in
    subst (AllZip (HostTied base m) (slice_set k.hosts d (Some (with_own h n)))) (set_itself w.hosts d g there)
    (hosts_set base n m k.hosts w.hosts d (Some (with_own h n)) g (omega arith) (own_begun base k h g t) ties.hosts)

-- an editor beside it
pub beside_own : (base : BaseView) (k l : KeptWorld) (w v : P.World) (d : ℕ) (h : KeptHost) (x : KeptEditor) (y : P.Seat) → running k d ≡ Some h
    → l.hosts ≡ slice_set k.hosts d (Some (with_own h (next_connection k))) → k.connections ≤ l.connections → v.hosts ≡ w.hosts
    → IsTiedEditor base k w x y → IsTiedEditor base l v x y
beside_own base k l w v d h x y runs is more same t =
    beside_host base k l w v d h (with_own h (next_connection k)) x y runs is more (no_other_files w v same)
    (λ counted m has own below at.
    (connections_are_alike h.state m x.path counted).another_begins (next_connection k) (other_number m (next_connection k) (λ same. omega (arith, below, same))) at) t

-- an editor's connection is below the next one
pub connection_below : (base : BaseView) (k : KeptWorld) (w : P.World) (e n : ℕ) → Ties base k w → Has k e n → n < next_connection k
connection_below base k w e n ties has =
    let t = (sits_alike base k w e has.editor ties has.there).tied in
    let connected : ConnectedAs k has.editor t.counted (Some n) = subst (ConnectedAs k has.editor t.counted) has.connection t.connected in
    connected.below

-- one editor has a new connection
pub own_new : (k l : KeptWorld) (e n : ℕ) → ((f m : ℕ) → Has k f m → m < n) → ((f m : ℕ) → Has l f m → Has k f m ⊎ ((f ≡ e) × (m ≡ n)))
    → AreOnTheirOwn k → AreOnTheirOwn l
own_new k l e n below had own f i m x y at_f at_i of_x of_y =
    elim (had f m (record { editor = x; there = at_f; connection = of_x })) [
      | inl a ↦
          elim (had i m (record { editor = y; there = at_i; connection = of_y })) [
            | inl b ↦ own f i m a.editor b.editor a.there b.there a.connection b.connection
            | inr b ↦ absurd (omega (arith, below f m a, b.1))
          ]
      | inr a ↦
          elim (had i m (record { editor = y; there = at_i; connection = of_y })) [
            | inl b ↦ absurd (omega (arith, below i m b, a.1))
            | inr b ↦ a.0 ∙ sym b.0
          ]
    ]

-- A daemon begins.

begun_host : (base : BaseView) (n : ℕ) → IsBase base → IsTiedHost base n (record { state = new_state base; readers = [] }) (plain.new_host base)
unfolding IsStrictlySortedBy
begun_host base n is = record {
  runs = refl;
  is_base = is;
  base_is = refl;
  plain_base = refl;
  history = refl;
  connections = refl;
  readers = refl;
  fed = tt;
  serves = record { linked = λ m path link none. cc };
  rising = tt;
  below = λ k d within. absurd (omega (arith, within));
}

-- where one more daemon comes, those that run do so still
running_more : (k l : KeptWorld) (x : Option KeptHost) (d : ℕ) (h : KeptHost) → l.hosts ≡ k.hosts ++ x ∷ [] → running k d ≡ Some h → running l d ≡ Some h
running_more k l x d h is runs =
    ap (λ hosts. option_and_then if_there (slice_get hosts d)) is
    ∙ ap (option_and_then if_there) (at_push k.hosts x d (Some h) (running_at k d h runs))

connected_more : (k l : KeptWorld) (new : Option KeptHost) (x : KeptEditor) (counted : N.Editor) (c : Option ℕ) → l.hosts ≡ k.hosts ++ new ∷ []
    → l.connections ≡ k.connections → ConnectedAs k x counted c → ConnectedAs l x counted c
connected_more k l new x counted None is same at = at
connected_more k l new x counted (Some n) is same at = record {
  host = at.host;
  runs = running_more k l new x.daemon at.host is at.runs;
  at = at.at;
  own = at.own;
  below = omega (arith, at.below, same);
}

pub begins_alike : (base : BaseView) (k : KeptWorld) (w : P.World) (d : ℕ) (p : KeptPlayed) → IsBase base → Ties base k w → begins base k d ≡ Some p
    → Comes base (plain.begins base w d) p
begins_alike base k w d p is_base ties begun =
    let allowed = allowed_if (d == length k.hosts && nat_lt d MOST_DAEMONS) _ p begun in
    let host : Option KeptHost = Some (record { state = new_state base; readers = [] }) in
    let l : KeptWorld = record k { hosts = k.hosts ++ host ∷ [] } in
    let v : P.World = record w { hosts = w.hosts ++ plain.new_host base ∷ [] } in
    let n : ℕ = next_connection k in
    let long : length w.hosts ≡ length k.hosts = AllZip-long (HostTied base n) k.hosts w.hosts ties.hosts in
    let steps : plain.begins base w d ≡ Some (plain.quietly v) =
    ap (λ size. only_if (d == size && nat_lt d MOST_DAEMONS) (plain.quietly v)) long
    ∙ ap (λ b. only_if b (plain.quietly v)) allowed.passes in
    comes_to base (plain.begins base w d) p (quietly l) (plain.quietly v) allowed.is steps
    (record {
      tied = record {
        hosts = zip_push (HostTied base n) k.hosts w.hosts host (plain.new_host base) ties.hosts (begun_host base n is_base);
        editors =
            zip_each (IsTiedEditor base k w) (IsTiedEditor base l v) k.editors w.seats
            (λ j x y at across t.
            still_tied base k l w v x y (λ i g there. record { host = g; there = at_push w.hosts (plain.new_host base) i g there; files = refl })
            (λ counted. connected_more k l host x counted x.connection refl refl) t)
            ties.editors;
        connections = ties.connections;
        on_their_own = own_again k l (λ e m had. record { editor = had.editor; there = had.there; connection = had.connection }) ties.on_their_own;
      };
      printed = refl;
    })
