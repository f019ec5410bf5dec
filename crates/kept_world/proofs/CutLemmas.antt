-- The connection of an editor ends in both worlds.
use Rattle.std.proofs.Common.{◌≡◌, ℕ, ◌≤◌, ◌<◌, Some, is_some, refl, sym, ap, ◌∙◌, subst, arith}
use Rattle.std.specs.Prelude.{slice_set, option_and_then}
use Rattle.std.specs.List.{AllZip}
use Rattle.std.proofs.lemmas.Bool.{lt-leb}
use Rattle.file_uri.specs.Base.{BaseView}
use Rattle.file_uri.specs.UriOf.{uri_of}
use Rattle.bridge_world.specs.Counted as N
use Rattle.bridge_world.specs.Lists.{only_if}
use Rattle.bridge_world.specs.Plain as plain_step
use Rattle.bridge_world.proofs.GoodSteps.{good_lost}
use Rattle.bridge_world.proofs.PlainSteps.{plain-lost}
use Rattle.daemon_core.specs.History.{text_at}
use Rattle.daemon_core.proofs.ServeLemmas as serves
use Rattle.frame_world.proofs.ConnectionLemmas.{connections_are_alike}
use Rattle.frame_world.proofs.OwnLemmas.{own_steps}
use Rattle.plain_world.specs.Playing as plain
use Rattle.plain_world.specs.World as P
use Rattle.plain_world.specs.declared.TheConstants.{FIRST_OWN}
use Rattle.plain_world.proofs.StepLemmas.{found_then}
use Rattle.kept_world.specs.Events.{KeptPlayed}
use Rattle.kept_world.specs.Steps.{quietly, ended, cuts}
use Rattle.kept_world.specs.Tie.{IsTiedHost, HostTied, IsConnectedAt, ConnectedAs, IsTiedEditor, Ties}
use Rattle.kept_world.specs.Worlds.{KeptHost, KeptEditor, KeptWorld, next_connection, running, editor_of, with_host, with_editor, cut_off}
use Rattle.kept_world.proofs.Alike.{Comes, comes_to}
use Rattle.kept_world.proofs.FedLemmas.{own_without}
use Rattle.kept_world.proofs.HostLemmas.{hosts_set, beside_host}
use Rattle.kept_world.proofs.NumberLemmas.{rising_without, all_without, other_number}
use Rattle.kept_world.proofs.TieLemmas.{sits_alike, runs_alike, RunsAlike, own_again, had_before, no_other_files}
use Rattle.kept_world.proofs.ZipLemmas.{zip_set, set_itself}

-- a daemon without one of the script's own connections
own_ended : (base : BaseView) (m n : ℕ) (h : KeptHost) (g : P.Host) → FIRST_OWN ≤ n → IsTiedHost base m h g → IsTiedHost base m (ended h n) g
own_ended base m n h g own t = record {
  runs = t.runs;
  is_base = t.is_base;
  base_is = t.base_is;
  plain_base = t.plain_base;
  history = t.history;
  connections = t.connections ∙ sym (own_without n h.state.connections (lt-leb _ _ (omega arith)));
  readers = t.readers;
  fed = t.fed;
  serves = serves.ended h.state n t.serves;
  rising = rising_without n h.state.connections t.rising;
  below = all_without (λ (i : ℕ). i < m) n h.state.connections t.below;
}

-- an editor whose connection has ended
pub cut_tied : (base : BaseView) (k l : KeptWorld) (w v : P.World) (x : KeptEditor) (y : P.Seat) → P.host_of v x.daemon ≡ P.host_of w x.daemon
    → IsTiedEditor base k w x y → IsTiedEditor base l v (cut_off x) (plain.cut_off y)
cut_tied base k l w v x y same t =
    let view = text_at t.host.state.history x.path in
    record {
      daemon = t.daemon;
      path = t.path;
      connection = refl;
      path_is = t.path_is;
      host = t.host;
      there = same ∙ t.there;
      counted = N.lost t.counted;
      plain = ap plain_step.lost t.plain ∙ sym (plain-lost t.counted);
      good = good_lost view t.counted;
      tied = (own_steps (uri_of base x.path) view).loses x.seat t.counted t.tied;
      connected = record { link = refl; sent = refl; wire = refl };
    }

cut_at : (base : BaseView) (k : KeptWorld) (w : P.World) (e n : ℕ) (x : KeptEditor) (y : P.Seat) (h : KeptHost) (r : RunsAlike base k w x.daemon h) → Ties base k w
    → editor_of k e ≡ Some x → x.connection ≡ Some n → IsTiedEditor base k w x y → running k x.daemon ≡ Some h → FIRST_OWN ≤ n
    → Ties base (with_editor (with_host k x.daemon (ended h n)) e (cut_off x)) (plain.with_seat w e (plain.cut_off y))
cut_at base k w e n x y h r ties found on t runs own =
    let l : KeptWorld = with_editor (with_host k x.daemon (ended h n)) e (cut_off x) in
    let v : P.World = plain.with_seat w e (plain.cut_off y) in
    let m : ℕ = next_connection k in
    record {
      hosts =
          subst (AllZip (HostTied base m) (slice_set k.hosts x.daemon (Some (ended h n)))) (set_itself w.hosts x.daemon r.plain r.there)
          (hosts_set base m m k.hosts w.hosts x.daemon (Some (ended h n)) r.plain (omega arith) (own_ended base m n h r.plain own r.tied) ties.hosts);
      editors =
          zip_set (IsTiedEditor base k w) (IsTiedEditor base l v) k.editors w.seats e (cut_off x) (plain.cut_off y)
          (λ j a b apart at across.
          beside_host base k l w v x.daemon h (ended h n) a b runs refl (omega arith) (no_other_files w v refl)
          (λ counted i has other below there.
          (connections_are_alike h.state i a.path counted).another_ends n
          (other_number n i (λ same. apart (ties.on_their_own j e n a x at found (has ∙ ap (λ m. Some m) (sym same)) on))) there))
          (cut_tied base k l w v x y refl t)
          ties.editors;
      connections = ties.connections;
      on_their_own = own_again k l (had_before k l e x (cut_off x) found refl (λ i none. cc)) ties.on_their_own;
    }

pub cuts_alike : (base : BaseView) (k : KeptWorld) (w : P.World) (e : ℕ) (p : KeptPlayed) → Ties base k w → cuts k e ≡ Some p
    → Comes base (plain.cuts w e) p
cuts_alike base k w e p ties cut =
    let found = found_then (editor_of k e) _ p cut in
    let x : KeptEditor = found.item in
    let number = found_then x.connection _ p found.next in
    let n : ℕ = number.item in
    let host = found_then (running k x.daemon) _ p number.next in
    let h : KeptHost = host.item in
    let l : KeptWorld = with_editor (with_host k x.daemon (ended h n)) e (cut_off x) in
    let same : Some (quietly l) ≡ Some p = host.next in
    let one : quietly l ≡ p = cc in
    let across = sits_alike base k w e x ties found.is in
    let y : P.Seat = across.item in
    let t : IsTiedEditor base k w x y = across.tied in
    let at : IsConnectedAt k x n t.counted = subst (ConnectedAs k x t.counted) number.is t.connected in
    let v : P.World = plain.with_seat w e (plain.cut_off y) in
    let steps : plain.cuts w e ≡ Some (plain.quietly v) =
    ap (option_and_then (λ (q : P.Seat). only_if (is_some q.connection) (plain.quietly (plain.with_seat w e (plain.cut_off q))))) across.there
    ∙ ap (λ connection. only_if (is_some connection) (plain.quietly v)) (t.connection ∙ number.is) in
    comes_to base (plain.cuts w e) p (quietly l) (plain.quietly v) one steps
    (record {
      tied = cut_at base k w e n x y h (runs_alike base k w x.daemon h ties host.is) ties found.is number.is t host.is at.own;
      printed = refl;
    })
