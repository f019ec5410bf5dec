-- Connections that a script feeds begin and end in both worlds.
use Rattle.std.proofs.Common.{◌≡◌, ℕ, ◌≤◌, ◌<◌, true, false, ◌&&◌, not, List, [], filter, Option, Some, is_some, nat_lt, refl, sym, ap, ◌∙◌, arith}
use Rattle.std.specs.Prelude.{option_and_then}
use Rattle.std.specs.BTreeMap.{insert_entry}
use Rattle.std.specs.Map.{lookup}
use Rattle.std.specs.Ordering.{nat_cmp}
use Rattle.std.proofs.lemmas.Bool.{ltb-true, and_parts}
use Rattle.std.proofs.lemmas.Map.Views.{All-keys-insert_entry}
use Rattle.file_uri.specs.Base.{BaseView}
use Rattle.rpc_frame.specs.Stream.{StreamEnd, Begun}
use Rattle.bridge_world.specs.Counted as N
use Rattle.bridge_world.specs.Lists.{only_if}
use Rattle.daemon_core.specs.Outputs.{serve}
use Rattle.daemon_core.specs.State.{is_number}
use Rattle.daemon_core.specs.declared.events.Event.TheVariants.{EditorBegan}
use Rattle.daemon_core.proofs.ServeLemmas.{began, ended}
use Rattle.frame_world.specs.Serving.{IsAt}
use Rattle.frame_world.proofs.ConnectionLemmas.{connections_are_alike}
use Rattle.plain_world.specs.Handling.{Played}
use Rattle.plain_world.specs.Playing as plain
use Rattle.plain_world.specs.RawFrames as raw
use Rattle.plain_world.specs.World as P
use Rattle.plain_world.specs.declared.TheConstants.{FIRST_OWN}
use Rattle.plain_world.proofs.StepLemmas.{found_then, allowed_if}
use Rattle.kept_world.specs.Events.{KeptPlayed}
use Rattle.kept_world.specs.Steps.{quietly, kept_of, raw_begun, raw_begins, without_raw, raw_ends}
use Rattle.kept_world.specs.Tie.{IsTiedHost, Ties}
use Rattle.kept_world.specs.Worlds.{KeptHost, KeptWorld, next_connection, running, with_host}
use Rattle.kept_world.proofs.Alike.{Comes, comes_to}
use Rattle.kept_world.proofs.FedLemmas.{fed_put, fed_without}
use Rattle.kept_world.proofs.HostLemmas.{hosts_set, files_set, beside_host}
use Rattle.kept_world.proofs.NumberLemmas.{rising_put, rising_without, all_without, each_put, each_without, each_found, other_number}
use Rattle.kept_world.proofs.TieLemmas.{runs_alike, RunsAlike, own_again}
use Rattle.kept_world.proofs.ZipLemmas.{zip_each}

-- a daemon has changed, and none of its editors' connections
pub host_tied : (base : BaseView) (k : KeptWorld) (w : P.World) (d : ℕ) (h next : KeptHost) (g after : P.Host) → Ties base k w → running k d ≡ Some h
    → P.host_of w d ≡ Some g → after.state.history ≡ g.state.history → IsTiedHost base (next_connection k) next after
    → ((path : List ℕ) (counted : N.Editor) (n : ℕ) → FIRST_OWN ≤ n → IsAt h.state n path counted → IsAt next.state n path counted)
    → Ties base (with_host k d next) (raw.with_host w d after)
host_tied base k w d h next g after ties runs there same tied still =
    let l : KeptWorld = with_host k d next in
    let v : P.World = raw.with_host w d after in
    let n : ℕ = next_connection k in
    let none : k.connections ≤ k.connections = omega arith in
    record {
      hosts = hosts_set base n n k.hosts w.hosts d (Some next) after (omega arith) tied ties.hosts;
      editors =
          zip_each _ _ k.editors w.seats
          (λ j x y at across t.
          beside_host base k l w v d h next x y runs refl none (files_set w v d g after there same refl)
          (λ counted m is own below. still x.path counted m own) t)
          ties.editors;
      connections = ties.connections;
      on_their_own = own_again k l (λ e m had. record { editor = had.editor; there = had.there; connection = had.connection }) ties.on_their_own;
    }

-- the same connections of one's own, where one that is fed begins
begun_tied : (base : BaseView) (n c : ℕ) (h : KeptHost) (g : P.Host) → nat_lt c FIRST_OWN ≡ true → FIRST_OWN ≤ n → IsTiedHost base n h g
    → IsTiedHost base n (raw_begun h c)
    (record g { state = (serve g.state (EditorBegan c)).state; readers = insert_entry nat_cmp g.readers c (Begun []) })
begun_tied base n c h g fed above t =
    let low : c < FIRST_OWN = ltb-true c FIRST_OWN fed in
    let under : c < n = omega (arith, low, above) in
    record {
      runs = t.runs;
      is_base = t.is_base;
      base_is = t.base_is;
      plain_base = t.plain_base;
      history = t.history;
      connections =
          ap (λ cs. insert_entry nat_cmp cs c []) t.connections ∙ sym (fed_put c [] h.state.connections fed t.rising);
      readers = ap (λ rs. insert_entry nat_cmp rs c (Begun [])) t.readers;
      fed = each_put (λ (m : ℕ). nat_lt m FIRST_OWN ≡ true) c (Begun []) h.readers fed t.fed;
      serves = began h.state c t.serves;
      rising = rising_put c [] h.state.connections t.rising;
      below = All-keys-insert_entry nat_cmp c [] (λ (m : ℕ). m < n) h.state.connections t.below under;
    }

abbrev begun_plain : P.World → ℕ → ℕ → P.Host → List (ℕ × StreamEnd) → Option Played
begun_plain w d c g readers =
    only_if (nat_lt c FIRST_OWN && not (is_some (lookup (is_number c) readers)))
    (plain.quietly (raw.with_host w d (record g { state = (serve g.state (EditorBegan c)).state; readers = insert_entry nat_cmp g.readers c (Begun []) })))

pub raw_begins_alike : (base : BaseView) (k : KeptWorld) (w : P.World) (d c : ℕ) (p : KeptPlayed) → Ties base k w → raw_begins k d c ≡ Some p
    → Comes base (raw.raw_begins w d c) p
raw_begins_alike base k w d c p ties begun =
    let found = found_then (running k d) _ p begun in
    let h : KeptHost = found.item in
    let allowed = allowed_if _ _ p found.next in
    let r : RunsAlike base k w d h = runs_alike base k w d h ties found.is in
    let g : P.Host = r.plain in
    let after : P.Host = record g { state = (serve g.state (EditorBegan c)).state; readers = insert_entry nat_cmp g.readers c (Begun []) } in
    let fed : nat_lt c FIRST_OWN ≡ true = (and_parts (nat_lt c FIRST_OWN) _ allowed.passes).0 in
    let low : c < FIRST_OWN = ltb-true c FIRST_OWN fed in
    let next : Played = plain.quietly (raw.with_host w d after) in
    let steps : raw.raw_begins w d c ≡ Some next =
    ap (option_and_then (λ (q : P.Host). begun_plain w d c q q.readers)) r.runs
    ∙ ap (begun_plain w d c g) r.tied.readers
    ∙ ap (λ b. only_if b next) allowed.passes in
    comes_to base (raw.raw_begins w d c) p (quietly (with_host k d (raw_begun h c))) next allowed.is steps
    (record {
      tied =
          host_tied base k w d h (raw_begun h c) g after ties found.is r.there refl
          (begun_tied base (next_connection k) c h g fed (omega arith) r.tied)
          (λ path counted n own at.
          (connections_are_alike h.state n path counted).another_begins c (other_number n c (λ same. omega (arith, low, own, same))) at);
      printed = refl;
    })

-- One ends.

ended_tied : (base : BaseView) (n c : ℕ) (h : KeptHost) (g : P.Host) → IsTiedHost base n h g → IsTiedHost base n (without_raw c h) (raw.without_raw c g)
ended_tied base n c h g t = record {
  runs = t.runs;
  is_base = t.is_base;
  base_is = t.base_is;
  plain_base = t.plain_base;
  history = t.history;
  connections =
      ap (filter (λ q. not (is_number c q.0))) t.connections ∙ sym (fed_without c h.state.connections);
  readers = ap (filter (λ q. not (is_number c q.0))) t.readers;
  fed = each_without (λ (m : ℕ). nat_lt m FIRST_OWN ≡ true) c h.readers t.fed;
  serves = ended h.state c t.serves;
  rising = rising_without c h.state.connections t.rising;
  below = all_without (λ (m : ℕ). m < n) c h.state.connections t.below;
}

-- a connection that is fed is none of one's own
pub fed_apart : (c n : ℕ) → c < FIRST_OWN → FIRST_OWN ≤ n → is_number c n ≡ false
fed_apart c n low own = other_number c n (λ same. omega (arith, low, own, same))

pub without_tied : (base : BaseView) (k : KeptWorld) (w : P.World) (d c : ℕ) (h : KeptHost) (g : P.Host) → Ties base k w → running k d ≡ Some h
    → P.host_of w d ≡ Some g → IsTiedHost base (next_connection k) h g → c < FIRST_OWN
    → Ties base (with_host k d (without_raw c h)) (raw.with_host w d (raw.without_raw c g))
without_tied base k w d c h g ties runs there t low =
    host_tied base k w d h (without_raw c h) g (raw.without_raw c g) ties runs there refl (ended_tied base (next_connection k) c h g t)
    (λ path counted n own at. (connections_are_alike h.state n path counted).another_ends c (fed_apart c n low own) at)

pub raw_ends_alike : (base : BaseView) (k : KeptWorld) (w : P.World) (d c : ℕ) (p : KeptPlayed) → Ties base k w → raw_ends k d c ≡ Some p
    → Comes base (raw.raw_ends w d c) p
raw_ends_alike base k w d c p ties ended =
    let found = found_then (running k d) _ p ended in
    let h : KeptHost = found.item in
    let kept = found_then (kept_of h c) _ p found.next in
    let same : Some (quietly (with_host k d (without_raw c h))) ≡ Some p = kept.next in
    let one : quietly (with_host k d (without_raw c h)) ≡ p = cc in
    let r : RunsAlike base k w d h = runs_alike base k w d h ties found.is in
    let g : P.Host = r.plain in
    let low : nat_lt c FIRST_OWN ≡ true = each_found (λ (m : ℕ). nat_lt m FIRST_OWN ≡ true) c h.readers kept.item kept.is r.tied.fed in
    let next : Played = plain.quietly (raw.with_host w d (raw.without_raw c g)) in
    let steps : raw.raw_ends w d c ≡ Some next =
    ap (option_and_then (λ (q : P.Host). option_and_then (λ (s : StreamEnd). Some (plain.quietly (raw.with_host w d (raw.without_raw c q)))) (raw.kept_of q c))) r.runs
    ∙ ap (λ readers. option_and_then (λ (s : StreamEnd). Some next) (lookup (is_number c) readers)) r.tied.readers
    ∙ ap (option_and_then (λ (s : StreamEnd). Some next)) kept.is in
    comes_to base (raw.raw_ends w d c) p (quietly (with_host k d (without_raw c h))) next one steps
    (record { tied = without_tied base k w d c h g ties found.is r.there r.tied (ltb-true c FIRST_OWN low); printed = refl })
