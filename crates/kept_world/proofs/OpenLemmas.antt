-- An editor opens its text in both worlds, on the connection that it has or on a new one.
use Rattle.std.proofs.Common.{◌≡◌, inl, inr, ℕ, ◌+◌, ◌≤◌, ◌<◌, true, ◌&&◌, List, length, Option, Some, None, nat_le, refl, sym, ap, ◌∙◌, subst, arith}
use Rattle.std.specs.Prelude.{slice_get, option_and_then}
use Rattle.std.proofs.lemmas.Bool.{and_parts}
use Rattle.file_uri.specs.Base.{BaseView}
use Rattle.file_uri.specs.UriOf.{uri_of}
use Rattle.bridge_world.specs.Counted as N
use Rattle.bridge_world.specs.Lists.{only_if}
use Rattle.bridge_world.specs.Plain as plain_step
use Rattle.bridge_world.specs.Plain.{State, Opening, Open, Closed, is_closed}
use Rattle.bridge_world.proofs.GoodSteps.{good_opened}
use Rattle.bridge_world.proofs.PlainSteps.{plain-opened}
use Rattle.daemon_core.specs.History.{text_at}
use Rattle.editor_client.specs.Editor as client
use Rattle.editor_client.specs.Requests.{open_request}
use Rattle.frame_world.specs.Laws.{IsReadBack}
use Rattle.frame_world.specs.Seats as seat
use Rattle.frame_world.specs.Seats.{Seat}
use Rattle.frame_world.specs.Serving.{HasNone}
use Rattle.frame_world.proofs.ConnectionLemmas.{connections_are_alike}
use Rattle.frame_world.proofs.OwnLemmas.{own_steps}
use Rattle.plain_world.specs.Handling.{Played}
use Rattle.plain_world.specs.Playing as plain
use Rattle.plain_world.specs.World as P
use Rattle.plain_world.specs.declared.TheConstants.{FIRST_OWN, LONGEST_SENT}
use Rattle.plain_world.proofs.ListLemmas.{from_set}
use Rattle.plain_world.proofs.StepLemmas.{found_then, allowed_if}
use Rattle.kept_world.specs.Events.{KeptPlayed}
use Rattle.kept_world.specs.Moves.{IsOpened}
use Rattle.kept_world.specs.Steps.{quietly, with_connection, opens_on}
use Rattle.kept_world.specs.Tie.{IsTiedEditor, IsApart, ConnectedAs, Ties}
use Rattle.kept_world.specs.Worlds.{KeptHost, KeptEditor, KeptWorld, next_connection, running, editor_of, with_editor, with_seat}
use Rattle.kept_world.proofs.Alike.{Comes, comes_to}
use Rattle.kept_world.proofs.BeginLemmas.{with_own, own_hosts, beside_own, connection_below, own_new}
use Rattle.kept_world.proofs.HostLemmas.{running_set}
use Rattle.kept_world.proofs.NumberLemmas.{none_if_below}
use Rattle.kept_world.proofs.StillLemmas.{connected_next, is_closed_alike}
use Rattle.kept_world.proofs.TieLemmas.{sits_alike, seat_tied, runs_alike, RunsAlike}
use Rattle.kept_world.proofs.ZipLemmas.{zip_set}

closed_if : (state : State) → is_closed state ≡ true → state ≡ Closed
closed_if Closed is = refl
closed_if Opening is = cc
closed_if Open is = cc

-- what is sent is its next request, and the tie is kept
opened_on : (base : BaseView) (k : KeptWorld) (w : P.World) (e : ℕ) (x : KeptEditor) (y : P.Seat) (n : ℕ) (q : KeptPlayed) → Ties base k w
    → editor_of k e ≡ Some x → (t : IsTiedEditor base k w x y) → t.counted.state ≡ Closed → IsReadBack x.seat.client (open_request x.seat.client)
    → x.connection ≡ Some n → opens_on k e x (Some n) ≡ Some q → Comes base (plain.opens_on w e y (Some n)) q
opened_on base k w e x y n q ties found t closed read on opened =
    let c : N.Editor = t.counted in
    let view : List ℕ = text_at t.host.state.history x.path in
    let s : Seat = seat.opened x.seat in
    let same : Some (quietly (with_seat k e x s)) ≡ Some q = opened in
    let one : quietly (with_seat k e x s) ≡ q = cc in
    comes_to base (plain.opens_on w e y (Some n)) q (quietly (with_seat k e x s)) (plain.quietly (plain.with_editor w e y (N.plain_of (N.opened c)))) one
    (ap (λ editor. Some (plain.quietly (plain.with_editor w e y (plain_step.opened editor)))) t.plain
    ∙ ap (λ editor. Some (plain.quietly (plain.with_editor w e y editor))) (sym (plain-opened c)))
    (record {
      tied =
          seat_tied base k w e x y s (N.opened c) ties found t (good_opened view c closed t.good)
          ((own_steps (uri_of base x.path) view).opens x.seat c read t.tied)
          (connected_next k x s c (N.opened c) x.connection refl
          (λ none. let both : Some n ≡ None = sym on ∙ none in cc) t.connected);
      printed = refl;
    })

-- an editor on a new connection
abbrev on_new : KeptEditor → ℕ → KeptEditor
on_new x n = record x { connection = Some n; seat = seat.opened x.seat }

abbrev on_new_plain : P.Seat → ℕ → P.Seat
on_new_plain y n = record (plain.opened_seat y) { connection = Some n }

abbrev anew_plain : P.World → ℕ → P.Seat → ℕ → Option Played
anew_plain w e y n = Some (plain.quietly (record (plain.with_seat w e (on_new_plain y n)) { connections = w.connections + 1 }))

on_new_tied : (base : BaseView) (k l : KeptWorld) (w v : P.World) (x : KeptEditor) (y : P.Seat) (h : KeptHost) (n : ℕ)
    → (t : IsTiedEditor base k w x y) → t.counted.state ≡ Closed → IsReadBack x.seat.client (open_request x.seat.client) → IsApart x t.counted
    → v.hosts ≡ w.hosts → HasNone n h.state.connections → running l x.daemon ≡ Some (with_own h n) → FIRST_OWN ≤ n → n < next_connection l → IsTiedEditor base l v (on_new x n) (on_new_plain y n)
on_new_tied base k l w v x y h n t closed read apart same none runs own below =
    let c : N.Editor = t.counted in
    let view : List ℕ = text_at t.host.state.history x.path in
    record {
      daemon = t.daemon;
      path = t.path;
      connection = refl;
      path_is = t.path_is;
      host = t.host;
      there = ap (λ hosts. slice_get hosts x.daemon) same ∙ t.there;
      counted = N.opened c;
      plain = ap plain_step.opened t.plain ∙ sym (plain-opened c);
      good = good_opened view c closed t.good;
      tied = (own_steps (uri_of base x.path) view).opens x.seat c read t.tied;
      connected = record {
        host = with_own h n;
        runs = runs;
        at = (connections_are_alike h.state n x.path (N.opened c)).begins none apart.link;
        own = own;
        below = below;
      };
    }

opened_anew : (base : BaseView) (k : KeptWorld) (w : P.World) (e : ℕ) (x : KeptEditor) (y : P.Seat) (q : KeptPlayed) → Ties base k w
    → editor_of k e ≡ Some x → (t : IsTiedEditor base k w x y) → t.counted.state ≡ Closed → IsReadBack x.seat.client (open_request x.seat.client)
    → IsApart x t.counted → opens_on k e x None ≡ Some q → Comes base (plain.opens_on w e y None) q
opened_anew base k w e x y q ties found t closed read apart opened =
    let host = found_then (running k x.daemon) _ q opened in
    let h : KeptHost = host.item in
    let n : ℕ = next_connection k in
    let l : KeptWorld = with_editor (with_connection k x.daemon h) e (on_new x n) in
    let v : P.World = record (plain.with_seat w e (on_new_plain y n)) { connections = w.connections + 1 } in
    let same : Some (quietly l) ≡ Some q = host.next in
    let one : quietly l ≡ q = cc in
    let r : RunsAlike base k w x.daemon h = runs_alike base k w x.daemon h ties host.is in
    let steps : plain.opens_on w e y None ≡ Some (plain.quietly v) =
    ap (λ d. option_and_then (λ (g : P.Host). anew_plain w e y (P.next_connection w)) (P.running w d)) t.daemon
    ∙ ap (option_and_then (λ (g : P.Host). anew_plain w e y (P.next_connection w))) r.runs
    ∙ ap (λ c. anew_plain w e y (FIRST_OWN + c)) ties.connections in
    comes_to base (plain.opens_on w e y None) q (quietly l) (plain.quietly v) one steps
    (record {
      tied = record {
        hosts = own_hosts base k w x.daemon h r.plain ties r.there r.tied;
        editors =
            zip_set (IsTiedEditor base k w) (IsTiedEditor base l v) k.editors w.seats e (on_new x n) (on_new_plain y n)
            (λ j a b apart at across. beside_own base k l w v x.daemon h a b host.is refl (omega arith) refl)
            (on_new_tied base k l w v x y h n t closed read apart refl (none_if_below n h.state.connections r.tied.below)
            (running_set k l x.daemon h (with_own h n) host.is refl) (omega arith) (omega arith))
            ties.editors;
        connections = ap (λ c. c + 1) ties.connections;
        on_their_own =
            own_new k l e n (λ f m. connection_below base k w f m ties)
            (λ f m had. elim (from_set k.editors e f (on_new x n) had.editor had.there) [
              | inl kept ↦ inl (record { editor = had.editor; there = kept; connection = had.connection })
              | inr new ↦
                  let both : Some n ≡ Some m = ap (λ (z : KeptEditor). z.connection) (sym new.1) ∙ had.connection in
                  let number : m ≡ n = cc in inr (new.0, number)
            ]) ties.on_their_own;
      };
      printed = refl;
    })

-- where the text is closed, and not too long
abbrev opened_plain : ℕ → State → Option Played → Option Played
opened_plain size state on = option_and_then (only_if (nat_le size LONGEST_SENT && is_closed state)) on

pub opens_alike : (base : BaseView) (k : KeptWorld) (w : P.World) (e : ℕ) (p : KeptPlayed) → Ties base k w → IsOpened k e p
    → Comes base (plain.opens w e) p
opens_alike base k w e p ties opened =
    let found = found_then (editor_of k e) _ p opened.is in
    let x : KeptEditor = found.item in
    let on = found_then (opens_on k e x x.connection) _ p found.next in
    let allowed = allowed_if (nat_le (length x.seat.client.text) LONGEST_SENT && client.is_closed x.seat.client.state) on.item p on.next in
    let across = sits_alike base k w e x ties found.is in
    let y : P.Seat = across.item in
    let t : IsTiedEditor base k w x y = across.tied in
    let c : N.Editor = t.counted in
    let state : client.is_closed x.seat.client.state ≡ is_closed c.state = is_closed_alike (uri_of base x.path) x.seat c t.tied in
    let closed : c.state ≡ Closed =
    closed_if c.state (sym state ∙ (and_parts (nat_le (length x.seat.client.text) LONGEST_SENT) _ allowed.passes).1) in
    let came : Comes base (plain.opens_on w e y x.connection) on.item =
    by base k w e x y on.item ties found.is t closed (opened.read x found.is) x.connection refl on.is in
    let steps : plain.opens w e ≡ Some came.next =
    ap (option_and_then (λ (q : P.Seat). opened_plain (length q.editor.text) q.editor.state (plain.opens_on w e q q.connection))) across.there
    ∙ ap (λ editor. opened_plain (length editor.text) editor.state (plain.opens_on w e y y.connection)) t.plain
    ∙ ap (λ connection. opened_plain (length c.text) c.state (plain.opens_on w e y connection)) t.connection
    ∙ ap (opened_plain (length c.text) c.state) came.is
    ∙ ap (λ text. only_if (nat_le (length text) LONGEST_SENT && is_closed c.state) came.next) (sym t.tied.tied.text)
    ∙ ap (λ b. only_if (nat_le (length x.seat.client.text) LONGEST_SENT && b) came.next) (sym state)
    ∙ ap (λ b. only_if b came.next) allowed.passes in
    comes_to base (plain.opens w e) p on.item came.next allowed.is steps came.alike where
      by : (base : BaseView) (k : KeptWorld) (w : P.World) (e : ℕ) (x : KeptEditor) (y : P.Seat) (q : KeptPlayed) → Ties base k w
          → editor_of k e ≡ Some x → (t : IsTiedEditor base k w x y) → t.counted.state ≡ Closed
          → IsReadBack x.seat.client (open_request x.seat.client) → (connection : Option ℕ) → x.connection ≡ connection
          → opens_on k e x connection ≡ Some q → Comes base (plain.opens_on w e y connection) q
      by base k w e x y q ties found t closed read (Some n) is on = opened_on base k w e x y n q ties found t closed read is on
      by base k w e x y q ties found t closed read None is on =
          opened_anew base k w e x y q ties found t closed read (subst (ConnectedAs k x t.counted) is t.connected) on
