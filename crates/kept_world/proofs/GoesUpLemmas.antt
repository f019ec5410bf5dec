-- The first body under way from an editor comes to its daemon.
use Rattle.std.proofs.Common.{◌≡◌, ℕ, true, nat_lt, length, Some, sym, ap, ◌∙◌, subst, arith}
use Rattle.std.specs.Prelude.{option_and_then}
use Rattle.std.proofs.lemmas.Bool.{lt-ltb}
use Rattle.file_uri.specs.Base.{BaseView}
use Rattle.file_uri.specs.UriOf.{uri_of}
use Rattle.bridge_world.specs.Counted as N
use Rattle.bridge_world.specs.Counted.{plain_of}
use Rattle.bridge_world.specs.Lists.{only_if}
use Rattle.bridge_world.specs.Tie.{Good}
use Rattle.daemon_core.specs.History.{History, text_at}
use Rattle.daemon_core.specs.Outcome.{Outcome}
use Rattle.daemon_core.specs.Refusing.{Step}
use Rattle.daemon_core.specs.Serving.{or_refusal}
use Rattle.daemon_core.specs.declared.events.Event.TheVariants.{EditorFrame}
use Rattle.plain_world.specs.Handling.{handled_so, handled}
use Rattle.plain_world.specs.Playing as plain
use Rattle.plain_world.specs.World as P
use Rattle.frame_world.specs.Serving.{IsAt, plain_step_of}
use Rattle.kept_world.specs.Events.{KeptPlayed, after_event}
use Rattle.kept_world.specs.Moves.{IsUp}
use Rattle.kept_world.specs.Tie.{IsConnectedAt, ConnectedAs, IsTiedEditor, Ties}
use Rattle.kept_world.specs.Worlds.{KeptHost, KeptEditor, KeptWorld, running, with_seat}
use Rattle.kept_world.proofs.Alike.{Comes, comes_to}
use Rattle.kept_world.proofs.EventLemmas.{sendable}
use Rattle.kept_world.proofs.SameLemmas.{first_alike, refusal_alike}
use Rattle.kept_world.proofs.StillLemmas.{up_length}
use Rattle.kept_world.proofs.TieLemmas.{RunsAlike, runs_alike, sits_alike}
use Rattle.kept_world.proofs.UpLemmas.{plain_seat, Turn, turn_alike}

-- the plain editor is the one that is tied
seat_is : (base : BaseView) (k : KeptWorld) (w : P.World) (x : KeptEditor) (y : P.Seat) → (t : IsTiedEditor base k w x y) → y ≡ plain_seat x t.counted
seat_is base k w x y t = λ i. record { daemon = t.daemon i; path = t.path i; connection = t.connection i; editor = t.plain i }

-- what the plain machine does with the first message
steps_so : (w : P.World) (e : ℕ) (x : KeptEditor) (h : KeptHost) (g : P.Host) (counted : N.Editor) → P.seat_of w e ≡ Some (plain_seat x counted) → P.running w x.daemon ≡ Some g
    → nat_lt 0 (length (plain_of counted).sent) ≡ true → g.state.history ≡ h.state.history
    → let step : Step Outcome = plain_step_of h.state x.path counted in
    plain.goes_up w e ≡ Some (handled_so w e (plain_seat x counted) g step (or_refusal h.state step))
steps_so w e x h g counted seated runs more files =
    let y : P.Seat = plain_seat x counted in
    let step : Step Outcome = plain_step_of h.state x.path counted in
    ap (option_and_then (λ (z : P.Seat). option_and_then (λ (f : P.Host). only_if (nat_lt 0 (length z.editor.sent)) (handled w e z f)) (P.running w z.daemon))) seated
    ∙ ap (option_and_then (λ (f : P.Host). only_if (nat_lt 0 (length y.editor.sent)) (handled w e y f))) runs
    ∙ ap (λ b. only_if b (handled w e y g)) more
    ∙ ap (λ st. Some (handled_so w e y g st (or_refusal g.state st))) (first_alike h.state g.state x.path (plain_of counted).sent (plain_of counted).link files)
    ∙ ap (λ o. Some (handled_so w e y g step o)) (refusal_alike h.state g.state step files)

pub up_alike : (base : BaseView) (k : KeptWorld) (w : P.World) (e : ℕ) (p : KeptPlayed) → Ties base k w → IsUp k e p → Comes base (plain.goes_up w e) p
up_alike base k w e p ties up =
    let x : KeptEditor = up.editor in
    let h : KeptHost = up.event.host in
    let runs : running k x.daemon ≡ Some h = up.event.runs in
    let across = sits_alike base k w e x ties up.there in
    let t : IsTiedEditor base k w x across.item = across.tied in
    let q : RunsAlike base k w x.daemon h = runs_alike base k w x.daemon h ties runs in
    let at : IsConnectedAt k x up.number t.counted = subst (ConnectedAs k x t.counted) up.connection t.connected in
    let mine : Some at.host ≡ Some h = sym at.runs ∙ runs in
    let host : at.host ≡ h = cc in
    let theirs : Some t.host ≡ Some q.plain = sym t.there ∙ q.there in
    let plain_host : t.host ≡ q.plain = cc in
    let good : Good (text_at h.state.history x.path) t.counted =
    subst (λ (history : History). Good (text_at history x.path) t.counted) (ap (λ (g : P.Host). g.state.history) plain_host ∙ q.tied.history) t.good in
    let is : across.item ≡ plain_seat x t.counted = seat_is base k w x across.item t in
    let turn : Turn base k w e up.number up.body up.rest x h t.counted =
    record {
      ties = ties;
      there = up.there;
      connection = up.connection;
      first = up.first;
      runs = runs;
      sends = sendable h.state up.number up.body up.event.sent;
      across = q;
      seated = across.there ∙ ap (λ (y : P.Seat). Some y) is;
      self = subst (IsTiedEditor base k w x) is t;
      good = good;
      tied = t.tied;
      at = subst (λ (f : KeptHost). IsAt f.state up.number x.path t.counted) host at.at;
      own = at.own;
      below = at.below;
    } in
    let step : Step Outcome = plain_step_of h.state x.path t.counted in
    let more : nat_lt 0 (length (plain_of t.counted).sent) ≡ true =
    ap (λ n. nat_lt 0 n) (sym (up_length (uri_of base x.path) x.seat t.counted t.tied) ∙ ap length up.first) ∙ lt-ltb _ _ (omega arith) in
    comes_to base (plain.goes_up w e) p (after_event (with_seat k e x (record x.seat { up = up.rest })) x.daemon h (EditorFrame up.number up.body))
    (handled_so w e (plain_seat x t.counted) q.plain step (or_refusal h.state step)) (sym up.event.is)
    (steps_so w e x h q.plain t.counted (across.there ∙ ap (λ (y : P.Seat). Some y) is) q.runs more q.tied.history)
    (turn_alike base k w e up.number up.body up.rest x h t.counted turn)
