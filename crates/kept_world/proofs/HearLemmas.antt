-- Bodies come in turn on a connection that a script feeds, and what is left of its stream is kept, in both worlds alike.
use Rattle.std.proofs.Common.{◌≡◌, ℕ, Bool, true, false, cond, nat_lt, List, [], ◌∷◌, ◌++◌, Option, Some, None, refl, sym, ap, ◌∙◌, subst}
use Rattle.std.specs.Prelude.{option_and_then}
use Rattle.std.specs.Map.{lookup, set_value}
use Rattle.std.proofs.lemmas.Bool.{ltb-true}
use Rattle.file_uri.specs.Base.{BaseView}
use Rattle.bridge_world.specs.Lists.{Each}
use Rattle.rpc_frame.specs.Stream.{StreamEnd, Begun, Broken}
use Rattle.daemon_core.specs.State.{is_number}
use Rattle.plain_world.specs.Handling.{Played}
use Rattle.plain_world.specs.Lines.{hung_line}
use Rattle.plain_world.specs.RawFrames as plain
use Rattle.plain_world.specs.RawFrames.{Reader, read_behind}
use Rattle.plain_world.specs.Playing as playing
use Rattle.plain_world.specs.World as P
use Rattle.plain_world.specs.declared.TheConstants.{FIRST_OWN}
use Rattle.kept_world.specs.Events.{KeptPlayed}
use Rattle.kept_world.specs.Moves.{then_played, Hears, Done, Stopped, Next, if_runs, keeps_at, keeps, IsHeardOn}
use Rattle.kept_world.specs.Steps.{quietly}
use Rattle.kept_world.specs.Tie.{IsTiedHost, Ties}
use Rattle.kept_world.specs.Worlds.{KeptHost, KeptWorld, next_connection, running}
use Rattle.kept_world.proofs.Alike.{Alike, Comes, comes_to}
use Rattle.kept_world.proofs.EventLemmas.{sendable}
use Rattle.kept_world.proofs.FeedLemmas.{host_tied, without_tied}
use Rattle.kept_world.proofs.FrameLemmas.{frame_alike}
use Rattle.kept_world.proofs.NumberLemmas.{each_found}
use Rattle.kept_world.proofs.TieLemmas.{RunsAlike, runs_alike, stopped_alike}

-- ---- bodies in turn

-- what the plain machine makes of the first, and then of the others
abbrev plain_next : List ℕ → List (List ℕ) → ℕ → ℕ → P.World → P.Host → Played
plain_next body bodies d c w g =
    let first = plain.raw_frame w d g c body in
    let rest = plain.raw_frames bodies d c first.world in
    record { world = rest.world; printed = first.printed ++ rest.printed }

pub frames_alike : (base : BaseView) (d c : ℕ) → nat_lt c FIRST_OWN ≡ true → (bodies : List (List ℕ)) (k : KeptWorld) (p : KeptPlayed) → Hears d c bodies k p
    → (w : P.World) → Ties base k w → Alike base p (plain.raw_frames bodies d c w)
frames_alike base d c fed _ _ _ (Done k) w ties = record { tied = ties; printed = refl }
frames_alike base d c fed _ _ _ (Stopped body bodies k stopped) w ties =
    subst (λ found. Alike base (quietly k) (plain.if_runs found (plain_next body bodies d c w) w)) (sym (stopped_alike base k w d ties stopped))
    (record { tied = ties; printed = refl })
frames_alike base d c fed _ _ _ (Next body bodies k first next event more) w ties =
    let q : RunsAlike base k w d event.host = runs_alike base k w d event.host ties event.runs in
    let one : Alike base first (plain.raw_frame w d q.plain c body) =
    subst (λ p. Alike base p (plain.raw_frame w d q.plain c body)) (sym event.is)
    (frame_alike base k w d c body event.host ties event.runs fed (sendable event.host.state c body event.sent) q) in
    let rest : Alike base next (plain.raw_frames bodies d c (plain.raw_frame w d q.plain c body).world) =
    frames_alike base d c fed bodies first.world next more (plain.raw_frame w d q.plain c body).world one.tied in
    subst (λ found. Alike base (then_played first next) (plain.if_runs found (plain_next body bodies d c w) w)) (sym q.runs)
    (record { tied = rest.tied; printed = ap (λ l. l ++ next.printed) one.printed ∙ ap (λ l. (plain.raw_frame w d q.plain c body).printed ++ l) rest.printed })

-- ---- what is kept

each_value : {X : Type 0} (P : ℕ → Type 0) (test : ℕ → Bool) (v : X) (es : List (ℕ × X)) → Each (λ (e : ℕ × X). P e.0) es → Each (λ (e : ℕ × X). P e.0) (set_value test es v)
each_value P test v [] each = tt
each_value {X} P test v (e ∷ es) each = by (test e.0) (each_value P test v es each.1) where
  by : (b : Bool) → Each (λ (f : ℕ × X). P f.0) (set_value test es v) → Each (λ (f : ℕ × X). P f.0) (cond b ((e.0, v) ∷ es) (e ∷ set_value test es v))
  by true later = (each.0, each.1)
  by false later = (each.0, later)

-- a daemon with another reader
read_tied : (base : BaseView) (next c : ℕ) (bytes : List ℕ) (h : KeptHost) (g : P.Host) → IsTiedHost base next h g
    → IsTiedHost base next (record h { readers = set_value (is_number c) h.readers (Begun bytes) }) (record g { readers = set_value (is_number c) g.readers (Begun bytes) })
read_tied base next c bytes h g t = record {
  runs = t.runs;
  is_base = t.is_base;
  base_is = t.base_is;
  plain_base = t.plain_base;
  history = t.history;
  connections = t.connections;
  readers = ap (λ readers. set_value (is_number c) readers (Begun bytes)) t.readers;
  fed = each_value (λ n. nat_lt n FIRST_OWN ≡ true) (is_number c) (Begun bytes) h.readers t.fed;
  serves = t.serves;
  rising = t.rising;
  below = t.below;
}

keeps_there : (base : BaseView) (k : KeptWorld) (w : P.World) (d c : ℕ) (h : KeptHost) (q : RunsAlike base k w d h) (kept : StreamEnd) → Ties base k w → running k d ≡ Some h
    → nat_lt c FIRST_OWN ≡ true → Alike base (keeps_at kept d c k h) (plain.keeps kept d c w)
keeps_there base k w d c h q (Begun bytes) ties runs fed =
    let g : P.Host = q.plain in
    let next : P.Host = record g { readers = set_value (is_number c) g.readers (Begun bytes) } in
    subst (λ found. Alike base (keeps_at (Begun bytes) d c k h)
    (plain.if_runs found (λ (f : P.Host). playing.quietly (plain.with_host w d (record f { readers = set_value (is_number c) f.readers (Begun bytes) }))) w)) (sym q.runs)
    (record {
      tied =
          host_tied base k w d h (record h { readers = set_value (is_number c) h.readers (Begun bytes) }) g next ties runs q.there refl
          (read_tied base (next_connection k) c bytes h g q.tied) (λ path counted n own at. at);
      printed = refl;
    })
keeps_there base k w d c h q (Broken fault) ties runs fed =
    subst (λ found. Alike base (keeps_at (Broken fault) d c k h)
    (plain.if_runs found (λ (f : P.Host). record { world = plain.with_host w d (plain.without_raw c f); printed = hung_line d c }) w)) (sym q.runs)
    (record { tied = without_tied base k w d c h q.plain ties runs q.there q.tied (ltb-true c FIRST_OWN fed); printed = refl })

keeps_stopped : (kept : StreamEnd) (d c : ℕ) (w : P.World) → P.running w d ≡ None → plain.keeps kept d c w ≡ playing.quietly w
keeps_stopped (Begun bytes) d c w stopped =
    ap (λ found. plain.if_runs found (λ (f : P.Host). playing.quietly (plain.with_host w d (record f { readers = set_value (is_number c) f.readers (Begun bytes) }))) w) stopped
keeps_stopped (Broken fault) d c w stopped =
    ap (λ found. plain.if_runs found (λ (f : P.Host). record { world = plain.with_host w d (plain.without_raw c f); printed = hung_line d c }) w) stopped

pub keeps_alike : (base : BaseView) (k : KeptWorld) (w : P.World) (d c : ℕ) (kept : StreamEnd) → Ties base k w → nat_lt c FIRST_OWN ≡ true
    → Alike base (keeps kept d c k) (plain.keeps kept d c w)
keeps_alike base k w d c kept ties fed = by (running k d) refl where
  by : (found : Option KeptHost) → running k d ≡ found → Alike base (if_runs found (keeps_at kept d c k) k) (plain.keeps kept d c w)
  by None stopped =
      subst (Alike base (quietly k)) (sym (keeps_stopped kept d c w (stopped_alike base k w d ties stopped))) (record { tied = ties; printed = refl })
  by (Some h) runs = keeps_there base k w d c h (runs_alike base k w d h ties runs) kept ties runs fed

-- ---- a piece of the stream

pub hears_alike : (base : BaseView) (reader : Reader) (k : KeptWorld) (w : P.World) (d c : ℕ) (piece : List ℕ) (p : KeptPlayed) → Ties base k w
    → IsHeardOn reader k d c piece p → Comes base (plain.raw_hears reader w d c piece) p
hears_alike base reader k w d c piece p ties heard =
    let q : RunsAlike base k w d heard.host = runs_alike base k w d heard.host ties heard.runs in
    let fed : nat_lt c FIRST_OWN ≡ true = each_found (λ (n : ℕ). nat_lt n FIRST_OWN ≡ true) c heard.host.readers heard.kept heard.known q.tied.fed in
    let reading : plain.Reading = read_behind reader heard.kept piece in
    let bodies : Alike base heard.bodies (plain.raw_frames reading.bodies d c w) =
    frames_alike base d c fed reading.bodies k heard.bodies heard.hears w ties in
    let v : P.World = (plain.raw_frames reading.bodies d c w).world in
    let left : Alike base (keeps reading.kept d c heard.bodies.world) (plain.keeps reading.kept d c v) =
    keeps_alike base heard.bodies.world v d c reading.kept bodies.tied fed in
    let steps : plain.raw_hears reader w d c piece ≡ Some (plain.heard_so w d c reading) =
    ap (option_and_then (λ (g : P.Host). option_and_then (λ (kept : StreamEnd). Some (plain.heard_so w d c (read_behind reader kept piece))) (lookup (is_number c) g.readers))) q.runs
    ∙ ap (λ readers. option_and_then (λ (kept : StreamEnd). Some (plain.heard_so w d c (read_behind reader kept piece))) (lookup (is_number c) readers)) q.tied.readers
    ∙ ap (option_and_then (λ (kept : StreamEnd). Some (plain.heard_so w d c (read_behind reader kept piece)))) heard.known in
    comes_to base (plain.raw_hears reader w d c piece) p (then_played heard.bodies (keeps reading.kept d c heard.bodies.world)) (plain.heard_so w d c reading) (sym heard.is) steps
    (record {
      tied = left.tied;
      printed =
          ap (λ l. l ++ (keeps reading.kept d c heard.bodies.world).printed) bodies.printed
          ∙ ap (λ l. (plain.raw_frames reading.bodies d c w).printed ++ l) left.printed;
    })
