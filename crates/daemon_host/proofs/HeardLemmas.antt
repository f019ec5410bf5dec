-- Bodies come to a daemon alike, whatever is kept of the streams of its connections, and leave that as it is. So the stream behind a
-- piece may be kept before the bodies of the piece come.
use Rattle.std.proofs.Common.{◌≡◌, ℕ, Bool, true, false, cond, not, List, [], ◌∷◌, map, filter, Option, Some, None, refl, sym, ap, ◌∙◌, subst}
use Rattle.std.specs.Prelude.{option_and_then}
use Rattle.std.specs.Map.{set_value}
use Rattle.rpc_frame.specs.Stream.{StreamEnd, Begun, Broken}
use Rattle.daemon_core.specs.Outputs.{serve}
use Rattle.daemon_core.specs.State.{is_number}
use Rattle.daemon_core.specs.declared.events.Event.{Event}
use Rattle.daemon_core.specs.declared.events.Event.TheVariants.{EditorFrame}
use Rattle.plain_world.specs.Lines.{hung_line}
use Rattle.plain_world.specs.RawFrames.{Reader, read_behind}
use Rattle.plain_world.proofs.ListLemmas.{at_set}
use Rattle.kept_world.specs.Events.{KeptPlayed, fed_lines, told_editor, stops_if, IsEvent}
use Rattle.kept_world.specs.Moves.{then_played, Hears, Done, Stopped, Next, if_runs, keeps_at, keeps, IsHeardOn}
use Rattle.kept_world.specs.Steps.{quietly, kept_of, without_raw}
use Rattle.kept_world.specs.Worlds.{KeptHost, KeptWorld, if_there, running, with_host, without_host}
use Rattle.kept_world.proofs.EventLemmas.{set_again}
use Rattle.kept_world.proofs.HostLemmas.{running_set}
use Rattle.kept_world.proofs.TieLemmas.{running_at}
use Rattle.kept_world.proofs.ZipLemmas.{set_itself}

-- ---- other streams

-- where the daemon runs, this is kept of its streams
abbrev keeping_if : List (ℕ × StreamEnd) → ℕ → KeptWorld → Option KeptHost → KeptWorld
keeping_if readers d k None = k
keeping_if readers d k (Some h) = with_host k d (record h { readers = readers })

abbrev keeping : List (ℕ × StreamEnd) → ℕ → KeptWorld → KeptWorld
keeping readers d k = keeping_if readers d k (running k d)

abbrev keeping_played : List (ℕ × StreamEnd) → ℕ → KeptPlayed → KeptPlayed
keeping_played readers d p = record p { world = keeping readers d p.world }

host_again : (k : KeptWorld) (d : ℕ) (g h : KeptHost) → with_host (with_host k d g) d h ≡ with_host k d h
host_again k d g h = ap (λ hosts. record k { hosts = hosts }) (set_again k.hosts d (Some g) (Some h))

host_itself : (k : KeptWorld) (d : ℕ) (h : KeptHost) → running k d ≡ Some h → with_host k d h ≡ k
host_itself k d h runs = ap (λ hosts. record k { hosts = hosts }) (set_itself k.hosts d (Some h) (running_at k d h runs))

runs_so : (k : KeptWorld) (d : ℕ) (h next : KeptHost) → running k d ≡ Some h → running (with_host k d next) d ≡ Some next
runs_so k d h next runs = running_set k (with_host k d next) d h next runs refl

stops : (k : KeptWorld) (d : ℕ) (h : KeptHost) → running k d ≡ Some h → running (without_host k d) d ≡ None
stops k d h runs = ap (option_and_then if_there) (at_set k.hosts d None (Some h) (running_at k d h runs))

-- ---- an event

-- the daemon goes on, or it stops
stops_keeping : (readers : List (ℕ × StreamEnd)) (d : ℕ) (k : KeptWorld) (h next : KeptHost) → running k d ≡ Some h → (b : Bool)
    → keeping readers d (stops_if b d next k) ≡ stops_if b d (record next { readers = readers }) (with_host k d (record h { readers = readers }))
stops_keeping readers d k h next runs false =
    let more : KeptHost = record next { readers = readers } in
    ap (keeping_if readers d (with_host k d next)) (runs_so k d h next runs)
    ∙ host_again k d next more
    ∙ sym (host_again k d (record h { readers = readers }) more)
stops_keeping readers d k h next runs true =
    ap (keeping_if readers d (without_host k d)) (stops k d h runs)
    ∙ ap (λ hosts. record (without_host k d) { hosts = hosts }) (sym (set_again k.hosts d (Some (record h { readers = readers })) None))

event_keeping : (readers : List (ℕ × StreamEnd)) (d : ℕ) (k : KeptWorld) (event : Event) (p : KeptPlayed) → IsEvent k d event p
    → IsEvent (keeping readers d k) d event (keeping_played readers d p)
event_keeping readers d k event p e =
    let g : KeptHost = record e.host { readers = readers } in
    let s = serve e.host.state event in
    subst (λ (l : KeptWorld). IsEvent l d event (keeping_played readers d p)) (sym (ap (keeping_if readers d k) e.runs))
    (record {
      host = g;
      runs = runs_so k d e.host g e.runs;
      sent = e.sent;
      is =
          ap (keeping_played readers d) e.is
          ∙ ap (λ (w : KeptWorld). record { world = w; printed = fed_lines d s.outputs })
          (stops_keeping readers d (record k { editors = map (told_editor d s.outputs) k.editors }) e.host (record e.host { state = s.state }) e.runs _);
    })

-- bodies in turn
hears_keeping : (readers : List (ℕ × StreamEnd)) (d c : ℕ) (bodies : List (List ℕ)) (k : KeptWorld) (p : KeptPlayed) → Hears d c bodies k p
    → Hears d c bodies (keeping readers d k) (keeping_played readers d p)
hears_keeping readers d c _ _ _ (Done k) = Done (keeping readers d k)
hears_keeping readers d c _ _ _ (Stopped body bodies k stopped) =
    Stopped body bodies (keeping readers d k) (ap (λ found. running (keeping_if readers d k found) d) stopped ∙ stopped)
hears_keeping readers d c _ _ _ (Next body bodies k first next event more) =
    Next body bodies (keeping readers d k) (keeping_played readers d first) (keeping_played readers d next)
    (event_keeping readers d k (EditorFrame c body) first event) (hears_keeping readers d c bodies first.world next more)

-- ---- what is kept stays

abbrev AreKept : List (ℕ × StreamEnd) → Option KeptHost → Type 0
AreKept readers None = Unit {0}
AreKept readers (Some h) = h.readers ≡ readers

stops_kept : (readers : List (ℕ × StreamEnd)) (d : ℕ) (k : KeptWorld) (h next : KeptHost) → running k d ≡ Some h → next.readers ≡ readers → (b : Bool)
    → AreKept readers (running (stops_if b d next k) d)
stops_kept readers d k h next runs same false = subst (AreKept readers) (sym (runs_so k d h next runs)) same
stops_kept readers d k h next runs same true = subst (AreKept readers) (sym (stops k d h runs)) tt

event_kept : (readers : List (ℕ × StreamEnd)) (d : ℕ) (k : KeptWorld) (event : Event) (p : KeptPlayed) → IsEvent k d event p → AreKept readers (running k d)
    → AreKept readers (running p.world d)
event_kept readers d k event p e kept =
    let s = serve e.host.state event in
    let same : e.host.readers ≡ readers = subst (AreKept readers) e.runs kept in
    subst (λ (q : KeptPlayed). AreKept readers (running q.world d)) (sym e.is)
    (stops_kept readers d (record k { editors = map (told_editor d s.outputs) k.editors }) e.host (record e.host { state = s.state }) e.runs same _)

hears_kept : (readers : List (ℕ × StreamEnd)) (d c : ℕ) (bodies : List (List ℕ)) (k : KeptWorld) (p : KeptPlayed) → Hears d c bodies k p
    → AreKept readers (running k d) → AreKept readers (running p.world d)
hears_kept readers d c _ _ _ (Done k) kept = kept
hears_kept readers d c _ _ _ (Stopped body bodies k stopped) kept = kept
hears_kept readers d c _ _ _ (Next body bodies k first next event more) kept =
    hears_kept readers d c bodies first.world next more (event_kept readers d k (EditorFrame c body) first event kept)

-- ---- what is kept behind the bodies

-- a stream that is taken out may have been kept otherwise
without_set : (test : ℕ → Bool) (v : StreamEnd) (es : List (ℕ × StreamEnd))
    → filter (λ (e : ℕ × StreamEnd). not (test e.0)) (set_value test es v) ≡ filter (λ (e : ℕ × StreamEnd). not (test e.0)) es
without_set test v [] = refl
without_set test v (e ∷ es) = by (without_set test v es) (test e.0) refl where
  others : List (ℕ × StreamEnd) → List (ℕ × StreamEnd)
  others xs = filter (λ (x : ℕ × StreamEnd). not (test x.0)) xs

  by : others (set_value test es v) ≡ others es → (b : Bool) → test e.0 ≡ b
      → others (cond b ((e.0, v) ∷ es) (e ∷ set_value test es v)) ≡ cond (not b) (e ∷ others es) (others es)
  by later true is = ap (λ b. cond (not b) ((e.0, v) ∷ others es) (others es)) is
  by later false is = ap (λ b. cond (not b) (e ∷ others (set_value test es v)) (others (set_value test es v))) is ∙ ap (λ xs. e ∷ xs) later

-- where the stream behind a piece is kept already, it is ended if it has a fault
abbrev pub ends_broken : StreamEnd → ℕ → ℕ → KeptWorld → KeptPlayed
ends_broken (Begun bytes) d c k = quietly k
ends_broken (Broken fault) d c k = if_runs (running k d) (keeps_at (Broken fault) d c k) k

keeps_there : (kept : StreamEnd) (old : List (ℕ × StreamEnd)) (d c : ℕ) (k : KeptWorld) (h : KeptHost) → running k d ≡ Some h
    → h.readers ≡ set_value (is_number c) old kept
    → keeps_at kept d c (with_host k d (record h { readers = old })) (record h { readers = old }) ≡ ends_broken kept d c k
keeps_there (Begun bytes) old d c k h runs same =
    ap quietly
    (host_again k d (record h { readers = old }) (record h { readers = set_value (is_number c) old (Begun bytes) })
    ∙ ap (λ readers. with_host k d (record h { readers = readers })) (sym same)
    ∙ host_itself k d h runs)
keeps_there (Broken fault) old d c k h runs same =
    let gone : KeptHost = without_raw c (record h { readers = old }) in
    let rest : filter (λ (r : ℕ × StreamEnd). not (is_number c r.0)) old ≡ filter (λ (r : ℕ × StreamEnd). not (is_number c r.0)) h.readers =
    sym (without_set (is_number c) (Broken fault) old) ∙ ap (filter (λ (r : ℕ × StreamEnd). not (is_number c r.0))) (sym same) in
    ap (λ (w : KeptWorld). record { world = w; printed = hung_line d c })
    (host_again k d (record h { readers = old }) gone
    ∙ ap (λ readers. with_host k d (record { state = gone.state; readers = readers })) rest)
    ∙ sym (ap (λ found. if_runs found (keeps_at (Broken fault) d c k) k) runs)

keeps_behind : (kept : StreamEnd) (old : List (ℕ × StreamEnd)) (d c : ℕ) (k : KeptWorld) → AreKept (set_value (is_number c) old kept) (running k d)
    → keeps kept d c (keeping old d k) ≡ ends_broken kept d c k
keeps_behind kept old d c k = by (running k d) refl where
  stopped_so : (kept : StreamEnd) → running k d ≡ None → quietly k ≡ ends_broken kept d c k
  stopped_so (Begun bytes) stopped = refl
  stopped_so (Broken fault) stopped = sym (ap (λ found. if_runs found (keeps_at (Broken fault) d c k) k) stopped)

  by : (found : Option KeptHost) → running k d ≡ found → AreKept (set_value (is_number c) old kept) found
      → keeps kept d c (keeping_if old d k found) ≡ ends_broken kept d c k
  by None stopped same = ap (λ found. if_runs found (keeps_at kept d c k) k) stopped ∙ stopped_so kept stopped
  by (Some h) runs same =
      let g : KeptHost = record h { readers = old } in
      ap (λ found. if_runs found (keeps_at kept d c (with_host k d g)) (with_host k d g)) (runs_so k d h g runs)
      ∙ keeps_there kept old d c k h runs same

-- A piece is heard where the stream behind it is kept, then its bodies come, and then the stream is ended if it has a fault.
pub heard_on : (reader : Reader) (k : KeptWorld) (d c : ℕ) (piece : List ℕ) (h : KeptHost) (kept : StreamEnd) (bodies : KeptPlayed) → running k d ≡ Some h
    → kept_of h c ≡ Some kept
    → Hears d c (read_behind reader kept piece).bodies
    (with_host k d (record h { readers = set_value (is_number c) h.readers (read_behind reader kept piece).kept })) bodies
    → IsHeardOn reader k d c piece (then_played bodies (ends_broken (read_behind reader kept piece).kept d c bodies.world))
heard_on reader k d c piece h kept bodies runs known hears =
    let reading = read_behind reader kept piece in
    let g : KeptHost = record h { readers = set_value (is_number c) h.readers reading.kept } in
    let there : running (with_host k d g) d ≡ Some g = runs_so k d h g runs in
    let before : keeping h.readers d (with_host k d g) ≡ k =
    ap (keeping_if h.readers d (with_host k d g)) there ∙ host_again k d g h ∙ host_itself k d h runs in
    record {
      host = h;
      runs = runs;
      kept = kept;
      known = known;
      bodies = keeping_played h.readers d bodies;
      hears =
          subst (λ (l : KeptWorld). Hears d c reading.bodies l (keeping_played h.readers d bodies)) before
          (hears_keeping h.readers d c reading.bodies (with_host k d g) bodies hears);
      is =
          ap (then_played bodies)
          (sym
          (keeps_behind reading.kept h.readers d c bodies.world
          (hears_kept g.readers d c reading.bodies (with_host k d g) bodies hears (subst (AreKept g.readers) (sym there) refl))));
    }
