-- A move is possible in the one world just where it is in the other.
use Rattle.std.proofs.Common.{◌≡◌, ℕ, ◌+◌, ◌==◌, Bool, true, false, ◌&&◌, not, List, length, map, Option, Some, None, is_some, nat_le, nat_lt, refl, sym, ap, ◌∙◌, subst}
use Rattle.std.specs.Prelude.{option_and_then}
use Rattle.std.specs.Map.{lookup}
use Rattle.std.proofs.lemmas.Slice.Zip.{AllZip-long}
use Rattle.file_uri.specs.Base.{BaseView}
use Rattle.file_uri.specs.UriOf.{uri_of}
use Rattle.bridge_world.specs.Counted as N
use Rattle.bridge_world.specs.Lists.{only_if}
use Rattle.bridge_world.specs.Plain as P
use Rattle.bridge_world.specs.Plain.{is_closed}
use Rattle.daemon_core.specs.State.{is_number}
use Rattle.editor_client.specs.Editor as client
use Rattle.plain_world.specs.Playing as plain
use Rattle.plain_world.specs.RawFrames as raw
use Rattle.plain_world.specs.RawFrames.{Reader}
use Rattle.plain_world.specs.World as world
use Rattle.plain_world.specs.World.{Host, Seat, World}
use Rattle.plain_world.specs.declared.TheConstants.{FIRST_OWN, MOST_DAEMONS, MOST_EDITORS, LONGEST_SENT}
use Rattle.kept_world.specs.Events.{KeptPlayed}
use Rattle.kept_world.specs.Moves.{has_up, has_down, is_connected, is_fed}
use Rattle.kept_world.specs.Steps.{begins, joins, types, closes, opens_on, opens, cuts, shows, tells_file, tells_held, kept_of, raw_begins, raw_ends}
use Rattle.kept_world.specs.Tie.{IsTiedHost, HostTied, ConnectedAs, IsTiedEditor, Ties}
use Rattle.kept_world.specs.Worlds.{KeptHost, KeptEditor, KeptWorld, next_connection, running, editor_of}
use Rattle.kept_world.proofs.StillLemmas.{up_length, down_length, is_closed_alike}
use Rattle.kept_world.proofs.TieLemmas.{runs_alike, stopped_alike, sits_alike, none_sits}

-- What is possible by a test.

if_possible : {A : Type 0} (b : Bool) (x : A) → is_some (only_if b x) ≡ b
if_possible true x = refl
if_possible false x = refl

-- by the same test
same_test : {A B : Type 0} (b a : Bool) (x : A) (y : B) → b ≡ a → is_some (only_if b x) ≡ is_some (only_if a y)
same_test b a x y same = if_possible b x ∙ same ∙ sym (if_possible a y)

-- by the same test behind a step that is possible alike
same_behind : {A B : Type 0} (o : Option A) (q : Option B) (b : Bool) → is_some o ≡ is_some q
    → is_some (option_and_then (only_if b) o) ≡ is_some (option_and_then (only_if b) q)
same_behind None None b same = refl
same_behind None (Some y) b same = cc
same_behind (Some x) None b same = cc
same_behind (Some x) (Some y) b same = same_test b b x y refl

-- by a test alone, behind a step that is there where the test passes
with_step : {A B : Type 0} (o : Option A) (b : Bool) (f : A → B) → (b ≡ true → is_some o ≡ true) → is_some (option_and_then (λ x. only_if b (f x)) o) ≡ b
with_step None true f there = there refl
with_step None false f there = refl
with_step (Some x) b f there = if_possible b (f x)

-- At a daemon, and at an editor.

at_daemon : {D : Type 0} (base : BaseView) (k : KeptWorld) (w : World) (d : ℕ) (test : Option KeptHost → Bool) (g : Host → Option D) → Ties base k w
    → test None ≡ false → ((h : KeptHost) (q : Host) → IsTiedHost base (next_connection k) h q → test (Some h) ≡ is_some (g q))
    → test (running k d) ≡ is_some (option_and_then g (world.running w d))
at_daemon {D} base k w d test g ties none some = by (running k d) refl where
  by : (o : Option KeptHost) → running k d ≡ o → test o ≡ is_some (option_and_then g (world.running w d))
  by None is = none ∙ ap (λ q. is_some (option_and_then g q)) (sym (stopped_alike base k w d ties is))
  by (Some h) is =
      let r = runs_alike base k w d h ties is in some h r.plain r.tied ∙ ap (λ q. is_some (option_and_then g q)) (sym r.runs)

at_editor : {D : Type 0} (base : BaseView) (k : KeptWorld) (w : World) (e : ℕ) (test : Option KeptEditor → Bool) (g : Seat → Option D) → Ties base k w
    → test None ≡ false → ((x : KeptEditor) (y : Seat) → IsTiedEditor base k w x y → test (Some x) ≡ is_some (g y))
    → test (editor_of k e) ≡ is_some (option_and_then g (world.seat_of w e))
at_editor {D} base k w e test g ties none some = by (editor_of k e) refl where
  by : (o : Option KeptEditor) → editor_of k e ≡ o → test o ≡ is_some (option_and_then g (world.seat_of w e))
  by None is = none ∙ ap (λ q. is_some (option_and_then g q)) (sym (none_sits base k w e ties is))
  by (Some x) is =
      let across = sits_alike base k w e x ties is in
      some x across.item across.tied ∙ ap (λ q. is_some (option_and_then g q)) (sym across.there)

daemon_step : {C D : Type 0} (base : BaseView) (k : KeptWorld) (w : World) (d : ℕ) (f : KeptHost → Option C) (g : Host → Option D) → Ties base k w
    → ((h : KeptHost) (q : Host) → IsTiedHost base (next_connection k) h q → is_some (f h) ≡ is_some (g q))
    → is_some (option_and_then f (running k d)) ≡ is_some (option_and_then g (world.running w d))
daemon_step base k w d f g ties some = at_daemon base k w d (λ o. is_some (option_and_then f o)) g ties refl some

editor_step : {C D : Type 0} (base : BaseView) (k : KeptWorld) (w : World) (e : ℕ) (f : KeptEditor → Option C) (g : Seat → Option D) → Ties base k w
    → ((x : KeptEditor) (y : Seat) → IsTiedEditor base k w x y → is_some (f x) ≡ is_some (g y))
    → is_some (option_and_then f (editor_of k e)) ≡ is_some (option_and_then g (world.seat_of w e))
editor_step base k w e f g ties some = at_editor base k w e (λ o. is_some (option_and_then f o)) g ties refl some

running_alike : (base : BaseView) (k : KeptWorld) (w : World) (d : ℕ) → Ties base k w → is_some (running k d) ≡ is_some (world.running w d)
running_alike base k w d ties = by (running k d) refl where
  by : (o : Option KeptHost) → running k d ≡ o → is_some o ≡ is_some (world.running w d)
  by None is = ap is_some (sym (stopped_alike base k w d ties is))
  by (Some h) is = ap is_some (sym (runs_alike base k w d h ties is).runs)

-- Daemons and connections that a script feeds.

pub begins_possible : (base : BaseView) (k : KeptWorld) (w : World) (d : ℕ) → Ties base k w → is_some (begins base k d) ≡ is_some (plain.begins base w d)
begins_possible base k w d ties =
    same_test _ _ _ _
    (ap (λ size. d == size && nat_lt d MOST_DAEMONS) (sym (AllZip-long (HostTied base (next_connection k)) k.hosts w.hosts ties.hosts)))

pub file_possible : (base : BaseView) (k : KeptWorld) (w : World) (d : ℕ) (path : List ℕ) → Ties base k w
    → is_some (tells_file k d path) ≡ is_some (plain.tells_file w d path)
file_possible base k w d path ties = daemon_step base k w d _ _ ties (λ h q t. refl)

pub held_possible : (base : BaseView) (k : KeptWorld) (w : World) (d : ℕ) → Ties base k w → is_some (tells_held k d) ≡ is_some (plain.tells_held w d)
held_possible base k w d ties = daemon_step base k w d _ _ ties (λ h q t. refl)

pub raw_begins_possible : (base : BaseView) (k : KeptWorld) (w : World) (d c : ℕ) → Ties base k w
    → is_some (raw_begins k d c) ≡ is_some (raw.raw_begins w d c)
raw_begins_possible base k w d c ties =
    daemon_step base k w d _ _ ties
    (λ h q t. same_test _ _ _ _ (ap (λ readers. nat_lt c FIRST_OWN && not (is_some (lookup (is_number c) readers))) (sym t.readers)))

-- a step that is possible where a reader is there
some_behind : {A B : Type 0} (o : Option A) (f : A → B) → is_some o ≡ is_some (option_and_then (λ x. Some (f x)) o)
some_behind None f = refl
some_behind (Some x) f = refl

pub hears_possible : (base : BaseView) (reader : Reader) (k : KeptWorld) (w : World) (d c : ℕ) (piece : List ℕ) → Ties base k w
    → is_fed k d c ≡ is_some (raw.raw_hears reader w d c piece)
hears_possible base reader k w d c piece ties =
    at_daemon base k w d (λ o. is_some (option_and_then (λ h. kept_of h c) o)) _ ties refl
    (λ h q t. ap (λ readers. is_some (lookup (is_number c) readers)) (sym t.readers) ∙ some_behind (raw.kept_of q c) _)

pub raw_ends_possible : (base : BaseView) (k : KeptWorld) (w : World) (d c : ℕ) → Ties base k w → is_some (raw_ends k d c) ≡ is_some (raw.raw_ends w d c)
raw_ends_possible base k w d c ties =
    daemon_step base k w d _ _ ties
    (λ h q t. sym (some_behind (kept_of h c) _) ∙ ap (λ readers. is_some (lookup (is_number c) readers)) (sym t.readers) ∙ some_behind (raw.kept_of q c) _)

-- Editors.

pub joins_possible : (base : BaseView) (k : KeptWorld) (w : World) (e d : ℕ) (path text : List ℕ) → Ties base k w
    → is_some (joins k e d path text) ≡ is_some (plain.joins w e d path text)
joins_possible base k w e d path text ties =
    daemon_step base k w d _ _ ties
    (λ h q t. same_test _ _ _ _
    (ap (λ size. e == size && nat_lt e MOST_EDITORS && nat_le (length text) LONGEST_SENT)
    (sym (AllZip-long (IsTiedEditor base k w) k.editors w.seats ties.editors))))

pub types_possible : (base : BaseView) (k : KeptWorld) (w : World) (e place gone : ℕ) (text : List ℕ) → Ties base k w
    → is_some (types k e place gone text) ≡ is_some (plain.types w e place gone text)
types_possible base k w e place gone text ties =
    editor_step base k w e _ _ ties
    (λ x y t. same_test _ _ _ _
    (ap (λ s. nat_le (place + gone) (length s) && nat_le (length text) LONGEST_SENT) (t.tied.tied.text ∙ ap (λ (q : P.Editor). q.text) (sym t.plain))))

pub down_possible : (base : BaseView) (k : KeptWorld) (w : World) (e : ℕ) → Ties base k w → has_down (editor_of k e) ≡ is_some (plain.goes_down w e)
down_possible base k w e ties =
    at_editor base k w e has_down _ ties refl
    (λ x y t. ap (nat_lt 0) (down_length (uri_of base x.path) x.seat t.counted t.tied) ∙ ap (λ (q : P.Editor). nat_lt 0 (length q.wire)) (sym t.plain)
    ∙ sym (if_possible _ _))

pub settles_possible : (base : BaseView) (k : KeptWorld) (w : World) (e : ℕ) → Ties base k w
    → is_connected (editor_of k e) ≡ is_some (plain.settles w e)
settles_possible base k w e ties =
    at_editor base k w e is_connected _ ties refl (λ x y t. ap is_some (sym t.connection) ∙ sym (if_possible _ _))

-- the state of the text, across
closed_across : (base : BaseView) (k : KeptWorld) (w : World) (x : KeptEditor) (y : Seat) → IsTiedEditor base k w x y
    → client.is_closed x.seat.client.state ≡ is_closed y.editor.state
closed_across base k w x y t =
    is_closed_alike (uri_of base x.path) x.seat t.counted t.tied ∙ ap (λ (q : P.Editor). is_closed q.state) (sym t.plain)

pub closes_possible : (base : BaseView) (k : KeptWorld) (w : World) (e : ℕ) → Ties base k w → is_some (closes k e) ≡ is_some (plain.closes w e)
closes_possible base k w e ties =
    editor_step base k w e _ _ ties
    (λ x y t. same_test _ _ _ _
    (ap (λ c. is_some c && not (client.is_closed x.seat.client.state)) (sym t.connection) ∙ ap (λ b. is_some y.connection && not b) (closed_across base k w x y t)))

pub shows_possible : (base : BaseView) (k : KeptWorld) (w : World) (e : ℕ) → Ties base k w → is_some (shows k e) ≡ is_some (plain.shows w e)
shows_possible base k w e ties = editor_step base k w e _ _ ties (λ x y t. refl)

-- Where the connection decides.

opens_on_possible : (base : BaseView) (k : KeptWorld) (w : World) (e : ℕ) (x : KeptEditor) (y : Seat) (c : Option ℕ) → Ties base k w → y.daemon ≡ x.daemon
    → is_some (opens_on k e x c) ≡ is_some (plain.opens_on w e y c)
opens_on_possible base k w e x y (Some n) ties same = refl
opens_on_possible base k w e x y None ties same =
    sym (some_behind (running k x.daemon) _) ∙ running_alike base k w x.daemon ties ∙ ap (λ d. is_some (world.running w d)) (sym same)
    ∙ some_behind (world.running w y.daemon) _

pub opens_possible : (base : BaseView) (k : KeptWorld) (w : World) (e : ℕ) → Ties base k w → is_some (opens k e) ≡ is_some (plain.opens w e)
opens_possible base k w e ties =
    editor_step base k w e _ _ ties
    (λ x y t.
    let text : x.seat.client.text ≡ y.editor.text = t.tied.tied.text ∙ ap (λ (q : P.Editor). q.text) (sym t.plain) in
    let test : (nat_le (length x.seat.client.text) LONGEST_SENT && client.is_closed x.seat.client.state)
    ≡ (nat_le (length y.editor.text) LONGEST_SENT && is_closed y.editor.state) =
    ap (λ s. nat_le (length s) LONGEST_SENT && client.is_closed x.seat.client.state) text
    ∙ ap (λ b. nat_le (length y.editor.text) LONGEST_SENT && b) (closed_across base k w x y t) in
    ap (λ b. is_some (option_and_then (only_if b) (opens_on k e x x.connection))) test
    ∙ same_behind (opens_on k e x x.connection) (plain.opens_on w e y y.connection) (nat_le (length y.editor.text) LONGEST_SENT && is_closed y.editor.state)
    (opens_on_possible base k w e x y x.connection ties t.daemon ∙ ap (λ c. is_some (plain.opens_on w e y c)) (sym t.connection)))

-- the daemon of an editor with a connection runs
connected_runs : (base : BaseView) (k : KeptWorld) (w : World) (x : KeptEditor) (y : Seat) (n : ℕ) → IsTiedEditor base k w x y → x.connection ≡ Some n
    → is_some (running k x.daemon) ≡ true
connected_runs base k w x y n t is =
    let at : ConnectedAs k x t.counted (Some n) = subst (ConnectedAs k x t.counted) is t.connected in ap is_some at.runs

cut_possible : (base : BaseView) (k : KeptWorld) (w : World) (x : KeptEditor) (y : Seat) (f : ℕ → KeptHost → KeptPlayed) → IsTiedEditor base k w x y
    → is_some (option_and_then (λ n. option_and_then (λ h. Some (f n h)) (running k x.daemon)) x.connection) ≡ is_some x.connection
cut_possible base k w x y f t = by x.connection refl where
  by : (c : Option ℕ) → x.connection ≡ c
      → is_some (option_and_then (λ n. option_and_then (λ h. Some (f n h)) (running k x.daemon)) c) ≡ is_some c
  by None is = refl
  by (Some n) is = sym (some_behind (running k x.daemon) (f n)) ∙ connected_runs base k w x y n t is

pub cuts_possible : (base : BaseView) (k : KeptWorld) (w : World) (e : ℕ) → Ties base k w → is_some (cuts k e) ≡ is_some (plain.cuts w e)
cuts_possible base k w e ties =
    editor_step base k w e _ _ ties
    (λ x y t. cut_possible base k w x y _ t ∙ ap is_some (sym t.connection) ∙ sym (if_possible _ _))

-- an editor with something under way to its daemon has a connection, and its daemon runs
up_runs : (base : BaseView) (k : KeptWorld) (w : World) (x : KeptEditor) (y : Seat) → Ties base k w → IsTiedEditor base k w x y
    → nat_lt 0 (length y.editor.sent) ≡ true → is_some (world.running w y.daemon) ≡ true
up_runs base k w x y ties t some = by x.connection refl where
  by : (c : Option ℕ) → x.connection ≡ c → is_some (world.running w y.daemon) ≡ true
  by (Some n) is =
      ap (λ d. is_some (world.running w d)) t.daemon ∙ sym (running_alike base k w x.daemon ties) ∙ connected_runs base k w x y n t is
  by None is =
      let apart : ConnectedAs k x t.counted None = subst (ConnectedAs k x t.counted) is t.connected in
      let none : nat_lt 0 0 ≡ true =
      ap (λ (sent : List N.Sent). nat_lt 0 (length (map N.plain_sent sent))) (sym apart.sent)
      ∙ ap (λ (q : P.Editor). nat_lt 0 (length q.sent)) (sym t.plain) ∙ some in cc

pub up_possible : (base : BaseView) (k : KeptWorld) (w : World) (e : ℕ) → Ties base k w → has_up (editor_of k e) ≡ is_some (plain.goes_up w e)
up_possible base k w e ties =
    at_editor base k w e has_up _ ties refl
    (λ x y t.
    ap (nat_lt 0) (up_length (uri_of base x.path) x.seat t.counted t.tied) ∙ ap (λ (q : P.Editor). nat_lt 0 (length q.sent)) (sym t.plain)
    ∙ sym (with_step (world.running w y.daemon) (nat_lt 0 (length y.editor.sent)) _ (up_runs base k w x y ties t)))
