-- What an editor does itself, where that is possible: the move that it makes, and that the world is in order behind it.
use Rattle.std.proofs.Common.{◌≡◌, ℕ, ◌+◌, ◌==◌, ◌&&◌, Bool, true, false, not, List, [], ◌∷◌, ◌++◌, length, nat_le, nat_lt, Option, Some, None, is_some, Result, Ok, Err, OnOk, OnErr, get_or, append-nil, length-append, refl, sym, ap, ◌∙◌, subst, arith}
use Rattle.std.specs.Prelude.{slice_get, slice_set, option_and_then, option_to_list}
use Rattle.std.proofs.lemmas.Option.{get_or_from_slice_get}
use Rattle.std.proofs.lemmas.Bool.{and_parts}
use Rattle.bridge_world.specs.Lists.{only_if}
use Rattle.text_position.specs.Changes.{Change}
use Rattle.delta.specs.Cells.{Cells}
use Rattle.daemon_core.specs.Outputs.{serve}
use Rattle.daemon_core.specs.declared.events.Event.TheVariants.{EditorBegan}
use Rattle.editor_client.specs.Editor.{Editor, change_at, is_closed, delta_of, typed_where}
use Rattle.editor_client.specs.Requests.{open_request, close_request, edit_request, body_of, unless_closed}
use Rattle.editor_client.specs.declared.states.ClientState.{ClientState}
use Rattle.editor_client.specs.declared.states.ClientState.TheVariants.{Opening, Open, Closed}
use Rattle.frame_world.specs.Laws.{IsReadBack, TellsOf}
use Rattle.frame_world.specs.Seats.{Seat, opened, closed, typed}
use Rattle.plain_world.specs.declared.TheConstants.{LONGEST_SENT, MOST_EDITORS}
use Rattle.kept_world.specs.Events.{KeptPlayed}
use Rattle.kept_world.specs.Moves.{IsNewClient, IsJoined, IsTyped, IsClosed, IsOpened}
use Rattle.kept_world.specs.Steps.{quietly, prints, with_connection, joined, joins, types, closes, opens_on, opens, ended, cuts, show_line, shows}
use Rattle.kept_world.specs.Worlds.{KeptHost, KeptEditor, KeptWorld, if_there, next_connection, running, editor_of, with_host, with_editor, with_seat, cut_off}
use Rattle.editor_seat.specs.Joining as new
use Rattle.daemon_world.specs.Order.{IsApart, IsOrderly}
use Rattle.daemon_world.specs.Worlds.{world_of}
use Rattle.daemon_world.proofs.OrderLemmas.{IsThere, there, place_of, editor_set, seat_set, apart_set}

-- ---- steps one behind the other

-- what a step that is possible begins with is there
pub first_there : {A B : Type 0} (o : Option A) (f : A → Option B) → is_some (option_and_then f o) ≡ true → IsThere o
first_there None f possible = cc
first_there (Some x) f possible = record { item = x; is = refl }

passed : {A : Type 0} (b : Bool) (x : A) → is_some (only_if b x) ≡ true → only_if b x ≡ Some x
passed true x possible = refl
passed false x possible = cc

test_of : {A : Type 0} (b : Bool) (x : A) → is_some (only_if b x) ≡ true → b ≡ true
test_of true x possible = refl
test_of false x possible = cc

-- a step with a test is made
pub made : {A B : Type 0} (o : Option A) (test : A → Bool) (next : A → B) (x : A) → o ≡ Some x
    → is_some (option_and_then (λ y. only_if (test y) (next y)) o) ≡ true → option_and_then (λ y. only_if (test y) (next y)) o ≡ Some (next x)
made o test next x at possible =
    let is = ap (option_and_then (λ y. only_if (test y) (next y))) at in is ∙ passed (test x) (next x) (ap is_some (sym is) ∙ possible)

-- and has passed its test
pub passes : {A B : Type 0} (o : Option A) (test : A → Bool) (next : A → B) (x : A) → o ≡ Some x
    → is_some (option_and_then (λ y. only_if (test y) (next y)) o) ≡ true → test x ≡ true
passes o test next x at possible =
    test_of (test x) (next x) (ap is_some (sym (ap (option_and_then (λ y. only_if (test y) (next y))) at)) ∙ possible)

-- what is there is one
pub one_there : {A : Type 0} (o : Option A) (x y : A) → o ≡ Some x → o ≡ Some y → x ≡ y
one_there o x y at also = let same : Some x ≡ Some y = sym at ∙ also in cc

-- ---- states

pub not_closed : (s : ClientState) → not (is_closed s) ≡ true → s ≡ Closed → ⊥
not_closed s going closed = let no : not true ≡ true = ap (λ t. not (is_closed t)) (sym closed) ∙ going in cc

pub closed_is : (s : ClientState) → is_closed s ≡ true → s ≡ Closed
closed_is Closed is = refl
closed_is Opening is = cc
closed_is Open is = cc

-- ---- typing

-- an editor without a connection types as one that has closed its text
apart_typed : (change : Change) (x : KeptEditor) → IsApart x → IsApart (record x { seat = typed change x.seat })
apart_typed change x apart =
    let c : Editor = x.seat.client in
    let body : List ℕ = body_of (edit_request change c) c in
    record {
      closed = state (is_closed c.state) (delta_of change c.text) c ∙ apart.closed;
      up = ap (λ b. x.seat.up ++ option_to_list (unless_closed b body)) apart.closed ∙ append-nil x.seat.up ∙ apart.up;
      down = apart.down;
    } where
      state : (b : Bool) (d : Cells) (e : Editor) → is_closed (typed_where b d e).state ≡ is_closed e.state
      state true d e = refl
      state false d e = refl

-- whatever its connection
pub typed_in_order : (k : KeptWorld) (owners : List ℕ) (e : ℕ) (change : Change) (x : KeptEditor) → editor_of k e ≡ Some x → IsOrderly k owners
    → IsOrderly (with_seat k e x (typed change x.seat)) owners
typed_in_order k owners e change x at orderly = by x.connection refl where
  by : (c : Option ℕ) → x.connection ≡ c → IsOrderly (with_seat k e x (typed change x.seat)) owners
  by None off = apart_set k owners e (record x { seat = typed change x.seat }) off (apart_typed change x (orderly.apart e x at off)) orderly
  by (Some n) on = seat_set k owners e n x (typed change x.seat) at on orderly

-- the editor that stands at a place
pub types_at : (k : KeptWorld) (e place gone : ℕ) (text : List ℕ) (x : KeptEditor) → editor_of k e ≡ Some x → is_some (types k e place gone text) ≡ true
    → types k e place gone text ≡ Some (quietly (with_seat k e x (typed (change_at place gone text) x.seat)))
types_at k e place gone text x at possible =
    made (editor_of k e) (λ (y : KeptEditor). nat_le (place + gone) (length y.seat.client.text) && nat_le (length text) LONGEST_SENT)
    (λ (y : KeptEditor). quietly (with_seat k e y (typed (change_at place gone text) y.seat))) x at possible

-- ---- closing

pub closes_at : (k : KeptWorld) (e : ℕ) (x : KeptEditor) → editor_of k e ≡ Some x → is_some (closes k e) ≡ true
    → closes k e ≡ Some (quietly (with_seat k e x (closed x.seat)))
closes_at k e x at possible =
    made (editor_of k e) (λ (y : KeptEditor). is_some y.connection && not (is_closed y.seat.client.state))
    (λ (y : KeptEditor). quietly (with_seat k e y (closed y.seat))) x at possible

-- it is connected, and its text is not closed
pub closes_where : (k : KeptWorld) (e : ℕ) (x : KeptEditor) → editor_of k e ≡ Some x → is_some (closes k e) ≡ true
    → (is_some x.connection ≡ true) × (not (is_closed x.seat.client.state) ≡ true)
closes_where k e x at possible =
    and_parts (is_some x.connection) (not (is_closed x.seat.client.state))
    (passes (editor_of k e) (λ (y : KeptEditor). is_some y.connection && not (is_closed y.seat.client.state))
    (λ (y : KeptEditor). quietly (with_seat k e y (closed y.seat))) x at possible)

-- one that is connected goes on in order, whatever it does itself
pub connected_in_order : (k : KeptWorld) (owners : List ℕ) (e : ℕ) (x : KeptEditor) (s : Seat) → editor_of k e ≡ Some x → is_some x.connection ≡ true → IsOrderly k owners
    → IsOrderly (with_seat k e x s) owners
connected_in_order k owners e x s at connected orderly = by x.connection refl connected where
  by : (c : Option ℕ) → x.connection ≡ c → is_some c ≡ true → IsOrderly (with_seat k e x s) owners
  by None off on = cc
  by (Some n) is on = seat_set k owners e n x s at is orderly

-- ---- joining

pub joins_at : (k : KeptWorld) (e d : ℕ) (path text : List ℕ) (h : KeptHost) → running k d ≡ Some h → is_some (joins k e d path text) ≡ true
    → joins k e d path text ≡ Some (quietly (joined k d h path text))
joins_at k e d path text h runs possible =
    made (running k d) (λ (g : KeptHost). e == length k.editors && nat_lt e MOST_EDITORS && nat_le (length text) LONGEST_SENT)
    (λ (g : KeptHost). quietly (joined k d g path text)) h runs possible

-- ---- opening

abbrev may_open : KeptEditor → Bool
may_open x = nat_le (length x.seat.client.text) LONGEST_SENT && is_closed x.seat.client.state

-- an editor that is there opens, where its text is closed and short enough
abbrev opens_next : KeptWorld → ℕ → KeptEditor → Option ℕ → Option KeptPlayed
opens_next k e x c = option_and_then (only_if (may_open x)) (opens_on k e x c)

opens_from : (k : KeptWorld) (e : ℕ) (x : KeptEditor) (c : Option ℕ) → editor_of k e ≡ Some x → x.connection ≡ c → opens k e ≡ opens_next k e x c
opens_from k e x c at on = ap (option_and_then (λ (y : KeptEditor). opens_next k e y y.connection)) at ∙ ap (opens_next k e x) on

-- where it is possible
opens_there : (k : KeptWorld) (e : ℕ) (x : KeptEditor) (c : Option ℕ) → editor_of k e ≡ Some x → x.connection ≡ c → is_some (opens k e) ≡ true
    → is_some (opens_next k e x c) ≡ true
opens_there k e x c at on possible = ap is_some (sym (opens_from k e x c at on)) ∙ possible

pub opens_closed : (k : KeptWorld) (e : ℕ) (x : KeptEditor) → editor_of k e ≡ Some x → is_some (opens k e) ≡ true → is_closed x.seat.client.state ≡ true
opens_closed k e x at possible = by (opens_on k e x x.connection) (opens_there k e x x.connection at refl possible) where
  by : (o : Option KeptPlayed) → is_some (option_and_then (only_if (may_open x)) o) ≡ true → is_closed x.seat.client.state ≡ true
  by None there = cc
  by (Some played) there = (and_parts (nat_le (length x.seat.client.text) LONGEST_SENT) (is_closed x.seat.client.state) (test_of (may_open x) played there)).1

-- on a new connection
abbrev pub opened_anew : KeptWorld → ℕ → KeptEditor → KeptHost → KeptPlayed
opened_anew k e x h =
    quietly (with_editor (with_connection k x.daemon h) e (record x { connection = Some (next_connection k); seat = opened x.seat }))

abbrev anew_next : KeptWorld → ℕ → KeptEditor → Option KeptHost → Option KeptPlayed
anew_next k e x o = option_and_then (only_if (may_open x)) (option_and_then (λ (h : KeptHost). Some (opened_anew k e x h)) o)

pub opens_runs : (k : KeptWorld) (e : ℕ) (x : KeptEditor) → editor_of k e ≡ Some x → x.connection ≡ None → is_some (opens k e) ≡ true
    → is_some (running k x.daemon) ≡ true
opens_runs k e x at off possible = by (running k x.daemon) (opens_there k e x None at off possible) where
  by : (o : Option KeptHost) → is_some (anew_next k e x o) ≡ true → is_some o ≡ true
  by None there = cc
  by (Some h) there = refl

pub opens_anew : (k : KeptWorld) (e : ℕ) (x : KeptEditor) (h : KeptHost) → editor_of k e ≡ Some x → x.connection ≡ None → running k x.daemon ≡ Some h
    → is_some (opens k e) ≡ true → opens k e ≡ Some (opened_anew k e x h)
opens_anew k e x h at off runs possible =
    let is : opens k e ≡ only_if (may_open x) (opened_anew k e x h) = opens_from k e x None at off ∙ ap (anew_next k e x) runs in
    is ∙ passed (may_open x) (opened_anew k e x h) (ap is_some (sym is) ∙ possible)

pub opens_again : (k : KeptWorld) (e n : ℕ) (x : KeptEditor) → editor_of k e ≡ Some x → x.connection ≡ Some n → is_some (opens k e) ≡ true
    → opens k e ≡ Some (quietly (with_seat k e x (opened x.seat)))
opens_again k e n x at on possible =
    opens_from k e x (Some n) at on ∙ passed (may_open x) (quietly (with_seat k e x (opened x.seat))) (opens_there k e x (Some n) at on possible)

-- ---- the end of a connection

abbrev cut_next : KeptWorld → ℕ → KeptEditor → ℕ → KeptHost → Option KeptPlayed
cut_next k e x n h = Some (quietly (with_editor (with_host k x.daemon (ended h n)) e (cut_off x)))

abbrev cut_behind : KeptWorld → ℕ → KeptEditor → ℕ → Option KeptPlayed
cut_behind k e x n = option_and_then (cut_next k e x n) (running k x.daemon)

cuts_from : (k : KeptWorld) (e : ℕ) (x : KeptEditor) → editor_of k e ≡ Some x → cuts k e ≡ option_and_then (cut_behind k e x) x.connection
cuts_from k e x at = ap (option_and_then (λ (y : KeptEditor). option_and_then (cut_behind k e y) y.connection)) at

pub cuts_at : (k : KeptWorld) (e n : ℕ) (x : KeptEditor) (h : KeptHost) → editor_of k e ≡ Some x → x.connection ≡ Some n → running k x.daemon ≡ Some h
    → cuts k e ≡ cut_next k e x n h
cuts_at k e n x h at on runs = cuts_from k e x at ∙ ap (option_and_then (cut_behind k e x)) on ∙ ap (option_and_then (cut_next k e x n)) runs

-- it is connected, and its daemon runs
pub cuts_where : (k : KeptWorld) (e : ℕ) (x : KeptEditor) → editor_of k e ≡ Some x → is_some (cuts k e) ≡ true
    → IsThere x.connection × IsThere (running k x.daemon)
cuts_where k e x at possible =
    let there = ap is_some (sym (cuts_from k e x at)) ∙ possible in
    let on : IsThere x.connection = first_there x.connection (cut_behind k e x) there in
    (on, first_there (running k x.daemon) (cut_next k e x on.item) (ap is_some (sym (ap (option_and_then (cut_behind k e x)) on.is)) ∙ there))

-- ---- what is shown

pub shows_at : (k : KeptWorld) (e : ℕ) (x : KeptEditor) → editor_of k e ≡ Some x → shows k e ≡ Some (prints k (show_line e x))
shows_at k e x at = ap (option_and_then (λ (y : KeptEditor). Some (prints k (show_line e y)))) at

-- ---- what the code finds at a place, and what it leaves there

-- the item that is read at a place is the one that stands there
pub stands : {A : Type 0} (xs : List A) (i : ℕ) (x : A) → IsThere (slice_get xs i) → x ≡ get_or xs i x → slice_get xs i ≡ Some x
stands xs i x there is = there.is ∙ ap Some (sym (is ∙ get_or_from_slice_get xs i there.item x there.is))

-- and the daemon
pub host_stands : (k : KeptWorld) (d : ℕ) (o : Option KeptHost) (h : KeptHost) → is_some (running k d) ≡ true → o ≡ get_or k.hosts d o → o ≡ Some h → running k d ≡ Some h
host_stands k d o h runs is some =
    ap (option_and_then if_there) (stands k.hosts d o (first_there (slice_get k.hosts d) if_there runs) is) ∙ some

pub types_there : (k : KeptWorld) (e place gone : ℕ) (text : List ℕ) → is_some (types k e place gone text) ≡ true → IsThere (editor_of k e)
types_there k e place gone text possible =
    first_there (editor_of k e) (λ (y : KeptEditor). only_if (nat_le (place + gone) (length y.seat.client.text) && nat_le (length text) LONGEST_SENT)
    (quietly (with_seat k e y (typed (change_at place gone text) y.seat)))) possible

pub closes_there : (k : KeptWorld) (e : ℕ) → is_some (closes k e) ≡ true → IsThere (editor_of k e)
closes_there k e possible =
    first_there (editor_of k e) (λ (y : KeptEditor). only_if (is_some y.connection && not (is_closed y.seat.client.state)) (quietly (with_seat k e y (closed y.seat)))) possible

pub opens_editor : (k : KeptWorld) (e : ℕ) → is_some (opens k e) ≡ true → IsThere (editor_of k e)
opens_editor k e possible = first_there (editor_of k e) (λ (y : KeptEditor). opens_next k e y y.connection) possible

pub cuts_there : (k : KeptWorld) (e : ℕ) → is_some (cuts k e) ≡ true → IsThere (editor_of k e)
cuts_there k e possible = first_there (editor_of k e) (λ (y : KeptEditor). option_and_then (cut_behind k e y) y.connection) possible

pub shows_there : (k : KeptWorld) (e : ℕ) → is_some (shows k e) ≡ true → IsThere (editor_of k e)
shows_there k e possible = first_there (editor_of k e) (λ (y : KeptEditor). Some (prints k (show_line e y))) possible

-- a step was made, or want of memory left the editor as it was
pub either : {A E : Type 0} (r : Result A E) (P : KeptEditor → Type 0) (y next kept : KeptEditor) → OnOk r (y ≡ next) → OnErr r (y ≡ kept) → P next → P kept → P y
either (Ok v) P y next kept ok err p q = subst P (sym ok) p
either (Err f) P y next kept ok err p q = subst P (sym err) q

pub same_in_order : (k : KeptWorld) (owners : List ℕ) (e : ℕ) (x : KeptEditor) → editor_of k e ≡ Some x → IsOrderly k owners → IsOrderly (with_editor k e x) owners
same_in_order k owners e x at orderly = editor_set k owners e x (place_of k owners e x at orderly) orderly

pub typed_made : {A E : Type 0} (r : Result A E) (k : KeptWorld) (e place gone : ℕ) (text : List ℕ) (x y : KeptEditor) → editor_of k e ≡ Some x
    → is_some (types k e place gone text) ≡ true → OnOk r (y ≡ record x { seat = typed (change_at place gone text) x.seat })
    → OnOk r (TellsOf x.seat.client (change_at place gone text)) → OnOk r (IsTyped k e place gone text (quietly (with_editor k e y)))
typed_made (Ok v) k e place gone text x y at possible is tells =
    record {
      is = types_at k e place gone text x at possible ∙ ap (λ (z : KeptEditor). Some (quietly (with_editor k e z))) (sym is);
      tells = λ z also. subst (λ (q : KeptEditor). TellsOf q.seat.client (change_at place gone text)) (one_there (editor_of k e) x z at also) tells;
    }
typed_made (Err f) k e place gone text x y at possible is tells = tt

pub closed_made : {A E : Type 0} (r : Result A E) (k : KeptWorld) (e : ℕ) (x y : KeptEditor) → editor_of k e ≡ Some x → is_some (closes k e) ≡ true
    → OnOk r (y ≡ record x { seat = closed x.seat }) → OnOk r (IsReadBack x.seat.client (close_request x.seat.client))
    → OnOk r (IsClosed k e (quietly (with_editor k e y)))
closed_made (Ok v) k e x y at possible is read =
    record {
      is = closes_at k e x at possible ∙ ap (λ (z : KeptEditor). Some (quietly (with_editor k e z))) (sym is);
      read = λ z also. subst (λ (q : KeptEditor). IsReadBack q.seat.client (close_request q.seat.client)) (one_there (editor_of k e) x z at also) read;
    }
closed_made (Err f) k e x y at possible is read = tt

pub opened_made : {A E : Type 0} (r : Result A E) (k : KeptWorld) (e : ℕ) (x y : KeptEditor) → editor_of k e ≡ Some x → is_some (opens k e) ≡ true
    → is_some x.connection ≡ true → OnOk r (y ≡ record x { seat = opened x.seat }) → OnOk r (IsReadBack x.seat.client (open_request x.seat.client))
    → OnOk r (IsOpened k e (quietly (with_editor k e y)))
opened_made (Ok v) k e x y at possible connected is read =
    let on : IsThere x.connection = there x.connection connected in
    record {
      is = opens_again k e on.item x at on.is possible ∙ ap (λ (z : KeptEditor). Some (quietly (with_editor k e z))) (sym is);
      read = λ z also. subst (λ (q : KeptEditor). IsReadBack q.seat.client (open_request q.seat.client)) (one_there (editor_of k e) x z at also) read;
    }
opened_made (Err f) k e x y at possible connected is read = tt

-- a daemon has changed
pub host_made : {A E : Type 0} (r : Result A E) (k : KeptWorld) (d : ℕ) (new host : KeptHost) (next : KeptHost → KeptHost) → running k d ≡ Some host
    → OnOk r (new ≡ next host) → OnOk r ((h : KeptHost) → running k d ≡ Some h → with_host k d new ≡ with_host k d (next h))
host_made (Ok v) k d new host next at is = λ h also. ap (with_host k d) (is ∙ ap next (one_there (running k d) host h at also))
host_made (Err f) k d new host next at is = tt

-- an editor has the next connection
pub connected_made : (k : KeptWorld) (owners later : List ℕ) (e n : ℕ) (x y : KeptEditor) → editor_of k e ≡ Some x → later ≡ owners ++ e ∷ []
    → k.connections ≡ length owners → y ≡ record x { connection = Some n; seat = opened x.seat } → (z : KeptEditor) → editor_of k e ≡ Some z
    → world_of k.hosts (slice_set k.editors e y) later
    ≡ with_editor (record k { connections = k.connections + 1 }) e (record z { connection = Some n; seat = opened z.seat })
connected_made k owners later e n x y at more count is z also =
    let counted : length later ≡ k.connections + 1 = omega (arith, ap length more, length-append owners (e ∷ []), count) in
    ap (λ (q : KeptEditor). world_of k.hosts (slice_set k.editors e q) later)
    (is ∙ ap (λ (q : KeptEditor). record q { connection = Some n; seat = opened q.seat }) (one_there (editor_of k e) x z at also))
    ∙ ap (λ (m : ℕ). with_editor (record k { connections = m }) e (record z { connection = Some n; seat = opened z.seat })) counted

-- one more editor has joined
pub joined_made : {A E : Type 0} (r : Result A E) (k begun after : KeptWorld) (d n : ℕ) (path text : List ℕ) (h : KeptHost) (editor : KeptEditor) → running k d ≡ Some h
    → is_some (joins k (length k.editors) d path text) ≡ true → n ≡ next_connection k → editor ≡ new.joined h.state.base d path n text
    → begun ≡ with_host k d (record h { state = (serve h.state (EditorBegan n)).state })
    → OnOk r (after ≡ record begun { editors = begun.editors ++ editor ∷ []; connections = begun.connections + 1 }) → IsNewClient h.state.base path text
    → OnOk r (IsJoined k (length k.editors) d path text (quietly after))
joined_made (Err f) k begun after d n path text h editor runs possible number is starts adds client = tt
joined_made (Ok v) k begun after d n path text h editor runs possible number is starts adds client =
    let next : ℕ → KeptWorld = λ m. with_host k d (record h { state = (serve h.state (EditorBegan m)).state }) in
    let all : after ≡ joined k d h path text =
    adds ∙ ap (λ (w : KeptWorld). record w { editors = w.editors ++ editor ∷ []; connections = w.connections + 1 }) starts
    ∙ ap (λ (x : KeptEditor). record (next n) { editors = k.editors ++ x ∷ []; connections = k.connections + 1 }) is
    ∙ ap (λ (m : ℕ). record (next m) { editors = k.editors ++ new.joined h.state.base d path m text ∷ []; connections = k.connections + 1 }) number in
    record {
      is = joins_at k (length k.editors) d path text h runs possible ∙ ap (λ (w : KeptWorld). Some (quietly w)) (sym all);
      client = λ g also. subst (λ (q : KeptHost). IsNewClient q.state.base path text) (one_there (running k d) h g runs also) client;
    }
