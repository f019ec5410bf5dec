-- Each move keeps what every step keeps.
use Rattle.std.proofs.Common.{◌≡◌, inl, inr, ℕ, zero, suc, ◌+◌, ◌==◌, ◌&&◌, ◌≤◌, Bool, true, false, List, [], ◌++◌, length, Option, Some, None, nat_le, nat_lt, refl, sym, ap, ◌∙◌, subst, arith}
use Rattle.std.specs.Prelude.{slice_get, slice_set, if◌then◌else◌, option_and_then}
use Rattle.std.proofs.lemmas.Bool.{leb-true, and_parts}
use Rattle.bridge_world.specs.Lists.{only_if}
use Rattle.bridge_world.specs.Plain as P
use Rattle.bridge_world.specs.Plain.{is_closed}
use Rattle.text_position.specs.Edits.{replacing}
use Rattle.text_position.proofs.EditLemmas.{base_length-replacing}
use Rattle.file_uri.specs.Base.{BaseView}
use Rattle.daemon_core.specs.History.{text_at}
use Rattle.daemon_core.specs.Laws.{IsServing}
use Rattle.daemon_core.specs.Outcome.{Outcome, state_told}
use Rattle.daemon_core.specs.Serving.{or_refusal}
use Rattle.daemon_core.proofs.ServeLemmas.{told_serving}
use Rattle.plain_world.specs.Handling.{Played, first_step, handled, handled_seat}
use Rattle.plain_world.specs.Playing.{quietly, with_seat, with_editor, new_host, new_seat, begins, joins, types, goes_up, goes_down, continued}
use Rattle.plain_world.specs.Playing.{again, all_up, settles, closes, opened_seat, opens_on, opens, cut_off, cuts, shows, tells_file, tells_held}
use Rattle.plain_world.specs.World.{Host, Seat, World, next_connection, host_of, running, seat_of}
use Rattle.plain_world.proofs.HandledLemmas.{first_handled}
use Rattle.plain_world.proofs.ListLemmas.{from_set, at_set, from_push, at_push, from_one_and_others}
use Rattle.plain_world.proofs.SeatLemmas.{Stands, stands_new, stands_typed, stands_opened, stands_closed, stands_lost, stands_delivered}
use Rattle.plain_world.proofs.WorldLemmas.{StandsAt, IsSeated, IsGood, seated_told}

-- a step that was possible behind another one
pub record Found {A B : Type 0} (o : Option A) (f : A → Option B) (y : B) : Type 0 where
  pub item : A
  pub is : o ≡ Some item
  pub next : f item ≡ Some y

pub found_then : {A B : Type 0} (o : Option A) (f : A → Option B) (y : B) → option_and_then f o ≡ Some y → Found o f y
found_then None f y e = cc
found_then (Some x) f y e = record { item = x; is = refl; next = e }

-- a move that was possible, by a test
pub record Allowed {A : Type 0} (b : Bool) (x y : A) : Type 0 where
  pub passes : b ≡ true
  pub is : x ≡ y

pub allowed_if : {A : Type 0} (b : Bool) (x y : A) → only_if b x ≡ Some y → Allowed b x y
allowed_if true x y e = let same : Some x ≡ Some y = e in record { passes = refl; is = cc }
allowed_if false x y e = cc

-- the world of what was played is good
abbrev pub Keeps : Option Played → Type 0
Keeps result = (next : Played) → result ≡ Some next → IsGood next.world

-- a running daemon is there
pub there_running : (w : World) (d : ℕ) (h : Host) → running w d ≡ Some h → host_of w d ≡ Some h
there_running w d h e =
    let found = found_then (host_of w d) _ h e in
    let one : found.item ≡ h = by found.item found.item.runs found.next in
    found.is ∙ ap Some one where
      by : (g : Host) (b : Bool) → (if b then Some g else None) ≡ Some h → g ≡ h
      by g true e = let same : Some g ≡ Some h = e in cc
      by g false e = cc

-- one editor has changed
pub good_seat : (w : World) (e : ℕ) (y : Seat) → IsGood w → IsSeated w.hosts y → IsGood (with_seat w e y)
good_seat w e y good seated = record {
  serve = good.serve;
  seated = λ i x found. elim (from_set w.seats e i y x found) [
    | inl kept ↦ good.seated i x kept
    | inr set ↦ subst (IsSeated w.hosts) (sym set.1) seated
  ];
}

-- its daemon is there as before
pub good_editor : (w : World) (e : ℕ) (x : Seat) (editor : P.Editor) → IsGood w → seat_of w e ≡ Some x
    → ((view : List ℕ) → Stands view x.editor → Stands view editor) → IsGood (with_editor w e x editor)
good_editor w e x editor good found stands =
    let seated = good.seated e x found in
    good_seat w e (record x { editor = editor }) good
    (record { host = seated.host; there = seated.there; stands = stands (text_at seated.host.state.history x.path) seated.stands })

pub begins_good : (base : BaseView) (w : World) (d : ℕ) → IsGood w → Keeps (begins base w d)
begins_good base w d good next e =
    let allowed = allowed_if (d == length w.hosts && nat_lt d _) _ next e in
    subst (λ (p : Played). IsGood p.world) allowed.is
    (record {
      serve = λ k h found. elim (from_push w.hosts (new_host base) k h found) [
        | inl kept ↦ good.serve k h kept
        | inr new ↦ subst (λ (g : Host). IsServing g.state) (sym new) (record { linked = λ n path link none. cc })
      ];
      seated = λ i x found.
          let seated = good.seated i x found in
          record { host = seated.host; there = at_push w.hosts (new_host base) x.daemon seated.host seated.there; stands = seated.stands };
    })

pub joins_good : (w : World) (e d : ℕ) (path text : List ℕ) → IsGood w → Keeps (joins w e d path text)
joins_good w e d path text good next played =
    let found = found_then (running w d) _ next played in
    let allowed = allowed_if _ _ next found.next in
    subst (λ (p : Played). IsGood p.world) allowed.is
    (record {
      serve = good.serve;
      seated = λ i x is. elim (from_push w.seats (new_seat w d path text) i x is) [
        | inl kept ↦ good.seated i x kept
        | inr new ↦ subst (IsSeated w.hosts) (sym new)
            (record {
              host = found.item;
              there = there_running w d found.item found.is;
              stands = stands_new (text_at found.item.state.history path) text;
            })
      ];
    })

pub types_good : (w : World) (e place gone : ℕ) (text : List ℕ) → IsGood w → Keeps (types w e place gone text)
types_good w e place gone text good next played =
    let found = found_then (seat_of w e) _ next played in
    let x : Seat = found.item in
    let allowed = allowed_if _ _ next found.next in
    let tests = and_parts (nat_le (place + gone) (length x.editor.text)) _ allowed.passes in
    let within : place + gone ≤ length x.editor.text = leb-true (place + gone) (length x.editor.text) tests.0 in
    subst (λ (p : Played). IsGood p.world) allowed.is
    (good_editor w e x _ good found.is
    (λ view h. stands_typed view x.editor (replacing (length x.editor.text) place (place + gone) text)
    (base_length-replacing (length x.editor.text) place (place + gone) text (omega arith) within) h))

pub down_good : (w : World) (e : ℕ) → IsGood w → Keeps (goes_down w e)
down_good w e good next played =
    let found = found_then (seat_of w e) _ next played in
    let allowed = allowed_if _ _ next found.next in
    subst (λ (p : Played). IsGood p.world) allowed.is
    (good_editor w e found.item _ good found.is (λ view h. stands_delivered view found.item.editor h))

-- a message is handled
handled_good : (w : World) (e : ℕ) (x : Seat) (h : Host) → IsGood w → seat_of w e ≡ Some x → host_of w x.daemon ≡ Some h
    → IsGood (handled w e x h).world
handled_good w e x h good found there =
    let seated = good.seated e x found in
    let same : Some seated.host ≡ Some h = sym seated.there ∙ there in
    let host : seated.host ≡ h = cc in
    let stands : StandsAt h.state x = subst (λ (g : Host). StandsAt g.state x) host seated.stands in
    let step = first_step h.state x.path x.editor.sent x.editor.link in
    let o : Outcome = or_refusal h.state step in
    let done = first_handled h.state x.path x.editor stands in
    let next : Host = record h { state = state_told h.state o } in
    record {
      serve = λ d g is. elim (from_set w.hosts x.daemon d next g is) [
        | inl kept ↦ good.serve d g kept
        | inr new ↦ subst (λ (k : Host). IsServing k.state) (sym new.1) (told_serving h.state o (good.serve x.daemon h there) done.change)
      ];
      seated = λ i y is.
          let came = from_one_and_others _ _ e w.seats i y is in
          elim came.was [
            | inl own ↦
                let one : Some came.item ≡ Some x = sym came.there ∙ ap (slice_get w.seats) own.0 ∙ found in
                let item : came.item ≡ x = cc in
                subst (IsSeated (slice_set w.hosts x.daemon next)) (sym (own.1 ∙ ap (handled_seat step (text_at o.history x.path)) item))
                (record {
                  host = next;
                  there = at_set w.hosts x.daemon next h there;
                  stands = done.stands;
                })
            | inr other ↦
                subst (IsSeated (slice_set w.hosts x.daemon next)) (sym other)
                (seated_told w.hosts x.daemon h next o came.item there done.change refl (good.seated i came.item came.there))
          ];
    }

pub up_good : (w : World) (e : ℕ) → IsGood w → Keeps (goes_up w e)
up_good w e good next played =
    let x = found_then (seat_of w e) _ next played in
    let h = found_then (running w x.item.daemon) _ next x.next in
    let allowed = allowed_if _ _ next h.next in
    subst (λ (p : Played). IsGood p.world) allowed.is
    (handled_good w e x.item h.item good x.is (there_running w x.item.daemon h.item h.is))

-- what a move keeps, it keeps when it is made again and again
again_good : (move : World → Option Played) → ((w : World) → IsGood w → Keeps (move w)) → (n : ℕ) (played : Played)
    → IsGood played.world → IsGood (again move n played).world
again_good move keeps zero played good = good
again_good move keeps (suc n) played good =
    by (λ p. again_good move keeps n p) (move played.world) (keeps played.world good) where
      by : ((p : Played) → IsGood p.world → IsGood (again move n p).world) → (result : Option Played) → Keeps result
          → IsGood (continued (again move n) played result).world
      by more None keeps = good
      by more (Some next) keeps = more (record { world = next.world; printed = played.printed ++ next.printed }) (keeps next refl)

pub settles_good : (w : World) (e : ℕ) → IsGood w → Keeps (settles w e)
settles_good w e good next played =
    let x = found_then (seat_of w e) _ next played in
    let allowed = allowed_if _ _ next x.next in
    let up : IsGood (all_up w e).world = again_good (λ v. goes_up v e) (λ v. up_good v e) _ (quietly w) good in
    subst (λ (p : Played). IsGood p.world) allowed.is
    (again_good (λ v. goes_down v e) (λ v. down_good v e) _ (all_up w e) up)

pub closes_good : (w : World) (e : ℕ) → IsGood w → Keeps (closes w e)
closes_good w e good next played =
    let x = found_then (seat_of w e) _ next played in
    let allowed = allowed_if _ _ next x.next in
    subst (λ (p : Played). IsGood p.world) allowed.is
    (good_editor w e x.item _ good x.is (λ view h. stands_closed view x.item.editor h))

-- an editor whose connection has ended
pub cut_seated : (hosts : List Host) (x : Seat) → IsSeated hosts x → IsSeated hosts (cut_off x)
cut_seated hosts x k = record {
  host = k.host;
  there = k.there;
  stands = stands_lost (text_at k.host.state.history x.path) (text_at k.host.state.history x.path) x.editor k.stands;
}

pub cuts_good : (w : World) (e : ℕ) → IsGood w → Keeps (cuts w e)
cuts_good w e good next played =
    let x = found_then (seat_of w e) _ next played in
    let allowed = allowed_if _ _ next x.next in
    subst (λ (p : Played). IsGood p.world) allowed.is
    (good_seat w e (cut_off x.item) good (cut_seated w.hosts x.item (good.seated e x.item x.is)))

-- what prints alone
pub shown_good : (w : World) (line : List ℕ) (next : Played) → IsGood w → Some (record { world = w; printed = line }) ≡ Some next → IsGood next.world
shown_good w line next good e =
    let same : record { world = w; printed = line } ≡ next = cc in subst (λ (p : Played). IsGood p.world) same good

pub shows_good : (w : World) (e : ℕ) → IsGood w → Keeps (shows w e)
shows_good w e good next played =
    let x = found_then (seat_of w e) _ next played in shown_good w _ next good x.next

pub file_good : (w : World) (d : ℕ) (path : List ℕ) → IsGood w → Keeps (tells_file w d path)
file_good w d path good next played =
    let h = found_then (running w d) _ next played in shown_good w _ next good h.next

pub held_good : (w : World) (d : ℕ) → IsGood w → Keeps (tells_held w d)
held_good w d good next played =
    let h = found_then (running w d) _ next played in shown_good w _ next good h.next

opened_seated : (hosts : List Host) (x : Seat) → is_closed x.editor.state ≡ true → IsSeated hosts x → IsSeated hosts (opened_seat x)
opened_seated hosts x closed k = record {
  host = k.host;
  there = k.there;
  stands = stands_opened (text_at k.host.state.history x.path) x.editor closed k.stands;
}

pub opens_good : (w : World) (e : ℕ) → IsGood w → Keeps (opens w e)
opens_good w e good next played =
    let x = found_then (seat_of w e) _ next played in
    let on = found_then (opens_on w e x.item x.item.connection) _ next x.next in
    let allowed = allowed_if _ _ next on.next in
    let tests = and_parts (nat_le (length x.item.editor.text) _) _ allowed.passes in
    let seated : IsSeated w.hosts (opened_seat x.item) = opened_seated w.hosts x.item tests.1 (good.seated e x.item x.is) in
    subst (λ (p : Played). IsGood p.world) allowed.is (by x.item seated x.item.connection on.item on.is) where
      by : (x : Seat) → IsSeated w.hosts (opened_seat x) → (connection : Option ℕ) → (p : Played) → opens_on w e x connection ≡ Some p → IsGood p.world
      by x seated (Some n) p is = shown_good (with_seat w e (opened_seat x)) [] p (good_seat w e (opened_seat x) good seated) is
      by x seated None p is =
          let h = found_then (running w x.daemon) _ p is in
          let y : Seat = record (opened_seat x) { connection = Some (next_connection w) } in
          let set : IsGood (with_seat w e y) = good_seat w e y good (record { host = seated.host; there = seated.there; stands = seated.stands }) in
          shown_good (record (with_seat w e y) { connections = w.connections + 1 }) [] p (record { serve = set.serve; seated = set.seated }) h.next
