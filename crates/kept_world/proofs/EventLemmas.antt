-- What an event of a daemon leaves of a world beside its editors: the daemon, the connections, and that the daemon stops.
use Rattle.std.proofs.Common.{◌≡◌, ℕ, zero, suc, ◌==◌, ◌<◌, Bool, true, false, List, [], ◌∷◌, map, filter, Option, Some, None, All, refl, sym, ap, ◌∙◌, subst, arith}
use Rattle.std.specs.Prelude.{slice_get, slice_set, if◌then◌else◌}
use Rattle.std.specs.List.{AllZip}
use Rattle.std.specs.List.Sorted.{IsStrictlySortedBy}
use Rattle.std.specs.Ordering.{nat_cmp}
use Rattle.std.proofs.lemmas.Bool.{eqb-false}
use Rattle.file_uri.specs.Base.{BaseView}
use Rattle.bridge_world.specs.Lists.{Each, one_and_others}
use Rattle.rpc_message.specs.Messages.{message_of}
use Rattle.daemon_core.specs.Laws.{IsServing}
use Rattle.daemon_core.specs.Outcome.{Outcome, links_after, state_after}
use Rattle.daemon_core.specs.Outputs.{others_messages, outcome_of}
use Rattle.daemon_core.specs.Sending.{CanBeSent, AllCanBeSent}
use Rattle.daemon_core.specs.State.{Links, State, is_number}
use Rattle.daemon_core.specs.declared.events.Event.TheVariants.{EditorFrame}
use Rattle.daemon_core.specs.declared.events.Output.{Output}
use Rattle.plain_world.specs.Playing as Q
use Rattle.plain_world.specs.RawFrames as plain
use Rattle.plain_world.specs.World as P
use Rattle.plain_world.proofs.ListLemmas.{from_map}
use Rattle.frame_world.specs.Serving.{HasOnce, answer_messages}
use Rattle.frame_world.proofs.SendableLemmas.{answers_can_be_sent, tellings_can_be_sent}
use Rattle.kept_world.specs.Events.{received_on, told_editor}
use Rattle.kept_world.specs.Tie.{is_fed_one, IsTiedHost, IsTiedEditor, Ties}
use Rattle.kept_world.specs.Worlds.{KeptHost, KeptEditor, KeptWorld, next_connection, cut_off, lost_with, without_host}
use Rattle.kept_world.proofs.AfterLemmas.{numbers_after}
use Rattle.kept_world.proofs.CutLemmas.{cut_tied}
use Rattle.kept_world.proofs.HostLemmas.{hosts_set, files_set, running_beside}
use Rattle.kept_world.proofs.TieLemmas.{connected_on, still_tied, Has, own_again}

-- each message of an event can be sent: those on its own connection, and those that each other one is told
pub record IsSendable (s : State) (n : ℕ) (body : List ℕ) : Type 0 where
  pub own : Each CanBeSent (answer_messages s n body)
  pub others : (m : ℕ) (links : Links) → is_number n m ≡ false → HasOnce m links s.connections
      → Each CanBeSent (others_messages s.base (outcome_of s n (message_of body)).effects links)

pub sendable : (s : State) (n : ℕ) (body : List ℕ) → AllCanBeSent s (EditorFrame n body) → IsSendable s n body
sendable s n body all = record {
  own = answers_can_be_sent s n body all;
  others = λ m links apart once. tellings_can_be_sent s n body m links once apart all;
}

-- ---- lists

-- all items change
pub zip_map : {A B : Type 0} (R Q : A → B → Type 0) (f : A → A) (g : B → B) (xs : List A) (ys : List B)
    → ((i : ℕ) (x : A) (y : B) → slice_get xs i ≡ Some x → R x y → Q (f x) (g y)) → AllZip R xs ys → AllZip Q (map f xs) (map g ys)
zip_map R Q f g [] [] each tied = tt
zip_map R Q f g [] (y ∷ ys) each tied = absurd tied
zip_map R Q f g (x ∷ xs) [] each tied = absurd tied
zip_map R Q f g (x ∷ xs) (y ∷ ys) each tied = (each zero x y refl tied.0, zip_map R Q f g xs ys (λ i a b at r. each (suc i) a b at r) tied.1)

-- one item is replaced and changes in one way, and the others in another
pub zip_one : {A B : Type 0} (R Q : A → B → Type 0) (f : A → A) (one g : B → B) (e : ℕ) (z : A) (xs : List A) (ys : List B)
    → ((x : A) (y : B) → slice_get xs e ≡ Some x → slice_get ys e ≡ Some y → R x y → Q (f z) (one y))
    → ((i : ℕ) (x : A) (y : B) → (i ≡ e → ⊥) → slice_get xs i ≡ Some x → R x y → Q (f x) (g y)) → AllZip R xs ys
    → AllZip Q (map f (slice_set xs e z)) (one_and_others one g e ys)
zip_one R Q f one g e z [] [] here each tied = tt
zip_one R Q f one g e z [] (y ∷ ys) here each tied = absurd tied
zip_one R Q f one g e z (x ∷ xs) [] here each tied = absurd tied
zip_one R Q f one g zero z (x ∷ xs) (y ∷ ys) here each tied =
    (here x y refl refl tied.0, zip_map R Q f g xs ys (λ i a b at r. each (suc i) a b (λ same. omega (arith, same)) at r) tied.1)
zip_one R Q f one g (suc e) z (x ∷ xs) (y ∷ ys) here each tied = (
  each zero x y (λ same. omega (arith, same)) refl tied.0,
  zip_one R Q f one g e z xs ys here (λ i a b apart at r. each (suc i) a b (λ same. apart (omega (arith, same))) at r) tied.1,
)

pub set_again : {A : Type 0} (xs : List A) (i : ℕ) (x y : A) → slice_set (slice_set xs i x) i y ≡ slice_set xs i y
set_again [] i x y = refl
set_again (z ∷ xs) zero x y = refl
set_again (z ∷ xs) (suc i) x y = ap (λ l. z ∷ l) (set_again xs i x y)

-- ---- the daemon

pub host_after : (base : BaseView) (next : ℕ) (h : KeptHost) (g : P.Host) (n : ℕ) (o : Outcome) (s : State) → IsTiedHost base next h g → s.base ≡ base
    → s.history ≡ o.history → s.connections ≡ filter is_fed_one (state_after h.state n o).connections → IsServing (state_after h.state n o)
    → IsTiedHost base next (record h { state = state_after h.state n o }) (record g { state = s })
host_after base next h g n o s t base_is history connections serves = record {
  runs = t.runs;
  is_base = t.is_base;
  base_is = t.base_is;
  plain_base = base_is;
  history = history;
  connections = connections;
  readers = t.readers;
  fed = t.fed;
  serves = serves;
  rising = subst (IsStrictlySortedBy nat_cmp) (sym (numbers_after (links_after n o) h.state.connections)) t.rising;
  below = subst (All (λ (m : ℕ). m < next)) (sym (numbers_after (links_after n o) h.state.connections)) t.below;
}

-- ---- the connections of the editors

told_connection : (d : ℕ) (sent : List Output) (x : KeptEditor) → (told_editor d sent x).connection ≡ x.connection
told_connection d sent x = by (x.daemon == d) where
  on : (c : Option ℕ) → (received_on c sent x).connection ≡ x.connection
  on None = refl
  on (Some n) = refl

  by : (b : Bool) → (if b then received_on x.connection sent x else x).connection ≡ x.connection
  by true = on x.connection
  by false = refl

-- editors that are told have the connections that they had
pub told_had : (k l : KeptWorld) (d : ℕ) (sent : List Output) → l.editors ≡ map (told_editor d sent) k.editors → (e n : ℕ) → Has l e n → Has k e n
told_had k l d sent is e n had =
    let from = from_map (told_editor d sent) k.editors e had.editor (ap (λ xs. slice_get xs e) (sym is) ∙ had.there) in
    record {
      editor = from.item;
      there = from.there;
      connection = sym (told_connection d sent from.item) ∙ ap (λ (x : KeptEditor). x.connection) (sym from.was) ∙ had.connection;
    }

-- ---- the daemon stops

-- the editors that lose their connections
lost_had : (k l : KeptWorld) (d : ℕ) → l.editors ≡ map (lost_with d) k.editors → (e n : ℕ) → Has l e n → Has k e n
lost_had k l d is e n had =
    let from = from_map (lost_with d) k.editors e had.editor (ap (λ xs. slice_get xs e) (sym is) ∙ had.there) in
    record {
      editor = from.item;
      there = from.there;
      connection = by from.item (from.item.daemon == d) (ap (λ (x : KeptEditor). x.connection) (sym from.was) ∙ had.connection);
    } where
      by : (x : KeptEditor) (b : Bool) → (if b then cut_off x else x).connection ≡ Some n → x.connection ≡ Some n
      by x true never = cc
      by x false is = is

-- the plain world where a daemon has stopped
abbrev pub plain_stopped : P.World → ℕ → P.Host → P.World
plain_stopped v d g = record (plain.with_host v d (plain.stopped g)) { seats = map (plain.lost_with d) v.seats }

pub stopped_tied : (base : BaseView) (k : KeptWorld) (w : P.World) (d : ℕ) (g : P.Host) → Ties base k w → P.host_of w d ≡ Some g
    → Ties base (without_host k d) (plain_stopped w d g)
stopped_tied base k w d g ties there =
    let l : KeptWorld = without_host k d in
    let v : P.World = plain_stopped w d g in
    let m : ℕ = next_connection k in
    record {
      hosts = hosts_set base m m k.hosts w.hosts d None (plain.stopped g) (omega arith) refl ties.hosts;
      editors =
          zip_map (IsTiedEditor base k w) (IsTiedEditor base l v) (lost_with d) (plain.lost_with d) k.editors w.seats (λ i x y at t. each x y t (x.daemon == d) refl)
          ties.editors;
      connections = ties.connections;
      on_their_own = own_again k l (lost_had k l d refl) ties.on_their_own;
    } where
      each : (x : KeptEditor) (y : P.Seat) → IsTiedEditor base k w x y → (b : Bool) → (x.daemon == d) ≡ b
          → IsTiedEditor base (without_host k d) (plain_stopped w d g) (if b then cut_off x else x) (plain.lost_with d y)
      each x y t true is =
          let k' : KeptWorld = without_host k d in
          let v : P.World = plain_stopped w d g in
          let now : IsTiedEditor base k v x y = still_tied base k k w v x y (files_set w v d g (plain.stopped g) there refl refl) (λ counted at. at) t in
          subst (IsTiedEditor base k' v (cut_off x)) (sym (ap (λ b. if b then Q.cut_off y else y) (ap (λ c. c == d) t.daemon ∙ is)))
          (cut_tied base k k' v v x y refl now)
      each x y t false is =
          let k' : KeptWorld = without_host k d in
          let v : P.World = plain_stopped w d g in
          subst (IsTiedEditor base k' v x) (sym (ap (λ b. if b then Q.cut_off y else y) (ap (λ c. c == d) t.daemon ∙ is)))
          (still_tied base k k' w v x y (files_set w v d g (plain.stopped g) there refl refl)
          (λ counted. connected_on k k' x counted x.connection (running_beside k k' d x.daemon None (eqb-false x.daemon d is) refl) (omega arith)) t)
