-- A move again and again: one more time at the end, and who is there then.
use Rattle.std.proofs.Common.{◌≡◌, ℕ, zero, suc, Bool, true, false, List, [], ◌∷◌, ◌++◌, ◌+◌, ◌≤◌, length, map, Some, is_some, refl, sym, ap, ◌∙◌, subst, append_assoc, add-one, arith, rules}
use Rattle.std.specs.Prelude.{slice_get, slice_set}
use Rattle.std.specs.List.{list_any}
use Rattle.daemon_core.specs.Outputs.{serve}
use Rattle.daemon_core.specs.declared.events.Event.{Event}
use Rattle.daemon_core.specs.declared.events.Event.TheVariants.{EditorFrame}
use Rattle.kept_world.specs.Events.{KeptPlayed, told_editor, is_stop, stops_if, IsEvent}
use Rattle.kept_world.specs.Moves.{Repeats, Never, No_more, Once_more, then_played, IsUp, GoesUp, GoesDown, IsSettled, is_connected}
use Rattle.kept_world.specs.Steps.{quietly}
use Rattle.kept_world.specs.Worlds.{KeptEditor, KeptWorld, editor_of, with_seat, lost_with}

-- ---- one more time

nothing_more : (printed : List ℕ) → printed ++ [] ≡ printed
nothing_more printed = search rules

pub once_more : (Does : KeptWorld → KeptPlayed → Type 0) (can : KeptWorld → Bool) (n : ℕ) (k : KeptWorld) (p next : KeptPlayed) → Repeats Does can n k p
    → can p.world ≡ true → Does p.world next → Repeats Does can (suc n) k (then_played p next)
once_more Does can n k p next (Never v) more does =
    subst (λ printed. Repeats Does can (suc 0) v (record { world = next.world; printed = printed })) (nothing_more next.printed)
    (Once_more 0 v next (quietly next.world) does (Never next.world))
once_more Does can n k p next (No_more m v none) more does = let never : false ≡ true = sym none ∙ more in cc
once_more Does can n k p next (Once_more m v first rest one others) more does =
    subst (λ printed. Repeats Does can (suc (suc m)) v (record { world = next.world; printed = printed }))
    (sym (append_assoc first.printed rest.printed next.printed))
    (Once_more (suc m) v first (then_played rest next) one (once_more Does can m first.world rest next others more does))

-- the same, with what was printed as one list
pub again_printed : (Does : KeptWorld → KeptPlayed → Type 0) (can : KeptWorld → Bool) (n m : ℕ) (k : KeptWorld) (p next : KeptPlayed) (printed : List ℕ)
    → Repeats Does can n k p → can p.world ≡ true → Does p.world next → m ≡ n + 1 → printed ≡ p.printed ++ next.printed
    → Repeats Does can m k (record { world = next.world; printed = printed })
again_printed Does can n m k p next printed so_far more does count lines =
    subst (λ i. Repeats Does can i k (record { world = next.world; printed = printed })) (sym (count ∙ add-one n))
    (subst (λ s. Repeats Does can (suc n) k (record { world = next.world; printed = s })) (sym lines) (once_more Does can n k p next so_far more does))

pub none_printed : (Does : KeptWorld → KeptPlayed → Type 0) (can : KeptWorld → Bool) (k : KeptWorld) (printed : List ℕ) → printed ≡ []
    → Repeats Does can 0 k (record { world = k; printed = printed })
none_printed Does can k printed none = subst (λ s. Repeats Does can 0 k (record { world = k; printed = s })) (sym none) (Never k)

-- where it is no longer possible, it was done as often as it was, whatever the count
pub no_more : (Does : KeptWorld → KeptPlayed → Type 0) (can : KeptWorld → Bool) (n m : ℕ) (k : KeptWorld) (p : KeptPlayed) → Repeats Does can n k p
    → can p.world ≡ false → n ≤ m → Repeats Does can m k p
no_more Does can n m k p (Never v) none few = No_more m v none
no_more Does can n m k p (No_more i v stopped) none few = No_more m v stopped
no_more Does can n zero k p (Once_more i v first rest one others) none few = absurd (omega (arith, few))
no_more Does can n (suc m) k p (Once_more i v first rest one others) none few =
    Once_more m v first rest one (no_more Does can i m first.world rest others none (omega (arith, few)))

-- ---- editors stay

set_there : {A : Type 0} (xs : List A) (i j : ℕ) (v : A) → is_some (slice_get (slice_set xs i v) j) ≡ is_some (slice_get xs j)
set_there [] i j v = refl
set_there (x ∷ xs) zero zero v = refl
set_there (x ∷ xs) zero (suc j) v = refl
set_there (x ∷ xs) (suc i) zero v = refl
set_there (x ∷ xs) (suc i) (suc j) v = set_there xs i j v

map_there : {A B : Type 0} (f : A → B) (xs : List A) (j : ℕ) → is_some (slice_get (map f xs) j) ≡ is_some (slice_get xs j)
map_there f [] j = refl
map_there f (x ∷ xs) zero = refl
map_there f (x ∷ xs) (suc j) = map_there f xs j

event_there : (k : KeptWorld) (d : ℕ) (event : Event) (p : KeptPlayed) (i : ℕ) → IsEvent k d event p
    → is_some (editor_of p.world i) ≡ is_some (editor_of k i)
event_there k d event p i at =
    ap (λ (q : KeptPlayed). is_some (editor_of q.world i)) at.is ∙ by (list_any is_stop (serve at.host.state event).outputs) where
      by : (b : Bool)
          → is_some (editor_of (stops_if b d (record at.host { state = (serve at.host.state event).state })
          (record k { editors = map (told_editor d (serve at.host.state event).outputs) k.editors })) i)
          ≡ is_some (editor_of k i)
      by true =
          map_there (lost_with d) (map (told_editor d (serve at.host.state event).outputs) k.editors) i
          ∙ map_there (told_editor d (serve at.host.state event).outputs) k.editors i
      by false = map_there (told_editor d (serve at.host.state event).outputs) k.editors i

up_there : (k : KeptWorld) (e i : ℕ) (p : KeptPlayed) → IsUp k e p → is_some (editor_of p.world i) ≡ is_some (editor_of k i)
up_there k e i p up =
    let s = record up.editor.seat { up = up.rest } in
    event_there (with_seat k e up.editor s) up.editor.daemon (EditorFrame up.number up.body) p i up.event
    ∙ set_there k.editors e i (record up.editor { seat = s })

pub still_there : (e i n : ℕ) (k : KeptWorld) (p : KeptPlayed) → GoesUp e n k p → is_some (editor_of p.world i) ≡ is_some (editor_of k i)
still_there e i n k p (Never v) = refl
still_there e i n k p (No_more m v none) = refl
still_there e i n k p (Once_more m v first rest one more) = still_there e i m first.world rest more ∙ up_there v e i first one

-- all up, and then all down
pub settled_so : (k : KeptWorld) (e n m : ℕ) (before between : KeptEditor) (up down : KeptPlayed) (printed : List ℕ) → editor_of k e ≡ Some before
    → is_connected (editor_of k e) ≡ true → n ≡ length before.seat.up → GoesUp e n k up → editor_of up.world e ≡ Some between
    → m ≡ length between.seat.down → GoesDown e m up.world down → printed ≡ up.printed ++ down.printed
    → IsSettled k e (record { world = down.world; printed = printed })
settled_so k e n m before between up down printed at on ups goes_up still downs goes_down lines = record {
  before = before;
  there = at;
  connected = ap is_connected (sym at) ∙ on;
  up = up;
  goes_up = subst (λ i. GoesUp e i k up) ups goes_up;
  between = between;
  still = still;
  down = down;
  goes_down = subst (λ i. GoesDown e i up.world down) downs goes_down;
  is = λ i. record { world = down.world; printed = lines i };
}
