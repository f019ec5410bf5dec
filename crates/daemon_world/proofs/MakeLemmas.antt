-- A move that is possible, as the step that makes it wants it: whose number is the next one, and which daemon runs.
use Rattle.std.proofs.Common.{◌≡◌, ℕ, ◌<◌, ◌==◌, Bool, true, false, ◌&&◌, List, [], length, Result, Ok, Err, String, Global, string_bytes, is_some, nat_le, nat_lt, refl, sym, ap, subst, arith}
use Rattle.std.specs.Result.{IfOk, OnOk, is_ok}
use Rattle.std.proofs.lemmas.Bool.{eqb-true}
use Rattle.std.proofs.lemmas.Bool.Decides.{nat_tests}
use Rattle.std.proofs.lemmas.Result.{IfOk-weaker}
use Rattle.file_uri.specs.Base.{BaseView}
use Rattle.replay_script.specs.declared.moves.Move.{Move}
use Rattle.plain_world.specs.RawFrames.{Reader}
use Rattle.plain_world.specs.declared.TheConstants.{MOST_DAEMONS, MOST_EDITORS, LONGEST_SENT}
use Rattle.plain_world.proofs.StepLemmas.{found_then, allowed_if}
use Rattle.kept_world.specs.Moves.{IsMove}
use Rattle.kept_world.specs.Steps.{quietly, begins, joins, tells_file, tells_held}
use Rattle.kept_world.specs.Worlds.{KeptWorld, running}
use Rattle.daemon_world.proofs.OrderLemmas.{there}

first_holds : (a b : Bool) → (a && b) ≡ true → a ≡ true
first_holds true b both = refl
first_holds false b both = both

second_holds : (a b : Bool) → (a && b) ≡ true → b ≡ true
second_holds true b both = both
second_holds false b both = cc

below : (a b : ℕ) → nat_lt a b ≡ true → a < b
below a b is = grind (arith, nat_tests)

-- a daemon that may begin is the next one, and there are not too many
pub record BeginsNext (k : KeptWorld) (d : ℕ) : Type 0 where
  pub next : d ≡ length k.hosts
  pub few : length k.hosts < MOST_DAEMONS

pub begins_next : (base : BaseView) (k : KeptWorld) (d : ℕ) → is_some (begins base k d) ≡ true → BeginsNext k d
begins_next base k d may =
    let p = there (begins base k d) may in
    let tests = (allowed_if (d == length k.hosts && nat_lt d MOST_DAEMONS) _ p.item p.is).passes in
    let is : d ≡ length k.hosts = eqb-true d (length k.hosts) (first_holds (d == length k.hosts) (nat_lt d MOST_DAEMONS) tests) in
    record { next = is; few = below (length k.hosts) MOST_DAEMONS (subst (λ i. nat_lt i MOST_DAEMONS ≡ true) is (second_holds (d == length k.hosts) (nat_lt d MOST_DAEMONS) tests)) }

-- an editor that may join is the next one
pub joins_next : (k : KeptWorld) (e d : ℕ) (path text : List ℕ) → is_some (joins k e d path text) ≡ true → e ≡ length k.editors
joins_next k e d path text may =
    let p = there (joins k e d path text) may in
    let found = found_then (running k d) _ p.item p.is in
    let tests = (allowed_if (e == length k.editors && nat_lt e MOST_EDITORS && nat_le (length text) LONGEST_SENT) _ p.item found.next).passes in
    eqb-true e (length k.editors)
    (first_holds (e == length k.editors) (nat_lt e MOST_EDITORS)
    (first_holds (e == length k.editors && nat_lt e MOST_EDITORS) (nat_le (length text) LONGEST_SENT) tests))

-- a daemon of which a file or its count is told runs
pub runs_for_file : (k : KeptWorld) (d : ℕ) (path : List ℕ) → is_some (tells_file k d path) ≡ true → is_some (running k d) ≡ true
runs_for_file k d path may =
    let p = there (tells_file k d path) may in ap is_some (found_then (running k d) _ p.item p.is).is

pub runs_for_held : (k : KeptWorld) (d : ℕ) → is_some (tells_held k d) ≡ true → is_some (running k d) ≡ true
runs_for_held k d may =
    let p = there (tells_held k d) may in ap is_some (found_then (running k d) _ p.item p.is).is

-- ---- a move that is made

-- whatever reads streams, the move leads there and prints that
abbrev pub Makes : BaseView → KeptWorld → Move → KeptWorld → List ℕ → Type 0
Makes base k moved l printed = (reader : Reader) → IsMove base reader k moved (record { world = l; printed = printed })

-- a move that prints nothing
pub quiet_now : (base : BaseView) (k l : KeptWorld) (moved m : Move) (printed : List ℕ) → moved ≡ m → printed ≡ []
    → ((reader : Reader) → IsMove base reader k m (quietly l)) → Makes base k moved l printed
quiet_now base k l moved m printed same none made = λ reader.
    subst (λ n. IsMove base reader k n (record { world = l; printed = printed })) (sym same)
    (subst (λ lines. IsMove base reader k m (record { world = l; printed = lines })) (sym none) (made reader))

pub quiet_so : {F : Type 0} (r : Result (String Global) F) (done : Result (Unit {0}) F) (base : BaseView) (k l : KeptWorld) (moved m : Move) (P : Type 0) → moved ≡ m
    → (P → (reader : Reader) → IsMove base reader k m (quietly l)) → OnOk r (is_ok done ≡ true) → IfOk r (λ s. string_bytes s ≡ []) → OnOk done P
    → IfOk r (λ s. Makes base k moved l (string_bytes s))
quiet_so (Err e) done base k l moved m P same made ok none is = tt
quiet_so (Ok s) (Ok u) base k l moved m P same made ok none is = quiet_now base k l moved m (string_bytes s) same none (made is)
quiet_so (Ok s) (Err e) base k l moved m P same made ok none is = cc

-- a move that prints something
pub printed_so : {F : Type 0} (r : Result (String Global) F) (base : BaseView) (k l : KeptWorld) (moved m : Move) (P : String Global → Type 0) → moved ≡ m
    → ((s : String Global) → P s → (reader : Reader) → IsMove base reader k m (record { world = l; printed = string_bytes s })) → IfOk r P
    → IfOk r (λ s. Makes base k moved l (string_bytes s))
printed_so r base k l moved m P same made is =
    IfOk-weaker r P (λ s. Makes base k moved l (string_bytes s))
    (λ s h. λ reader. subst (λ n. IsMove base reader k n (record { world = l; printed = string_bytes s })) (sym same) (made s h reader)) is
