-- What a make changes at each path.
use Rattle.std.proofs.Common.{Result, Ok, Err, OnErr, ◌≡◌, ℕ, Bool, true, false, cond, List, [], ◌∷◌, ◌++◌, append-nil, length, ◌<◌, arith, IsTrue, Option, Some, None, refl, sym, ap, ◌∙◌, subst}
use Rattle.std.specs.Map.{lookup, set_value, keys_of}
use Rattle.std.specs.Option.{unwrap_or, IfSome, is_some}
use Rattle.std.proofs.lemmas.Map.Steps.{set_value_same}
use Rattle.std.proofs.lemmas.Map.Made.{is_some-lookup}
use Rattle.tt_base.specs.declared.ids.ElemId.{ElemId}
use Rattle.replica_dir.specs.Ids.{is_id, is_path, has_id, has_path}
use Rattle.replica_dir.specs.DirectoryView.{DirectoryView, HasNoEmptyPath}
use Rattle.replica_dir.proofs.IdLemmas.{path_same}
use Rattle.replica_dir.proofs.GreatestLemmas.{or_left, is_itself}

-- the ids that a look-up finds, and none where it finds nothing
abbrev pub ids_at : List (List ℕ × List ElemId) → List ℕ → List ElemId
ids_at makes path = unwrap_or (lookup (is_path path) makes) []

-- the list that stands at the path has the id and what was there before, and other paths keep theirs
pub record AddsAt (old new : List (List ℕ × List ElemId)) (path : List ℕ) (id : ElemId) (ids : List ElemId) : Type 0 where
  pub updates : (q : List ℕ) → lookup (is_path q) new ≡ cond (is_path path q) (Some ids) (lookup (is_path q) old)
  pub members : (q : ElemId) → has_id ids q ≡ cond (is_id id q) true (has_id (ids_at old path) q)

at_path : (old new : List (List ℕ × List ElemId)) (path : List ℕ) (id : ElemId) (ids : List ElemId) → AddsAt old new path id ids
    → (at : List ℕ) (q : ElemId) (b : Bool) → is_path path at ≡ b
    → lookup (is_path at) new ≡ cond b (Some ids) (lookup (is_path at) old)
    → has_id (ids_at new at) q ≡ cond b (cond (is_id id q) true (has_id (ids_at old at) q)) (has_id (ids_at old at) q)
at_path old new path id ids adds at q true same found =
    ap (λ (r : Option (List ElemId)). has_id (unwrap_or r []) q) found
    ∙ subst (λ (p : List ℕ). has_id ids q ≡ cond (is_id id q) true (has_id (ids_at old p) q)) (path_same path at same) (adds.members q)
at_path old new path id ids adds at q false same found = ap (λ (r : Option (List ElemId)). has_id (unwrap_or r []) q) found

pub made_at_each : (old new : List (List ℕ × List ElemId)) (path : List ℕ) (id : ElemId) (ids : List ElemId) → AddsAt old new path id ids
    → (at : List ℕ) (q : ElemId)
    → has_id (ids_at new at) q
    ≡ cond (is_path path at) (cond (is_id id q) true (has_id (ids_at old at) q)) (has_id (ids_at old at) q)
made_at_each old new path id ids adds at q = at_path old new path id ids adds at q (is_path path at) refl (adds.updates at)

-- where a look-up found ids at the path
pub made_found : (old new : List (List ℕ × List ElemId)) (path : List ℕ) (id : ElemId) (found ids : List ElemId)
    → Some found ≡ lookup (is_path path) old
    → ((q : List ℕ) → lookup (is_path q) new ≡ cond (is_path path q) (Some ids) (lookup (is_path q) old))
    → ((q : ElemId) → has_id ids q ≡ cond (is_id id q) true (has_id found q))
    → (at : List ℕ) (q : ElemId)
    → has_id (ids_at new at) q
    ≡ cond (is_path path at) (cond (is_id id q) true (has_id (ids_at old at) q)) (has_id (ids_at old at) q)
made_found old new path id found ids there updates members =
    let same : found ≡ ids_at old path = ap (λ (o : Option (List ElemId)). unwrap_or o []) there in
    made_at_each old new path id ids
    (record { updates = updates; members = λ q. members q ∙ ap (λ (xs : List ElemId). cond (is_id id q) true (has_id xs q)) same })

-- where it found none, and the path is put in
pub made_first : (old new : List (List ℕ × List ElemId)) (path key : List ℕ) (id : ElemId) (none ids : List ElemId)
    → None ≡ lookup (is_path path) old → key ≡ path → none ≡ []
    → ((q : List ℕ) → lookup (is_path q) new ≡ cond (is_path key q) (Some ids) (lookup (is_path q) old))
    → ((q : ElemId) → has_id ids q ≡ cond (is_id id q) true (has_id none q))
    → (at : List ℕ) (q : ElemId)
    → has_id (ids_at new at) q
    ≡ cond (is_path path at) (cond (is_id id q) true (has_id (ids_at old at) q)) (has_id (ids_at old at) q)
made_first old new path key id none ids absent same_key empty updates members =
    let same : none ≡ ids_at old path = empty ∙ ap (λ (o : Option (List ElemId)). unwrap_or o []) absent in
    made_at_each old new path id ids
    (record {
      updates = λ q. updates q ∙ ap (λ (k : List ℕ). cond (is_path k q) (Some ids) (lookup (is_path q) old)) same_key;
      members = λ q. members q ∙ ap (λ (xs : List ElemId). cond (is_id id q) true (has_id xs q)) same;
    })

pub on_err : {T E : Type 0} (r : Result T E) (P Q : Type 0) → (P → Q) → OnErr r P → OnErr r Q
on_err (Ok value) P Q goes h = tt
on_err (Err fault) P Q goes h = goes h

-- a directory of these makes and removes
abbrev pub seen_as : List (List ℕ × List ElemId) → List ElemId → DirectoryView
seen_as makes removes = record { makes = makes; removes = removes }

-- what a look-up found, written back, changes nothing
pub written_back : (old new : List (List ℕ × List ElemId)) (removes : List ElemId) (path : List ℕ) (found ids : List ElemId)
    → Some found ≡ lookup (is_path path) old → new ≡ set_value (is_path path) old ids → ids ≡ found
    → seen_as new removes ≡ seen_as old removes
written_back old new removes path found ids there written same =
    ap (λ (es : List (List ℕ × List ElemId)). seen_as es removes)
    (written
    ∙ ap (λ (xs : List ElemId). set_value (is_path path) old xs) same
    ∙ set_value_same (is_path path) old found (sym there))

some_id : (o : Option (List ElemId)) → IfSome o (λ ids. 0 < length ids) → is_some o ≡ true
    → (q : ElemId) × IsTrue (has_id (unwrap_or o []) q)
some_id None one there = cc
some_id (Some []) one there = absurd (omega (arith, one))
some_id (Some (x ∷ xs)) one there = (x, or_left (is_id x x) (has_id xs x) (is_itself x))

is_found : (o : Option (List ElemId)) (q : ElemId) → IsTrue (has_id (unwrap_or o []) q) → is_some o ≡ true
is_found None q has = cc
is_found (Some ids) q has = refl

-- a list that a walk has filled has all
pub walked_all : {X : Type 0} (list items rest all : List X) → list ≡ items → rest ≡ [] → items ++ rest ≡ all → list ≡ all
walked_all list items rest all filled done invariant =
    filled ∙ sym (append-nil items) ∙ ap (λ l. items ++ l) (sym done) ∙ invariant

-- the paths that are kept are those at which an object was made
pub kept_paths : (makes : List (List ℕ × List ElemId)) (paths : List (List ℕ)) → HasNoEmptyPath makes → paths ≡ keys_of makes
    → (at : List ℕ)
    → (IsTrue (has_path paths at) → (q : ElemId) × IsTrue (has_id (ids_at makes at) q))
    × (((q : ElemId) × IsTrue (has_id (ids_at makes at) q)) → IsTrue (has_path paths at))
kept_paths makes paths full all at =
    let found : is_some (lookup (is_path at) makes) ≡ has_path paths at =
    is_some-lookup (is_path at) makes ∙ ap (λ (ks : List (List ℕ)). has_path ks at) (sym {A = List (List ℕ)} all) in (
      (λ has. some_id (lookup (is_path at) makes) (full.each at) (found ∙ has)),
      (λ made. sym found ∙ is_found (lookup (is_path at) makes) made.0 made.1),
    )
