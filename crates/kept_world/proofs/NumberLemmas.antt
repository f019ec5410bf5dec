-- Numbered entries in rising order, where one is put among them or taken out.
use Rattle.std.proofs.Common.{◌≡◌, ℕ, ◌<◌, Bool, true, false, cond, not, List, [], ◌∷◌, map, filter, Some, refl, sym, ap, subst, arith}
use Rattle.std.specs.Prelude.{All}
use Rattle.std.specs.BTreeMap.{insert_entry}
use Rattle.std.specs.List.{AllByRecursion}
use Rattle.std.specs.Map.{lookup}
use Rattle.std.specs.List.Sorted.{IsStrictlySortedBy}
use Rattle.std.specs.Ordering.{nat_cmp, match_ordering}
use Rattle.std.specs.declared.cmp.Ordering.{Ordering}
use Rattle.std.specs.declared.cmp.Ordering.TheVariants.{Less, Equal, Greater}
use Rattle.std.proofs.lemmas.Bool.Decides.{nat_tests}
use Rattle.std.proofs.lemmas.List.Elements.{All-head, All-tail, All-filter}
use Rattle.std.proofs.lemmas.List.Kept.{IsStrictlySortedBy-filter}
use Rattle.bridge_world.specs.Lists.{Each}
use Rattle.daemon_core.specs.State.{Links, is_number}
use Rattle.daemon_core.proofs.MapLemmas.{number_same}
use Rattle.frame_world.specs.Serving.{HasNone}

-- the numbers of entries
abbrev pub numbers : {X : Type 0} → List (ℕ × X) → List ℕ
numbers es = map (λ e. e.0) es

pub below_if_less : (n k : ℕ) → nat_cmp n k ≡ Less → n < k
below_if_less n k is = grind (arith, nat_tests)

pub less_if_below : (n k : ℕ) → n < k → nat_cmp n k ≡ Less
less_if_below n k below = grind (arith, nat_tests)

same_if_equal : (n k : ℕ) → nat_cmp n k ≡ Equal → n ≡ k
same_if_equal n k is = grind (arith, nat_tests)

above_if_greater : (n k : ℕ) → nat_cmp n k ≡ Greater → k < n
above_if_greater n k is = grind (arith, nat_tests)

-- all of these are above a number
abbrev pub AreAbove : ℕ → List ℕ → Type 0
AreAbove n ks = AllByRecursion (λ k. nat_cmp n k ≡ Less) ks

pub above_more : (n k : ℕ) (ks : List ℕ) → n < k → AreAbove k ks → AreAbove n ks
above_more n k [] below above = tt
above_more n k (m ∷ ks) below above =
    let further : k < m = below_if_less k m above.0 in (less_if_below n m (omega arith), above_more n k ks below above.1)

-- An entry is put.

above_put : {X : Type 0} (m n : ℕ) (v : X) (es : List (ℕ × X)) → m < n → AreAbove m (numbers es) → AreAbove m (numbers (insert_entry nat_cmp es n v))
above_put m n v [] below above = (less_if_below m n below, tt)
above_put m n v (e ∷ es) below above = by (above_put m n v es below above.1) (nat_cmp n e.0) where
  by : AreAbove m (numbers (insert_entry nat_cmp es n v)) → (r : Ordering)
      → AreAbove m (numbers (match_ordering r ((n, v) ∷ e ∷ es) ((e.0, v) ∷ es) (e ∷ insert_entry nat_cmp es n v)))
  by later Less = (less_if_below m n below, above)
  by later Equal = (above.0, above.1)
  by later Greater = (above.0, later)

pub rising_put : {X : Type 0} (n : ℕ) (v : X) (es : List (ℕ × X)) → IsStrictlySortedBy nat_cmp (numbers es)
    → IsStrictlySortedBy nat_cmp (numbers (insert_entry nat_cmp es n v))
unfolding IsStrictlySortedBy
rising_put n v [] rising = (tt, tt)
rising_put n v (e ∷ es) rising = by (rising_put n v es rising.1) (nat_cmp n e.0) refl where
  by : IsStrictlySortedBy nat_cmp (numbers (insert_entry nat_cmp es n v)) → (r : Ordering) → nat_cmp n e.0 ≡ r
      → IsStrictlySortedBy nat_cmp (numbers (match_ordering r ((n, v) ∷ e ∷ es) ((e.0, v) ∷ es) (e ∷ insert_entry nat_cmp es n v)))
  by later Less is = ((is, above_more n e.0 (numbers es) (below_if_less n e.0 is) rising.0), rising)
  by later Equal is = rising
  by later Greater is = (above_put e.0 n v es (above_if_greater n e.0 is) rising.0, later)

-- One is taken out.

numbers_without : {X : Type 0} (n : ℕ) (es : List (ℕ × X))
    → numbers (filter (λ e. not (is_number n e.0)) es) ≡ filter (λ k. not (is_number n k)) (numbers es)
numbers_without n [] = refl
numbers_without {X} n (e ∷ es) = by (not (is_number n e.0)) (numbers_without n es) where
  by : (b : Bool) → numbers (filter (λ (e : ℕ × X). not (is_number n e.0)) es) ≡ filter (λ k. not (is_number n k)) (numbers es)
      → numbers (cond b (e ∷ filter (λ (e : ℕ × X). not (is_number n e.0)) es) (filter (λ (e : ℕ × X). not (is_number n e.0)) es))
      ≡ cond b (e.0 ∷ filter (λ k. not (is_number n k)) (numbers es)) (filter (λ k. not (is_number n k)) (numbers es))
  by true later = ap (λ ks. e.0 ∷ ks) later
  by false later = later

pub rising_without : {X : Type 0} (n : ℕ) (es : List (ℕ × X)) → IsStrictlySortedBy nat_cmp (numbers es)
    → IsStrictlySortedBy nat_cmp (numbers (filter (λ e. not (is_number n e.0)) es))
rising_without n es rising =
    subst (IsStrictlySortedBy nat_cmp) (sym (numbers_without n es)) (IsStrictlySortedBy-filter nat_cmp (λ k. not (is_number n k)) (numbers es) rising)

pub all_without : {X : Type 0} (P : ℕ → Type 0) (n : ℕ) (es : List (ℕ × X)) → All P (numbers es)
    → All P (numbers (filter (λ e. not (is_number n e.0)) es))
all_without P n es all = subst (All P) (sym (numbers_without n es)) (All-filter (λ k. not (is_number n k)) P (numbers es) all)

-- One number is not another.

pub other_number : (n k : ℕ) → (n ≡ k → ⊥) → is_number n k ≡ false
other_number n k apart = by (is_number n k) refl where
  by : (b : Bool) → is_number n k ≡ b → b ≡ false
  by false is = refl
  by true is = absurd (apart (number_same n k is))

-- one above all is none of them
pub none_if_below : (n : ℕ) (cs : List (ℕ × Links)) → All (λ (k : ℕ). k < n) (numbers cs) → HasNone n cs
none_if_below n [] all = tt
none_if_below n (c ∷ cs) all =
    let first : c.0 < n = All-head (λ (k : ℕ). k < n) c.0 (numbers cs) all in
    (other_number n c.0 (λ same. omega (arith, first, same)), none_if_below n cs (All-tail (λ (k : ℕ). k < n) c.0 (numbers cs) all))

-- What holds of each number.

pub each_put : {X : Type 0} (P : ℕ → Type 0) (n : ℕ) (v : X) (es : List (ℕ × X)) → P n → Each (λ (e : ℕ × X). P e.0) es
    → Each (λ (e : ℕ × X). P e.0) (insert_entry nat_cmp es n v)
each_put P n v [] here each = (here, tt)
each_put {X} P n v (e ∷ es) here each = by (each_put P n v es here each.1) (nat_cmp n e.0) where
  by : Each (λ (e : ℕ × X). P e.0) (insert_entry nat_cmp es n v) → (r : Ordering)
      → Each (λ (e : ℕ × X). P e.0) (match_ordering r ((n, v) ∷ e ∷ es) ((e.0, v) ∷ es) (e ∷ insert_entry nat_cmp es n v))
  by later Less = (here, each)
  by later Equal = each
  by later Greater = (each.0, later)

pub each_without : {X : Type 0} (P : ℕ → Type 0) (n : ℕ) (es : List (ℕ × X)) → Each (λ (e : ℕ × X). P e.0) es
    → Each (λ (e : ℕ × X). P e.0) (filter (λ e. not (is_number n e.0)) es)
each_without P n [] each = tt
each_without {X} P n (e ∷ es) each = by (not (is_number n e.0)) (each_without P n es each.1) where
  by : (b : Bool) → Each (λ (e : ℕ × X). P e.0) (filter (λ (e : ℕ × X). not (is_number n e.0)) es)
      → Each (λ (e : ℕ × X). P e.0) (cond b (e ∷ filter (λ (e : ℕ × X). not (is_number n e.0)) es) (filter (λ (e : ℕ × X). not (is_number n e.0)) es))
  by true later = (each.0, later)
  by false later = later

-- and of one that is found
pub each_found : {X : Type 0} (P : ℕ → Type 0) (n : ℕ) (es : List (ℕ × X)) (v : X) → lookup (is_number n) es ≡ Some v
    → Each (λ (e : ℕ × X). P e.0) es → P n
each_found P n [] v found each = cc
each_found {X} P n (e ∷ es) v found each = by (λ later. each_found P n es v later each.1) (is_number n e.0) refl found where
  by : (lookup (is_number n) es ≡ Some v → P n) → (b : Bool) → is_number n e.0 ≡ b → cond b (Some e.1) (lookup (is_number n) es) ≡ Some v → P n
  by more true is found = subst P (sym (number_same n e.0 is)) each.0
  by more false is found = more found
