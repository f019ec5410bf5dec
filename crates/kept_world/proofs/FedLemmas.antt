-- The connections that a script feeds, where one of a daemon begins or ends.
use Rattle.std.proofs.Common.{◌≡◌, ℕ, Bool, true, false, cond, not, List, [], ◌∷◌, filter, nat_lt, refl, sym, ap, ◌∙◌, arith}
use Rattle.std.specs.BTreeMap.{insert_entry}
use Rattle.std.specs.List.Sorted.{IsStrictlySortedBy}
use Rattle.std.specs.Ordering.{nat_cmp, match_ordering}
use Rattle.std.specs.declared.cmp.Ordering.{Ordering}
use Rattle.std.specs.declared.cmp.Ordering.TheVariants.{Less, Equal, Greater}
use Rattle.std.proofs.lemmas.Bool.Decides.{nat_tests}
use Rattle.daemon_core.specs.State.{Links, is_number}
use Rattle.daemon_core.proofs.MapLemmas.{number_same}
use Rattle.plain_world.specs.declared.TheConstants.{FIRST_OWN}
use Rattle.kept_world.specs.Tie.{is_fed_one}
use Rattle.kept_world.proofs.NumberLemmas.{numbers, AreAbove}

-- a number that is below the first of the script's own
abbrev pub is_fed : ℕ → Bool
is_fed n = nat_lt n FIRST_OWN

own_above : (n k : ℕ) → is_fed n ≡ false → nat_cmp n k ≡ Less → is_fed k ≡ false
own_above n k own above = grind (arith, nat_tests)

fed_below : (c n : ℕ) → is_fed c ≡ true → is_fed n ≡ false → nat_cmp c n ≡ Less
fed_below c n fed own = grind (arith, nat_tests)

same_number : (n k : ℕ) → nat_cmp n k ≡ Equal → k ≡ n
same_number n k is = grind (arith, nat_tests)

-- none above one of the script's own is fed
none_fed : (n : ℕ) (cs : List (ℕ × Links)) → is_fed n ≡ false → AreAbove n (numbers cs) → filter is_fed_one cs ≡ []
none_fed n [] own above = refl
none_fed n (c ∷ cs) own above =
    ap (λ b. cond b (c ∷ filter is_fed_one cs) (filter is_fed_one cs)) (own_above n c.0 own above.0) ∙ none_fed n cs own above.1

-- a connection that the script feeds begins
pub fed_put : (n : ℕ) (new : Links) (cs : List (ℕ × Links)) → is_fed n ≡ true → IsStrictlySortedBy nat_cmp (numbers cs)
    → filter is_fed_one (insert_entry nat_cmp cs n new) ≡ insert_entry nat_cmp (filter is_fed_one cs) n new
unfolding IsStrictlySortedBy
fed_put n new [] fed rising = ap (λ b. cond b ((n, new) ∷ []) []) fed
fed_put n new (c ∷ cs) fed rising = by (fed_put n new cs fed rising.1) (is_fed c.0) refl where
  by : filter is_fed_one (insert_entry nat_cmp cs n new) ≡ insert_entry nat_cmp (filter is_fed_one cs) n new → (b : Bool) → is_fed c.0 ≡ b
      → filter is_fed_one (match_ordering (nat_cmp n c.0) ((n, new) ∷ c ∷ cs) ((c.0, new) ∷ cs) (c ∷ insert_entry nat_cmp cs n new))
      ≡ insert_entry nat_cmp (cond b (c ∷ filter is_fed_one cs) (filter is_fed_one cs)) n new
  by later false is =
      ap (λ r. filter is_fed_one (match_ordering r ((n, new) ∷ c ∷ cs) ((c.0, new) ∷ cs) (c ∷ insert_entry nat_cmp cs n new)))
      (fed_below n c.0 fed is)
      ∙ ap (λ a. cond a ((n, new) ∷ filter is_fed_one (c ∷ cs)) (filter is_fed_one (c ∷ cs))) fed
      ∙ ap (λ a. (n, new) ∷ cond a (c ∷ filter is_fed_one cs) (filter is_fed_one cs)) is
      ∙ ap (λ ds. (n, new) ∷ ds) (none_fed c.0 cs is rising.0)
      ∙ ap (λ ds. insert_entry nat_cmp ds n new) (sym (none_fed c.0 cs is rising.0))
  by later true is = at (nat_cmp n c.0) where
    at : (r : Ordering)
        → filter is_fed_one (match_ordering r ((n, new) ∷ c ∷ cs) ((c.0, new) ∷ cs) (c ∷ insert_entry nat_cmp cs n new))
        ≡ match_ordering r ((n, new) ∷ c ∷ filter is_fed_one cs) ((c.0, new) ∷ filter is_fed_one cs) (c ∷ insert_entry nat_cmp (filter is_fed_one cs) n new)
    at Less =
        ap (λ a. cond a ((n, new) ∷ filter is_fed_one (c ∷ cs)) (filter is_fed_one (c ∷ cs))) fed
        ∙ ap (λ a. (n, new) ∷ cond a (c ∷ filter is_fed_one cs) (filter is_fed_one cs)) is
    at Equal = ap (λ a. cond a ((c.0, new) ∷ filter is_fed_one cs) (filter is_fed_one cs)) is
    at Greater =
        ap (λ a. cond a (c ∷ filter is_fed_one (insert_entry nat_cmp cs n new)) (filter is_fed_one (insert_entry nat_cmp cs n new))) is
        ∙ ap (λ ds. c ∷ ds) later

-- one of the script's own begins
pub own_put : (n : ℕ) (new : Links) (cs : List (ℕ × Links)) → is_fed n ≡ false
    → filter is_fed_one (insert_entry nat_cmp cs n new) ≡ filter is_fed_one cs
own_put n new [] own = ap (λ b. cond b ((n, new) ∷ []) []) own
own_put n new (c ∷ cs) own = by (own_put n new cs own) (nat_cmp n c.0) refl where
  by : filter is_fed_one (insert_entry nat_cmp cs n new) ≡ filter is_fed_one cs → (r : Ordering) → nat_cmp n c.0 ≡ r
      → filter is_fed_one (match_ordering r ((n, new) ∷ c ∷ cs) ((c.0, new) ∷ cs) (c ∷ insert_entry nat_cmp cs n new))
      ≡ filter is_fed_one (c ∷ cs)
  by later Less is = ap (λ b. cond b ((n, new) ∷ filter is_fed_one (c ∷ cs)) (filter is_fed_one (c ∷ cs))) own
  by later Equal is =
      let here : is_fed c.0 ≡ false = ap is_fed (same_number n c.0 is) ∙ own in
      ap (λ b. cond b ((c.0, new) ∷ filter is_fed_one cs) (filter is_fed_one cs)) here
      ∙ sym (ap (λ b. cond b (c ∷ filter is_fed_one cs) (filter is_fed_one cs)) here)
  by later Greater is = ap (λ ds. cond (is_fed c.0) (c ∷ ds) ds) later

-- one that the script feeds ends
pub fed_without : (n : ℕ) (cs : List (ℕ × Links))
    → filter is_fed_one (filter (λ c. not (is_number n c.0)) cs) ≡ filter (λ c. not (is_number n c.0)) (filter is_fed_one cs)
fed_without n [] = refl
fed_without n (c ∷ cs) = by (fed_without n cs) (is_fed c.0) refl (not (is_number n c.0)) refl where
  by : filter is_fed_one (filter (λ (d : ℕ × Links). not (is_number n d.0)) cs) ≡ filter (λ (d : ℕ × Links). not (is_number n d.0)) (filter is_fed_one cs)
      → (b : Bool) → is_fed c.0 ≡ b → (a : Bool) → not (is_number n c.0) ≡ a
      → filter is_fed_one (cond a (c ∷ filter (λ (d : ℕ × Links). not (is_number n d.0)) cs) (filter (λ (d : ℕ × Links). not (is_number n d.0)) cs))
      ≡ filter (λ (d : ℕ × Links). not (is_number n d.0)) (cond b (c ∷ filter is_fed_one cs) (filter is_fed_one cs))
  by later true fed true stays =
      ap (λ q. cond q (c ∷ filter is_fed_one (filter (λ (d : ℕ × Links). not (is_number n d.0)) cs)) (filter is_fed_one (filter (λ (d : ℕ × Links). not (is_number n d.0)) cs))) fed
      ∙ ap (λ ds. c ∷ ds) later
      ∙ sym (ap (λ q. cond q (c ∷ filter (λ (d : ℕ × Links). not (is_number n d.0)) (filter is_fed_one cs)) (filter (λ (d : ℕ × Links). not (is_number n d.0)) (filter is_fed_one cs))) stays)
  by later true fed false gone =
      later ∙ sym (ap (λ q. cond q (c ∷ filter (λ (d : ℕ × Links). not (is_number n d.0)) (filter is_fed_one cs)) (filter (λ (d : ℕ × Links). not (is_number n d.0)) (filter is_fed_one cs))) gone)
  by later false own true stays =
      ap (λ q. cond q (c ∷ filter is_fed_one (filter (λ (d : ℕ × Links). not (is_number n d.0)) cs)) (filter is_fed_one (filter (λ (d : ℕ × Links). not (is_number n d.0)) cs))) own
      ∙ later
  by later false own false gone = later

-- one of the script's own ends
pub own_without : (n : ℕ) (cs : List (ℕ × Links)) → is_fed n ≡ false
    → filter is_fed_one (filter (λ c. not (is_number n c.0)) cs) ≡ filter is_fed_one cs
own_without n [] own = refl
own_without n (c ∷ cs) own = by (own_without n cs own) (is_number n c.0) refl where
  by : filter is_fed_one (filter (λ (d : ℕ × Links). not (is_number n d.0)) cs) ≡ filter is_fed_one cs → (b : Bool) → is_number n c.0 ≡ b
      → filter is_fed_one (cond (not b) (c ∷ filter (λ (d : ℕ × Links). not (is_number n d.0)) cs) (filter (λ (d : ℕ × Links). not (is_number n d.0)) cs))
      ≡ filter is_fed_one (c ∷ cs)
  by later true is =
      let here : is_fed c.0 ≡ false = ap is_fed (sym (number_same n c.0 is)) ∙ own in
      later ∙ sym (ap (λ q. cond q (c ∷ filter is_fed_one cs) (filter is_fed_one cs)) here)
  by later false is = ap (λ ds. cond (is_fed c.0) (c ∷ ds) ds) later
