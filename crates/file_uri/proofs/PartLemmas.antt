-- The parts of a path between its slashes.
use Rattle.std.proofs.Common.{◌≡◌, ◌≢◌, ℕ, Bool, true, false, ◌||◌, ◌==◌, List, [], ◌∷◌, ◌++◌, All, sym, refl, ap, ◌∙◌, ⊎_elim}
use Rattle.std.specs.List.{list_any, onto_first}
use Rattle.std.proofs.lemmas.Bool.{cases_Bool, cases_eq, eq-eqb, ne_eqb}
use Rattle.std.proofs.lemmas.List.Elements.{All-head, All-tail}
use Rattle.std.proofs.lemmas.List.Splits.{slice_split-cons_yes, slice_split-cons_no}
use Rattle.tt_base.specs.Path.{parts}

onto_first-append : (b : ℕ) (xs ys : List (List ℕ)) → xs ≢ [] → onto_first b (xs ++ ys) ≡ onto_first b xs ++ ys
onto_first-append b [] ys some = absurd (some refl)
onto_first-append b (part ∷ xs) ys some = refl

onto_first-some : (b : ℕ) (xs : List (List ℕ)) → onto_first b xs ≢ []
onto_first-some b [] none = cc
onto_first-some b (part ∷ xs) none = cc

parts-some : (path : List ℕ) → parts path ≢ []
parts-some [] none = cc
parts-some (b ∷ path) none =
    ⊎_elim
    (λ slash. let cut = slice_split-cons_yes (λ x. x == 47) b path (eq-eqb b 47 slash) in cc)
    (λ other. onto_first-some b (parts path) (sym (slice_split-cons_no (λ x. x == 47) b path (ne_eqb b 47 other)) ∙ none))
    (cases_eq b 47)

-- a slash divides the parts
pub parts-append : (front back : List ℕ) → parts (front ++ 47 ∷ back) ≡ parts front ++ parts back
parts-append [] back = refl
parts-append (b ∷ front) back =
    let whole = parts-append front back in
    ⊎_elim
    (λ slash.
    let yes : (b == 47) ≡ true = eq-eqb b 47 slash in
    slice_split-cons_yes (λ x. x == 47) b (front ++ 47 ∷ back) yes ∙ ap (λ l. [] ∷ l) whole ∙ ap (λ l. l ++ parts back) (sym (slice_split-cons_yes (λ x. x == 47) b front yes)))
    (λ other.
    let no : (b == 47) ≡ false = ne_eqb b 47 other in
    slice_split-cons_no (λ x. x == 47) b (front ++ 47 ∷ back) no ∙ ap (onto_first b) whole ∙ onto_first-append b (parts front) (parts back) (parts-some front)
    ∙ ap (λ l. l ++ parts back) (sym (slice_split-cons_no (λ x. x == 47) b front no)))
    (cases_eq b 47)

abbrev pub IsNotSlash : ℕ → Type 0
IsNotSlash b = b ≢ 47

-- a text with no slash is one part
pub parts-whole : (part : List ℕ) → All IsNotSlash part → parts part ≡ part ∷ []
parts-whole [] none = refl
parts-whole (b ∷ part) none =
    slice_split-cons_no (λ x. x == 47) b part (ne_eqb b 47 (All-head IsNotSlash b part none)) ∙ ap (onto_first b) (parts-whole part (All-tail IsNotSlash b part none))

pub list_any-append : (test : List ℕ → Bool) (xs ys : List (List ℕ)) → list_any test (xs ++ ys) ≡ (list_any test xs || list_any test ys)
list_any-append test [] ys = refl
list_any-append test (x ∷ xs) ys =
    ⊎_elim
    (λ yes. rw yes refl)
    (λ no. rw no (list_any-append test xs ys))
    (cases_Bool (test x))
