-- In a table with distinct rows a search by one half finds exactly the rows that are there.
use Rattle.std.proofs.Common.{◌≡◌, ℕ, suc, zero, ◌<◌, ◌==◌, Bool, true, false, List, [], ◌∷◌, map, length, get_or, Option, Some, None, refl, sym, ◌∙◌, ap₂, subst, inl, inr, arith, eqb-true, eq-eqb}
use Rattle.std.proofs.lemmas.Bool.{cases_Bool}
use Rattle.std.proofs.lemmas.Slice.Eq.{bytes_eq-Decides}
use Rattle.std.specs.List.{Contains, find, list_any}
use Rattle.std.specs.Option.{option_map}
use Rattle.std.specs.Str.{bytes_eq}
use Rattle.std.specs.Prelude.{◌↔◌}
use Rattle.name_table.specs.Rows.{are_distinct, HasDistinctRows, number_of, word_of}

-- an item of the rest is an item of the whole
Contains-later : {X : Type 0} (y : X) (ys : List X) (x : X) → Contains ys x → Contains (y ∷ ys) x
Contains-later y ys x h = (suc h.0, omega (arith, h.1), h.2)

-- what is found is there, and passes the test
pub found_there : {X : Type 0} (test : X → Bool) (xs : List X) (x : X) → find test xs ≡ Some x → Contains xs x × (test x ≡ true)
found_there test [] x e = cc
found_there test (y ∷ ys) x e = elim (cases_Bool (test y)) [
  | inl passes ↦
      let same : y ≡ x = let found = rw passes at e in cc in
      ((0, omega arith, same), subst (λ z. test z ≡ true) same passes)
  | inr fails ↦
      let later = found_there test ys x (rw fails at e) in
      (Contains-later y ys x later.0, later.1)
]

-- the key of an item passes its own test
key_passes : {X K : Type 0} (eq : K → K → Bool) (key : X → K) (y : X) (xs : List X) (k : ℕ) (x : X) → k < length xs → get_or xs k x ≡ x
    → eq (key y) (key x) ≡ true → list_any (eq (key y)) (map key xs) ≡ true
key_passes eq key y [] k x below e same = absurd (omega (arith, below))
key_passes eq key y (z ∷ zs) zero x below e same = rw (e, same) refl
key_passes eq key y (z ∷ zs) (suc k) x below e same =
    let later = key_passes eq key y zs k x (omega (arith, below)) e same in
    elim (cases_Bool (eq (key y) (key z))) [
      | inl passes ↦ rw passes refl
      | inr fails ↦ rw (fails, later) refl
    ]

-- with distinct keys the item at an index is the one that is found
at_found : {X K : Type 0} (eq : K → K → Bool) (key : X → K) → ((k : K) → eq k k ≡ true) → (xs : List X) (k : ℕ) (x : X) → are_distinct eq (map key xs) ≡ true
    → k < length xs → get_or xs k x ≡ x → find (λ y. eq (key y) (key x)) xs ≡ Some x
at_found eq key same [] k x distinct below e = absurd (omega (arith, below))
at_found eq key same (y ∷ ys) zero x distinct below e = rw (e, same (key x)) refl
at_found eq key same (y ∷ ys) (suc k) x distinct below e =
    elim (cases_Bool (list_any (eq (key y)) (map key ys))) [
      | inl again ↦ let never : false ≡ true = rw again at distinct in cc
      | inr alone ↦
          let later = at_found eq key same ys k x (rw alone at distinct) (omega (arith, below)) e in
          elim (cases_Bool (eq (key y) (key x))) [
            | inl passes ↦
                let again = key_passes eq key y ys k x (omega (arith, below)) e passes in
                let never : true ≡ false = sym again ∙ alone in
                cc
            | inr fails ↦ rw fails later
          ]
    ]

-- what a search gives of the item that it finds
found_item : {X V : Type 0} (answer : X → V) (found : Option X) (v : V) → option_map answer found ≡ Some v → (x : X) × (found ≡ Some x) × (answer x ≡ v)
found_item answer None v e = cc
found_item answer (Some x) v e = (x, refl, cc)

number_there : (word : List ℕ) (rows : List (ℕ × List ℕ)) (number : ℕ) → number_of word rows ≡ Some number → Contains rows (number, word)
number_there word rows number e =
    let row = found_item (λ row. row.0) (find (λ row. bytes_eq row.1 word) rows) number e in
    let there = found_there (λ row. bytes_eq row.1 word) rows row.0 row.1 in
    let same : row.0 ≡ (number, word) = ap₂ (λ n w. (n, w)) row.2 ((bytes_eq-Decides row.0.1 word).0 there.1) in
    subst (Contains rows) same there.0

word_there : (number : ℕ) (rows : List (ℕ × List ℕ)) (word : List ℕ) → word_of number rows ≡ Some word → Contains rows (number, word)
word_there number rows word e =
    let row = found_item (λ row. row.1) (find (λ row. row.0 == number) rows) word e in
    let there = found_there (λ row. row.0 == number) rows row.0 row.1 in
    let same : row.0 ≡ (number, word) = ap₂ (λ n w. (n, w)) (eqb-true row.0.0 number there.1) row.2 in
    subst (Contains rows) same there.0

-- a word has this number exactly where the table has the row
pub number_of-is : (word : List ℕ) (rows : List (ℕ × List ℕ)) → HasDistinctRows rows → (number : ℕ) → (number_of word rows ≡ Some number) ↔ Contains rows (number, word)
number_of-is word rows distinct number = (
  number_there word rows number,
  λ there. rw (at_found bytes_eq (λ row. row.1) (λ k. (bytes_eq-Decides k k).1 refl) rows there.0 (number, word) distinct.words there.1 there.2) refl,
)

-- a number has this word exactly where the table has the row
pub word_of-is : (number : ℕ) (rows : List (ℕ × List ℕ)) → HasDistinctRows rows → (word : List ℕ) → (word_of number rows ≡ Some word) ↔ Contains rows (number, word)
word_of-is number rows distinct word = (
  word_there number rows word,
  λ there. rw (at_found ◌==◌ (λ row. row.0) (λ k. eq-eqb k k refl) rows there.0 (number, word) distinct.numbers there.1 there.2) refl,
)
