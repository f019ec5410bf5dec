-- Marked items of a list, and of its pages.
use Rattle.std.proofs.Common.{◌≡◌, Bool, true, false, ℕ, zero, suc, ◌+◌, ◌-◌, ◌<◌, ◌≤◌, List, [], ◌∷◌, ◌++◌, length, get_or, take, drop, refl, sym, ap, ◌∙◌, arith, Option, Some, None}
use Rattle.std.specs.Prelude.{option_map, if◌then◌else◌, cond}
use Rattle.std.specs.List.{sum, count_by}
use Rattle.std.proofs.lemmas.List.{drop_more, take_all, length-map, get_or-map}
use Rattle.std.proofs.lemmas.List.Sums.{sum_by-cons}
use Rattle.paged.specs.Pages.{flat, IsColumns}
use Rattle.paged.specs.Marks.{behind}
use Rattle.paged.specs.Spots.{IsSpot}
use Rattle.paged.proofs.FlatLemmas.{flat-cut, page-cut, count_by-append, sum-take-lengths, sum-take-marks}
use Rattle.paged.proofs.SpotLemmas.{take-at-spot}

one-more : (i : ℕ) (o : Option ℕ) → option_map (λ place. i + place) (option_map suc o) ≡ option_map (λ place. (i + 1) + place) o
one-more i None = refl
one-more i (Some place) = let same : i + suc place ≡ (i + 1) + place = omega arith in ap Some same

-- a step over one item
pub behind-drop : {A : Type 0} (is_marked : A → Bool) (xs : List A) (i left now : ℕ) (x : A) (marked : Bool) (o : Option ℕ)
    → i < length xs → x ≡ get_or xs i x → 0 < left → is_marked x ≡ marked → now ≡ (if marked then left - 1 else left)
    → o ≡ option_map (λ place. i + place) (behind is_marked (drop i xs) left) → o ≡ option_map (λ place. (i + 1) + place) (behind is_marked (drop (i + 1) xs) now)
behind-drop is_marked xs i zero now x marked o within is some test step e = absurd (omega (arith, some))
behind-drop is_marked xs i (suc left) now x marked o within is some test step e =
    let same : suc left - 1 ≡ left = omega arith in
    e
    ∙ ap (λ t. option_map (λ place. i + place) (behind is_marked t (suc left))) (drop_more xs i x within)
    ∙ ap (λ c. option_map (λ place. i + place) (behind is_marked (c ∷ drop (i + 1) xs) (suc left))) (sym is)
    ∙ one-more i (behind is_marked (drop (i + 1) xs) (if is_marked x then left else suc left))
    ∙ ap (λ b. option_map (λ place. (i + 1) + place) (behind is_marked (drop (i + 1) xs) (if b then left else suc left))) test
    ∙ ap (λ n. option_map (λ place. (i + 1) + place) (behind is_marked (drop (i + 1) xs) (if marked then n else suc left))) (sym same)
    ∙ ap (λ n. option_map (λ place. (i + 1) + place) (behind is_marked (drop (i + 1) xs) n)) (sym step)

count_by-cons : {A : Type 0} (is_marked : A → Bool) (x : A) (xs : List A) → count_by is_marked (x ∷ xs) ≡ cond (is_marked x) 1 0 + count_by is_marked xs
count_by-cons is_marked x xs = sum_by-cons (λ y. cond (is_marked y) 1 0) x xs

-- where fewer are marked there is no such place
pub behind-past : {A : Type 0} (is_marked : A → Bool) (xs : List A) (n : ℕ) → count_by is_marked xs < n → behind is_marked xs n ≡ None
behind-past is_marked xs zero few = absurd (omega (arith, few))
behind-past is_marked [] (suc n) few = refl
behind-past is_marked (x ∷ xs) (suc n) few = by (is_marked x) (count_by-cons is_marked x xs) (λ (k : ℕ). behind-past is_marked xs k) where
  by : (b : Bool) → count_by is_marked (x ∷ xs) ≡ cond b 1 0 + count_by is_marked xs → ((k : ℕ) → count_by is_marked xs < k → behind is_marked xs k ≡ None)
      → option_map suc (behind is_marked xs (if b then n else suc n)) ≡ None
  by true e past = ap (option_map suc) (past n (omega (arith, few, e)))
  by false e past = ap (option_map suc) (past (suc n) (omega (arith, few, e)))

-- with so many marked in front, what stands behind does not matter
behind-front : {A : Type 0} (is_marked : A → Bool) (xs ys : List A) (n : ℕ) → n ≤ count_by is_marked xs → behind is_marked (xs ++ ys) n ≡ behind is_marked xs n
behind-front is_marked xs ys zero many = refl
behind-front is_marked [] ys (suc n) many = absurd (omega (arith, many))
behind-front is_marked (x ∷ xs) ys (suc n) many = by (is_marked x) (count_by-cons is_marked x xs) (λ (k : ℕ). behind-front is_marked xs ys k) where
  by : (b : Bool) → count_by is_marked (x ∷ xs) ≡ cond b 1 0 + count_by is_marked xs → ((k : ℕ) → k ≤ count_by is_marked xs → behind is_marked (xs ++ ys) k ≡ behind is_marked xs k)
      → option_map suc (behind is_marked (xs ++ ys) (if b then n else suc n)) ≡ option_map suc (behind is_marked xs (if b then n else suc n))
  by true e front = ap (option_map suc) (front n (omega (arith, many, e)))
  by false e front = ap (option_map suc) (front (suc n) (omega (arith, many, e)))

further : (o : Option ℕ) (k : ℕ) → option_map suc (option_map (λ place. k + place) o) ≡ option_map (λ place. suc k + place) o
further None k = refl
further (Some place) k = let same : suc (k + place) ≡ suc k + place = omega arith in ap Some same

no-further : (o : Option ℕ) → o ≡ option_map (λ place. 0 + place) o
no-further None = refl
no-further (Some place) = let same : place ≡ 0 + place = omega arith in ap Some same

-- with fewer marked in front, the place lies behind
behind-skip : {A : Type 0} (is_marked : A → Bool) (xs ys : List A) (n left : ℕ) → n ≡ count_by is_marked xs + left → 0 < left
    → behind is_marked (xs ++ ys) n ≡ option_map (λ place. length xs + place) (behind is_marked ys left)
behind-skip is_marked xs ys zero left e some = absurd (omega (arith, e, some))
behind-skip is_marked [] ys (suc n) left e some = let same : suc n ≡ left = omega (arith, e) in ap (behind is_marked ys) same ∙ no-further (behind is_marked ys left)
behind-skip is_marked (x ∷ xs) ys (suc n) left e some = by (is_marked x) (count_by-cons is_marked x xs) (λ (k : ℕ). behind-skip is_marked xs ys k left) where
  by : (b : Bool) → count_by is_marked (x ∷ xs) ≡ cond b 1 0 + count_by is_marked xs
      → ((k : ℕ) → k ≡ count_by is_marked xs + left → 0 < left → behind is_marked (xs ++ ys) k ≡ option_map (λ place. length xs + place) (behind is_marked ys left))
      → option_map suc (behind is_marked (xs ++ ys) (if b then n else suc n)) ≡ option_map (λ place. suc (length xs) + place) (behind is_marked ys left)
  by true c skip = ap (option_map suc) (skip n (omega (arith, e, c)) some) ∙ further (behind is_marked ys left) (length xs)
  by false c skip = ap (option_map suc) (skip (suc n) (omega (arith, e, c)) some) ∙ further (behind is_marked ys left) (length xs)

module _ {A : Type 0} (is_marked : A → Bool) (pages : List (List A)) (lengths marks : List ℕ) (columns : IsColumns is_marked pages lengths marks) where
  -- where no page reaches the number there is no such place
  pub behind-no-page : (index left n : ℕ) → index ≡ length marks → sum (take index marks) + left ≡ n → (0 < index → 0 < left) → 0 < n → behind is_marked (flat pages) n ≡ None
  behind-no-page index left n is reached behind_some some =
      let count : length marks ≡ length pages = ap length columns.marks_are ∙ length-map pages (count_by is_marked) in
      let all : take index pages ≡ pages = take_all index pages (omega (arith, is, count)) in
      let whole : sum (take index marks) ≡ count_by is_marked (flat pages) = sum-take-marks is_marked pages marks index columns.marks_are ∙ ap (λ p. count_by is_marked (flat p)) all in
      behind-past is_marked (flat pages) n (by index refl whole) where
        by : (i : ℕ) → i ≡ index → sum (take index marks) ≡ count_by is_marked (flat pages) → count_by is_marked (flat pages) < n
        by zero e whole = let none : sum (take index marks) ≡ 0 = ap (λ k. sum (take k marks)) (sym e) in omega (arith, whole, none, some)
        by (suc i) e whole = omega (arith, whole, reached, behind_some (omega (arith, e)))

  -- the place in the page that reaches the number, carried to the whole
  pub behind-in-page : (index left n start : ℕ) (page : List A) → index < length pages → page ≡ get_or pages index page
      → sum (take index marks) + left ≡ n → left ≤ get_or marks index 0 → (0 < index → 0 < left) → 0 < n → start ≡ sum (take index lengths)
      → behind is_marked (flat pages) n ≡ option_map (λ place. start + place) (behind is_marked page left)
  behind-in-page index left n start page within is reached inside behind_some some start_is =
      ap (λ p. behind is_marked (flat p) n) (page-cut pages index page within is)
      ∙ ap (λ l. behind is_marked l n) (flat-cut (take index pages) page rest)
      ∙ behind-skip is_marked (flat (take index pages)) (page ++ flat rest) n left (omega (arith, reached, sum-take-marks is_marked pages marks index columns.marks_are)) (left_some index refl)
      ∙ ap (option_map (λ place. length (flat (take index pages)) + place)) (behind-front is_marked page (flat rest) left in_page)
      ∙ ap (λ s. option_map (λ place. s + place) (behind is_marked page left)) (sym (start_is ∙ sum-take-lengths pages lengths index columns.lengths_are)) where
        rest : List (List A)
        rest = drop (index + 1) pages

        in_page : left ≤ count_by is_marked page
        in_page =
            omega (arith, inside, ap (λ l. get_or l index 0) columns.marks_are, get_or-map (count_by is_marked) pages index page 0 within, ap (count_by is_marked) is)

        left_some : (i : ℕ) → i ≡ index → 0 < left
        left_some zero e = let none : sum (take index marks) ≡ 0 = ap (λ k. sum (take k marks)) (sym e) in omega (arith, reached, none, some)
        left_some (suc i) e = behind_some (omega (arith, e))

  -- the marked items before a place
  pub count-at-spot : (place index offset : ℕ) (page : List A) → IsSpot pages place index offset → page ≡ get_or pages index page
      → sum (take index marks) + count_by is_marked (take offset page) ≡ count_by is_marked (take place (flat pages))
  count-at-spot place index offset page s is =
      ap (λ k. k + count_by is_marked (take offset page)) (sum-take-marks is_marked pages marks index columns.marks_are)
      ∙ sym (count_by-append is_marked (flat (take index pages)) (take offset page))
      ∙ ap (count_by is_marked) (sym (take-at-spot pages place index offset page s is))

  -- what was found in the page tells what there is in the whole
  pub behind-found : (before : List ℕ) (index left n start : ℕ) (page items : List A) (o : Option ℕ) → index ≤ length marks → (index ≡ length marks → ⊥) → page ≡ get_or pages index page
      → sum (take index marks) + left ≡ n → (index < length marks → left ≤ get_or marks index 0) → (0 < index → 0 < left) → 0 < n
      → before ≡ take index lengths → start ≡ sum before → items ≡ page → o ≡ behind is_marked items left
      → option_map (λ place. start + place) o ≡ behind is_marked (flat pages) n
  behind-found before index left n start page items o le other is reached inside behind_some some before_is start_is items_are o_is =
      let count : length marks ≡ length pages = ap length columns.marks_are ∙ length-map pages (count_by is_marked) in
      let within : index < length pages = omega (arith, le, other, count) in
      ap (option_map (λ place. start + place)) (o_is ∙ ap (λ l. behind is_marked l left) items_are)
      ∙ sym (behind-in-page index left n start page within is reached (inside (omega (arith, within, count))) behind_some some (start_is ∙ ap sum before_is))

  -- what was counted before the page and in it tells what there is before the place
  pub count-found : (before : List ℕ) (place index offset start inside : ℕ) (page items front : List A) → IsSpot pages place index offset → page ≡ get_or pages index page
      → before ≡ take index marks → start ≡ sum before → items ≡ page → front ≡ take offset items → inside ≡ count_by is_marked front
      → start + inside ≡ count_by is_marked (take place (flat pages))
  count-found before place index offset start inside page items front s is before_is start_is items_are front_is inside_is =
      ap (λ k. k + inside) (start_is ∙ ap sum before_is)
      ∙ ap (λ k. sum (take index marks) + k) (inside_is ∙ ap (count_by is_marked) (front_is ∙ ap (take offset) items_are))
      ∙ count-at-spot place index offset page s is
