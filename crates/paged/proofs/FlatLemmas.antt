-- Pages of a list one after the other, and the columns beside them.
use Rattle.std.proofs.Common.{◌≡◌, ℕ, ◌+◌, ◌<◌, ◌≤◌, Bool, cond, List, [], ◌∷◌, ◌++◌, length, map, get_or, take, drop, refl, sym, ap, ◌∙◌, arith, length-append}
use Rattle.std.specs.List.{sum, count_by}
use Rattle.std.proofs.lemmas.List.{take-map, drop_more, take-append-drop}
use Rattle.std.proofs.lemmas.List.Concat.{flat_map-append, length-flat_map}
use Rattle.std.proofs.lemmas.List.Sums.{sum-map, sum_by-cons, sum_by-append}
use Rattle.paged.specs.Pages.{flat}

pub flat-append : {A : Type 0} (pages more : List (List A)) → flat (pages ++ more) ≡ flat pages ++ flat more
flat-append pages more = flat_map-append (λ page. page) pages more

pub flat-cut : {A : Type 0} (before : List (List A)) (page : List A) (behind : List (List A)) → flat (before ++ (page ∷ behind)) ≡ flat before ++ (page ++ flat behind)
flat-cut before page behind = flat-append before (page ∷ behind)

-- the pages around one
pub page-cut : {A : Type 0} (pages : List (List A)) (index : ℕ) (page : List A)
    → index < length pages → page ≡ get_or pages index page → pages ≡ take index pages ++ (page ∷ drop (index + 1) pages)
page-cut pages index page within is =
    sym (ap (λ p. take index pages ++ (p ∷ drop (index + 1) pages)) is
    ∙ ap (λ l. take index pages ++ l) (sym (drop_more pages index page within))
    ∙ take-append-drop index pages)

-- the lengths of the pages add up to that of the whole
pub sum-lengths : {A : Type 0} (pages : List (List A)) → sum (map length pages) ≡ length (flat pages)
sum-lengths {A} pages = sum-map (length {A = A}) pages ∙ sym (length-flat_map (λ (page : List A). page) pages)

pub sum-take-lengths : {A : Type 0} (pages : List (List A)) (lengths : List ℕ) (n : ℕ)
    → lengths ≡ map length pages → sum (take n lengths) ≡ length (flat (take n pages))
sum-take-lengths {A} pages lengths n are =
    ap (λ l. sum (take n l)) are ∙ ap sum (take-map (length {A = A}) n pages) ∙ sum-lengths (take n pages)

-- the numbers of marked items of the pages add up to that of the whole
pub count_by-append : {A : Type 0} (is_marked : A → Bool) (xs ys : List A) → count_by is_marked (xs ++ ys) ≡ count_by is_marked xs + count_by is_marked ys
count_by-append is_marked xs ys = sum_by-append (λ x. cond (is_marked x) 1 0) xs ys

pub sum-marks : {A : Type 0} (is_marked : A → Bool) (pages : List (List A)) → sum (map (count_by is_marked) pages) ≡ count_by is_marked (flat pages)
sum-marks is_marked [] = refl
sum-marks is_marked (page ∷ pages) =
    sum_by-cons (λ n. n) (count_by is_marked page) (map (count_by is_marked) pages)
    ∙ ap (λ n. count_by is_marked page + n) (sum-marks is_marked pages)
    ∙ sym (count_by-append is_marked page (flat pages))

pub sum-take-marks : {A : Type 0} (is_marked : A → Bool) (pages : List (List A)) (marks : List ℕ) (n : ℕ)
    → marks ≡ map (count_by is_marked) pages → sum (take n marks) ≡ count_by is_marked (flat (take n pages))
sum-take-marks is_marked pages marks n are =
    ap (λ l. sum (take n l)) are ∙ ap sum (take-map (count_by is_marked) n pages) ∙ sum-marks is_marked (take n pages)

-- a page and those before it are within the whole
pub page-within : {A : Type 0} (pages : List (List A)) (lengths : List ℕ) (index : ℕ) (page : List A) → lengths ≡ map length pages
    → index < length pages → page ≡ get_or pages index page → sum (take index lengths) + length page ≤ length (flat pages)
page-within pages lengths index page are within is =
    omega (
      arith,
      sum-take-lengths pages lengths index are,
      ap (λ p. length (flat p)) (page-cut pages index page within is),
      ap length (flat-cut (take index pages) page (drop (index + 1) pages)),
      length-append (flat (take index pages)) (page ++ flat (drop (index + 1) pages)),
      length-append page (flat (drop (index + 1) pages)),
    )
