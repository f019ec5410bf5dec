-- Places of a list in its pages.
use Rattle.std.proofs.Common.{◌≡◌, ℕ, zero, suc, ◌+◌, ◌-◌, ◌<◌, ◌≤◌, List, [], ◌∷◌, ◌++◌, length, map, get_or, take, drop, sym, ap, ◌∙◌, arith, ◌⊎◌, inl, inr, Some, append_assoc, length-append}
use Rattle.std.specs.List.{sum, slice_get, splice}
use Rattle.std.proofs.Math.Seq.{take-append-add, drop-append-add}
use Rattle.std.proofs.lemmas.Bool.{cases_lt}
use Rattle.std.proofs.lemmas.List.{drop_more, take-append-drop, length-take-le, length-map, take_all, take_at, get_or_at, get_or-map, take-append-le, drop-append-le, drop-drop}
use Rattle.paged.specs.Pages.{flat, patched}
use Rattle.paged.specs.Spots.{IsSpot}
use Rattle.paged.proofs.FlatLemmas.{flat-append, flat-cut, sum-take-lengths}

-- where the sum of the lengths reaches a place lies the place
pub spot-reached : {A : Type 0} (pages : List (List A)) (lengths : List ℕ) (place index offset : ℕ) → lengths ≡ map length pages → 0 < length pages → place ≤ length (flat pages)
    → index ≤ length lengths → sum (take index lengths) + offset ≡ place → (index < length lengths → offset ≤ get_or lengths index 0) → (0 < index → 0 < offset)
    → IsSpot pages place index offset
spot-reached {A} pages lengths place index offset are some within le reached inside behind = by_order (cases_lt index (length pages)) where
  count : length lengths ≡ length pages
  count = ap length are ∙ length-map pages (length {A = A})

  before_is : sum (take index lengths) ≡ length (flat (take index pages))
  before_is = sum-take-lengths pages lengths index are

  at_index : index < length pages → IsSpot pages place index offset
  at_index lt = record {
    before = take index pages;
    page = get_or pages index [];
    behind = drop (index + 1) pages;
    cut = sym (ap (λ l. take index pages ++ l) (sym (drop_more pages index [] lt)) ∙ take-append-drop index pages);
    index_is = length-take-le index pages (omega (arith, lt));
    place_is = ap (λ n. n + offset) (sym before_is) ∙ reached;
    inside = omega (arith, inside (omega (arith, lt, count)), ap (λ l. get_or l index 0) are, get_or-map (length {A = A}) pages index [] 0 lt);
  }

  past : length pages ≤ index → length (flat (take index pages)) ≡ length (flat pages)
  past h = ap (λ p. length (flat p)) (take_all index pages h)

  by_order : (index < length pages) ⊎ (length pages ≤ index) → IsSpot pages place index offset
  by_order (inl lt) = at_index lt
  by_order (inr ge) = absurd (omega (arith, before_is, past ge, reached, within, some, behind (omega (arith, some, ge))))

pub page-at-spot : {A : Type 0} (pages : List (List A)) (place index offset : ℕ) (page : List A) (s : IsSpot pages place index offset)
    → page ≡ get_or pages index page → page ≡ s.page
page-at-spot pages place index offset page s is =
    is ∙ ap (λ p. get_or p index page) s.cut ∙ get_or_at s.before s.page s.behind page index s.index_is

slice_get-skip : {A : Type 0} (xs ys : List A) (n m : ℕ) → m ≡ length xs + n → slice_get (xs ++ ys) m ≡ slice_get ys n
slice_get-skip [] ys n m e = let same : m ≡ n = omega (arith, e) in ap (slice_get ys) same
slice_get-skip (x ∷ xs) ys n zero e = absurd (omega (arith, e))
slice_get-skip (x ∷ xs) ys n (suc m) e = slice_get-skip xs ys n m (omega (arith, e))

slice_get-front : {A : Type 0} (xs ys : List A) (n : ℕ) (x : A) → slice_get xs n ≡ Some x → slice_get (xs ++ ys) n ≡ Some x
slice_get-front [] ys n x e = absurd (cc)
slice_get-front (y ∷ xs) ys zero x e = e
slice_get-front (y ∷ xs) ys (suc n) x e = slice_get-front xs ys n x e

-- the item before which one less stands than before a place
pub item-at-spot : {A : Type 0} (pages : List (List A)) (place index offset : ℕ) (page : List A) (x : A) → IsSpot pages (place + 1) index offset → 0 < offset
    → page ≡ get_or pages index page → slice_get page (offset - 1) ≡ Some x → slice_get (flat pages) place ≡ Some x
item-at-spot pages place index offset page x s some is got =
    let same : place ≡ length (flat s.before) + (offset - 1) = omega (arith, s.place_is, some) in
    ap (λ p. slice_get (flat p) place) s.cut
    ∙ ap (λ l. slice_get l place) (flat-cut s.before s.page s.behind)
    ∙ slice_get-skip (flat s.before) (s.page ++ flat s.behind) (offset - 1) place same
    ∙ slice_get-front s.page (flat s.behind) (offset - 1) x (ap (λ p. slice_get p (offset - 1)) (sym (page-at-spot pages (place + 1) index offset page s is)) ∙ got)

take-past : {A : Type 0} (xs ys : List A) (n m : ℕ) → m ≡ length xs + n → take m (xs ++ ys) ≡ xs ++ take n ys
take-past xs ys n m e = ap (λ k. take k (xs ++ ys)) e ∙ take-append-add xs ys n

pub drop-past : {A : Type 0} (xs ys : List A) (n m : ℕ) → m ≡ length xs + n → drop m (xs ++ ys) ≡ drop n ys
drop-past xs ys n m e = ap (λ k. drop k (xs ++ ys)) e ∙ drop-append-add xs ys n

-- the pages before that of a place, and those behind it
pages-before : {A : Type 0} (pages : List (List A)) (place index offset : ℕ) (s : IsSpot pages place index offset) → take index pages ≡ s.before
pages-before pages place index offset s = ap (take index) s.cut ∙ take_at s.before (s.page ∷ s.behind) index s.index_is

pages-behind : {A : Type 0} (pages : List (List A)) (place index offset : ℕ) (s : IsSpot pages place index offset) → drop (index + 1) pages ≡ s.behind
pages-behind pages place index offset s =
    ap (drop (index + 1)) s.cut ∙ drop-past s.before (s.page ∷ s.behind) 1 (index + 1) (omega (arith, s.index_is))

-- the items before a place, and those behind it
pub take-at-spot : {A : Type 0} (pages : List (List A)) (place index offset : ℕ) (page : List A) → IsSpot pages place index offset
    → page ≡ get_or pages index page → take place (flat pages) ≡ flat (take index pages) ++ take offset page
take-at-spot pages place index offset page s is =
    ap (λ p. take place (flat p)) s.cut
    ∙ ap (take place) (flat-cut s.before s.page s.behind)
    ∙ take-past (flat s.before) (s.page ++ flat s.behind) offset place (sym s.place_is)
    ∙ ap (λ l. flat s.before ++ l) (take-append-le offset s.page (flat s.behind) s.inside)
    ∙ ap (λ p. flat p ++ take offset s.page) (sym (pages-before pages place index offset s))
    ∙ ap (λ p. flat (take index pages) ++ take offset p) (sym (page-at-spot pages place index offset page s is))

pub drop-at-spot : {A : Type 0} (pages : List (List A)) (place index offset : ℕ) (page : List A) → IsSpot pages place index offset
    → page ≡ get_or pages index page → drop place (flat pages) ≡ drop offset page ++ flat (drop (index + 1) pages)
drop-at-spot pages place index offset page s is =
    ap (λ p. drop place (flat p)) s.cut
    ∙ ap (drop place) (flat-cut s.before s.page s.behind)
    ∙ drop-past (flat s.before) (s.page ++ flat s.behind) offset place (sym s.place_is)
    ∙ drop-append-le offset s.page (flat s.behind) s.inside
    ∙ ap (λ p. drop offset s.page ++ flat p) (sym (pages-behind pages place index offset s))
    ∙ ap (λ p. drop offset p ++ flat (drop (index + 1) pages)) (sym (page-at-spot pages place index offset page s is))

-- the place lies as far behind the pages before it as it lies in its page
pub spot-place : {A : Type 0} (pages : List (List A)) (place index offset : ℕ) → IsSpot pages place index offset → length (flat (take index pages)) + offset ≡ place
spot-place pages place index offset s = ap (λ p. length (flat p) + offset) (pages-before pages place index offset s) ∙ s.place_is

pub spot-within : {A : Type 0} (pages : List (List A)) (place index offset : ℕ) → IsSpot pages place index offset → index < length pages
spot-within pages place index offset s = omega (arith, ap length s.cut, length-append s.before (s.page ∷ s.behind), s.index_is)

-- a run in the place of a range, where the range begins in one page and ends in another or the same
pub range-patched : {A : Type 0} (pages rest : List (List A)) (start end first offset last left to : ℕ) (page last_page run items : List A)
    → rest ≡ drop first pages → IsSpot pages start first offset → start ≤ end → IsSpot rest (offset + (end - start)) last left
    → page ≡ get_or pages first page → last_page ≡ get_or rest last last_page → to ≡ first + last + 1 → items ≡ take offset page ++ (run ++ drop left last_page)
    → patched first to items pages ≡ splice (flat pages) start end run
range-patched {A} pages rest start end first offset last left to page last_page run items rest_is s order t page_is last_is to_is are =
    ap (λ l. flat (take first pages) ++ (l ++ flat (drop to pages))) are
    ∙ regroup (flat (take first pages)) (take offset page) run (drop left last_page) (flat (drop to pages))
    ∙ ap (λ l. l ++ (run ++ (drop left last_page ++ flat (drop to pages)))) (sym (take-at-spot pages start first offset page s page_is))
    ∙ ap (λ l. take start (flat pages) ++ (run ++ l)) (sym behind_end) where
      regroup : (a b c d e : List A) → a ++ ((b ++ (c ++ d)) ++ e) ≡ (a ++ b) ++ (c ++ (d ++ e))
      regroup a b c d e =
          ap (λ l. a ++ l) (append_assoc b (c ++ d) e ∙ ap (λ l. b ++ l) (append_assoc c d e)) ∙ sym (append_assoc a b (c ++ (d ++ e)))

      last_pages : drop (last + 1) rest ≡ drop to pages
      last_pages =
          let same : first + (last + 1) ≡ to = omega (arith, to_is) in
          ap (drop (last + 1)) rest_is ∙ drop-drop (last + 1) first pages ∙ ap (λ n. drop n pages) same

      behind_end : drop end (flat pages) ≡ drop left last_page ++ flat (drop to pages)
      behind_end =
          ap (λ p. drop end (flat p)) (sym (take-append-drop first pages))
          ∙ ap (drop end) (flat-append (take first pages) (drop first pages))
          ∙ drop-past (flat (take first pages)) (flat (drop first pages)) (offset + (end - start)) end (omega (arith, spot-place pages start first offset s, order))
          ∙ ap (λ p. drop (offset + (end - start)) (flat p)) (sym rest_is)
          ∙ drop-at-spot rest (offset + (end - start)) last left last_page t last_is
          ∙ ap (λ p. drop left last_page ++ flat p) last_pages

-- the items behind a place, as those of the pages from its page on
pub runs-at-spot : {A : Type 0} (pages : List (List A)) (place index offset : ℕ) → IsSpot pages place index offset → drop offset (flat (drop index pages)) ≡ drop place (flat pages)
runs-at-spot pages place index offset s =
    sym (ap (λ p. drop place (flat p)) (sym (take-append-drop index pages))
    ∙ ap (drop place) (flat-append (take index pages) (drop index pages))
    ∙ drop-past (flat (take index pages)) (flat (drop index pages)) offset place (sym (spot-place pages place index offset s)))
