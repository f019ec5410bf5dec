-- A run of a list, of pages and of their columns, that gives way to another.
use Rattle.std.proofs.Common.{◌≡◌, ℕ, suc, ◌+◌, ◌-◌, ◌^◌, ◌<◌, ◌≤◌, Bool, List, [], ◌∷◌, ◌++◌, length, map, get_or, set, take, drop, sym, ap, ◌∙◌, subst, arith, append_assoc, length-append}
use Rattle.std.specs.Prelude.{if◌then◌else◌}
use Rattle.std.specs.List.{sum, count_by, splice, All, between}
use Rattle.std.proofs.lemmas.List.{map-append, map-set, get_or-map, append-nil, take-map, drop-map, set_split, length-take-le, length-drop, drop_all}
use Rattle.std.proofs.lemmas.List.Elements.{All-append, All-take, All-drop, All-cons, All-nil}
use Rattle.std.proofs.lemmas.List.Edits.{split_between}
use Rattle.std.proofs.lemmas.List.Sums.{sum_by-append}
use Rattle.paged.specs.Pages.{flat, patched, HasLength, IsColumns, IsPaging, IsPaged}
use Rattle.paged.specs.Replacing.{IsReplaced}
use Rattle.paged.proofs.FlatLemmas.{count_by-append, flat-append, flat-cut, page-cut, sum-lengths, sum-take-lengths}

-- one item in the place of another
pub set-splice : {A : Type 0} (xs : List A) (i : ℕ) (x : A) → i < length xs → set xs i x ≡ splice xs i (i + 1) (x ∷ [])
set-splice xs i x within =
    let same : suc i ≡ i + 1 = omega arith in set_split xs i x within ∙ ap (λ n. take i xs ++ (x ∷ drop n xs)) same

pub map-splice : {A B : Type 0} (f : A → B) (xs ys : List A) (from to : ℕ) → splice (map f xs) from to (map f ys) ≡ map f (splice xs from to ys)
map-splice f xs ys from to =
    ap (λ l. l ++ (map f ys ++ drop to (map f xs))) (take-map f from xs)
    ∙ ap (λ l. map f (take from xs) ++ (map f ys ++ l)) (drop-map f to xs)
    ∙ ap (λ l. map f (take from xs) ++ l) (sym (map-append f ys (drop to xs)))
    ∙ sym (map-append f (take from xs) (ys ++ drop to xs))

column-splice : {A : Type 0} (f : List A → ℕ) (pages run after : List (List A)) (column numbers column_after : List ℕ) (from to : ℕ) → column ≡ map f pages → numbers ≡ map f run
    → after ≡ splice pages from to run → column_after ≡ splice column from to numbers → column_after ≡ map f after
column-splice f pages run after column numbers column_after from to are numbers_are after_is column_is =
    column_is
    ∙ ap (λ c. splice c from to numbers) are
    ∙ ap (splice (map f pages) from to) numbers_are
    ∙ map-splice f pages run from to
    ∙ ap (map f) (sym after_is)

-- the columns beside the new pages
pub columns-splice : {A : Type 0} (is_marked : A → Bool) (pages run after : List (List A)) (lengths run_lengths lengths_after marks run_marks marks_after : List ℕ) (from to : ℕ)
    → IsColumns is_marked pages lengths marks → run_lengths ≡ map length run → run_marks ≡ map (count_by is_marked) run
    → after ≡ splice pages from to run → lengths_after ≡ splice lengths from to run_lengths → marks_after ≡ splice marks from to run_marks
    → IsColumns is_marked after lengths_after marks_after
columns-splice {A} is_marked pages run after lengths run_lengths lengths_after marks run_marks marks_after from to columns l_are m_are after_is l_is m_is = record {
  lengths_are = column-splice (length {A = A}) pages run after lengths run_lengths lengths_after from to columns.lengths_are l_are after_is l_is;
  marks_are = column-splice (count_by is_marked) pages run after marks run_marks marks_after from to columns.marks_are m_are after_is m_is;
}

-- the items of the new pages
pub replaced-whole : {A : Type 0} (half : ℕ) (pages after : List (List A)) (from to : ℕ) (items : List A) → IsReplaced half pages from to items after
    → flat after ≡ patched from to items pages
replaced-whole half pages after from to items r =
    ap flat r.after_is
    ∙ flat-append (take from pages) (r.run ++ drop to pages)
    ∙ ap (λ l. flat (take from pages) ++ l) (flat-append r.run (drop to pages) ∙ ap (λ l. l ++ flat (drop to pages)) r.whole)

-- where another page stays, there is more than one page again
pub replaced-paging : {A : Type 0} (half : ℕ) (pages after : List (List A)) (from to : ℕ) (items : List A) → IsReplaced half pages from to items after → IsPaging half pages
    → from ≤ to → to ≤ length pages → 0 < from + (length pages - to) → 0 < length items → IsPaging half after
replaced-paging {A} half pages after from to items r p order within others some = record {
  many =
      omega (
        arith,
        ap length r.after_is,
        length-append (take from pages) (r.run ++ drop to pages),
        length-append r.run (drop to pages),
        length-take-le from pages (omega (arith, order, within)),
        length-drop to pages,
        others,
        within,
        run_some r.run r.whole,
      );
  each =
      subst (All (HasLength half (half + half))) (sym r.after_is)
      (All-append (HasLength half (half + half)) (take from pages) (r.run ++ drop to pages) (All-take (HasLength half (half + half)) from pages p.each)
      (All-append (HasLength half (half + half)) r.run (drop to pages) r.each (All-drop (HasLength half (half + half)) to pages p.each)));
} where
  run_some : (run : List (List A)) → flat run ≡ items → 0 < length run
  run_some [] whole = absurd (omega (arith, some, ap length whole))
  run_some (page ∷ run) whole = omega arith

-- the lengths of a run of pages, and how many items the others have
pub sum-between : {A : Type 0} (pages : List (List A)) (lengths : List ℕ) (from to : ℕ) → lengths ≡ map length pages → from ≤ to
    → length (flat (take from pages)) + (sum (between from to lengths) + length (flat (drop to pages))) ≡ length (flat pages)
sum-between {A} pages lengths from to are order =
    let front : sum (take from lengths) ≡ length (flat (take from pages)) = sum-take-lengths pages lengths from are in
    let back : sum (drop to lengths) ≡ length (flat (drop to pages)) = ap (λ l. sum (drop to l)) are ∙ ap sum (drop-map (length {A = A}) to pages) ∙ sum-lengths (drop to pages) in
    let parts = sum_by-append (λ n. n) (take from lengths) (between from to lengths ++ drop to lengths) in
    let rest = sum_by-append (λ n. n) (between from to lengths) (drop to lengths) in
    let whole : sum lengths ≡ length (flat pages) = ap sum are ∙ sum-lengths pages in
    omega (arith, front, back, parts, rest, whole, ap sum (split_between lengths from to order))

pub length-patched : {A : Type 0} (pages : List (List A)) (from to : ℕ) (items : List A)
    → length (patched from to items pages) ≡ length (flat (take from pages)) + (length items + length (flat (drop to pages)))
length-patched pages from to items =
    length-append (flat (take from pages)) (items ++ flat (drop to pages)) ∙ ap (λ n. length (flat (take from pages)) + n) (length-append items (flat (drop to pages)))

-- what is beside the pages after a change
pub replaced-paged : {A : Type 0} (half : ℕ) (is_marked : A → Bool) (pages after : List (List A))
    (lengths marks lengths_after marks_after : List ℕ) (from to gone count count_after : ℕ) (items : List A)
    → IsPaged half is_marked pages lengths marks count → IsReplaced half pages from to items after → IsColumns is_marked after lengths_after marks_after
    → from ≤ to → to ≤ length pages → 0 < from + (length pages - to) → 0 < length items
    → gone ≡ sum (between from to lengths) → count_after ≡ (count - gone) + length items → count_after < 2 ^ 64 → IsPaged half is_marked after lengths_after marks_after count_after
replaced-paged half is_marked pages after lengths marks lengths_after marks_after from to gone count count_after items p r columns order within others some gone_is count_is fits = record {
  paging = replaced-paging half pages after from to items r p.paging order within others some;
  columns = columns;
  count_is =
      let parts = sum-between pages lengths from to p.columns.lengths_are order in
      let whole = length-patched pages from to items in
      omega (arith, parts, whole, ap length (replaced-whole half pages after from to items r), p.count_is, gone_is, count_is);
  fits = fits;
}

-- an item behind the last page
pub replaced-last : {A : Type 0} (half last : ℕ) (pages after : List (List A)) (page : List A) (item : A) → last < length pages → last + 1 ≡ length pages → page ≡ get_or pages last page
    → IsReplaced half pages last (last + 1) (page ++ item ∷ []) after → flat after ≡ flat pages ++ item ∷ []
replaced-last half last pages after page item within is page_is r =
    let none : drop (last + 1) pages ≡ [] = drop_all (last + 1) pages (omega (arith, is)) in
    replaced-whole half pages after last (last + 1) (page ++ item ∷ []) r
    ∙ ap (λ p. flat (take last pages) ++ ((page ++ item ∷ []) ++ flat p)) none
    ∙ ap (λ l. flat (take last pages) ++ l) (append-nil (page ++ item ∷ []))
    ∙ sym (append_assoc (flat (take last pages)) page (item ∷ []))
    ∙ ap (λ l. (flat (take last pages) ++ l) ++ item ∷ []) (sym (append-nil page))
    ∙ ap (λ p. (flat (take last pages) ++ (page ++ flat p)) ++ item ∷ []) (sym none)
    ∙ ap (λ l. l ++ item ∷ []) (sym (flat-cut (take last pages) page (drop (last + 1) pages)))
    ∙ ap (λ p. flat p ++ item ∷ []) (sym (page-cut pages last page within page_is))

-- one page in the place of one
pub replaced-page : {A : Type 0} (half from to : ℕ) (pages after : List (List A)) (page items : List A) → to ≡ from + 1 → page ≡ items → half ≤ length items → length items ≤ half + half
    → after ≡ splice pages from (from + 1) (page ∷ []) → IsReplaced half pages from to items after
replaced-page half from to pages after page items to_is is long short after_is = record {
  run = items ∷ [];
  after_is = after_is ∙ ap (λ p. splice pages from (from + 1) (p ∷ [])) is ∙ ap (λ n. splice pages from n (items ∷ [])) (sym to_is);
  whole = append-nil items;
  each = All-cons (HasLength half (half + half)) items [] (long, short) (All-nil (HasLength half (half + half)));
}

-- the columns beside one new page
pub columns-set : {A : Type 0} (is_marked : A → Bool) (pages : List (List A)) (lengths marks : List ℕ) (index number mark : ℕ) (page : List A) → IsColumns is_marked pages lengths marks
    → number ≡ length page → mark ≡ count_by is_marked page → IsColumns is_marked (set pages index page) (set lengths index number) (set marks index mark)
columns-set {A} is_marked pages lengths marks index number mark page columns number_is mark_is = record {
  lengths_are = ap (λ l. set l index number) columns.lengths_are ∙ ap (set (map length pages) index) number_is ∙ sym (map-set (length {A = A}) pages index page);
  marks_are = ap (λ l. set l index mark) columns.marks_are ∙ ap (set (map (count_by is_marked) pages) index) mark_is ∙ sym (map-set (count_by is_marked) pages index page);
}

-- the columns beside a page with one more item
pub columns-push : {A : Type 0} (is_marked : A → Bool) (pages : List (List A)) (lengths marks : List ℕ) (index number mark one : ℕ) (page after : List A) (item : A)
    → IsColumns is_marked pages lengths marks → index < length pages → page ≡ get_or pages index page → after ≡ page ++ item ∷ []
    → number ≡ get_or lengths index number → mark ≡ get_or marks index mark → one ≡ (if is_marked item then 1 else 0)
    → IsColumns is_marked (set pages index after) (set lengths index (number + 1)) (set marks index (mark + one))
columns-push {A} is_marked pages lengths marks index number mark one page after item columns within is after_is number_is mark_is one_is =
    columns-set is_marked pages lengths marks index (number + 1) (mark + one) after columns longer counted where
      longer : number + 1 ≡ length after
      longer =
          let old : number ≡ length page = number_is ∙ ap (λ l. get_or l index number) columns.lengths_are ∙ get_or-map (length {A = A}) pages index page number within ∙ ap length (sym is) in
          omega (arith, old, ap length after_is, length-append page (item ∷ []))

      counted : mark + one ≡ count_by is_marked after
      counted =
          let old : mark ≡ count_by is_marked page =
          mark_is ∙ ap (λ l. get_or l index mark) columns.marks_are ∙ get_or-map (count_by is_marked) pages index page mark within ∙ ap (count_by is_marked) (sym is) in
          omega (arith, old, one_is, ap (count_by is_marked) after_is, count_by-append is_marked page (item ∷ []))

-- what is beside the pages after an item was added to the last
pub pushed-paged : {A : Type 0} (half : ℕ) (is_marked : A → Bool) (pages after : List (List A))
    (lengths marks lengths_after marks_after : List ℕ) (last count count_after : ℕ) (page : List A) (item : A)
    → IsPaged half is_marked pages lengths marks count → last < length pages → last + 1 ≡ length pages → page ≡ get_or pages last page
    → IsReplaced half pages last (last + 1) (page ++ item ∷ []) after → IsColumns is_marked after lengths_after marks_after
    → count_after ≡ count + 1 → count_after < 2 ^ 64 → IsPaged half is_marked after lengths_after marks_after count_after
pushed-paged half is_marked pages after lengths marks lengths_after marks_after last count count_after page item p within is page_is r columns count_is fits = record {
  paging =
      replaced-paging half pages after last (last + 1) (page ++ item ∷ []) r p.paging (omega arith) (omega (arith, is)) (omega (arith, is, p.paging.many))
      (omega (arith, length-append page (item ∷ [])));
  columns = columns;
  count_is = omega (arith, ap length (replaced-last half last pages after page item within is page_is r), length-append (flat pages) (item ∷ []), p.count_is, count_is);
  fits = fits;
}
