-- Pages that are read from a place on.
use Rattle.std.proofs.Common.{◌≡◌, ℕ, ◌+◌, ◌-◌, ◌<◌, ◌≤◌, List, [], ◌∷◌, ◌++◌, length, take, drop, refl, sym, ap, subst, ◌∙◌, arith, append_assoc, length-append, Some}
use Rattle.std.specs.Prelude.{slice_index_or}
use Rattle.std.specs.List.{slice_get, All}
use Rattle.std.proofs.Math.Seq.{take-add}
use Rattle.std.proofs.lemmas.List.{drop-append-le, length-drop, take-append-le, drop-drop}
use Rattle.std.proofs.lemmas.List.Elements.{All-head, All-tail}
use Rattle.paged.specs.Pages.{flat}
use Rattle.paged.specs.Reading.{IsReading}
use Rattle.paged.proofs.SpotLemmas.{drop-past}

-- the first page is passed over: what is left to read, and how much of it is left to pass over
pub record PassesPage {A : Type 0} (pages rest : List (List A)) (used left here : ℕ) : Type 0 where
  pub items : drop (left - here) (flat rest) ≡ drop left (drop used (flat pages))
  pub reading : IsReading rest 0
  pub within : left - here ≤ length (flat rest)

pub passes-page : {A : Type 0} (pages rest : List (List A)) (used left here : ℕ) (page : List A) → IsReading pages used → Some page ≡ slice_get pages 0 → rest ≡ drop 1 pages
    → here ≡ length page - used → here ≤ left → left ≤ length (drop used (flat pages)) → PassesPage pages rest used left here
passes-page [] rest used left here page r first rest_is here_is le within = absurd (cc)
passes-page {A} (p ∷ pages) rest used left here page r first rest_is here_is le within = record {
  items =
      ap (λ q. drop (left - here) (flat q)) rest_is
      ∙ sym (ap (drop left) cut ∙ drop-past (drop used p) (flat pages) (left - here) left (omega (arith, front, le)));
  reading = subst (λ q. IsReading q 0) (sym rest_is) (record {
    some = All-tail (λ (q : List A). 0 < length q) p pages r.some;
    inside = next pages (All-tail (λ (q : List A). 0 < length q) p pages r.some);
    none = λ _. refl;
  });
  within = omega (arith, within, ap length cut, length-append (drop used p) (flat pages), front, ap (λ q. length (flat q)) rest_is);
} where
  cut : drop used (flat (p ∷ pages)) ≡ drop used p ++ flat pages
  cut = drop-append-le used p (flat pages) (omega (arith, r.inside (omega arith)))

  front : length (drop used p) ≡ here
  front = let same : page ≡ p = cc in omega (arith, length-drop used p, here_is, ap length same)

  next : (q : List (List A)) → All (λ page. 0 < length page) q → 0 < length q → 0 < length (slice_index_or q 0 [])
  next [] all some = absurd (omega (arith, some))
  next (x ∷ q) all some = All-head (λ (y : List A). 0 < length y) x q all

-- a part of the next run was copied
pub copied-more : {A : Type 0} (all self run before items after : List A) (count left part : ℕ) → self ≡ drop (count - left) all → self ≡ run ++ drop (length run) self
    → items ≡ before ++ take (count - left) all → after ≡ items ++ take part run → part ≤ length run → part ≤ left → left ≤ count → after ≡ before ++ take (count - (left - part)) all
copied-more all self run before items after count left part self_is front items_are after_is short le most =
    let done : count - (left - part) ≡ (count - left) + part = omega (arith, le, most) in
    after_is
    ∙ ap (λ l. l ++ take part run) items_are
    ∙ append_assoc before (take (count - left) all) (take part run)
    ∙ ap (λ l. before ++ (take (count - left) all ++ l)) (sym (ap (take part) (sym self_is ∙ front) ∙ take-append-le part run (drop (length run) self) short))
    ∙ ap (λ l. before ++ l) (sym (take-add (count - left) part all))
    ∙ ap (λ n. before ++ take n all) (sym done)

pub skipped-more : {A : Type 0} (all self after : List A) (count left part : ℕ) → self ≡ drop (count - left) all → after ≡ drop part self → part ≤ left → left ≤ count
    → after ≡ drop (count - (left - part)) all
skipped-more all self after count left part self_is after_is le most =
    let done : (count - left) + part ≡ count - (left - part) = omega (arith, le, most) in
    after_is ∙ ap (drop part) self_is ∙ drop-drop part (count - left) all ∙ ap (λ n. drop n all) done
