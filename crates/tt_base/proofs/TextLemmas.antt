-- Texts that are read run by run.
use Rattle.std.proofs.Common.{◌≡◌, ℕ, ◌+◌, ◌<◌, ◌≤◌, Bool, true, false, ◌&&◌, List, [], ◌∷◌, ◌++◌, length, get_or, take, drop, refl, sym, ap, ap₂, ◌∙◌, arith, append_assoc}
use Rattle.std.specs.Prelude.{not, encode_utf8, encode_utf8_all}
use Rattle.std.specs.Cmp.Lexicographic.{pointwise}
use Rattle.std.proofs.lemmas.List.{append-nil, take_more, take-append-drop, take-append-le, length-take-le}
use Rattle.std.proofs.lemmas.Str.{encodes-append}
use Rattle.paged.specs.Pages.{flat}
use Rattle.paged.proofs.FlatLemmas.{flat-append}

-- the bytes of a character more
pub encoded-more : (chars bytes before : List ℕ) (i ch : ℕ) → i < length chars → ch ≡ get_or chars i ch → bytes ≡ before ++ encode_utf8_all (take i chars)
    → bytes ++ encode_utf8 ch ≡ before ++ encode_utf8_all (take (i + 1) chars)
encoded-more chars bytes before i ch within is so_far =
    ap (λ l. l ++ encode_utf8 ch) so_far
    ∙ append_assoc before (encode_utf8_all (take i chars)) (encode_utf8 ch)
    ∙ ap (λ l. before ++ l) (ap (λ l. encode_utf8_all (take i chars) ++ l) (sym (append-nil (encode_utf8 ch)))
    ∙ sym (encodes-append (take i chars) (ch ∷ []))
    ∙ ap (λ c. encode_utf8_all (take i chars ++ c ∷ [])) is
    ∙ ap encode_utf8_all (sym (take_more chars i ch within)))

-- the bytes of a page more
pub pages-encoded-more : (pages : List (List ℕ)) (bytes page : List ℕ) (i : ℕ) → i < length pages → page ≡ get_or pages i page → bytes ≡ encode_utf8_all (flat (take i pages))
    → bytes ++ encode_utf8_all page ≡ encode_utf8_all (flat (take (i + 1) pages))
pages-encoded-more pages bytes page i within is so_far =
    ap (λ l. l ++ encode_utf8_all page) so_far
    ∙ sym (encodes-append (flat (take i pages)) page)
    ∙ ap encode_utf8_all (ap (λ l. flat (take i pages) ++ l) (sym (append-nil page))
    ∙ sym (flat-append (take i pages) (page ∷ []))
    ∙ ap (λ p. flat (take i pages ++ p ∷ [])) is
    ∙ ap flat (sym (take_more pages i page within)))

-- a run before a list and another of the same length before another
pointwise-append : {A B : Type 0} (E : A → B → Bool) (xs xs' : List A) (ys ys' : List B) → length xs ≡ length ys
    → pointwise E (xs ++ xs') (ys ++ ys') ≡ pointwise E xs ys && pointwise E xs' ys'
pointwise-append E [] xs' [] ys' e = refl
pointwise-append E [] xs' (y ∷ ys) ys' e = absurd (omega (arith, e))
pointwise-append E (x ∷ xs) xs' [] ys' e = absurd (omega (arith, e))
pointwise-append E (x ∷ xs) xs' (y ∷ ys) ys' e =
    ap (λ b. E x y && b) (pointwise-append E xs xs' ys ys' (omega (arith, e))) ∙ and-assoc (E x y) (pointwise E xs ys) (pointwise E xs' ys') where
      and-assoc : (a b c : Bool) → a && (b && c) ≡ (a && b) && c
      and-assoc true b c = refl
      and-assoc false b c = refl

-- two lists are equal where their first runs are and what is behind these
pub pointwise-runs : {A : Type 0} (E : A → A → Bool) (these those run other : List A) (count : ℕ) → these ≡ run ++ drop (length run) these → those ≡ other ++ drop (length other) those
    → count ≤ length run → count ≤ length other → pointwise E these those ≡ pointwise E (take count run) (take count other) && pointwise E (drop count these) (drop count those)
pointwise-runs {A} E these those run other count front other_front fits other_fits =
    ap₂ (pointwise E) (cut these run front fits) (cut those other other_front other_fits)
    ∙ pointwise-append E (take count run) (drop count these) (take count other) (drop count those)
    (length-take-le count run fits ∙ sym (length-take-le count other other_fits)) where
      cut : (xs r : List A) → xs ≡ r ++ drop (length r) xs → count ≤ length r → xs ≡ take count r ++ drop count xs
      cut xs r whole fits =
          sym (take-append-drop count xs) ∙ ap (λ l. l ++ drop count xs) (ap (take count) whole ∙ take-append-le count r (drop (length r) xs) fits)

-- the runs differ, so the lists do
pub false-from_first : (first rest both : Bool) → both ≡ first && rest → true ≡ not first → false ≡ both
false-from_first true rest both is other = absurd (cc)
false-from_first false rest both is other = sym is

-- the runs are equal, so the lists are where what is behind them is
pub rest-from_first : (first rest both : Bool) → both ≡ first && rest → false ≡ not first → rest ≡ both
rest-from_first true rest both is same = sym is
rest-from_first false rest both is same = absurd (cc)
