-- What a scan accepts is a header part.
use Rattle.std.proofs.Common.{◌≡◌, ℕ, ◌≤◌, ◌==◌, List, [], ◌∷◌, length, refl, sym, ◌∙◌, ap, ap₂, subst, inl, inr, eqb-true}
use Rattle.std.proofs.lemmas.Bool.{cases_Bool}
use Rattle.rpc_frame.specs.Header.{Field, lengths}
use Rattle.rpc_frame.specs.Scanning.{place_after, lengths_after, scan_after, scan_over}
use Rattle.rpc_frame.specs.declared.headers.Place.{Place}
use Rattle.rpc_frame.specs.declared.headers.Place.TheVariants.{FirstLine, NextLine, LengthName, OtherName, OtherValue, LengthBefore, LengthDigits, LengthAfter, FieldEnd, PartEnd, Whole, Bad}
use Rattle.rpc_frame.specs.declared.headers.Lengths.{Lengths}
use Rattle.rpc_frame.specs.declared.headers.Lengths.TheVariants.{NoneYet}
use Rattle.rpc_frame.specs.declared.headers.Scan.{Scan}
use Rattle.rpc_frame.specs.Header.{IsHeader}
use Rattle.rpc_frame.specs.Scanning.{start}
use Rattle.rpc_frame.proofs.Rest.{IsLines, with_all, Rest, LengthBefore-back, LengthDigits-back, LengthAfter-back, OtherValue-back}
use Rattle.rpc_frame.proofs.Names.{FirstLine-back, NextLine-back, LengthName-back, OtherName-back}

-- one byte was read
pub Rest-back : (p : Place) (l : Lengths) (b : ℕ) (bytes numbers : List ℕ) → Rest (place_after p b) bytes numbers
    → (given : List ℕ) × Rest p (b ∷ bytes) given × (with_all (lengths_after p l b) numbers ≡ with_all l given)
Rest-back FirstLine l b bytes numbers r = (numbers, FirstLine-back b bytes numbers r, refl)
Rest-back NextLine l b bytes numbers r = (numbers, NextLine-back b bytes numbers r, refl)
Rest-back (LengthName matched) l b bytes numbers r = (numbers, LengthName-back matched b bytes numbers r, refl)
Rest-back OtherName l b bytes numbers r = (numbers, OtherName-back b bytes numbers r, refl)
Rest-back OtherValue l b bytes numbers r = (numbers, OtherValue-back b bytes numbers r, refl)
Rest-back LengthBefore l b bytes numbers r = (numbers, LengthBefore-back l b bytes numbers r, refl)
Rest-back (LengthDigits n) l b bytes numbers r = LengthDigits-back n l b bytes numbers r
Rest-back (LengthAfter n) l b bytes numbers r = LengthAfter-back n l b bytes numbers r
Rest-back FieldEnd l b bytes numbers r = elim (cases_Bool (b == 10)) [
  | inl feed ↦
      let lines : IsLines bytes numbers = rw feed at r in
      (numbers, (bytes, ap (λ x. x ∷ bytes) (eqb-true b 10 feed), lines), refl)
  | inr other ↦ absurd (rw other at r)
]
Rest-back PartEnd l b bytes numbers r = elim (cases_Bool (b == 10)) [
  | inl feed ↦
      let end : (bytes ≡ []) × (numbers ≡ []) = rw feed at r in
      (numbers, (ap₂ (λ x xs. x ∷ xs) (eqb-true b 10 feed) end.0, end.1), refl)
  | inr other ↦ absurd (rw other at r)
]
Rest-back Whole l b bytes numbers r = absurd r
Rest-back Bad l b bytes numbers r = absurd r

-- what a scan has read to the end of a header part is what may follow at its place
pub scan_over-sound : (bytes : List ℕ) (s : Scan) → (scan_over s bytes).place ≡ Whole → (numbers : List ℕ) × Rest s.place bytes numbers × ((scan_over s bytes).lengths ≡ with_all s.lengths numbers)
scan_over-sound [] s e = ([], subst (λ p. Rest p [] []) (sym e) (refl, refl), refl)
scan_over-sound (b ∷ bytes) s e =
    let later = scan_over-sound bytes (scan_after s b) e in
    let now = Rest-back s.place s.lengths b bytes later.0 later.1 in
    (now.0, now.1, later.2 ∙ now.2)

-- a scan from the beginning accepts header parts alone
pub header_accepted : (bytes : List ℕ) → (scan_over start bytes).place ≡ Whole → length bytes ≤ 8192
    → (fields : List Field) × IsHeader fields bytes × ((scan_over start bytes).lengths ≡ with_all NoneYet (lengths fields))
header_accepted bytes e short =
    let read = scan_over-sound bytes start e in
    let lines = read.1.0 in
    (lines.fields, record { some_field = read.1.1; each = lines.each; whole = lines.whole; short = short }, read.2 ∙ ap (with_all NoneYet) lines.given)
