-- Which bytes a header part begins with: the scan's place and the number of bytes decide it.
use Rattle.std.proofs.Common.{◌≡◌, ℕ, ◌+◌, ◌<◌, ◌≤◌, ◌==◌, ◌&&◌, Bool, true, false, cond, nat_lt, List, [], ◌∷◌, ◌++◌, length, refl, sym, ◌∙◌, ap, subst, inl, inr, arith}
use Rattle.std.specs.Char.{is_ascii_digit, to_ascii_lowercase}
use Rattle.std.proofs.lemmas.Bool.{cases_Bool}
use Rattle.rpc_frame.specs.Header.{Field, is_name_byte, is_blank}
use Rattle.rpc_frame.specs.Scanning.{length_name, name_place, place_after, lengths_after, scan_after, scan_over}
use Rattle.rpc_frame.specs.declared.headers.Place.{Place}
use Rattle.rpc_frame.specs.declared.headers.Place.TheVariants.{FirstLine, NextLine, LengthName, OtherName, OtherValue, LengthBefore, LengthDigits, LengthAfter, FieldEnd, PartEnd, Whole, Bad}
use Rattle.rpc_frame.specs.declared.headers.Lengths.{Lengths}
use Rattle.rpc_frame.specs.declared.headers.Scan.{Scan}
use Rattle.rpc_frame.specs.Header.{IsHeader}
use Rattle.rpc_frame.specs.Scanning.{start, missing}
use Rattle.rpc_frame.specs.Stream.{IsHeaderBegun}
use Rattle.std.proofs.Common.{length-append, get_or, lit≤}
use Rattle.rpc_frame.proofs.Names.{LengthName-more, OtherName-more}
use Rattle.rpc_frame.proofs.Sound.{header_accepted}
use Rattle.rpc_frame.proofs.Complete.{header_read}

-- one scan after another
pub scan_over-append : (s : Scan) (xs ys : List ℕ) → scan_over s (xs ++ ys) ≡ scan_over (scan_over s xs) ys
scan_over-append s [] ys = refl
scan_over-append s (x ∷ xs) ys = scan_over-append (scan_after s x) xs ys

-- where no header part goes on, none goes on later
bad_stays : (bytes : List ℕ) (l : Lengths) → (scan_over (record { place = Bad; lengths = l }) bytes).place ≡ Bad
bad_stays [] l = refl
bad_stays (b ∷ bytes) l = bad_stays bytes l

-- behind a header part nothing goes on
pub whole_ends : (s : Scan) (bytes : List ℕ) → s.place ≡ Whole → (scan_over s bytes).place ≡ Whole → bytes ≡ []
whole_ends s [] e h = refl
whole_ends s (b ∷ bytes) e h =
    let bad : scan_after s b ≡ record { place = Bad; lengths = s.lengths } = ap (λ p. record { place = place_after p b; lengths = lengths_after p s.lengths b }) e in
    let stays : (scan_over (scan_after s b) bytes).place ≡ Bad = ap (λ t. (scan_over t bytes).place) bad ∙ bad_stays bytes s.lengths in
    let never : Whole ≡ Bad = sym h ∙ stays in
    cc

-- a byte makes at most one byte less missing
missing-name : (matched b : ℕ) → 5 ≤ missing (name_place matched b)
missing-name matched b = elim (cases_Bool (is_name_byte b)) [
  | inr none ↦ rw none (lit≤ tt)
  | inl named ↦ elim (cases_Bool (nat_lt matched 14 && (to_ascii_lowercase b == get_or length_name matched 0))) [
    | inr other ↦ rw (named, other) (lit≤ tt)
    | inl same ↦ rw (named, same) (elim (cases_Bool (nat_lt (matched + 1) 14)) [ inl short ↦ rw short (lit≤ tt) | inr whole ↦ rw whole (lit≤ tt) ])
  ]
]

missing-length_name : (matched : ℕ) → missing (LengthName matched) ≤ 6
missing-length_name matched = elim (cases_Bool (nat_lt matched 14)) [ inl cut ↦ rw cut (lit≤ tt) | inr whole ↦ rw whole (lit≤ tt) ]

pub missing-after : (p : Place) (b : ℕ) → missing p ≤ missing (place_after p b) + 1
missing-after FirstLine b = omega (arith, missing-name 0 b)
missing-after NextLine b = elim (cases_Bool (b == 13)) [
  | inl end ↦ subst (λ q. 2 ≤ missing q + 1) (sym (ap (λ t. cond t PartEnd (name_place 0 b)) end)) (lit≤ tt)
  | inr more ↦ subst (λ q. 2 ≤ missing q + 1) (sym (ap (λ t. cond t PartEnd (name_place 0 b)) more)) (omega (arith, missing-name 0 b))
]
missing-after (LengthName matched) b = elim (cases_Bool (b == 58)) [
  | inl colon ↦ elim (cases_Bool (nat_lt matched 14)) [
    | inl cut ↦ rw (colon, cut) (lit≤ tt)
    | inr whole ↦ rw (colon, whole) (lit≤ tt)
  ]
  | inr more ↦
      let least : 5 ≤ missing (place_after (LengthName matched) b) = subst (λ q. 5 ≤ missing q) (sym (LengthName-more matched b more)) (missing-name matched b) in
      omega (arith, least, missing-length_name matched)
]
missing-after OtherName b = elim (cases_Bool (b == 58)) [
  | inl colon ↦ rw colon (lit≤ tt)
  | inr more ↦ elim (cases_Bool (is_name_byte b)) [
    | inl named ↦ subst (λ q. 5 ≤ missing q + 1) (sym (OtherName-more b true more named)) (lit≤ tt)
    | inr none ↦ subst (λ q. 5 ≤ missing q + 1) (sym (OtherName-more b false more none)) (lit≤ tt)
  ]
]
missing-after OtherValue b = elim (cases_Bool (b == 13)) [
  | inl end ↦ rw end (lit≤ tt)
  | inr more ↦ elim (cases_Bool (b == 10)) [ inl feed ↦ rw (more, feed) (lit≤ tt) | inr other ↦ rw (more, other) (lit≤ tt) ]
]
missing-after LengthBefore b = elim (cases_Bool (is_blank b)) [
  | inl blank ↦ rw blank (lit≤ tt)
  | inr more ↦ elim (cases_Bool (is_ascii_digit b)) [ inl digit ↦ rw (more, digit) (lit≤ tt) | inr other ↦ rw (more, other) (lit≤ tt) ]
]
missing-after (LengthDigits n) b = elim (cases_Bool (is_ascii_digit b)) [
  | inl digit ↦ rw digit (lit≤ tt)
  | inr more ↦ elim (cases_Bool (is_blank b)) [
    | inl blank ↦ rw (more, blank) (lit≤ tt)
    | inr other ↦ elim (cases_Bool (b == 13)) [ inl end ↦ rw (more, other, end) (lit≤ tt) | inr none ↦ rw (more, other, none) (lit≤ tt) ]
  ]
]
missing-after (LengthAfter n) b = elim (cases_Bool (is_blank b)) [
  | inl blank ↦ rw blank (lit≤ tt)
  | inr more ↦ elim (cases_Bool (b == 13)) [ inl end ↦ rw (more, end) (lit≤ tt) | inr none ↦ rw (more, none) (lit≤ tt) ]
]
missing-after FieldEnd b = elim (cases_Bool (b == 10)) [ inl feed ↦ rw feed (lit≤ tt) | inr none ↦ rw none (lit≤ tt) ]
missing-after PartEnd b = elim (cases_Bool (b == 10)) [ inl feed ↦ rw feed (lit≤ tt) | inr none ↦ rw none (lit≤ tt) ]
missing-after Whole b = omega arith
missing-after Bad b = omega arith

pub missing-over : (bytes : List ℕ) (s : Scan) → missing s.place ≤ missing (scan_over s bytes).place + length bytes
missing-over [] s = omega arith
missing-over (b ∷ bytes) s = omega (arith, missing-over bytes (scan_after s b), missing-after s.place b)

-- the shortest bytes that end a header part
abbrev pub shortest : Place → List ℕ
shortest FirstLine = 97 ∷ 58 ∷ 13 ∷ 10 ∷ 13 ∷ 10 ∷ []
shortest NextLine = 13 ∷ 10 ∷ []
shortest (LengthName matched) = cond (nat_lt matched 14) (58 ∷ 13 ∷ 10 ∷ 13 ∷ 10 ∷ []) (58 ∷ 48 ∷ 13 ∷ 10 ∷ 13 ∷ 10 ∷ [])
shortest OtherName = 58 ∷ 13 ∷ 10 ∷ 13 ∷ 10 ∷ []
shortest OtherValue = 13 ∷ 10 ∷ 13 ∷ 10 ∷ []
shortest LengthBefore = 48 ∷ 13 ∷ 10 ∷ 13 ∷ 10 ∷ []
shortest (LengthDigits n) = 13 ∷ 10 ∷ 13 ∷ 10 ∷ []
shortest (LengthAfter n) = 13 ∷ 10 ∷ 13 ∷ 10 ∷ []
shortest FieldEnd = 10 ∷ 13 ∷ 10 ∷ []
shortest PartEnd = 10 ∷ []
shortest Whole = []
shortest Bad = []

name_ends : (matched : ℕ) (l : Lengths) (cut : Bool) → nat_lt matched 14 ≡ cut → (scan_over (record { place = LengthName matched; lengths = l }) (shortest (LengthName matched))).place ≡ Whole
name_ends matched l true e =
    ap (λ t. (scan_over (record { place = LengthName matched; lengths = l }) (cond t (58 ∷ 13 ∷ 10 ∷ 13 ∷ 10 ∷ []) (58 ∷ 48 ∷ 13 ∷ 10 ∷ 13 ∷ 10 ∷ []))).place) e
    ∙ ap (λ t. (scan_over (record { place = cond t OtherValue LengthBefore; lengths = l }) (13 ∷ 10 ∷ 13 ∷ 10 ∷ [])).place) e
name_ends matched l false e =
    ap (λ t. (scan_over (record { place = LengthName matched; lengths = l }) (cond t (58 ∷ 13 ∷ 10 ∷ 13 ∷ 10 ∷ []) (58 ∷ 48 ∷ 13 ∷ 10 ∷ 13 ∷ 10 ∷ []))).place) e
    ∙ ap (λ t. (scan_over (record { place = cond t OtherValue LengthBefore; lengths = l }) (48 ∷ 13 ∷ 10 ∷ 13 ∷ 10 ∷ [])).place) e

-- they end it
shortest-ends : (p : Place) (l : Lengths) → missing p ≤ 8192 → (scan_over (record { place = p; lengths = l }) (shortest p)).place ≡ Whole
shortest-ends FirstLine l h = refl
shortest-ends NextLine l h = refl
shortest-ends (LengthName matched) l h = elim (cases_Bool (nat_lt matched 14)) [
  | inl cut ↦ name_ends matched l true cut
  | inr whole ↦ name_ends matched l false whole
]
shortest-ends OtherName l h = refl
shortest-ends OtherValue l h = refl
shortest-ends LengthBefore l h = refl
shortest-ends (LengthDigits n) l h = refl
shortest-ends (LengthAfter n) l h = refl
shortest-ends FieldEnd l h = refl
shortest-ends PartEnd l h = refl
shortest-ends Whole l h = refl
shortest-ends Bad l h = absurd (omega (arith, h))

length-shortest : (p : Place) → missing p ≤ 8192 → length (shortest p) ≡ missing p
length-shortest FirstLine h = refl
length-shortest NextLine h = refl
length-shortest (LengthName matched) h = elim (cases_Bool (nat_lt matched 14)) [ inl cut ↦ rw cut refl | inr whole ↦ rw whole refl ]
length-shortest OtherName h = refl
length-shortest OtherValue h = refl
length-shortest LengthBefore h = refl
length-shortest (LengthDigits n) h = refl
length-shortest (LengthAfter n) h = refl
length-shortest FieldEnd h = refl
length-shortest PartEnd h = refl
length-shortest Whole h = refl
length-shortest Bad h = absurd (omega (arith, h))

-- some header part begins with bytes after which few enough are missing
pub header_from : (bytes : List ℕ) → length bytes + missing (scan_over start bytes).place ≤ 8192 → (fields : List Field) × IsHeader fields (bytes ++ shortest (scan_over start bytes).place)
header_from bytes few =
    let s = scan_over start bytes in
    let more = shortest s.place in
    let open_place : missing s.place ≤ 8192 = omega (arith, few) in
    let ends : (scan_over start (bytes ++ more)).place ≡ Whole = ap (λ (t : Scan). t.place) (scan_over-append start bytes more) ∙ shortest-ends s.place s.lengths open_place in
    let short : length (bytes ++ more) ≤ 8192 = omega (arith, few, length-append bytes more, length-shortest s.place open_place) in
    let accepted = header_accepted (bytes ++ more) ends short in
    (accepted.0, accepted.1)

-- and after no others
pub header_to : (fields : List Field) (bytes more : List ℕ) → IsHeader fields (bytes ++ more) → length bytes + missing (scan_over start bytes).place ≤ 8192
header_to fields bytes more h =
    let read = header_read fields (bytes ++ more) h in
    let ends : (scan_over (scan_over start bytes) more).place ≡ Whole = ap (λ (t : Scan). t.place) (sym (scan_over-append start bytes more) ∙ read) in
    let few : missing (scan_over start bytes).place ≤ length more = omega (arith, missing-over more (scan_over start bytes), ap missing ends) in
    omega (arith, few, h.short, length-append bytes more)

-- behind a whole header part the bytes are no header part's
pub header_is_whole : (fields others : List Field) (bytes more : List ℕ) → IsHeader fields bytes → IsHeader others (bytes ++ more) → more ≡ []
header_is_whole fields others bytes more h k =
    let first : (scan_over start bytes).place ≡ Whole = ap (λ (t : Scan). t.place) (header_read fields bytes h) in
    let second : (scan_over (scan_over start bytes) more).place ≡ Whole = ap (λ (t : Scan). t.place) (sym (scan_over-append start bytes more) ∙ header_read others (bytes ++ more) k) in
    whole_ends (scan_over start bytes) more first second

-- a header part goes on after bytes where some are missing, but few enough
pub begun_from : (bytes : List ℕ) → 0 < missing (scan_over start bytes).place → length bytes + missing (scan_over start bytes).place ≤ 8192 → IsHeaderBegun bytes
begun_from bytes some few =
    let h = header_from bytes few in
    record {
      fields = h.0;
      more = shortest (scan_over start bytes).place;
      goes_on = omega (arith, some, length-shortest (scan_over start bytes).place (omega (arith, few)));
      header = h.1;
    }
