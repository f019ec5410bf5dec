-- A header part is accepted by a scan.
use Rattle.std.proofs.Common.{◌≡◌, ℕ, ◌+◌, ◌-◌, ◌^◌, ◌<◌, ◌==◌, ◌&&◌, Bool, true, false, cond, nat_lt, List, [], ◌∷◌, ◌++◌, length, min, refl, sym, ◌∙◌, ap, inl, inr, arith}
use Rattle.std.specs.Prelude.{filter, All}
use Rattle.std.specs.Char.{is_ascii_digit, to_ascii_lowercase}
use Rattle.std.specs.List.{list_all, flat_map}
use Rattle.std.specs.Str.Parse.{digits_value}
use Rattle.std.proofs.lemmas.Bool.{cases_Bool}
use Rattle.rpc_frame.specs.Header.{Field, IsField, IsLengthText, is_name_byte, is_value_byte, is_blank, gives_length, field_bytes, header_bytes, lengths}
use Rattle.rpc_frame.specs.Scanning.{length_name, name_place, with_digit, place_after, with_length, scan_after, scan_over}
use Rattle.rpc_frame.specs.declared.headers.Place.{Place}
use Rattle.rpc_frame.specs.declared.headers.Place.TheVariants.{FirstLine, NextLine, LengthName, OtherName, OtherValue, LengthBefore, LengthDigits, LengthAfter, PartEnd, Whole}
use Rattle.rpc_frame.specs.declared.headers.Lengths.{Lengths}
use Rattle.rpc_frame.specs.declared.headers.Lengths.TheVariants.{NoneYet}
use Rattle.rpc_frame.proofs.ByteTests.{blank_is_no_digit, value_byte_is_no_return, digit_is_value_byte, blank_is_value_byte}
use Rattle.rpc_frame.specs.Header.{IsHeader}
use Rattle.rpc_frame.specs.Scanning.{start}
use Rattle.std.proofs.Common.{append_assoc, get_or, ◌⊎◌}
use Rattle.std.proofs.lemmas.List.Elements.{filter-append, All-head, All-tail}
use Rattle.rpc_frame.proofs.ByteTests.{name_byte_is_no_colon, name_byte_is_no_return, value_byte_is_no_feed, digit_is_no_blank}
use Rattle.rpc_frame.proofs.Rest.{digits_number, digits_number-digits, filter-blanks, with_digits, numbers_with, with_all, is_name_rest}
use Rattle.rpc_frame.proofs.Names.{lengths-cons, LengthName-more, OtherName-more, name_goes_on, name_differs, name_is_cut, name_is_whole}

-- a name that is not `Content-Length`, to its colon
other_name : (name rest : List ℕ) (l : Lengths) → list_all is_name_byte name ≡ true
    → scan_over (record { place = OtherName; lengths = l }) (name ++ (58 ∷ rest)) ≡ scan_over (record { place = OtherValue; lengths = l }) rest
other_name [] rest l h = refl
other_name (b ∷ name) rest l h = elim (cases_Bool (is_name_byte b)) [
  | inl named ↦ ap (λ p. scan_over (record { place = p; lengths = l }) (name ++ (58 ∷ rest))) (OtherName-more b true (name_byte_is_no_colon b named) named) ∙ other_name name rest l (rw named at h)
  | inr none ↦ let never : false ≡ true = rw none at h in cc
]

-- where a name's colon leads
abbrev value_place : Bool → Place
value_place true = LengthBefore
value_place false = OtherValue

name_place-named : (matched b : ℕ) → is_name_byte b ≡ true
    → name_place matched b ≡ cond (nat_lt matched 14 && (to_ascii_lowercase b == get_or length_name matched 0)) (LengthName (matched + 1)) OtherName
name_place-named matched b named = rw named refl

-- a name to its colon
length_name-read : (name rest : List ℕ) (matched : ℕ) (l : Lengths) → list_all is_name_byte name ≡ true
    → scan_over (record { place = LengthName matched; lengths = l }) (name ++ (58 ∷ rest)) ≡ scan_over (record { place = value_place (is_name_rest matched name); lengths = l }) rest
length_name-read [] rest matched l h = elim (cases_Bool (nat_lt matched 14)) [
  | inl cut ↦ ap (λ t. scan_over (record { place = cond t OtherValue LengthBefore; lengths = l }) rest) cut
      ∙ ap (λ t. scan_over (record { place = value_place t; lengths = l }) rest) (sym (name_is_cut matched cut))
  | inr whole ↦ ap (λ t. scan_over (record { place = cond t OtherValue LengthBefore; lengths = l }) rest) whole
      ∙ ap (λ t. scan_over (record { place = value_place t; lengths = l }) rest) (sym (name_is_whole matched whole))
]
length_name-read (b ∷ name) rest matched l h = elim (cases_Bool (is_name_byte b)) [
  | inr none ↦ let never : false ≡ true = rw none at h in cc
  | inl named ↦
      let place = LengthName-more matched b (name_byte_is_no_colon b named) ∙ name_place-named matched b named in
      let read = λ (p : Place). scan_over (record { place = p; lengths = l }) (name ++ (58 ∷ rest)) in
      elim (cases_Bool (nat_lt matched 14 && (to_ascii_lowercase b == get_or length_name matched 0))) [
        | inl same ↦ ap read (place ∙ ap (λ t. cond t (LengthName (matched + 1)) OtherName) same)
            ∙ (length_name-read name rest (matched + 1) l (rw named at h) ∙ ap (λ t. scan_over (record { place = value_place t; lengths = l }) rest) (sym (name_goes_on matched b name same)))
        | inr other ↦ ap read (place ∙ ap (λ t. cond t (LengthName (matched + 1)) OtherName) other)
            ∙ (other_name name rest l (rw named at h) ∙ ap (λ t. scan_over (record { place = value_place t; lengths = l }) rest) (sym (name_differs matched b name other)))
      ]
]

-- a value that gives no length, to the line's end
other_value : (value rest : List ℕ) (l : Lengths) → list_all is_value_byte value ≡ true
    → scan_over (record { place = OtherValue; lengths = l }) (value ++ (13 ∷ 10 ∷ rest)) ≡ scan_over (record { place = NextLine; lengths = l }) rest
other_value [] rest l h = refl
other_value (b ∷ value) rest l h = elim (cases_Bool (is_value_byte b)) [
  | inl plain ↦ ap (λ p. scan_over (record { place = p; lengths = l }) (value ++ (13 ∷ 10 ∷ rest))) (rw (value_byte_is_no_return b plain, value_byte_is_no_feed b plain) refl)
      ∙ other_value value rest l (rw plain at h)
  | inr none ↦ let never : false ≡ true = rw none at h in cc
]

-- blanks before a length
blanks_before : (blanks rest : List ℕ) (l : Lengths) → list_all is_blank blanks ≡ true
    → scan_over (record { place = LengthBefore; lengths = l }) (blanks ++ rest) ≡ scan_over (record { place = LengthBefore; lengths = l }) rest
blanks_before [] rest l h = refl
blanks_before (b ∷ blanks) rest l h = elim (cases_Bool (is_blank b)) [
  | inl blank ↦ ap (λ p. scan_over (record { place = p; lengths = l }) (blanks ++ rest)) (rw blank refl) ∙ blanks_before blanks rest l (rw blank at h)
  | inr none ↦ let never : false ≡ true = rw none at h in cc
]

-- the digits of a length
digits_read : (digits rest : List ℕ) (n : ℕ) (l : Lengths) → list_all is_ascii_digit digits ≡ true
    → scan_over (record { place = LengthDigits n; lengths = l }) (digits ++ rest) ≡ scan_over (record { place = LengthDigits (with_digits n digits); lengths = l }) rest
digits_read [] rest n l h = refl
digits_read (b ∷ digits) rest n l h = elim (cases_Bool (is_ascii_digit b)) [
  | inl digit ↦
      let same : scan_after (record { place = LengthDigits n; lengths = l }) b ≡ record { place = LengthDigits (with_digit n b); lengths = l } =
      rw (digit, value_byte_is_no_return b (digit_is_value_byte b digit)) refl in
      ap (λ s. scan_over s (digits ++ rest)) same ∙ digits_read digits rest (with_digit n b) l (rw digit at h)
  | inr none ↦ let never : false ≡ true = rw none at h in cc
]

-- blanks behind a length, to the line's end
blanks_behind : (blanks rest : List ℕ) (n : ℕ) (l : Lengths) → list_all is_blank blanks ≡ true
    → scan_over (record { place = LengthAfter n; lengths = l }) (blanks ++ (13 ∷ 10 ∷ rest)) ≡ scan_over (record { place = NextLine; lengths = with_length l n }) rest
blanks_behind [] rest n l h = refl
blanks_behind (b ∷ blanks) rest n l h = elim (cases_Bool (is_blank b)) [
  | inl blank ↦
      let same : scan_after (record { place = LengthAfter n; lengths = l }) b ≡ record { place = LengthAfter n; lengths = l } =
      rw (blank, value_byte_is_no_return b (blank_is_value_byte b blank)) refl in
      ap (λ s. scan_over s (blanks ++ (13 ∷ 10 ∷ rest))) same ∙ blanks_behind blanks rest n l (rw blank at h)
  | inr none ↦ let never : false ≡ true = rw none at h in cc
]

-- a length, to the line's end
length_ended : (blanks rest : List ℕ) (n : ℕ) (l : Lengths) → list_all is_blank blanks ≡ true
    → scan_over (record { place = LengthDigits n; lengths = l }) (blanks ++ (13 ∷ 10 ∷ rest)) ≡ scan_over (record { place = NextLine; lengths = with_length l n }) rest
length_ended [] rest n l h = refl
length_ended (b ∷ blanks) rest n l h = elim (cases_Bool (is_blank b)) [
  | inl blank ↦
      let same : scan_after (record { place = LengthDigits n; lengths = l }) b ≡ record { place = LengthAfter n; lengths = l } =
      rw (blank_is_no_digit b blank, blank, value_byte_is_no_return b (blank_is_value_byte b blank)) refl in
      ap (λ s. scan_over s (blanks ++ (13 ∷ 10 ∷ rest))) same ∙ blanks_behind blanks rest n l (rw blank at h)
  | inr none ↦ let never : false ≡ true = rw none at h in cc
]

-- the first digit begins the number
first_digit : (digits rest : List ℕ) (l : Lengths) → 0 < length digits → list_all is_ascii_digit digits ≡ true
    → scan_over (record { place = LengthBefore; lengths = l }) (digits ++ rest) ≡ scan_over (record { place = LengthDigits (with_digits 0 digits); lengths = l }) rest
first_digit [] rest l some h = absurd (omega (arith, some))
first_digit (b ∷ digits) rest l some h = elim (cases_Bool (is_ascii_digit b)) [
  | inl digit ↦
      let same : place_after LengthBefore b ≡ LengthDigits (with_digit 0 b) = rw (digit_is_no_blank b digit, digit) refl in
      ap (λ p. scan_over (record { place = p; lengths = l }) (digits ++ rest)) same ∙ digits_read digits rest (with_digit 0 b) l (rw digit at h)
  | inr none ↦ let never : false ≡ true = rw none at h in cc
]

-- the number of a value that gives a length
pub digits_number-parts : (value : List ℕ) (t : IsLengthText value) → digits_number value ≡ with_digits 0 t.digits
digits_number-parts value t =
    let parts = filter-append is_ascii_digit t.before (t.digits ++ t.after) in
    let no_blanks = ap (λ ds. ds ++ filter is_ascii_digit (t.digits ++ t.after)) (filter-blanks t.before t.blank_before) in
    ap digits_number t.whole
    ∙ (ap (λ ds. min (digits_value 10 ds) (2 ^ 64 - 1)) (parts ∙ no_blanks) ∙ digits_number-digits t.digits t.after t.decimal t.blank_after)

-- a value that gives a length, to the line's end
length_value : (value rest : List ℕ) (l : Lengths) → IsLengthText value
    → scan_over (record { place = LengthBefore; lengths = l }) (value ++ (13 ∷ 10 ∷ rest)) ≡ scan_over (record { place = NextLine; lengths = with_length l (digits_number value) }) rest
length_value value rest l t =
    let text = 13 ∷ 10 ∷ rest in
    let parts : value ++ text ≡ t.before ++ (t.digits ++ (t.after ++ text)) = ap (λ v. v ++ text) t.whole ∙ simp append_assoc in
    let number : with_digits 0 t.digits ≡ digits_number value = sym (digits_number-parts value t) in
    ap (scan_over (record { place = LengthBefore; lengths = l })) parts
    ∙ (blanks_before t.before (t.digits ++ (t.after ++ text)) l t.blank_before
    ∙ (first_digit t.digits (t.after ++ text) l t.some_digit t.decimal
    ∙ (length_ended t.after rest (with_digits 0 t.digits) l t.blank_after
    ∙ ap (λ n. scan_over (record { place = NextLine; lengths = with_length l n }) rest) number)))

-- the field's colon, its value and its line's end
value_read : (is_length : Bool) (value rest : List ℕ) (l : Lengths) → list_all is_value_byte value ≡ true → (is_length ≡ true → IsLengthText value)
    → scan_over (record { place = value_place is_length; lengths = l }) (value ++ (13 ∷ 10 ∷ rest))
    ≡ scan_over (record { place = NextLine; lengths = with_all l (numbers_with is_length value []) }) rest
value_read true value rest l plain text = length_value value rest l (text refl)
value_read false value rest l plain text = other_value value rest l plain

-- a name's first byte, at the beginning of a line
line_begins : (p : Place) (b : ℕ) (bytes : List ℕ) (l : Lengths) → (p ≡ FirstLine) ⊎ (p ≡ NextLine) → is_name_byte b ≡ true
    → scan_over (record { place = p; lengths = l }) (b ∷ bytes) ≡ scan_over (record { place = LengthName 0; lengths = l }) (b ∷ bytes)
line_begins p b bytes l (inl first) named =
    rw first (ap (λ q. scan_over (record { place = q; lengths = l }) bytes) (sym (LengthName-more 0 b (name_byte_is_no_colon b named))))
line_begins p b bytes l (inr next) named =
    rw next (ap (λ q. scan_over (record { place = q; lengths = l }) bytes) (ap (λ t. cond t PartEnd (name_place 0 b)) (name_byte_is_no_return b named)
    ∙ sym (LengthName-more 0 b (name_byte_is_no_colon b named))))

-- a name, from the beginning of a line to its colon
name_read : (p : Place) (name rest : List ℕ) (l : Lengths) → (p ≡ FirstLine) ⊎ (p ≡ NextLine) → 0 < length name → list_all is_name_byte name ≡ true
    → scan_over (record { place = p; lengths = l }) (name ++ (58 ∷ rest)) ≡ scan_over (record { place = value_place (is_name_rest 0 name); lengths = l }) rest
name_read p [] rest l at_line some h = absurd (omega (arith, some))
name_read p (b ∷ name) rest l at_line some h = elim (cases_Bool (is_name_byte b)) [
  | inl named ↦ line_begins p b (name ++ (58 ∷ rest)) l at_line named ∙ length_name-read (b ∷ name) rest 0 l h
  | inr none ↦ let never : false ≡ true = rw none at h in cc
]

-- a field is read
field_read : (p : Place) (field : Field) (rest : List ℕ) (l : Lengths) → (p ≡ FirstLine) ⊎ (p ≡ NextLine) → IsField field
    → scan_over (record { place = p; lengths = l }) (field_bytes field ++ rest) ≡ scan_over (record { place = NextLine; lengths = with_all l (numbers_with (gives_length field) field.value []) }) rest
field_read p field rest l at_line f =
    let parts : field_bytes field ++ rest ≡ field.name ++ (58 ∷ (field.value ++ (13 ∷ 10 ∷ rest))) = simp append_assoc in
    ap (scan_over (record { place = p; lengths = l })) parts
    ∙ (name_read p field.name (field.value ++ (13 ∷ 10 ∷ rest)) l at_line f.some_name f.name
    ∙ value_read (gives_length field) field.value rest l f.value f.length_text)

-- lengths added one after another
with_all-numbers : (is_length : Bool) (value others : List ℕ) (l : Lengths) → with_all (with_all l (numbers_with is_length value [])) others ≡ with_all l (numbers_with is_length value others)
with_all-numbers true value others l = refl
with_all-numbers false value others l = refl

-- a field and then lines
line_read : (p : Place) (field : Field) (fields : List Field) (l : Lengths) → (p ≡ FirstLine) ⊎ (p ≡ NextLine) → IsField field
    → scan_over (record { place = p; lengths = l }) (header_bytes (field ∷ fields))
    ≡ scan_over (record { place = NextLine; lengths = with_all l (numbers_with (gives_length field) field.value []) }) (header_bytes fields)
line_read p field fields l at_line f =
    ap (scan_over (record { place = p; lengths = l })) (append_assoc (field_bytes field) (flat_map field_bytes fields) (13 ∷ 10 ∷ [])) ∙ field_read p field (header_bytes fields) l at_line f

-- fields and the empty line are read
lines_read : (fields : List Field) (l : Lengths) → All IsField fields
    → scan_over (record { place = NextLine; lengths = l }) (header_bytes fields) ≡ record { place = Whole; lengths = with_all l (lengths fields) }
lines_read [] l each = refl
lines_read (field ∷ fields) l each =
    line_read NextLine field fields l (inr refl) (All-head IsField field fields each)
    ∙ (lines_read fields (with_all l (numbers_with (gives_length field) field.value [])) (All-tail IsField field fields each)
    ∙ ap (λ m. record { place = Whole; lengths = m }) (with_all-numbers (gives_length field) field.value (lengths fields) l ∙ ap (with_all l) (sym (lengths-cons field fields))))

-- one or more fields and the empty line are read
header_bytes_read : (fields : List Field) → 0 < length fields → All IsField fields → scan_over start (header_bytes fields) ≡ record { place = Whole; lengths = with_all NoneYet (lengths fields) }
header_bytes_read [] some each = absurd (omega (arith, some))
header_bytes_read (field ∷ fields) some each =
    line_read FirstLine field fields NoneYet (inl refl) (All-head IsField field fields each)
    ∙ (lines_read fields (with_all NoneYet (numbers_with (gives_length field) field.value [])) (All-tail IsField field fields each)
    ∙ ap (λ m. record { place = Whole; lengths = m }) (with_all-numbers (gives_length field) field.value (lengths fields) NoneYet ∙ ap (with_all NoneYet) (sym (lengths-cons field fields))))

-- a header part is accepted
pub header_read : (fields : List Field) (bytes : List ℕ) → IsHeader fields bytes → scan_over start bytes ≡ record { place = Whole; lengths = with_all NoneYet (lengths fields) }
header_read fields bytes h = ap (scan_over start) h.whole ∙ header_bytes_read fields h.some_field h.each
