-- What may follow at each place of a header part, up to its end, and the lengths that it gives: the reading of one
-- byte takes the byte away in front.
use Rattle.std.proofs.Common.{◌≡◌, ℕ, ◌+◌, ◌-◌, ◌*◌, ◌^◌, ◌<◌, ◌==◌, Bool, true, false, List, [], ◌∷◌, ◌++◌, length, drop, min, refl, sym, ◌∙◌, ap, ap₂, inl, inr, arith, eqb-true}
use Rattle.std.specs.Prelude.{IsTrue, filter, All}
use Rattle.std.specs.Char.{is_ascii_digit, digit_value}
use Rattle.std.specs.List.{list_all}
use Rattle.std.specs.Str.{bytes_eq, str_to_ascii_lowercase}
use Rattle.std.specs.Str.Parse.{digits_value, digits_value_after}
use Rattle.std.proofs.lemmas.Bool.{cases_Bool}
use Rattle.std.proofs.lemmas.Bool.Decides.{nat_tests}
use Rattle.rpc_frame.specs.Header.{Field, IsField, IsLengthText, is_name_byte, is_value_byte, is_blank, header_bytes, lengths}
use Rattle.rpc_frame.specs.Scanning.{length_name, with_digit, place_after, with_length, lengths_after}
use Rattle.rpc_frame.specs.declared.headers.Place.{Place}
use Rattle.rpc_frame.specs.declared.headers.Place.TheVariants.{FirstLine, NextLine, LengthName, OtherName, OtherValue, LengthBefore, LengthDigits, LengthAfter, FieldEnd, PartEnd, Whole, Bad}
use Rattle.rpc_frame.specs.declared.headers.Lengths.{Lengths}
use Rattle.rpc_frame.proofs.ByteTests.{blank_is_no_digit, value_byte-is, value_byte_is_no_return, digit_is_value_byte, blank_is_value_byte}

-- lines and then the empty line
pub record IsLines (bytes numbers : List ℕ) : Type 0 where
  pub fields : List Field
  pub each : All IsField fields
  pub whole : bytes ≡ header_bytes fields
  pub given : numbers ≡ lengths fields

-- the rest of a line, and then lines
pub record IsLineRest (P : List ℕ → List ℕ → List ℕ → Type 0) (bytes numbers : List ℕ) : Type 0 where
  pub text : List ℕ
  pub rest : List ℕ
  pub others : List ℕ
  pub whole : bytes ≡ text ++ (13 ∷ 10 ∷ rest)
  pub lines : IsLines rest others
  pub fits : P text others numbers

-- the number of a value's digits
abbrev pub digits_number : List ℕ → ℕ
digits_number value = min (digits_value 10 (filter is_ascii_digit value)) (2 ^ 64 - 1)

-- the number with more digits
abbrev pub with_digits : ℕ → List ℕ → ℕ
with_digits n [] = n
with_digits n (b ∷ digits) = with_digits (with_digit n b) digits

-- the lengths that a field's value gives, before the others
abbrev pub numbers_with : Bool → List ℕ → List ℕ → List ℕ
numbers_with true value others = digits_number value ∷ others
numbers_with false value others = others

-- the lengths with more
abbrev pub with_all : Lengths → List ℕ → Lengths
with_all l [] = l
with_all l (n ∷ numbers) = with_all (with_length l n) numbers

-- the rest of a value that gives no length
abbrev pub OtherText : List ℕ → List ℕ → List ℕ → Type 0
OtherText text others numbers = IsTrue (list_all is_value_byte text) × (numbers ≡ others)

-- a value that gives a length
abbrev pub LengthText : List ℕ → List ℕ → List ℕ → Type 0
LengthText text others numbers = IsLengthText text × (numbers ≡ digits_number text ∷ others)

-- the rest of it behind digits whose number is n
pub record DigitsText (n : ℕ) (text others numbers : List ℕ) : Type 0 where
  pub digits : List ℕ
  pub after : List ℕ
  pub whole : text ≡ digits ++ after
  pub decimal : IsTrue (list_all is_ascii_digit digits)
  pub blank : IsTrue (list_all is_blank after)
  pub given : numbers ≡ with_digits n digits ∷ others

-- the rest of it behind a blank that follows them
abbrev pub BlankText : ℕ → List ℕ → List ℕ → List ℕ → Type 0
BlankText n text others numbers = IsTrue (list_all is_blank text) × (numbers ≡ n ∷ others)

-- the rest of a name, which gives a length if the test says so, and the value
pub record NameText (is_length : List ℕ → Bool) (text others numbers : List ℕ) : Type 0 where
  pub name : List ℕ
  pub value : List ℕ
  pub whole : text ≡ name ++ (58 ∷ value)
  pub name_bytes : IsTrue (list_all is_name_byte name)
  pub value_bytes : IsTrue (list_all is_value_byte value)
  pub length_text : IsTrue (is_length name) → IsLengthText value
  pub given : numbers ≡ numbers_with (is_length name) value others

-- the name goes on as `Content-Length` from there
abbrev pub is_name_rest : ℕ → List ℕ → Bool
is_name_rest matched name = bytes_eq (str_to_ascii_lowercase name) (drop matched length_name)

abbrev pub is_no_length : List ℕ → Bool
is_no_length name = false

-- what follows at a place
abbrev pub Rest : Place → List ℕ → List ℕ → Type 0
Rest FirstLine bytes numbers = (lines : IsLines bytes numbers) × (0 < length lines.fields)
Rest NextLine bytes numbers = IsLines bytes numbers
Rest (LengthName matched) bytes numbers = IsLineRest (NameText (is_name_rest matched)) bytes numbers
Rest OtherName bytes numbers = IsLineRest (NameText is_no_length) bytes numbers
Rest OtherValue bytes numbers = IsLineRest OtherText bytes numbers
Rest LengthBefore bytes numbers = IsLineRest LengthText bytes numbers
Rest (LengthDigits n) bytes numbers = IsLineRest (DigitsText n) bytes numbers
Rest (LengthAfter n) bytes numbers = IsLineRest (BlankText n) bytes numbers
Rest FieldEnd bytes numbers = (rest : List ℕ) × (bytes ≡ 10 ∷ rest) × IsLines rest numbers
Rest PartEnd bytes numbers = (bytes ≡ 10 ∷ []) × (numbers ≡ [])
Rest Whole bytes numbers = (bytes ≡ []) × (numbers ≡ [])
Rest Bad bytes numbers = ⊥

-- one more byte in front
pub prepend : (P Q : List ℕ → List ℕ → List ℕ → Type 0) (b : ℕ) (bytes numbers : List ℕ)
    → ((text others : List ℕ) → P text others numbers → Q (b ∷ text) others numbers) → IsLineRest P bytes numbers → IsLineRest Q (b ∷ bytes) numbers
prepend P Q b bytes numbers f r = record {
  text = b ∷ r.text;
  rest = r.rest;
  others = r.others;
  whole = ap (λ xs. b ∷ xs) r.whole;
  lines = r.lines;
  fits = f r.text r.others r.fits;
}

-- the CR that ends the line
pub line_ends : (Q : List ℕ → List ℕ → List ℕ → Type 0) (b : ℕ) (bytes numbers given : List ℕ) → b ≡ 13 → Q [] numbers given → Rest FieldEnd bytes numbers → IsLineRest Q (b ∷ bytes) given
line_ends Q b bytes numbers given e q r = record {
  text = [];
  rest = r.0;
  others = numbers;
  whole = ap₂ (λ x xs. x ∷ xs) e r.1;
  lines = r.2;
  fits = q;
}

-- blanks have no digits
pub filter-blanks : (blanks : List ℕ) → list_all is_blank blanks ≡ true → filter is_ascii_digit blanks ≡ []
filter-blanks [] h = refl
filter-blanks (b ∷ bs) h = elim (cases_Bool (is_blank b)) [
  | inl blank ↦ rw (blank_is_no_digit b blank) (filter-blanks bs (rw blank at h))
  | inr other ↦ let never : false ≡ true = rw other at h in cc
]

-- the digits before blanks
pub filter-digits : (digits blanks : List ℕ) → list_all is_ascii_digit digits ≡ true → list_all is_blank blanks ≡ true → filter is_ascii_digit (digits ++ blanks) ≡ digits
filter-digits [] blanks h k = filter-blanks blanks k
filter-digits (b ∷ bs) blanks h k = elim (cases_Bool (is_ascii_digit b)) [
  | inl digit ↦ rw digit (ap (λ xs. b ∷ xs) (filter-digits bs blanks (rw digit at h) k))
  | inr other ↦ let never : false ≡ true = rw other at h in cc
]

-- a digit more, once the number is cut
with_digit-cut : (n b : ℕ) → is_ascii_digit b ≡ true → with_digit (min n (2 ^ 64 - 1)) b ≡ min (n * 10 + digit_value b) (2 ^ 64 - 1)
with_digit-cut n b digit =
    let value : digit_value b ≡ b - 48 = grind (arith, nat_tests) in
    omega (arith, value)

-- the number of digits read one by one is that of all of them
pub with_digits-is : (n : ℕ) (digits : List ℕ) → list_all is_ascii_digit digits ≡ true → with_digits (min n (2 ^ 64 - 1)) digits ≡ min (digits_value_after 10 n digits) (2 ^ 64 - 1)
with_digits-is n [] h = refl
with_digits-is n (b ∷ bs) h = elim (cases_Bool (is_ascii_digit b)) [
  | inl digit ↦ ap (λ m. with_digits m bs) (with_digit-cut n b digit) ∙ with_digits-is (n * 10 + digit_value b) bs (rw digit at h)
  | inr other ↦ let never : false ≡ true = rw other at h in cc
]

pub digits_number-digits : (digits blanks : List ℕ) → list_all is_ascii_digit digits ≡ true → list_all is_blank blanks ≡ true → digits_number (digits ++ blanks) ≡ with_digits 0 digits
digits_number-digits digits blanks h k =
    ap (λ ds. min (digits_value 10 ds) (2 ^ 64 - 1)) (filter-digits digits blanks h k) ∙ sym (with_digits-is 0 digits h)

-- before the digits
pub LengthBefore-back : (l : Lengths) (b : ℕ) (bytes numbers : List ℕ) → Rest (place_after LengthBefore b) bytes numbers → Rest LengthBefore (b ∷ bytes) numbers
LengthBefore-back l b bytes numbers r = elim (cases_Bool (is_blank b)) [
  | inl blank ↦
      let rest : IsLineRest LengthText bytes numbers = rw blank at r in
      prepend LengthText LengthText b bytes numbers (λ text others (t, e). (
        record {
          before = b ∷ t.before;
          digits = t.digits;
          after = t.after;
          whole = ap (λ xs. b ∷ xs) t.whole;
          some_digit = t.some_digit;
          blank_before = rw blank t.blank_before;
          decimal = t.decimal;
          blank_after = t.blank_after;
        },
        rw (blank_is_no_digit b blank) e,
      )) rest
  | inr other ↦ elim (cases_Bool (is_ascii_digit b)) [
    | inl digit ↦
        let rest : IsLineRest (DigitsText (with_digit 0 b)) bytes numbers = rw (other, digit) at r in
        prepend (DigitsText (with_digit 0 b)) LengthText b bytes numbers (λ text others t. (
          record {
            before = [];
            digits = b ∷ t.digits;
            after = t.after;
            whole = ap (λ xs. b ∷ xs) t.whole;
            some_digit = omega arith;
            blank_before = refl;
            decimal = rw digit t.decimal;
            blank_after = t.blank;
          },
          t.given ∙ ap (λ n. n ∷ others) (sym (ap (λ xs. digits_number (b ∷ xs)) t.whole ∙ digits_number-digits (b ∷ t.digits) t.after (rw digit t.decimal) t.blank)),
        )) rest
    | inr none ↦ absurd (rw (other, none) at r)
  ]
]

-- among the digits
pub LengthDigits-back : (n : ℕ) (l : Lengths) (b : ℕ) (bytes numbers : List ℕ) → Rest (place_after (LengthDigits n) b) bytes numbers
    → (given : List ℕ) × Rest (LengthDigits n) (b ∷ bytes) given × (with_all (lengths_after (LengthDigits n) l b) numbers ≡ with_all l given)
LengthDigits-back n l b bytes numbers r = elim (cases_Bool (is_ascii_digit b)) [
  | inl digit ↦
      let rest : IsLineRest (DigitsText (with_digit n b)) bytes numbers = rw digit at r in (
        numbers,
        prepend (DigitsText (with_digit n b)) (DigitsText n) b bytes numbers (λ text others t. record {
          digits = b ∷ t.digits;
          after = t.after;
          whole = ap (λ xs. b ∷ xs) t.whole;
          decimal = rw digit t.decimal;
          blank = t.blank;
          given = t.given;
        }) rest,
        rw (value_byte_is_no_return b (digit_is_value_byte b digit)) refl,
      )
  | inr none ↦ elim (cases_Bool (is_blank b)) [
    | inl blank ↦
        let rest : IsLineRest (BlankText n) bytes numbers = rw (none, blank) at r in (
          numbers,
          prepend (BlankText n) (DigitsText n) b bytes numbers (λ text others (t, e). record {
            digits = [];
            after = b ∷ text;
            whole = refl;
            decimal = refl;
            blank = rw blank t;
            given = e;
          }) rest,
          rw (value_byte_is_no_return b (blank_is_value_byte b blank)) refl,
        )
    | inr other ↦ elim (cases_Bool (b == 13)) [
      | inl end ↦
          let rest : Rest FieldEnd bytes numbers = rw (none, other, end) at r in (
            n ∷ numbers,
            line_ends (DigitsText n) b bytes numbers (n ∷ numbers) (eqb-true b 13 end) (record { digits = []; after = []; whole = refl; decimal = refl; blank = refl; given = refl }) rest,
            rw end refl,
          )
      | inr never ↦ absurd (rw (none, other, never) at r)
    ]
  ]
]

-- behind the digits
pub LengthAfter-back : (n : ℕ) (l : Lengths) (b : ℕ) (bytes numbers : List ℕ) → Rest (place_after (LengthAfter n) b) bytes numbers
    → (given : List ℕ) × Rest (LengthAfter n) (b ∷ bytes) given × (with_all (lengths_after (LengthAfter n) l b) numbers ≡ with_all l given)
LengthAfter-back n l b bytes numbers r = elim (cases_Bool (is_blank b)) [
  | inl blank ↦
      let rest : IsLineRest (BlankText n) bytes numbers = rw blank at r in (
        numbers,
        prepend (BlankText n) (BlankText n) b bytes numbers (λ text others (t, e). (rw blank t, e)) rest,
        rw (value_byte_is_no_return b (blank_is_value_byte b blank)) refl,
      )
  | inr other ↦ elim (cases_Bool (b == 13)) [
    | inl end ↦
        let rest : Rest FieldEnd bytes numbers = rw (other, end) at r in
        (n ∷ numbers, line_ends (BlankText n) b bytes numbers (n ∷ numbers) (eqb-true b 13 end) (refl, refl) rest, rw end refl)
    | inr never ↦ absurd (rw (other, never) at r)
  ]
]

-- in a value that gives no length
pub OtherValue-back : (b : ℕ) (bytes numbers : List ℕ) → Rest (place_after OtherValue b) bytes numbers → Rest OtherValue (b ∷ bytes) numbers
OtherValue-back b bytes numbers r = elim (cases_Bool (b == 13)) [
  | inl end ↦
      let rest : Rest FieldEnd bytes numbers = rw end at r in
      line_ends OtherText b bytes numbers numbers (eqb-true b 13 end) (refl, refl) rest
  | inr more ↦ elim (cases_Bool (b == 10)) [
    | inl feed ↦ absurd (rw (more, feed) at r)
    | inr other ↦
        let rest : IsLineRest OtherText bytes numbers = rw (more, other) at r in
        prepend OtherText OtherText b bytes numbers (λ text others (t, e). (rw (value_byte-is b more other) t, e)) rest
  ]
]
