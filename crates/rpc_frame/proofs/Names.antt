-- The name of a field and the lines of a header part, byte by byte.
use Rattle.std.proofs.Common.{◌≡◌, ℕ, ◌+◌, ◌<◌, ◌≤◌, ◌==◌, ◌&&◌, Bool, true, false, cond, nat_lt, List, [], ◌∷◌, ◌++◌, length, drop, refl, sym, ◌∙◌, ap, ap₂, subst, inl, inr, arith, eqb-true}
use Rattle.std.specs.Char.{is_ascii_digit, to_ascii_lowercase}
use Rattle.std.specs.List.{list_all, flat_map}
use Rattle.std.proofs.lemmas.Bool.{cases_Bool}
use Rattle.std.proofs.lemmas.Bool.Decides.{nat_tests}
use Rattle.rpc_frame.specs.Header.{Field, IsField, IsLengthText, is_name_byte, is_value_byte, is_blank, gives_length, field_bytes, lengths}
use Rattle.rpc_frame.specs.Scanning.{length_name, name_place, place_after}
use Rattle.rpc_frame.specs.declared.headers.Place.TheVariants.{FirstLine, NextLine, LengthName, OtherName, OtherValue, LengthBefore, PartEnd, Bad}
use Rattle.rpc_frame.proofs.ByteTests.{digit_is_value_byte, blank_is_value_byte}
use Rattle.std.proofs.Common.{eq-eqb, add-one, get_or, drop-cons, append_assoc}
use Rattle.std.proofs.lemmas.List.{drop_all}
use Rattle.std.proofs.lemmas.List.Folds.{list_all-append}
use Rattle.std.proofs.lemmas.List.Elements.{All-nil, All-cons}
use Rattle.rpc_frame.proofs.ByteTests.{name_byte_is_no_colon}
use Rattle.rpc_frame.proofs.Rest.{IsLines, IsLineRest, numbers_with, OtherText, LengthText, NameText, is_name_rest, is_no_length, Rest, prepend}

-- what is left of the name at a place in it
name_left : (matched : ℕ) → nat_lt matched 14 ≡ true → drop matched length_name ≡ get_or length_name matched 0 ∷ drop (matched + 1) length_name
name_left matched h =
    let below : matched < length length_name = grind (arith, nat_tests) in
    rw add-one (drop-cons length_name matched 0 below)

-- nothing is left of it at its end
name_ended : (matched : ℕ) → nat_lt matched 14 ≡ false → drop matched length_name ≡ []
name_ended matched h =
    let end : length length_name ≤ matched = grind (arith, nat_tests) in
    drop_all matched length_name end

-- the next byte of `Content-Length` has come
pub name_goes_on : (matched b : ℕ) (name : List ℕ) → (nat_lt matched 14 && (to_ascii_lowercase b == get_or length_name matched 0)) ≡ true
    → is_name_rest matched (b ∷ name) ≡ is_name_rest (matched + 1) name
name_goes_on matched b name h = elim (cases_Bool (nat_lt matched 14)) [
  | inl below ↦
      let same : (to_ascii_lowercase b == get_or length_name matched 0) ≡ true = rw below at h in
      rw (name_left matched below, same) refl
  | inr end ↦ let never : false ≡ true = rw end at h in cc
]

-- another byte has come
pub name_differs : (matched b : ℕ) (name : List ℕ) → (nat_lt matched 14 && (to_ascii_lowercase b == get_or length_name matched 0)) ≡ false → is_name_rest matched (b ∷ name) ≡ false
name_differs matched b name h = elim (cases_Bool (nat_lt matched 14)) [
  | inl below ↦
      let other : (to_ascii_lowercase b == get_or length_name matched 0) ≡ false = rw below at h in
      rw (name_left matched below, other) refl
  | inr end ↦ rw (name_ended matched end) refl
]

-- the name ends too early
pub name_is_cut : (matched : ℕ) → nat_lt matched 14 ≡ true → is_name_rest matched [] ≡ false
name_is_cut matched h = rw (name_left matched h) refl

-- the name is whole
pub name_is_whole : (matched : ℕ) → nat_lt matched 14 ≡ false → is_name_rest matched [] ≡ true
name_is_whole matched h = rw (name_ended matched h) refl

-- one more byte of a name
NameText-prepend : (test later : List ℕ → Bool) (b : ℕ) → is_name_byte b ≡ true → ((name : List ℕ) → test (b ∷ name) ≡ later name)
    → (text others numbers : List ℕ) → NameText later text others numbers → NameText test (b ∷ text) others numbers
NameText-prepend test later b named e text others numbers t = record {
  name = b ∷ t.name;
  value = t.value;
  whole = ap (λ xs. b ∷ xs) t.whole;
  name_bytes = rw named t.name_bytes;
  value_bytes = t.value_bytes;
  length_text = λ h. t.length_text (sym (e t.name) ∙ h);
  given = t.given ∙ ap (λ x. numbers_with x t.value others) (sym (e t.name));
}

-- a name that began as `Content-Length` does
pub name_place-back : (matched b : ℕ) (bytes numbers : List ℕ) → is_name_byte b ≡ true → Rest (name_place matched b) bytes numbers → IsLineRest (NameText (is_name_rest matched)) (b ∷ bytes) numbers
name_place-back matched b bytes numbers named r = elim (cases_Bool (nat_lt matched 14 && (to_ascii_lowercase b == get_or length_name matched 0))) [
  | inl same ↦
      let rest : IsLineRest (NameText (is_name_rest (matched + 1))) bytes numbers = rw (named, same) at r in
      prepend (NameText (is_name_rest (matched + 1))) (NameText (is_name_rest matched)) b bytes numbers
      (λ text others t. NameText-prepend (is_name_rest matched) (is_name_rest (matched + 1)) b named (λ name. name_goes_on matched b name same) text others numbers t)
      rest
  | inr other ↦
      let rest : IsLineRest (NameText is_no_length) bytes numbers = rw (named, other) at r in
      prepend (NameText is_no_length) (NameText (is_name_rest matched)) b bytes numbers
      (λ text others t. NameText-prepend (is_name_rest matched) is_no_length b named (λ name. name_differs matched b name other) text others numbers t)
      rest
]

-- no name has another byte
pub name_place-none : (matched b : ℕ) (bytes numbers : List ℕ) → is_name_byte b ≡ false → Rest (name_place matched b) bytes numbers → ⊥
name_place-none matched b bytes numbers none r = rw none at r

-- a value that gives a length has no line's end
value_bytes-blanks : (bs : List ℕ) → list_all is_blank bs ≡ true → list_all is_value_byte bs ≡ true
value_bytes-blanks [] h = refl
value_bytes-blanks (b ∷ bs) h = elim (cases_Bool (is_blank b)) [
  | inl blank ↦ rw (blank_is_value_byte b blank) (value_bytes-blanks bs (rw blank at h))
  | inr other ↦ let never : false ≡ true = rw other at h in cc
]

value_bytes-digits : (bs : List ℕ) → list_all is_ascii_digit bs ≡ true → list_all is_value_byte bs ≡ true
value_bytes-digits [] h = refl
value_bytes-digits (b ∷ bs) h = elim (cases_Bool (is_ascii_digit b)) [
  | inl digit ↦ rw (digit_is_value_byte b digit) (value_bytes-digits bs (rw digit at h))
  | inr other ↦ let never : false ≡ true = rw other at h in cc
]

pub length_text_bytes : (value : List ℕ) → IsLengthText value → list_all is_value_byte value ≡ true
length_text_bytes value t =
    rw (
      t.whole,
      list_all-append is_value_byte t.before (t.digits ++ t.after),
      list_all-append is_value_byte t.digits t.after,
      value_bytes-blanks t.before
          t.blank_before,
      value_bytes-digits t.digits t.decimal,
      value_bytes-blanks t.after t.blank_after,
    ) refl

-- the lengths of one field more
pub lengths-cons : (field : Field) (fields : List Field) → lengths (field ∷ fields) ≡ numbers_with (gives_length field) field.value (lengths fields)
lengths-cons field fields = elim (cases_Bool (gives_length field)) [ inl is ↦ rw is refl | inr is_not ↦ rw is_not refl ]

-- a field's colon: the value follows
OtherText-colon : (test : List ℕ → Bool) (b : ℕ) → b ≡ 58 → test [] ≡ false → (text others numbers : List ℕ) → OtherText text others numbers → NameText test (b ∷ text) others numbers
OtherText-colon test b e cut text others numbers t = record {
  name = [];
  value = text;
  whole = ap (λ x. x ∷ text) e;
  name_bytes = refl;
  value_bytes = t.0;
  length_text = λ h. let never : false ≡ true = sym cut ∙ h in cc;
  given = t.1 ∙ ap (λ x. numbers_with x text others) (sym cut);
}

LengthText-colon : (test : List ℕ → Bool) (b : ℕ) → b ≡ 58 → test [] ≡ true → (text others numbers : List ℕ) → LengthText text others numbers → NameText test (b ∷ text) others numbers
LengthText-colon test b e whole text others numbers t = record {
  name = [];
  value = text;
  whole = ap (λ x. x ∷ text) e;
  name_bytes = refl;
  value_bytes = length_text_bytes text t.0;
  length_text = λ h. t.0;
  given = t.1 ∙ ap (λ x. numbers_with x text others) (sym whole);
}

-- a byte of a name that is no colon
pub LengthName-more : (matched b : ℕ) → (b == 58) ≡ false → place_after (LengthName matched) b ≡ name_place matched b
LengthName-more matched b more = ap (λ t. cond t (cond (nat_lt matched 14) OtherValue LengthBefore) (name_place matched b)) more

pub OtherName-more : (b : ℕ) (named : Bool) → (b == 58) ≡ false → is_name_byte b ≡ named → place_after OtherName b ≡ cond named OtherName Bad
OtherName-more b named more e = ap (λ t. cond t OtherValue (cond (is_name_byte b) OtherName Bad)) more ∙ ap (λ t. cond t OtherName Bad) e

pub LengthName-back : (matched b : ℕ) (bytes numbers : List ℕ) → Rest (place_after (LengthName matched) b) bytes numbers → Rest (LengthName matched) (b ∷ bytes) numbers
LengthName-back matched b bytes numbers r = elim (cases_Bool (b == 58)) [
  | inl colon ↦ elim (cases_Bool (nat_lt matched 14)) [
    | inl cut ↦
        let rest : IsLineRest OtherText bytes numbers = rw (colon, cut) at r in
        prepend OtherText (NameText (is_name_rest matched)) b bytes numbers
        (λ text others t. OtherText-colon (is_name_rest matched) b (eqb-true b 58 colon) (name_is_cut matched cut) text others numbers t)
        rest
    | inr whole ↦
        let rest : IsLineRest LengthText bytes numbers = rw (colon, whole) at r in
        prepend LengthText (NameText (is_name_rest matched)) b bytes numbers
        (λ text others t. LengthText-colon (is_name_rest matched) b (eqb-true b 58 colon) (name_is_whole matched whole) text others numbers t)
        rest
  ]
  | inr more ↦
      let rest : Rest (name_place matched b) bytes numbers = subst (λ place. Rest place bytes numbers) (LengthName-more matched b more) r in
      elim (cases_Bool (is_name_byte b)) [
        | inl named ↦ name_place-back matched b bytes numbers named rest
        | inr none ↦ absurd (name_place-none matched b bytes numbers none rest)
      ]
]

pub OtherName-back : (b : ℕ) (bytes numbers : List ℕ) → Rest (place_after OtherName b) bytes numbers → Rest OtherName (b ∷ bytes) numbers
OtherName-back b bytes numbers r = elim (cases_Bool (b == 58)) [
  | inl colon ↦
      let rest : IsLineRest OtherText bytes numbers = rw colon at r in
      prepend OtherText (NameText is_no_length) b bytes numbers (λ text others t. OtherText-colon is_no_length b (eqb-true b 58 colon) refl text others numbers t) rest
  | inr more ↦ elim (cases_Bool (is_name_byte b)) [
    | inl named ↦
        let rest : IsLineRest (NameText is_no_length) bytes numbers = subst (λ place. Rest place bytes numbers) (OtherName-more b true more named) r in
        prepend (NameText is_no_length) (NameText is_no_length) b bytes numbers
        (λ text others t. NameText-prepend is_no_length is_no_length b named (λ name. refl) text others numbers t)
        rest
    | inr none ↦ absurd (subst (λ place. Rest place bytes numbers) (OtherName-more b false more none) r)
  ]
]

-- the name of a line that begins with a byte of a name is not empty
name_of_line : (b : ℕ) (bytes name value rest : List ℕ) → is_name_byte b ≡ true → b ∷ bytes ≡ (name ++ (58 ∷ value)) ++ rest → 0 < length name
name_of_line b bytes [] value rest named e =
    let colon : b ≡ 58 = cc in
    let never : false ≡ true = sym (name_byte_is_no_colon b named) ∙ eq-eqb b 58 colon in
    cc
name_of_line b bytes (c ∷ name) value rest named e = omega arith

-- a field's bytes, and then those of others
field_then : (name value rest : List ℕ) → (name ++ (58 ∷ value)) ++ (13 ∷ 10 ∷ rest) ≡ (name ++ (58 ∷ (value ++ (13 ∷ 10 ∷ [])))) ++ rest
field_then name value rest = simp append_assoc

-- a line and then lines: one field more
pub line_more : (b : ℕ) (bytes numbers : List ℕ) → is_name_byte b ≡ true → IsLineRest (NameText (is_name_rest 0)) (b ∷ bytes) numbers
    → (lines : IsLines (b ∷ bytes) numbers) × (0 < length lines.fields)
line_more b bytes numbers named r =
    let t = r.fits in
    let field : Field = record { name = t.name; value = t.value } in
    let line : b ∷ bytes ≡ (t.name ++ (58 ∷ t.value)) ++ (13 ∷ 10 ∷ r.rest) = r.whole ∙ ap (λ text. text ++ (13 ∷ 10 ∷ r.rest)) t.whole in (
      record {
        fields = field ∷ r.lines.fields;
        each = All-cons IsField field r.lines.fields (record {
          some_name = name_of_line b bytes t.name t.value (13 ∷ 10 ∷ r.rest) named line;
          name = t.name_bytes;
          value = t.value_bytes;
          length_text = t.length_text;
        }) r.lines.each;
        whole = line
            ∙ (field_then t.name t.value r.rest ∙ (ap (λ rest. field_bytes field ++ rest) r.lines.whole ∙ sym (append_assoc (field_bytes field) (flat_map field_bytes r.lines.fields) (13 ∷ 10 ∷ []))));
        given = t.given ∙ (ap (λ others. numbers_with (is_name_rest 0 t.name) t.value others) r.lines.given ∙ sym (lengths-cons field r.lines.fields));
      },
      omega arith,
    )

pub FirstLine-back : (b : ℕ) (bytes numbers : List ℕ) → Rest (name_place 0 b) bytes numbers → Rest FirstLine (b ∷ bytes) numbers
FirstLine-back b bytes numbers r = elim (cases_Bool (is_name_byte b)) [
  | inl named ↦ line_more b bytes numbers named (name_place-back 0 b bytes numbers named r)
  | inr none ↦ absurd (name_place-none 0 b bytes numbers none r)
]

pub NextLine-back : (b : ℕ) (bytes numbers : List ℕ) → Rest (place_after NextLine b) bytes numbers → Rest NextLine (b ∷ bytes) numbers
NextLine-back b bytes numbers r = elim (cases_Bool (b == 13)) [
  | inl end ↦
      let rest : Rest PartEnd bytes numbers = subst (λ place. Rest place bytes numbers) (ap (λ t. cond t PartEnd (name_place 0 b)) end) r in
      record { fields = []; each = All-nil IsField; whole = ap₂ (λ x xs. x ∷ xs) (eqb-true b 13 end) rest.0; given = rest.1 }
  | inr more ↦ (FirstLine-back b bytes numbers (subst (λ place. Rest place bytes numbers) (ap (λ t. cond t PartEnd (name_place 0 b)) more) r)).0
]
