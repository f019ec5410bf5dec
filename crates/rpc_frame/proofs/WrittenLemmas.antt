-- A written frame is a frame of its body.
use Rattle.std.proofs.Common.{◌≡◌, ℕ, ◌-◌, ◌^◌, ◌<◌, ◌≤◌, true, List, [], ◌∷◌, ◌++◌, length, min, refl, sym, ◌∙◌, ap, arith, append_assoc, length-append, lit<}
use Rattle.std.specs.Prelude.{codes}
use Rattle.std.specs.Char.{is_ascii_digit, digit_value}
use Rattle.std.specs.Fmt.{decimal}
use Rattle.std.specs.List.{list_all}
use Rattle.std.specs.Str.Parse.{AllDigits, digits_value}
use Rattle.std.proofs.lemmas.Bool.Decides.{nat_tests}
use Rattle.std.proofs.lemmas.Fmt.{decimal_is_IsNumeral, length-decimal-le}
use Rattle.std.proofs.lemmas.List.{append-nil}
use Rattle.std.proofs.lemmas.List.Elements.{All-nil, All-cons}
use Rattle.rpc_frame.specs.Header.{Field, IsField, IsLengthText, IsHeader, header_bytes}
use Rattle.rpc_frame.specs.Stream.{IsFrame}
use Rattle.rpc_frame.specs.Written.{frame_bytes}
use Rattle.rpc_frame.proofs.Rest.{digits_number, with_digits-is}
use Rattle.rpc_frame.proofs.Names.{length_text_bytes}
use Rattle.rpc_frame.proofs.Complete.{digits_number-parts}

-- what counts as a digit is one
digit_byte : (b : ℕ) → digit_value b < 10 → is_ascii_digit b ≡ true
digit_byte b h = grind (arith, nat_tests)

digit_bytes : (bs : List ℕ) → AllDigits 10 bs → list_all is_ascii_digit bs ≡ true
digit_bytes [] h = refl
digit_bytes (b ∷ bs) h = rw (digit_byte b h.0, digit_bytes bs h.1) refl

-- the one field of a written frame
abbrev pub written_field : ℕ → Field
written_field n = record { name = codes "Content-Length"; value = 32 ∷ decimal n }

-- its value
written_value : (n : ℕ) → n < 2 ^ 64 → IsLengthText (32 ∷ decimal n)
written_value n h =
    let numeral = decimal_is_IsNumeral n h in
    record {
      before = 32 ∷ [];
      digits = decimal n;
      after = [];
      whole = ap (λ xs. 32 ∷ xs) (sym (append-nil (decimal n)));
      some_digit = numeral.0.0;
      blank_before = refl;
      decimal = digit_bytes (decimal n) numeral.0.1;
      blank_after = refl;
    }

-- its number
written_number : (n : ℕ) → n < 2 ^ 64 → digits_number (32 ∷ decimal n) ≡ n
unfolding written_value
written_number n h =
    let numeral = decimal_is_IsNumeral n h in
    let cut : min (digits_value 10 (decimal n)) (2 ^ 64 - 1) ≡ n = omega (arith, numeral.1, h) in
    digits_number-parts (32 ∷ decimal n) (written_value n h) ∙ (with_digits-is 0 (decimal n) (digit_bytes (decimal n) numeral.0.1) ∙ cut)

abbrev pub written_header : ℕ → List ℕ
written_header n = codes "Content-Length: " ++ (decimal n ++ (13 ∷ 10 ∷ 13 ∷ 10 ∷ []))

-- its bytes
written_bytes : (n : ℕ) → written_header n ≡ header_bytes (written_field n ∷ [])
written_bytes n =
    let line = 13 ∷ 10 ∷ [] in
    ap (λ xs. codes "Content-Length: " ++ xs) (sym (ap (λ xs. xs ++ line) (append-nil (decimal n ++ line)) ∙ append_assoc (decimal n) line line))

written_short : (n : ℕ) → n < 2 ^ 64 → length (written_header n) ≤ 8192
written_short n h =
    let few : length (decimal n) ≤ 20 = length-decimal-le 20 n (lit< tt) (omega (arith, h)) h in
    omega (arith, few, length-append (decimal n) (13 ∷ 10 ∷ 13 ∷ 10 ∷ []))

written_header_is : (n : ℕ) → n < 2 ^ 64 → IsHeader (written_field n ∷ []) (written_header n)
written_header_is n h = record {
  some_field = omega arith;
  each = All-cons IsField (written_field n) [] (record {
    some_name = omega arith;
    name = refl;
    value = length_text_bytes (32 ∷ decimal n) (written_value n h);
    length_text = λ given. written_value n h;
  }) (All-nil IsField);
  whole = written_bytes n;
  short = written_short n h;
}

-- a written frame is its body's
pub written_frame : (limit : ℕ) (body : List ℕ) → length body ≤ limit → length body < 2 ^ 64 → IsFrame limit body (frame_bytes body)
written_frame limit body within small = record {
  begins = record {
    fields = written_field (length body) ∷ [];
    header = written_header (length body);
    is_header = written_header_is (length body) small;
    numbers_are = ap (λ n. n ∷ []) (sym (written_number (length body) small));
    whole = ap (λ xs. codes "Content-Length: " ++ xs) (sym (append_assoc (decimal (length body)) (13 ∷ 10 ∷ 13 ∷ 10 ∷ []) body));
  };
  within = within;
}

-- a header and then the body
pub written_with : (head body frame : List ℕ) → head ≡ written_header (length body) → frame ≡ head ++ body → frame ≡ frame_bytes body
written_with head body frame e k = k ∙ (ap (λ xs. xs ++ body) e ∙ ap (λ xs. codes "Content-Length: " ++ xs) (append_assoc (decimal (length body)) (13 ∷ 10 ∷ 13 ∷ 10 ∷ []) body))
