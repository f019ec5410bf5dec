-- A text so many times, and its bytes.
use Rattle.std.proofs.Common.{◌≡◌, ℕ, zero, suc, ◌+◌, ◌*◌, ◌<◌, ◌≤◌, List, [], ◌∷◌, ◌++◌, length, refl, sym, ap, ap₂, ◌∙◌, arith, add-one, append_assoc}
use Rattle.std.specs.Prelude.{encode_utf8_all}
use Rattle.std.specs.List.{AllZip, repeat}
use Rattle.std.proofs.Math.Nat.{mul-le-mul_left}
use Rattle.std.proofs.lemmas.List.{append-nil, length-append}
use Rattle.std.proofs.lemmas.Str.{encodes-append}

-- one time more, at the end
repeat_further : (times : ℕ) (text : List ℕ) → repeat (suc times) text ≡ repeat times text ++ text
repeat_further zero text = append-nil text
repeat_further (suc times) text = ap (λ t. text ++ t) (repeat_further times text) ∙ sym (append_assoc text (repeat times text) text)

repeated_more : (times : ℕ) (text : List ℕ) → repeat (times + 1) text ≡ repeat times text ++ text
repeated_more times text = ap (λ n. repeat n text) (add-one times) ∙ repeat_further times text

pub repeated_bytes : (times : ℕ) (text : List ℕ) → encode_utf8_all (repeat (times + 1) text) ≡ encode_utf8_all (repeat times text) ++ encode_utf8_all text
repeated_bytes times text = ap encode_utf8_all (repeated_more times text) ∙ encodes-append (repeat times text) text

length_repeated : (times : ℕ) (text : List ℕ) → length (encode_utf8_all (repeat times text)) ≡ times * length (encode_utf8_all text)
length_repeated zero text = omega arith
length_repeated (suc times) text =
    let whole = ap length (encodes-append text (repeat times text)) ∙ length-append (encode_utf8_all text) (encode_utf8_all (repeat times text)) in
    grind (arith, whole, length_repeated times text)

-- where one time more has too many bytes, so have all times
pub too_long : (most times all : ℕ) (text bytes : List ℕ) → times < all → bytes ≡ encode_utf8_all (repeat times text)
    → most < length bytes + length (encode_utf8_all text) → most < length (encode_utf8_all (repeat all text))
too_long most times all text bytes fewer is long =
    let so_far = ap length is ∙ length_repeated times text in
    let whole = length_repeated all text in
    let len = length (encode_utf8_all text) in
    let more : len * suc times ≤ len * all = mul-le-mul_left len (omega arith) in
    grind (arith, so_far, whole, more, long)

-- clones of characters are these characters
pub clones_same : (xs ys : List ℕ) → AllZip (λ x y. y ≡ x) xs ys → ys ≡ xs
clones_same [] [] clones = refl
clones_same [] (y ∷ ys) clones = absurd clones
clones_same (x ∷ xs) [] clones = absurd clones
clones_same (x ∷ xs) (y ∷ ys) clones = ap₂ (λ z zs. z ∷ zs) clones.0 (clones_same xs ys clones.1)
