-- The bytes of a text fit a byte.
use Rattle.std.proofs.Common.{◌≡◌, ℕ, ◌+◌, ◌/◌, true, List, [], ◌∷◌, All, subst, arith}
use Rattle.std.specs.Str.{IsUtf8}
use Rattle.std.proofs.lemmas.Bool.{cond_both, and_parts}
use Rattle.std.proofs.lemmas.Bool.Decides.{nat_tests}
use Rattle.std.proofs.lemmas.List.Elements.{All-nil, All-cons, All-append}
use Rattle.percent_encoding.proofs.PercentLemmas.{IsByte}
use lib.Utf8.{scalar, scalars, next, encode, encodes}
use lib.Dec.{ltb}

All-next : (bits : ℕ) (bytes : List ℕ) → All IsByte bytes → All IsByte (next bits ∷ bytes)
All-next bits bytes rest = All-cons IsByte (next bits) bytes (omega arith) rest

All-encode : (c : ℕ) → scalar c ≡ true → All IsByte (encode c)
unfolding encode
All-encode c fits =
    cond_both (ltb c 128) (c ∷ []) _ (All IsByte) (λ ascii. All-cons IsByte c [] (grind (arith, nat_tests)) (All-nil IsByte))
    (λ _. cond_both (ltb c 2048) ((192 + c / 64) ∷ next c ∷ []) _ (All IsByte)
    (λ two. All-cons IsByte (192 + c / 64) (next c ∷ []) (grind (arith, nat_tests)) (All-next c [] (All-nil IsByte)))
    (λ _. cond_both (ltb c 65536) ((224 + c / 4096) ∷ next (c / 64) ∷ next c ∷ []) _ (All IsByte)
    (λ three. All-cons IsByte (224 + c / 4096) (next (c / 64) ∷ next c ∷ []) (grind (arith, nat_tests)) (All-next (c / 64) (next c ∷ []) (All-next c [] (All-nil IsByte))))
    (λ _. All-cons IsByte (240 + c / 262144) (next (c / 4096) ∷ next (c / 64) ∷ next c ∷ []) (grind (arith, nat_tests))
    (All-next (c / 4096) (next (c / 64) ∷ next c ∷ []) (All-next (c / 64) (next c ∷ []) (All-next c [] (All-nil IsByte)))))))

All-encodes : (cs : List ℕ) → scalars cs ≡ true → All IsByte (encodes cs)
All-encodes [] fits = All-nil IsByte
All-encodes (c ∷ cs) fits =
    let both = and_parts (scalar c) (scalars cs) fits in
    All-append IsByte (encode c) (encodes cs) (All-encode c both.0) (All-encodes cs both.1)

pub bytes_from_IsUtf8 : (text : List ℕ) → IsUtf8 text → All IsByte text
bytes_from_IsUtf8 text utf8 = subst (All IsByte) utf8.1.1 (All-encodes utf8.0 utf8.1.0)
