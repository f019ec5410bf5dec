-- Positions further on in a text.
use Rattle.std.proofs.Common.{◌≡◌, ℕ, zero, suc, ◌+◌, ◌≤◌, Bool, true, false, List, [], ◌∷◌, ◌++◌, length, take, drop, refl, sym, ap, ◌∙◌, arith}
use Rattle.std.proofs.lemmas.List.{length-take-le}
use Rattle.tt_base.specs.declared.edits.Position.{Position}
use Rattle.text_position.specs.Places.{is_line_end, position_behind_char, position_behind, first_position, position_at}
use Rattle.text_position.proofs.PlacesLemmas.{position_behind-append}

take-none : (n : ℕ) → take {A = ℕ} n [] ≡ []
take-none zero = refl
take-none (suc n) = refl

take-add : (m n : ℕ) (text : List ℕ) → take (m + n) text ≡ take m text ++ take n (drop m text)
take-add zero n text = let same : 0 + n ≡ n = omega arith in ap (λ k. take k text) same
take-add (suc m) n [] = let same : suc m + n ≡ suc (m + n) = omega arith in ap (λ k. take {A = ℕ} k []) same ∙ sym (take-none n)
take-add (suc m) n (ch ∷ text) =
    let same : suc m + n ≡ suc (m + n) = omega arith in
    ap (λ k. take k (ch ∷ text)) same ∙ ap (λ t. ch ∷ t) (take-add m n text)

pub position_at-add : (text : List ℕ) (m n : ℕ) → position_behind (position_at text m) (take n (drop m text)) ≡ position_at text (m + n)
position_at-add text m n =
    sym (position_behind-append first_position (take m text) (take n (drop m text)))
    ∙ ap (position_behind first_position) (sym (take-add m n text))

behind_bounds : (p : Position) (text : List ℕ) → ((position_behind p text).line ≤ p.line + length text) × ((position_behind p text).character ≤ p.character + length text)
behind_bounds p [] = (omega arith, omega arith)
behind_bounds p (ch ∷ text) = by_end (is_line_end ch) (λ (q : Position). behind_bounds q text) where
  by_end : (b : Bool) → ((q : Position) → ((position_behind q text).line ≤ q.line + length text) × ((position_behind q text).character ≤ q.character + length text))
      → ((position_behind (position_behind_char b p) text).line ≤ p.line + suc (length text)) × ((position_behind (position_behind_char b p) text).character ≤ p.character + suc (length text))
  by_end true rest = let h = rest (position_behind_char true p) in (omega (arith, h.0), omega (arith, h.1))
  by_end false rest = let h = rest (position_behind_char false p) in (omega (arith, h.0), omega (arith, h.1))

-- neither count of a position is above that of the characters before it
pub position_at-bounds : (text : List ℕ) (place : ℕ) → place ≤ length text → ((position_at text place).line ≤ place) × ((position_at text place).character ≤ place)
position_at-bounds text place h =
    let bounds = behind_bounds first_position (take place text) in
    let size = length-take-le place text h in
    (omega (arith, bounds.0, size), omega (arith, bounds.1, size))
