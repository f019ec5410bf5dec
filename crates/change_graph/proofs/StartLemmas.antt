-- Where the indices of each operation begin.
use Rattle.std.proofs.Common.{◌≡◌, ℕ, ◌+◌, ◌≤◌, sym, ap, ◌∙◌, List, ◌++◌, length, take, drop, arith}
use Rattle.std.proofs.lemmas.List.{take-take, take-append-drop, length-append}
use Rattle.std.proofs.lemmas.List.Concat.{flat_map-append}
use Rattle.std.specs.List.Sorted.{IsNonDecreasingBy}
use Rattle.std.proofs.lemmas.List.Sorted.{IsNonDecreasingBy-from_default}
use Rattle.change_codec.specs.declared.ops.Op.{Op}
use Rattle.change_graph.specs.Refusals.{Thing, things_of, things}
use Rattle.change_graph.specs.Starts.{AreStarts}

things_joined : (one other : List Op) → length (things (one ++ other)) ≡ length (things one) + length (things other)
things_joined one other = ap (λ (xs : List Thing). length xs) (flat_map-append things_of one other) ∙ length-append (things one) (things other)

-- the operations up to one more begin no earlier
things_rise : (ops : List Op) (i j : ℕ) → i ≤ j → length (things (take i ops)) ≤ length (things (take j ops))
things_rise ops i j le =
    let split : take i ops ++ drop i (take j ops) ≡ take j ops =
    ap (λ (os : List Op). os ++ drop i (take j ops)) (sym (take-take i j ops le)) ∙ take-append-drop i (take j ops) in
    let joined = sym (things_joined (take i ops) (drop i (take j ops))) ∙ ap (λ (os : List Op). length (things os)) split in
    omega (arith, joined)

pub starts_rise : (ops : List Op) (starts : List ℕ) → AreStarts ops starts → IsNonDecreasingBy (λ (n : ℕ). n) starts
starts_rise ops starts are =
    IsNonDecreasingBy-from_default (λ (n : ℕ). n) starts 0
    (λ i j le less. omega (arith, things_rise ops i j le, are.exact i (omega (arith, le, less)), are.exact j less))
