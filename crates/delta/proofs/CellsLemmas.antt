-- Deltas side by side: their lengths, and that the order in which they are joined is free.
use Rattle.std.proofs.Common.{◌≡◌, ℕ, zero, suc, ◌+◌, Bool, true, false, List, [], ◌∷◌, ◌++◌, length, refl, sym, ap, ◌∙◌, arith, append_assoc, length-append, zero-add}
use Rattle.std.proofs.lemmas.List.{append-nil}
use Rattle.delta.specs.Cells.{Cell, Cells, ends, with_cell, base_length, result_length, inserts, covers, joined, nothing}

pub inserts_none : (d : Cells) → inserts [] d ≡ d
inserts_none d = by_cells d.cells d.last where
  by_cells : (cs : List Cell) (last : List ℕ) → inserts [] (record { cells = cs; last = last }) ≡ record { cells = cs; last = last }
  by_cells [] last = refl
  by_cells (c ∷ cs) last = refl

pub inserts-inserts : (s t : List ℕ) (d : Cells) → inserts s (inserts t d) ≡ inserts (s ++ t) d
inserts-inserts s t d = by_cells d.cells d.last where
  by_cells : (cs : List Cell) (last : List ℕ) → inserts s (inserts t (record { cells = cs; last = last })) ≡ inserts (s ++ t) (record { cells = cs; last = last })
  by_cells [] last = ap ends (sym (append_assoc s t last))
  by_cells (c ∷ cs) last =
      ap (λ text. with_cell text c.kept (record { cells = cs; last = last })) (sym (append_assoc s t c.inserted))

pub joined-inserts : (t : List ℕ) (d e : Cells) → joined (inserts t d) e ≡ inserts t (joined d e)
joined-inserts t d e = by_cells d.cells d.last where
  by_cells : (cs : List Cell) (last : List ℕ) → joined (inserts t (record { cells = cs; last = last })) e ≡ inserts t (joined (record { cells = cs; last = last }) e)
  by_cells [] last = sym (inserts-inserts t last e)
  by_cells (c ∷ cs) last = refl

pub joined_assoc : (d e f : Cells) → joined (joined d e) f ≡ joined d (joined e f)
joined_assoc d e f = by_cells d.cells d.last where
  by_cells : (cs : List Cell) (last : List ℕ) → joined (joined (record { cells = cs; last = last }) e) f ≡ joined (record { cells = cs; last = last }) (joined e f)
  by_cells [] last = joined-inserts last e f
  by_cells (c ∷ cs) last = ap (with_cell c.inserted c.kept) (by_cells cs last)

pub joined_nothing : (d : Cells) → joined d nothing ≡ d
joined_nothing d = by_cells d.cells d.last where
  by_cells : (cs : List Cell) (last : List ℕ) → joined (record { cells = cs; last = last }) nothing ≡ record { cells = cs; last = last }
  by_cells [] last = ap ends (append-nil last)
  by_cells (c ∷ cs) last = ap (with_cell c.inserted c.kept) (by_cells cs last)

pub joined-covers : (k : Bool) (n : ℕ) (d e : Cells) → joined (covers k n d) e ≡ covers k n (joined d e)
joined-covers k zero d e = refl
joined-covers k (suc n) d e = ap (with_cell [] k) (joined-covers k n d e)

pub covers-covers : (k : Bool) (m n : ℕ) (d : Cells) → covers k m (covers k n d) ≡ covers k (m + n) d
covers-covers k zero n d = ap (λ l. covers k l d) (sym (zero-add n))
covers-covers k (suc m) n d =
    let more : suc (m + n) ≡ suc m + n = omega arith in
    ap (with_cell [] k) (covers-covers k m n d) ∙ ap (λ l. covers k l d) more

pub base_length-inserts : (t : List ℕ) (d : Cells) → base_length (inserts t d) ≡ base_length d
base_length-inserts t d = by_cells d.cells d.last where
  by_cells : (cs : List Cell) (last : List ℕ) → base_length (inserts t (record { cells = cs; last = last })) ≡ length cs
  by_cells [] last = refl
  by_cells (c ∷ cs) last = refl

pub base_length-covers : (k : Bool) (n : ℕ) (d : Cells) → base_length (covers k n d) ≡ n + base_length d
base_length-covers k zero d = omega arith
base_length-covers k (suc n) d = omega (arith, base_length-covers k n d)

pub base_length-joined : (d e : Cells) → base_length (joined d e) ≡ base_length d + base_length e
base_length-joined d e = by_cells d.cells d.last where
  by_cells : (cs : List Cell) (last : List ℕ) → base_length (joined (record { cells = cs; last = last }) e) ≡ length cs + base_length e
  by_cells [] last = omega (arith, base_length-inserts last e)
  by_cells (c ∷ cs) last = omega (arith, by_cells cs last)

pub result_length-inserts : (t : List ℕ) (d : Cells) → result_length (inserts t d) ≡ length t + result_length d
result_length-inserts t d = by_cells d.cells d.last where
  by_cells : (cs : List Cell) (last : List ℕ) → result_length (inserts t (record { cells = cs; last = last })) ≡ length t + result_length (record { cells = cs; last = last })
  by_cells [] last = length-append t last
  by_cells (c ∷ cs) last = omega (arith, length-append t c.inserted)

pub result_length-kept : (n : ℕ) (d : Cells) → result_length (covers true n d) ≡ n + result_length d
result_length-kept zero d = omega arith
result_length-kept (suc n) d = omega (arith, result_length-kept n d)

pub result_length-deleted : (n : ℕ) (d : Cells) → result_length (covers false n d) ≡ result_length d
result_length-deleted zero d = refl
result_length-deleted (suc n) d = omega (arith, result_length-deleted n d)

pub result_length-joined : (d e : Cells) → result_length (joined d e) ≡ result_length d + result_length e
result_length-joined d e = by_cells d.cells d.last where
  by_cells : (cs : List Cell) (last : List ℕ) → result_length (joined (record { cells = cs; last = last }) e) ≡ result_length (record { cells = cs; last = last }) + result_length e
  by_cells [] last = result_length-inserts last e
  by_cells (c ∷ cs) last = omega (arith, by_cells cs last)
