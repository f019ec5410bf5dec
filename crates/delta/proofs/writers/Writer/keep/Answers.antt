use Rattle.std.proofs.Common.{◌≡◌, ◌==◌, ℕ, false, List, ◌<◌, ◌⊎◌, [], length, inl, inr, sym, ap, ◌∙◌, arith}
use Rattle.std.proofs.lemmas.List.{nil_from_length}
use Rattle.std.proofs.lemmas.Bool.{eqb-true, eqb-false}
use Rattle.delta.specs.Cells.{base_length, joined, keeping}
use Rattle.delta.proofs.CellsLemmas.{joined_nothing}
use Rattle.delta.proofs.AlikeLemmas.{IsAlike-same}
use Rattle.delta.proofs.WriterLemmas.{IsAlike-keeps, IsWriting-keeps, IsAlike-begins, IsWriting-begins, base_length-with_group}
use Rattle.delta.proofs.writers.Writer.keep.Goals as goal
use Rattle.delta.proofs.writers.Writer.keep.Goals.{else-is_empty-via-then-is_empty+else-deleted-eq0, else-is_empty-via-else-is_empty}

pub returns-then-count-eq0 : goal.returns-then-count-eq0
returns-then-count-eq0 c =
    IsAlike-same _ _ (sym (joined_nothing c.args.self) ∙ ap (λ n. joined c.args.self (keeping n)) (sym c.if-count-eq0.true))

pub overflow_add-result : goal.overflow_add-result
overflow_add-result c =
    let w = c.self.inside in
    omega (arith, c.requires, ap base_length c.self.view_is, base_length-with_group w.written.items w.kept w.text.items w.deleted)

pub invariant_of-result : goal.invariant_of-result
invariant_of-result c =
    let w = c.self.inside in
    let empty : w.text.items ≡ [] = nil_from_length w.text.items (omega (arith, w.text.ok.0, eqb-true _ _ (sym c.if-is_empty.ensures))) in
    IsWriting-keeps w.written.items w.kept w.text.items w.deleted w.length c.args.count c.in_ok-length.length empty c.if-deleted-eq0.true c.self.invariant
    c.in_ok-length.ensures.sum c.in_ok-length.ensures.fits

pub returns-then-deleted-eq0 : goal.returns-then-deleted-eq0
returns-then-deleted-eq0 c =
    let w = c.self.inside in
    let empty : w.text.items ≡ [] = nil_from_length w.text.items (omega (arith, w.text.ok.0, eqb-true _ _ (sym c.if-is_empty.ensures))) in
    IsAlike-keeps w.written.items w.kept w.text.items w.deleted c.args.count c.args.self empty c.if-deleted-eq0.true c.self.view_is

longer : (t : List ℕ) (n : ℕ) → n ≡ length t → false ≡ (n == 0) → 0 < length t
longer t n is other =
    let ne : n ≡ 0 → ⊥ = eqb-false n 0 (sym other) in omega (arith, is, ne)

pub invariant_of-result-2 : goal.invariant_of-result-2
invariant_of-result-2 c =
    let w = c.self.inside in
    let change : (0 < length w.text.items) ⊎ (0 < w.deleted) = elim c.else-is_empty.branch [
      | else-is_empty-via-then-is_empty+else-deleted-eq0 b ↦ inr (omega (arith, b.if-deleted-eq0.false))
      | else-is_empty-via-else-is_empty b ↦ inl (longer w.text.items _ w.text.ok.0 b.if-is_empty.ensures)
    ] in
    IsWriting-begins w.written.items _ w.kept w.text.items c.new.result.items w.deleted w.length c.args.count c.in_ok-length.length c.in_ok-write_group.ensures c.new.ensures.items
    change (omega (arith, c.if-count-eq0.false)) c.self.invariant c.in_ok-length.ensures.sum c.in_ok-length.ensures.fits

pub returns : goal.returns
returns c =
    let w = c.self.inside in
    IsAlike-begins w.written.items _ w.kept w.text.items c.new.result.items w.deleted c.args.count c.args.self c.in_ok-write_group.ensures c.new.ensures.items c.self.view_is
