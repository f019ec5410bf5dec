-- Deltas that are alike: side by side with others, and their normal form.
use Rattle.std.proofs.Common.{◌≡◌, ℕ, ◌+◌, List, ◌++◌, map, sym, ap, ◌∙◌, arith}
use Rattle.std.proofs.lemmas.List.{append-nil}
use Rattle.delta.specs.Cells.{Cells, base_length, result_length, inserts, inserting, deleting, joined, nothing, normal}
use Rattle.delta.specs.Marks.{New, marks_from}
use Rattle.delta.specs.Alike.{IsAlike}
use Rattle.delta.proofs.CellsLemmas.{base_length-joined, base_length-inserts, result_length-joined, result_length-inserts, result_length-deleted}
use Rattle.delta.proofs.MarksLemmas.{marks_from-joined, marks_from-inserts, marks_from-deleted}
use Rattle.delta.proofs.NormalLemmas.{same_normal}

pub IsAlike-same : (d e : Cells) → d ≡ e → IsAlike d e
IsAlike-same d e h = record {
  base = ap base_length h;
  result = ap result_length h;
  marks = λ i. ap (marks_from i) h;
}

pub IsAlike-trans : (c d e : Cells) → IsAlike c d → IsAlike d e → IsAlike c e
IsAlike-trans c d e h k = record {
  base = h.base ∙ k.base;
  result = h.result ∙ k.result;
  marks = λ i. h.marks i ∙ k.marks i;
}

pub IsAlike-joined_left : (c d e : Cells) → IsAlike d e → IsAlike (joined d c) (joined e c)
IsAlike-joined_left c d e h = record {
  base = omega (arith, base_length-joined d c, base_length-joined e c, h.base);
  result = omega (arith, result_length-joined d c, result_length-joined e c, h.result);
  marks = λ i.
      marks_from-joined i d c
      ∙ ap (λ l. l ++ marks_from (i + base_length d) c) (h.marks i)
      ∙ ap (λ n. marks_from i e ++ marks_from (i + n) c) h.base
      ∙ sym (marks_from-joined i e c);
}

pub IsAlike-joined_right : (c d e : Cells) → IsAlike d e → IsAlike (joined c d) (joined c e)
IsAlike-joined_right c d e h = record {
  base = omega (arith, base_length-joined c d, base_length-joined c e, h.base);
  result = omega (arith, result_length-joined c d, result_length-joined c e, h.result);
  marks = λ i.
      marks_from-joined i c d
      ∙ ap (λ l. marks_from i c ++ l) (h.marks (i + base_length c))
      ∙ sym (marks_from-joined i c e);
}

-- a text behind a deleted run, and the same text before it
pub IsAlike-moved : (text : List ℕ) (n : ℕ) → IsAlike (inserts text (deleting n)) (joined (deleting n) (inserting text))
IsAlike-moved text n = record {
  base = omega (arith, base_length-inserts text (deleting n), base_length-joined (deleting n) (inserting text));
  result =
      omega (arith, result_length-inserts text (deleting n), result_length-joined (deleting n) (inserting text), result_length-deleted n nothing);
  marks = λ i.
      marks_from-inserts i text (deleting n)
      ∙ ap (λ l. map New text ++ l) (marks_from-deleted i n nothing)
      ∙ append-nil (map New text)
      ∙ sym (marks_from-joined i (deleting n) (inserting text) ∙ ap (λ l. l ++ map New text) (marks_from-deleted i n nothing));
}

pub normal-alike : (d e : Cells) → IsAlike d e → normal d ≡ normal e
normal-alike d e h = same_normal d e h.base (h.marks 0)
