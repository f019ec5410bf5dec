-- The laws of deltas that need more than a lemma of one definition.
use Rattle.std.proofs.Common.{◌≡◌, ℕ, Bool, true, false, List, [], ◌∷◌, ◌++◌, length, map, get_or, refl, sym, ap, ◌∙◌, arith, append_assoc, length-append}
use Rattle.std.proofs.lemmas.List.{length-map, nil_from_length}
use Rattle.std.proofs.lemmas.Bool.{and_parts, eqb-true}
use Rattle.delta.specs.Cells.{Cell, Cells, keeps, base_length, result_length, applied, front, with_front_text, normal_with_cell, normal, changes_nothing, is_nothing, IsNormal}
use Rattle.delta.specs.Marks.{Mark, New, Place, marks_of, applied_marks, char_of, delta_from, composed}
use Rattle.delta.proofs.MarksLemmas.{length-marks_from, length-keeps}
use Rattle.delta.proofs.NormalLemmas.{inserts-front, normal_is_fixed, same_normal}
use Rattle.delta.proofs.ComposedLemmas.{item_at, text_by_marks, marks_of-composed, applied_marks-composed, base_length-composed}
use Rattle.delta.proofs.ApplyLemmas.{applied-inserts}

applied-front : (d : Cells) (text : List ℕ) → front d ++ applied (with_front_text [] d) text ≡ applied d text
applied-front d text = sym (applied-inserts (front d) (with_front_text [] d) text) ∙ ap (λ e. applied e text) (inserts-front d)

applied-normal_with_cell : (t : List ℕ) (k : Bool) (d : Cells) (x : ℕ) (text : List ℕ) → applied (normal_with_cell t k d) (x ∷ text) ≡ t ++ keeps k x (applied d text)
applied-normal_with_cell t true d x text = refl
applied-normal_with_cell t false d x text = append_assoc t (front d) _ ∙ ap (λ l. t ++ l) (applied-front d text)

applied-normal_with_cell_short : (t : List ℕ) (k : Bool) (d : Cells) → applied (normal_with_cell t k d) [] ≡ t ++ applied d []
applied-normal_with_cell_short t true d = refl
applied-normal_with_cell_short t false d = append_assoc t (front d) _ ∙ ap (λ l. t ++ l) (applied-front d [])

pub applied-normal : (d : Cells) (text : List ℕ) → applied (normal d) text ≡ applied d text
applied-normal d text = by_cells d.cells d.last text where
  by_cells : (cs : List Cell) (last text : List ℕ) → applied (normal (record { cells = cs; last = last })) text ≡ applied (record { cells = cs; last = last }) text
  by_cells [] last text = refl
  by_cells (c ∷ cs) last [] =
      applied-normal_with_cell_short c.inserted c.kept (normal (record { cells = cs; last = last })) ∙ ap (λ l. c.inserted ++ l) (by_cells cs last [])
  by_cells (c ∷ cs) last (x ∷ text) =
      applied-normal_with_cell c.inserted c.kept (normal (record { cells = cs; last = last })) x text
      ∙ ap (λ l. c.inserted ++ keeps c.kept x l) (by_cells cs last text)

pub marks_fix : (d e : Cells) → IsNormal d → IsNormal e → base_length d ≡ base_length e → marks_of d ≡ marks_of e → d ≡ e
marks_fix d e h k lengths marks = sym (normal_is_fixed d h) ∙ same_normal d e lengths marks ∙ normal_is_fixed e k

char_of-item : (text : List ℕ) (marks : List Mark) → map (char_of text) marks ≡ map (item_at (λ c. c) (λ i. get_or text i 0)) marks
char_of-item text [] = refl
char_of-item text (New c ∷ marks) = ap (λ l. c ∷ l) (char_of-item text marks)
char_of-item text (Place i ∷ marks) = ap (λ l. get_or text i 0 ∷ l) (char_of-item text marks)

pub marks_tell : (d : Cells) (text : List ℕ) → base_length d ≡ length text → map (char_of text) (marks_of d) ≡ applied d text
marks_tell d text lengths = char_of-item text (marks_of d) ∙ text_by_marks text d lengths

pub length-applied : (d : Cells) (text : List ℕ) → base_length d ≡ length text → length (applied d text) ≡ result_length d
length-applied d text lengths =
    ap length (sym (marks_tell d text lengths)) ∙ length-map (marks_of d) (char_of text) ∙ length-marks_from 0 d

-- a text of which the test says that it is empty
pub empty_text : (t : List ℕ) → is_nothing t ≡ true → t ≡ []
empty_text t h = nil_from_length t (eqb-true (length t) 0 h)

pub applied-nothing : (d : Cells) (text : List ℕ) → changes_nothing d ≡ true → base_length d ≡ length text → applied d text ≡ text
applied-nothing d text h lengths = by_cells d.cells d.last text h lengths where
  kept_all : (k : Bool) (x : ℕ) (xs : List ℕ) → k ≡ true → keeps k x xs ≡ x ∷ xs
  kept_all k x xs h = ap (λ b. keeps b x xs) h

  by_cells : (cs : List Cell) (last text : List ℕ) → changes_nothing (record { cells = cs; last = last }) ≡ true → length cs ≡ length text → applied (record { cells = cs; last = last }) text ≡ text
  by_cells [] last text h lengths = empty_text last h ∙ sym (nil_from_length text (sym lengths))
  by_cells (c ∷ cs) last [] h lengths = absurd (omega (arith, lengths))
  by_cells (c ∷ cs) last (x ∷ text) h lengths =
      let both = and_parts (is_nothing c.inserted) _ h in
      let others = and_parts c.kept _ both.1 in
      ap (λ l. l ++ keeps c.kept x (applied (record { cells = cs; last = last }) text)) (empty_text c.inserted both.0)
      ∙ kept_all c.kept x _ others.0
      ∙ ap (λ l. x ∷ l) (by_cells cs last text others.1 (omega (arith, lengths)))

length-applied_marks : (cs : List Cell) (last : List ℕ) (marks : List Mark) → length cs ≡ length marks
    → length (applied_marks (record { cells = cs; last = last }) marks) ≡ result_length (record { cells = cs; last = last })
length-applied_marks [] last marks lengths = length-map last New
length-applied_marks (c ∷ cs) last [] lengths = absurd (omega (arith, lengths))
length-applied_marks (c ∷ cs) last (m ∷ marks) lengths =
    let rest : List Mark = applied_marks (record { cells = cs; last = last }) marks in
    omega (arith, length-append (map New c.inserted) (keeps c.kept m rest), length-map c.inserted New, length-keeps c.kept m rest, length-applied_marks cs last marks (omega (arith, lengths)))

pub result_length-composed : (a b : Cells) → result_length a ≡ base_length b → result_length (composed a b) ≡ result_length b
result_length-composed a b lengths =
    sym (length-marks_from 0 (composed a b))
    ∙ ap length (marks_of-composed a b)
    ∙ length-applied_marks b.cells b.last (marks_of a) (sym (length-marks_from 0 a ∙ lengths))

pub composed_assoc : (a b c : Cells) → result_length a ≡ base_length b → composed (composed a b) c ≡ composed a (composed b c)
composed_assoc a b c lengths =
    ap (λ n. delta_from 0 n (applied_marks c (marks_of (composed a b)))) (base_length-composed a b)
    ∙ ap (λ l. delta_from 0 (base_length a) (applied_marks c l)) (marks_of-composed a b)
    ∙ ap (delta_from 0 (base_length a)) (sym (applied_marks-composed b c (marks_of a) (sym (length-marks_from 0 a ∙ lengths))))
