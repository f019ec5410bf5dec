-- Composition, a part of a step at a time.
use Rattle.std.proofs.Common.{◌≡◌, ℕ, ◌+◌, ◌≤◌, ◌<◌, Bool, true, false, List, [], ◌∷◌, ◌++◌, length, map, take, refl, sym, ap, ◌∙◌, subst, arith, append_assoc}
use Rattle.std.proofs.lemmas.List.{append-nil, length-take-le, nil_from_length, length-map}
use Rattle.delta.specs.Cells.{Cells, base_length, result_length, covers, inserts, joined, nothing, inserting, deleting, normal}
use Rattle.delta.specs.Marks.{Mark, New, places, applied_marks, marks_of, marks_from, delta_from, composed}
use Rattle.delta.specs.Steps.{after_step, cells_of, step_base, MayLead, IsCanonical}
use Rattle.delta.specs.Reading.{first_size, front_part, text_ahead, next_of}
use Rattle.delta.specs.Composing.{composing, run_step, inserted_if, Composes}
use Rattle.delta.specs.declared.steps.DeltaStep.{DeltaStep}
use Rattle.delta.specs.declared.steps.DeltaStep.TheVariants.{Keep, Insert, Delete}
use Rattle.delta.specs.declared.readers.NextStep.TheVariants.{Keep as KeepNext, Insert as InsertNext, Delete as DeleteNext, End as AtEnd}
use Rattle.delta.proofs.CellsLemmas.{covers-covers, joined_nothing, base_length-joined, base_length-covers, base_length-inserts, result_length-kept, result_length-deleted, result_length-inserts}
use Rattle.delta.proofs.MarksLemmas.{length-places, length-marks_from, applied_marks-inserts, applied_marks-kept}
use Rattle.delta.proofs.MarksLemmas.{applied_marks-deleted, marks_from-inserts, marks_from-kept, marks_from-deleted, marks_from-joined}
use Rattle.delta.proofs.NormalLemmas.{delta_from-marks_from}

zero_right : (n : ℕ) → n + 0 ≡ n
zero_right n = omega arith

marks_of-joined : (b e : Cells) → marks_of (joined b e) ≡ marks_of b ++ marks_from (base_length b) e
marks_of-joined b e =
    let same : 0 + base_length b ≡ base_length b = omega arith in
    marks_from-joined 0 b e ∙ ap (λ i. marks_of b ++ marks_from i e) same

-- what is left, where a piece was built that covers n places
composing-joined : (b e a d : Cells) (n : ℕ) → base_length e ≡ n → composing (joined b e) a d ≡ marks_of b ++ (marks_from (base_length b) e ++ applied_marks d (marks_from (base_length b + n) a))
composing-joined b e a d n covered =
    ap (λ l. l ++ applied_marks d (marks_from (base_length (joined b e)) a)) (marks_of-joined b e)
    ∙ append_assoc (marks_of b) (marks_from (base_length b) e) _
    ∙ ap (λ i. marks_of b ++ (marks_from (base_length b) e ++ applied_marks d (marks_from i a))) (base_length-joined b e ∙ ap (λ m. base_length b + m) covered)

base_length-piece : (k : Bool) (n : ℕ) → base_length (covers k n nothing) ≡ n
base_length-piece k n = omega (arith, base_length-covers k n nothing)

applied_places : (k : Bool) (i n : ℕ) (d : Cells) (more : List Mark) → applied_marks (covers k n d) (places i n ++ more) ≡ marks_from i (covers k n nothing) ++ applied_marks d more
applied_places true i n d more =
    ap (λ m. applied_marks (covers true m d) (places i n ++ more)) (sym (length-places i n))
    ∙ applied_marks-kept d (places i n) more
    ∙ ap (λ l. l ++ applied_marks d more) (sym (append-nil (places i n)) ∙ sym (marks_from-kept i n nothing))
applied_places false i n d more =
    ap (λ m. applied_marks (covers false m d) (places i n ++ more)) (sym (length-places i n))
    ∙ applied_marks-deleted d (places i n) more
    ∙ ap (λ l. l ++ applied_marks d more) (sym (marks_from-deleted i n nothing))

applied_new_kept : (t : List ℕ) (d : Cells) (more : List Mark) → applied_marks (covers true (length t) d) (map New t ++ more) ≡ map New t ++ applied_marks d more
applied_new_kept t d more =
    ap (λ m. applied_marks (covers true m d) (map New t ++ more)) (sym (length-map t New)) ∙ applied_marks-kept d (map New t) more

applied_new_deleted : (t : List ℕ) (d : Cells) (more : List Mark) → applied_marks (covers false (length t) d) (map New t ++ more) ≡ applied_marks d more
applied_new_deleted t d more =
    ap (λ m. applied_marks (covers false m d) (map New t ++ more)) (sym (length-map t New)) ∙ applied_marks-deleted d (map New t) more

-- kept places of the first delta under a run of the second
Composes-kept : (k : Bool) (n : ℕ) (b a : Cells) → Composes (run_step k n) b (joined b (covers k n nothing)) (covers true n a) a
Composes-kept k n b a = record {
  leaves = λ d.
      composing-joined b (covers k n nothing) a d n (base_length-piece k n)
      ∙ ap (λ l. marks_of b ++ l) (sym (applied_places k (base_length b) n d (marks_from (base_length b + n) a)))
      ∙ ap (λ l. marks_of b ++ applied_marks (covers k n d) l) (sym (marks_from-kept (base_length b) n a))
      ∙ ap (λ e. composing b (covers true n a) e) (by_kind k d);
  base = omega (arith, base_length-joined b (covers k n nothing), base_length-piece k n, base_length-covers true n a);
  result = by_result k;
} where
  by_kind : (k : Bool) (d : Cells) → covers k n d ≡ after_step (run_step k n) d
  by_kind true d = refl
  by_kind false d = refl

  by_result : (k : Bool) → result_length a + step_base (run_step k n) ≡ result_length (covers true n a)
  by_result true = omega (arith, result_length-kept n a)
  by_result false = omega (arith, result_length-kept n a)

-- inserted characters of the first delta under a run of the second
Composes-inserted : (k : Bool) (t : List ℕ) (b a : Cells) → Composes (run_step k (length t)) b (inserted_if k t b) (inserts t a) a
Composes-inserted true t b a = record {
  leaves = λ d.
      composing-joined b (inserting t) a d 0 refl
      ∙ ap (λ i. marks_of b ++ (map New t ++ applied_marks d (marks_from i a))) (zero_right (base_length b))
      ∙ ap (λ l. marks_of b ++ l) (sym (applied_new_kept t d (marks_from (base_length b) a)))
      ∙ ap (λ l. marks_of b ++ applied_marks (covers true (length t) d) l) (sym (marks_from-inserts (base_length b) t a));
  base = omega (arith, base_length-joined b (inserting t), base_length-inserts t a);
  result = omega (arith, result_length-inserts t a);
}
Composes-inserted false t b a = record {
  leaves = λ d.
      ap (λ l. marks_of b ++ l) (sym (applied_new_deleted t d (marks_from (base_length b) a)))
      ∙ ap (λ l. marks_of b ++ applied_marks (covers false (length t) d) l) (sym (marks_from-inserts (base_length b) t a));
  base = omega (arith, base_length-inserts t a);
  result = omega (arith, result_length-inserts t a);
}

-- deleted places of the first delta
Composes-deleted : (k : Bool) (n : ℕ) (b a : Cells) → Composes (run_step k 0) b (joined b (deleting n)) (covers false n a) a
Composes-deleted k n b a = record {
  leaves = λ d.
      composing-joined b (deleting n) a d n (base_length-piece false n)
      ∙ ap (λ l. marks_of b ++ (l ++ applied_marks d (marks_from (base_length b + n) a))) (marks_from-deleted (base_length b) n nothing)
      ∙ ap (λ l. marks_of b ++ applied_marks d l) (sym (marks_from-deleted (base_length b) n a))
      ∙ by_kind k d;
  base = omega (arith, base_length-joined b (deleting n), base_length-piece false n, base_length-covers false n a);
  result = by_result k;
} where
  by_kind : (k : Bool) (d : Cells) → composing b (covers false n a) d ≡ composing b (covers false n a) (after_step (run_step k 0) d)
  by_kind true d = refl
  by_kind false d = refl

  by_result : (k : Bool) → result_length a + step_base (run_step k 0) ≡ result_length (covers false n a)
  by_result true = omega (arith, result_length-deleted n a)
  by_result false = omega (arith, result_length-deleted n a)

-- a text of the second delta
pub Composes-text : (t : List ℕ) (b a : Cells) → Composes (Insert t) b (joined b (inserting t)) a a
Composes-text t b a = record {
  leaves = λ d.
      composing-joined b (inserting t) a d 0 refl
      ∙ ap (λ i. marks_of b ++ (map New t ++ applied_marks d (marks_from i a))) (zero_right (base_length b))
      ∙ ap (λ l. marks_of b ++ l) (sym (applied_marks-inserts t d (marks_from (base_length b) a)));
  base = omega (arith, base_length-joined b (inserting t));
  result = omega arith;
}

pub Composes-none : (k : Bool) (b a : Cells) → Composes (run_step k 0) b b a a
Composes-none true b a = record { leaves = λ d. refl; base = refl; result = omega arith }
Composes-none false b a = record { leaves = λ d. refl; base = refl; result = omega arith }

-- one part of a run after another
pub Composes-then : (k : Bool) (m n l : ℕ) (b c e a f g : Cells) → m + n ≡ l → Composes (run_step k m) b c a f → Composes (run_step k n) c e f g → Composes (run_step k l) b e a g
Composes-then true m n l b c e a f g sum h j = record {
  leaves = λ d.
      j.leaves d ∙ h.leaves (covers true n d) ∙ ap (λ x. composing b a x) (covers-covers true m n d ∙ ap (λ i. covers true i d) sum);
  base = omega (arith, h.base, j.base);
  result = omega (arith, h.result, j.result, sum);
}
Composes-then false m n l b c e a f g sum h j = record {
  leaves = λ d.
      j.leaves d ∙ h.leaves (covers false n d) ∙ ap (λ x. composing b a x) (covers-covers false m n d ∙ ap (λ i. covers false i d) sum);
  base = omega (arith, h.base, j.base);
  result = omega (arith, h.result, j.result, sum);
}

pub size_ahead-keep : (ss : List DeltaStep) (n : ℕ) → next_of ss ≡ KeepNext n → IsCanonical ss → (first_size ss ≡ n) × (0 < n)
size_ahead-keep [] n is h = cc
size_ahead-keep (Keep m ∷ ss) n is h = let same : m ≡ n = cc in (same, omega (arith, h.0.content, same))
size_ahead-keep (Insert t ∷ ss) n is h = cc
size_ahead-keep (Delete m ∷ ss) n is h = cc

pub size_ahead-insert : (ss : List DeltaStep) (n : ℕ) → next_of ss ≡ InsertNext n → IsCanonical ss → (first_size ss ≡ n) × (0 < n) × (length (text_ahead ss) ≡ n)
size_ahead-insert [] n is h = cc
size_ahead-insert (Keep m ∷ ss) n is h = cc
size_ahead-insert (Insert t ∷ ss) n is h = let same : length t ≡ n = cc in (same, omega (arith, h.0.content, same), same)
size_ahead-insert (Delete m ∷ ss) n is h = cc

pub size_ahead-delete : (ss : List DeltaStep) (n : ℕ) → next_of ss ≡ DeleteNext n → IsCanonical ss → (first_size ss ≡ n) × (0 < n) × (n ≤ base_length (cells_of ss))
size_ahead-delete [] n is h = cc
size_ahead-delete (Keep m ∷ ss) n is h = cc
size_ahead-delete (Insert t ∷ ss) n is h = cc
size_ahead-delete (Delete m ∷ ss) n is h =
    let same : m ≡ n = cc in (same, omega (arith, h.0.content, same), omega (arith, same, base_length-covers false m (cells_of ss)))

pub keep_ahead : (ss : List DeltaStep) (n : ℕ) → next_of ss ≡ KeepNext n → n ≤ base_length (cells_of ss)
keep_ahead [] n is = cc
keep_ahead (Keep m ∷ ss) n is = let same : m ≡ n = cc in omega (arith, same, base_length-covers true m (cells_of ss))
keep_ahead (Insert t ∷ ss) n is = cc
keep_ahead (Delete m ∷ ss) n is = cc

pub nothing_ahead : (ss : List DeltaStep) (n : ℕ) → next_of ss ≡ AtEnd → n ≤ result_length (cells_of ss) → 0 < n → ⊥
nothing_ahead [] n is le some = omega (arith, le, some)
nothing_ahead (Keep m ∷ ss) n is le some = cc
nothing_ahead (Insert t ∷ ss) n is le some = cc
nothing_ahead (Delete m ∷ ss) n is le some = cc

pub part_kept : (k : Bool) (n taken : ℕ) (ss ts : List DeltaStep) (b c : Cells) → next_of ss ≡ KeepNext n → c ≡ joined b (covers k taken nothing)
    → cells_of ss ≡ after_step (front_part taken ss) (cells_of ts)
    → Composes (run_step k taken) b c (cells_of ss) (cells_of ts)
part_kept k n taken [] ts b c is built parts = cc
part_kept k n taken (Keep m ∷ ss) ts b c is built parts =
    subst (λ e. Composes (run_step k taken) b e (cells_of (Keep m ∷ ss)) (cells_of ts)) (sym built)
    (subst (λ a. Composes (run_step k taken) b (joined b (covers k taken nothing)) a (cells_of ts)) (sym parts) (Composes-kept k taken b (cells_of ts)))
part_kept k n taken (Insert t ∷ ss) ts b c is built parts = cc
part_kept k n taken (Delete m ∷ ss) ts b c is built parts = cc

pub part_inserted : (k : Bool) (n taken : ℕ) (u : List ℕ) (ss ts : List DeltaStep) (b c : Cells) → next_of ss ≡ InsertNext n → taken ≤ n → u ≡ take taken (text_ahead ss) → c ≡ inserted_if k u b
    → cells_of ss ≡ after_step (front_part taken ss) (cells_of ts) → Composes (run_step k taken) b c (cells_of ss) (cells_of ts)
part_inserted k n taken u [] ts b c is le text built parts = cc
part_inserted k n taken u (Keep m ∷ ss) ts b c is le text built parts = cc
part_inserted k n taken u (Insert t ∷ ss) ts b c is le text built parts =
    let same : length t ≡ n = cc in
    let long : length u ≡ taken = ap length text ∙ length-take-le taken t (omega (arith, same, le)) in
    let whole : cells_of (Insert t ∷ ss) ≡ inserts u (cells_of ts) = parts ∙ ap (λ l. inserts l (cells_of ts)) (sym text) in
    subst (λ e. Composes (run_step k taken) b e (cells_of (Insert t ∷ ss)) (cells_of ts)) (sym built)
    (subst (λ a. Composes (run_step k taken) b (inserted_if k u b) a (cells_of ts)) (sym whole)
    (subst (λ m. Composes (run_step k m) b (inserted_if k u b) (inserts u (cells_of ts)) (cells_of ts)) long (Composes-inserted k u b (cells_of ts))))
part_inserted k n taken u (Delete m ∷ ss) ts b c is le text built parts = cc

pub part_deleted : (k : Bool) (n : ℕ) (ss ts : List DeltaStep) (b c : Cells) → next_of ss ≡ DeleteNext n → c ≡ joined b (deleting n) → cells_of ss ≡ after_step (front_part n ss) (cells_of ts)
    → Composes (run_step k 0) b c (cells_of ss) (cells_of ts)
part_deleted k n [] ts b c is built parts = cc
part_deleted k n (Keep m ∷ ss) ts b c is built parts = cc
part_deleted k n (Insert t ∷ ss) ts b c is built parts = cc
part_deleted k n (Delete m ∷ ss) ts b c is built parts =
    subst (λ e. Composes (run_step k 0) b e (cells_of (Delete m ∷ ss)) (cells_of ts)) (sym built)
    (subst (λ a. Composes (run_step k 0) b (joined b (deleting n)) a (cells_of ts)) (sym parts) (Composes-deleted k n b (cells_of ts)))

no_result : (ss : List DeltaStep) → IsCanonical ss → result_length (cells_of ss) ≡ 0 → ((n : ℕ) → next_of ss ≡ DeleteNext n → ⊥) → cells_of ss ≡ nothing
no_result [] h none other = refl
no_result (Keep m ∷ ss) h none other = absurd (omega (arith, h.0.content, none, result_length-kept m (cells_of ss)))
no_result (Insert t ∷ ss) h none other = absurd (omega (arith, h.0.content, none, result_length-inserts t (cells_of ss)))
no_result (Delete m ∷ ss) h none other = absurd (other m refl)

-- what is left of the first delta, where nothing of its result is
pub nothing_left : (ss : List DeltaStep) → IsCanonical ss → result_length (cells_of ss) ≡ 0 → ((n : ℕ) → next_of ss ≡ DeleteNext n → ⊥) → (b : Cells) → b ≡ joined b (cells_of ss)
nothing_left ss h none other b = sym (ap (joined b) (no_result ss h none other) ∙ joined_nothing b)

pub end_deleted : (ss : List DeltaStep) (n : ℕ) → next_of ss ≡ DeleteNext n → IsCanonical ss → result_length (cells_of ss) ≡ 0 → cells_of ss ≡ deleting n
end_deleted [] n is h none = cc
end_deleted (Keep m ∷ ss) n is h none = cc
end_deleted (Insert t ∷ ss) n is h none = cc
end_deleted (Delete m ∷ ss) n is h none =
    let same : m ≡ n = cc in
    ap (λ j. covers false j (cells_of ss)) same
    ∙ ap (covers false n) (no_result ss h.1 (omega (arith, none, result_length-deleted m (cells_of ss))) (λ j e. no_more ss j e h.0.leads)) where
      no_more : (ss : List DeltaStep) (j : ℕ) → next_of ss ≡ DeleteNext j → MayLead (Delete m) ss → ⊥
      no_more [] j e lead = cc
      no_more (Keep i ∷ ss) j e lead = cc
      no_more (Insert t ∷ ss) j e lead = cc
      no_more (Delete i ∷ ss) j e lead = lead

-- the whole, once nothing of the result of the first delta is left
pub composed_by : (first second b a c : Cells) → composing b a nothing ≡ applied_marks second (marks_of first) → base_length b + base_length a ≡ base_length first
    → result_length a ≡ 0 → c ≡ joined b a → normal c ≡ composed first second
composed_by first second b a c leaves base none built =
    let empty : marks_from (base_length b) a ≡ [] = nil_from_length (marks_from (base_length b) a) (length-marks_from (base_length b) a ∙ none) in
    let marks : marks_of c ≡ applied_marks second (marks_of first) =
    ap marks_of built ∙ marks_of-joined b a ∙ ap (λ l. marks_of b ++ l) empty ∙ leaves in
    let lengths : base_length c ≡ base_length first = ap base_length built ∙ base_length-joined b a ∙ base in
    sym (delta_from-marks_from 0 c) ∙ ap (λ n. delta_from 0 n (marks_of c)) lengths ∙ ap (delta_from 0 (base_length first)) marks
