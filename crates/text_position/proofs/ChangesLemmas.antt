-- The changes of a delta, by its steps.
use Rattle.std.proofs.Common.{◌≡◌, ℕ, zero, suc, ◌+◌, ◌<◌, Bool, true, false, ◌&&◌, ◌||◌, not, List, [], ◌∷◌, ◌++◌, length, drop, get_or, map, refl, sym, ap, ◌∙◌, ◌⊎◌, inl, inr, arith, append_assoc}
use Rattle.std.proofs.lemmas.List.{append-nil, map-append, drop_more}
use Rattle.tt_base.specs.declared.edits.TextEdit.{TextEdit}
use Rattle.delta.specs.Cells.{Cell, Cells, inserts, covers, is_nothing}
use Rattle.delta.specs.Steps.{cells_of, step_base, MayLead, IsCanonical}
use Rattle.delta.specs.declared.steps.DeltaStep.{DeltaStep}
use Rattle.delta.specs.declared.steps.DeltaStep.TheVariants.{Keep, Insert, Delete}
use Rattle.delta.proofs.CellsLemmas.{inserts_none}
use Rattle.text_position.specs.Changes.{Change, longer_unless, deleted_run, change_if, changes_from, changes_of, edit_for}
use Rattle.text_position.specs.Writing.{change_at_end, change_before, waiting_behind, changes_ahead}

abbrev pub run_of : Cells → ℕ
run_of d = deleted_run d.cells

abbrev pub changes : Bool → ℕ → Cells → List Change
changes left gap d = changes_from left gap d.cells d.last

run_of-deleted : (n : ℕ) (d : Cells) → run_of (covers false n d) ≡ n + run_of d
run_of-deleted zero d = omega arith
run_of-deleted (suc n) d = omega (arith, run_of-deleted n d)

-- whether the next step begins with a deleted character
run_of-steps : (n : ℕ) (ss : List DeltaStep) → IsCanonical ss → MayLead (Delete n) ss → run_of (cells_of ss) ≡ 0
run_of-steps n [] h lead = refl
run_of-steps n (Keep zero ∷ ss) h lead = absurd (omega (arith, h.0.content))
run_of-steps n (Keep (suc m) ∷ ss) h lead = refl
run_of-steps n (Insert text ∷ ss) h lead = absurd lead
run_of-steps n (Delete m ∷ ss) h lead = absurd lead

-- where no run of deleted characters begins, it does not matter what is on the left
changes-left : (gap : ℕ) (d : Cells) → run_of d ≡ 0 → changes false gap d ≡ changes true gap d
changes-left gap d none = by_cells d.cells d.last none where
  by_kept : (k : Bool) (run : ℕ) (b : Bool) (text : List ℕ) → longer_unless k run ≡ 0
      → change_if (b || (false && not k)) gap (longer_unless k run) text ≡ change_if (b || (true && not k)) gap (longer_unless k run) text
  by_kept true run b text none = refl
  by_kept false run b text none = absurd (omega (arith, none))

  by_cells : (cs : List Cell) (last : List ℕ) → deleted_run cs ≡ 0 → changes_from false gap cs last ≡ changes_from true gap cs last
  by_cells [] last none = refl
  by_cells (c ∷ cs) last none =
      ap (λ l. l ++ changes_from c.kept (suc gap) cs last) (by_kept c.kept (deleted_run cs) (not (is_nothing c.inserted)) c.inserted none)

changes-kept : (left : Bool) (gap n : ℕ) (d : Cells) → changes left gap (covers true (suc n) d) ≡ changes true (gap + suc n) d
changes-kept left gap n d = by_left left n gap where
  by_left : (left : Bool) (n gap : ℕ) → changes left gap (covers true (suc n) d) ≡ changes true (gap + suc n) d
  by_left true zero gap = let same : suc gap ≡ gap + 1 = omega arith in ap (λ g. changes true g d) same
  by_left false zero gap = let same : suc gap ≡ gap + 1 = omega arith in ap (λ g. changes true g d) same
  by_left true (suc n) gap = let same : suc gap + suc n ≡ gap + suc (suc n) = omega arith in by_left true n (suc gap) ∙ ap (λ g. changes true g d) same
  by_left false (suc n) gap = let same : suc gap + suc n ≡ gap + suc (suc n) = omega arith in by_left true n (suc gap) ∙ ap (λ g. changes true g d) same

-- further characters of a run that began before
changes-more_deleted : (gap n : ℕ) (d : Cells) → changes false gap (covers false n d) ≡ changes false (gap + n) d
changes-more_deleted gap zero d = let same : gap ≡ gap + 0 = omega arith in ap (λ g. changes false g d) same
changes-more_deleted gap (suc n) d =
    let same : suc gap + n ≡ gap + suc n = omega arith in
    changes-more_deleted (suc gap) n d ∙ ap (λ g. changes false g d) same

-- a run of deleted characters begins, perhaps behind an insertion
changes-deleted : (gap n : ℕ) (text : List ℕ) (d : Cells) → run_of d ≡ 0 → changes true gap (inserts text (covers false (suc n) d)) ≡ change_if true gap (suc n) text ++ changes true (gap + suc n) d
changes-deleted gap n text d none =
    let run : suc (run_of (covers false n d)) ≡ suc n = omega (arith, run_of-deleted n d, none) in
    let same : suc gap + n ≡ gap + suc n = omega arith in
    ap (λ t. change_if (not (is_nothing t) || true) gap (suc (run_of (covers false n d))) t ++ changes false (suc gap) (covers false n d)) (append-nil text)
    ∙ ap (λ b. change_if b gap (suc (run_of (covers false n d))) text ++ changes false (suc gap) (covers false n d)) (either (not (is_nothing text)))
    ∙ ap (λ r. change_if true gap r text ++ changes false (suc gap) (covers false n d)) run
    ∙ ap (λ l. change_if true gap (suc n) text ++ l) (changes-more_deleted (suc gap) n d ∙ ap (λ g. changes false g d) same ∙ changes-left (gap + suc n) d none) where
      either : (b : Bool) → (b || true) ≡ true
      either true = refl
      either false = refl

-- an insertion, behind which the next character is kept
changes-waiting_kept : (gap n : ℕ) (text : List ℕ) (d : Cells) → changes true gap (inserts text (covers true (suc n) d)) ≡ change_at_end gap text ++ changes true (gap + suc n) d
changes-waiting_kept gap n text d =
    ap (λ t. change_if (not (is_nothing t) || false) gap 0 t ++ changes true (suc gap) (covers true n d)) (append-nil text)
    ∙ ap (λ b. change_if b gap 0 text ++ changes true (suc gap) (covers true n d)) (either (not (is_nothing text)))
    ∙ ap (λ l. change_at_end gap text ++ l) (changes-kept true gap n d) where
      either : (b : Bool) → (b || false) ≡ b
      either true = refl
      either false = refl

-- what is written from the steps are the changes of the delta
pub changes_ahead-is : (gap : ℕ) (waiting : List ℕ) (ss : List DeltaStep) → IsCanonical ss → (waiting ≡ []) ⊎ MayLead (Insert waiting) ss
    → changes_ahead gap waiting ss ≡ changes true gap (inserts waiting (cells_of ss))
changes_ahead-is gap waiting [] h ready = ap (change_at_end gap) (sym (append-nil waiting))
changes_ahead-is gap waiting (Keep zero ∷ ss) h ready = absurd (omega (arith, h.0.content))
changes_ahead-is gap waiting (Keep (suc n) ∷ ss) h ready =
    ap (λ l. change_at_end gap waiting ++ l) (changes_ahead-is (gap + suc n) [] ss h.1 (inl refl) ∙ ap (changes true (gap + suc n)) (inserts_none (cells_of ss)))
    ∙ sym (changes-waiting_kept gap n waiting (cells_of ss))
changes_ahead-is gap waiting (Insert text ∷ ss) h (inr lead) = absurd lead
changes_ahead-is gap waiting (Insert text ∷ ss) h (inl none) =
    let same : gap + 0 ≡ gap = omega arith in
    ap (λ g. changes_ahead g text ss) same
    ∙ changes_ahead-is gap text ss h.1 (inr h.0.leads)
    ∙ ap (changes true gap) (sym (ap (λ w. inserts w (inserts text (cells_of ss))) none ∙ inserts_none (inserts text (cells_of ss))))
changes_ahead-is gap waiting (Delete zero ∷ ss) h ready = absurd (omega (arith, h.0.content))
changes_ahead-is gap waiting (Delete (suc n) ∷ ss) h ready =
    ap (λ l. change_if true gap (suc n) waiting ++ l) (changes_ahead-is (gap + suc n) [] ss h.1 (inl refl) ∙ ap (changes true (gap + suc n)) (inserts_none (cells_of ss)))
    ∙ sym (changes-deleted gap n waiting (cells_of ss) (run_of-steps (suc n) ss h.1 h.0.leads))

pub changes_of-cells_of : (ss : List DeltaStep) → IsCanonical ss → changes_ahead 0 [] ss ≡ changes_of (cells_of ss)
changes_of-cells_of ss h = changes_ahead-is 0 [] ss h (inl refl) ∙ ap changes_of (inserts_none (cells_of ss))

-- one step on in the writing
pub written_more : (text : List ℕ) (gap next : ℕ) (waiting behind : List ℕ) (was now whole : List TextEdit) (ss : List DeltaStep) (i : ℕ) (s : DeltaStep) → i < length ss → s ≡ get_or ss i s
    → now ≡ was ++ map (edit_for text) (change_before gap waiting s) → next ≡ gap + step_base s → behind ≡ waiting_behind s
    → was ++ map (edit_for text) (changes_ahead gap waiting (drop i ss)) ≡ whole → now ++ map (edit_for text) (changes_ahead next behind (drop (i + 1) ss)) ≡ whole
written_more text gap next waiting behind was now whole ss i s lt is written next_is behind_is all =
    let rest : List Change = changes_ahead (gap + step_base s) (waiting_behind s) (drop (i + 1) ss) in
    ap (λ l. l ++ map (edit_for text) (changes_ahead next behind (drop (i + 1) ss))) written
    ∙ ap (λ g. (was ++ map (edit_for text) (change_before gap waiting s)) ++ map (edit_for text) (changes_ahead g behind (drop (i + 1) ss))) next_is
    ∙ ap (λ w. (was ++ map (edit_for text) (change_before gap waiting s)) ++ map (edit_for text) (changes_ahead (gap + step_base s) w (drop (i + 1) ss))) behind_is
    ∙ append_assoc was (map (edit_for text) (change_before gap waiting s)) (map (edit_for text) rest)
    ∙ ap (λ l. was ++ l) (sym (map-append (edit_for text) (change_before gap waiting s) rest))
    ∙ ap (λ t. was ++ map (edit_for text) (changes_ahead gap waiting t)) (sym (drop_more ss i s lt ∙ ap (λ e. e ∷ drop (i + 1) ss) (sym is)))
    ∙ all
