-- What a builder has after a few steps.
use Rattle.std.proofs.Common.{◌≡◌, ℕ, ◌+◌, true, false, List, ap, ◌∙◌, arith}
use Rattle.delta.specs.Cells.{Cells, base_length, nothing, covers, inserts, joined, keeping, inserting, deleting}
use Rattle.delta.proofs.CellsLemmas.{inserts_none, joined_assoc, joined-covers, base_length-covers}

kept_first : (n : ℕ) (d : Cells) → joined (joined nothing (keeping n)) d ≡ covers true n d
kept_first n d =
    ap (λ e. joined e d) (inserts_none (keeping n)) ∙ joined-covers true n nothing d ∙ ap (covers true n) (inserts_none d)

pub gap_inserted : (a b c d : Cells) (before behind : ℕ) (text : List ℕ) → a ≡ nothing → b ≡ joined a (keeping before) → c ≡ joined b (inserting text)
    → d ≡ joined c (keeping behind) → d ≡ covers true before (inserts text (covers true behind nothing))
gap_inserted a b c d before behind text ha hb hc hd =
    hd ∙ ap (λ e. joined e (keeping behind)) (hc ∙ ap (λ e. joined e (inserting text)) (hb ∙ ap (λ e. joined e (keeping before)) ha))
    ∙ joined_assoc (joined nothing (keeping before)) (inserting text) (keeping behind)
    ∙ kept_first before (joined (inserting text) (keeping behind))

pub base_inserted : (a b c : Cells) (before : ℕ) (text : List ℕ) → a ≡ nothing → b ≡ joined a (keeping before) → c ≡ joined b (inserting text) → base_length c ≡ before
base_inserted a b c before text ha hb hc =
    ap base_length (hc ∙ ap (λ e. joined e (inserting text)) (hb ∙ ap (λ e. joined e (keeping before)) ha) ∙ kept_first before (inserting text))
    ∙ base_length-covers true before (inserting text) ∙ omega arith

pub gap_deleted : (a b c d : Cells) (before behind : ℕ) → a ≡ nothing → b ≡ joined a (keeping before) → c ≡ joined b (deleting 1)
    → d ≡ joined c (keeping behind) → d ≡ covers true before (covers false 1 (covers true behind nothing))
gap_deleted a b c d before behind ha hb hc hd =
    hd ∙ ap (λ e. joined e (keeping behind)) (hc ∙ ap (λ e. joined e (deleting 1)) (hb ∙ ap (λ e. joined e (keeping before)) ha))
    ∙ joined_assoc (joined nothing (keeping before)) (deleting 1) (keeping behind)
    ∙ kept_first before (joined (deleting 1) (keeping behind))
    ∙ ap (covers true before) (joined-covers false 1 nothing (keeping behind) ∙ ap (covers false 1) (inserts_none (keeping behind)))

pub base_kept : (a b : Cells) (before : ℕ) → a ≡ nothing → b ≡ joined a (keeping before) → base_length b ≡ before
base_kept a b before ha hb =
    ap base_length (hb ∙ ap (λ e. joined e (keeping before)) ha ∙ inserts_none (keeping before)) ∙ base_length-covers true before nothing ∙ omega arith

pub base_deleted : (a b c : Cells) (before : ℕ) → a ≡ nothing → b ≡ joined a (keeping before) → c ≡ joined b (deleting 1) → base_length c ≡ before + 1
base_deleted a b c before ha hb hc =
    ap base_length (hc ∙ ap (λ e. joined e (deleting 1)) (hb ∙ ap (λ e. joined e (keeping before)) ha) ∙ kept_first before (deleting 1))
    ∙ base_length-covers true before (deleting 1)
