-- The delta of one edit, and of a list of edits from one edit on.
use Rattle.std.proofs.Common.{◌≡◌, ℕ, zero, suc, ◌+◌, ◌-◌, ◌<◌, ◌≤◌, true, false, List, ◌∷◌, length, drop, get_or, Result, Ok, Err, refl, sym, ap, ◌∙◌, ◌⊎◌, inl, inr, arith}
use Rattle.std.proofs.lemmas.List.{drop_more}
use Rattle.tt_base.specs.Answers.{and_then}
use Rattle.tt_base.specs.declared.edits.TextEdit.{TextEdit}
use Rattle.delta.specs.Cells.{Cells, base_length, covers, inserts, joined, nothing, keeping, inserting, deleting, applied, IsNormal}
use Rattle.delta.specs.Marks.{composed}
use Rattle.delta.proofs.CellsLemmas.{inserts_none, joined-covers, joined-inserts, base_length-covers, base_length-inserts}
use Rattle.delta.proofs.StepsLemmas.{IsNormal-kept, IsNormal-inserted, IsNormal-deleted}
use Rattle.text_position.specs.Edits.{replacing, delta_of_edit, with_edits}
use Rattle.text_position.specs.declared.faults.EditsFault.{EditsFault}
use Rattle.text_position.specs.declared.faults.EditsFault.TheVariants.{Memory}

pub IsNormal-change : (start size : ℕ) (text : List ℕ) (d : Cells) → IsNormal (covers false size d) → IsNormal (covers true start (inserts text (covers false size d)))
IsNormal-change start size text d h = IsNormal-kept start _ (IsNormal-inserted text _ h)

IsNormal-deleting : (n m : ℕ) → IsNormal (covers false n (keeping m))
IsNormal-deleting n zero = IsNormal-deleted n nothing tt refl
IsNormal-deleting n (suc m) = IsNormal-deleted n (keeping (suc m)) (IsNormal-kept (suc m) nothing tt) refl

pub IsNormal-replacing : (size start end : ℕ) (text : List ℕ) → IsNormal (replacing size start end text)
IsNormal-replacing size start end text =
    IsNormal-change start (end - start) text (keeping (size - end)) (IsNormal-deleting (end - start) (size - end))

pub base_length-change : (start size : ℕ) (text : List ℕ) (d : Cells) → base_length (covers true start (inserts text (covers false size d))) ≡ start + (size + base_length d)
base_length-change start size text d =
    omega (arith, base_length-covers true start (inserts text (covers false size d)), base_length-inserts text (covers false size d), base_length-covers false size d)

pub base_length-replacing : (size start end : ℕ) (text : List ℕ) → start ≤ end → end ≤ size → base_length (replacing size start end text) ≡ size
base_length-replacing size start end text forward within =
    omega (arith, base_length-change start (end - start) text (keeping (size - end)), base_length-covers true (size - end) nothing)

-- what a builder has behind calls in a row
pub built_keep : (n : ℕ) (a b : Cells) → a ≡ nothing → b ≡ joined a (keeping n) → b ≡ keeping n
built_keep n a b a_is b_is = b_is ∙ ap (λ d. joined d (keeping n)) a_is ∙ inserts_none (keeping n)

pub built_change : (s n m : ℕ) (t : List ℕ) (a b c d e : Cells) → a ≡ nothing → b ≡ joined a (keeping s) → c ≡ joined b (inserting t) → d ≡ joined c (deleting n) → e ≡ joined d (keeping m)
    → e ≡ covers true s (inserts t (covers false n (keeping m)))
built_change s n m t a b c d e a_is b_is c_is d_is e_is =
    let c_kept : c ≡ covers true s (inserting t) =
    c_is ∙ ap (λ x. joined x (inserting t)) (built_keep s a b a_is b_is) ∙ joined-covers true s nothing (inserting t) in
    let d_kept : d ≡ covers true s (inserts t (deleting n)) =
    d_is ∙ ap (λ x. joined x (deleting n)) c_kept ∙ joined-covers true s (inserting t) (deleting n) in
    e_is
    ∙ ap (λ x. joined x (keeping m)) d_kept
    ∙ joined-covers true s (inserts t (deleting n)) (keeping m)
    ∙ ap (covers true s) (joined-inserts t (deleting n) (keeping m)
    ∙ ap (inserts t) (joined-covers false n nothing (keeping m) ∙ ap (covers false n) (inserts_none (keeping m))))

-- the next edit of a list, where it has a delta, and where it is refused
then_ok : (index : ℕ) (text : List ℕ) (so_far next : Cells) (edits : List TextEdit) (r : Result Cells EditsFault)
    → and_then r (λ d. Ok (composed so_far d)) ≡ Ok next → and_then r (λ d. with_edits (index + 1) text (composed so_far d) edits) ≡ with_edits (index + 1) text next edits
then_ok index text so_far next edits (Ok d) e =
    let same : composed so_far d ≡ next = cc in ap (λ n. with_edits (index + 1) text n edits) same
then_ok index text so_far next edits (Err fault) e = absurd (cc)

then_refused : (index : ℕ) (text : List ℕ) (so_far : Cells) (edits : List TextEdit) (r : Result Cells EditsFault) (fault : EditsFault)
    → and_then r (λ d. Ok (composed so_far d)) ≡ Err fault → and_then r (λ d. with_edits (index + 1) text (composed so_far d) edits) ≡ Err fault
then_refused index text so_far edits (Ok d) fault e = absurd (cc)
then_refused index text so_far edits (Err other) fault e = let same : other ≡ fault = cc in ap Err same

with_edits-drop : (index place : ℕ) (text : List ℕ) (so_far : Cells) (edits : List TextEdit) (edit : TextEdit) → place < length edits → edit ≡ get_or edits place edit
    → with_edits index text so_far (drop place edits) ≡ with_edits index text so_far (edit ∷ drop (place + 1) edits)
with_edits-drop index place text so_far edits edit lt is =
    ap (with_edits index text so_far) (drop_more edits place edit lt ∙ ap (λ e. e ∷ drop (place + 1) edits) (sym is))

pub with_edits-next : (index place : ℕ) (text : List ℕ) (so_far next : Cells) (edits : List TextEdit) (edit : TextEdit) (whole : Result Cells EditsFault)
    → place < length edits → edit ≡ get_or edits place edit → and_then (delta_of_edit index (applied so_far text) edit) (λ d. Ok (composed so_far d)) ≡ Ok next
    → with_edits index text so_far (drop place edits) ≡ whole → with_edits (index + 1) text next (drop (place + 1) edits) ≡ whole
with_edits-next index place text so_far next edits edit whole lt is one all =
    sym (then_ok index text so_far next (drop (place + 1) edits) (delta_of_edit index (applied so_far text) edit) one)
    ∙ sym (with_edits-drop index place text so_far edits edit lt is)
    ∙ all

pub with_edits-refused : (index place : ℕ) (text : List ℕ) (so_far : Cells) (edits : List TextEdit) (edit : TextEdit) (whole : Result Cells EditsFault) (fault : EditsFault)
    → place < length edits → edit ≡ get_or edits place edit → (and_then (delta_of_edit index (applied so_far text) edit) (λ d. Ok (composed so_far d)) ≡ Err fault) ⊎ (fault ≡ Memory)
    → with_edits index text so_far (drop place edits) ≡ whole → (whole ≡ Err fault) ⊎ (fault ≡ Memory)
with_edits-refused index place text so_far edits edit whole fault lt is (inl one) all =
    inl (sym all
    ∙ with_edits-drop index place text so_far edits edit lt is
    ∙ then_refused index text so_far (drop (place + 1) edits) (delta_of_edit index (applied so_far text) edit) fault one)
with_edits-refused index place text so_far edits edit whole fault lt is (inr memory) all = inr memory
