-- What deltas insert: characters come from the deltas that they are made of, and from nowhere else.
use Rattle.std.proofs.Common.{◌≡◌, ℕ, zero, suc, Bool, true, false, List, [], ◌∷◌, ◌++◌, length, refl}
use Rattle.std.specs.Cmp.Derive.{both_true}
use Rattle.std.specs.Str.{all_scalars}
use Rattle.std.proofs.lemmas.Bool.{and_parts}
use Rattle.delta.specs.Cells.{Cell, Cells, covers, front, front_of, with_front_text_of, inserts, normal_cells, normal_with_cell, nothing}
use Rattle.transform.specs.Carried.{carried_cells, covers_if, daemon_text, editor_text, after_editor, past_list}
use Rattle.transform.specs.declared.sides.Side.TheVariants.{Editor}
use Rattle.editor_bridge.specs.Link.{Link, carried_edit, unshown}
use Rattle.daemon_history.specs.Bounds.{InsertsScalarsOf, InsertsScalars}

pub both_scalars : (xs ys : List ℕ) → all_scalars xs ≡ true → all_scalars ys ≡ true → all_scalars (xs ++ ys) ≡ true
both_scalars [] ys first second = second
both_scalars (x ∷ xs) ys first second =
    let parts = and_parts _ (all_scalars xs) first in
    both_true parts.0 (both_scalars xs ys parts.1 second)

pub covers_scalars : (kept : Bool) (n : ℕ) (d : Cells) → InsertsScalars d → InsertsScalars (covers kept n d)
covers_scalars kept zero d is = is
covers_scalars kept (suc n) d is = (refl, covers_scalars kept n d is)

front_scalars : (cells : List Cell) (last : List ℕ) → InsertsScalarsOf cells last → all_scalars (front_of cells last) ≡ true
front_scalars [] last is = is
front_scalars (c ∷ cells) last is = is.0

fronted_scalars : (text : List ℕ) (cells : List Cell) (last : List ℕ) → all_scalars text ≡ true → InsertsScalarsOf cells last
    → InsertsScalars (with_front_text_of text cells last)
fronted_scalars text [] last scalars is = scalars
fronted_scalars text (c ∷ cells) last scalars is = (scalars, is.1)

pub inserts_scalars : (text : List ℕ) (d : Cells) → all_scalars text ≡ true → InsertsScalars d → InsertsScalars (inserts text d)
inserts_scalars text d scalars is =
    fronted_scalars (text ++ front d) d.cells d.last (both_scalars text (front d) scalars (front_scalars d.cells d.last is)) is

-- ---- normal forms

moved_scalars : (text : List ℕ) (kept : Bool) (d : Cells) → all_scalars text ≡ true → InsertsScalars d → InsertsScalars (normal_with_cell text kept d)
moved_scalars text true d scalars is = (scalars, is)
moved_scalars text false d scalars is =
    (both_scalars text (front d) scalars (front_scalars d.cells d.last is), fronted_scalars [] d.cells d.last refl is)

normal_scalars : (cells : List Cell) (last : List ℕ) → InsertsScalarsOf cells last → InsertsScalars (normal_cells cells last)
normal_scalars [] last is = is
normal_scalars (c ∷ cells) last is = moved_scalars c.inserted c.kept (normal_cells cells last) is.0 (normal_scalars cells last is.1)

-- ---- carried

covers_if_scalars : (there kept : Bool) (n : ℕ) (d : Cells) → InsertsScalars d → InsertsScalars (covers_if there kept n d)
covers_if_scalars true kept n d is = covers_scalars kept n d is
covers_if_scalars false kept n d is = is

-- an editor's text behind what the daemon inserts, which the editor's change keeps
behind_scalars : (kept text : List ℕ) (d : Cells) → all_scalars text ≡ true → InsertsScalars d
    → InsertsScalars (daemon_text Editor kept (editor_text Editor text d))
behind_scalars kept text d scalars is = covers_scalars true (length kept) (inserts text d) (inserts_scalars text d scalars is)

carried_scalars : (qs : List Cell) (q_last : List ℕ) (ps : List Cell) (p_last : List ℕ) → InsertsScalarsOf ps p_last
    → InsertsScalars (carried_cells Editor qs q_last ps p_last)
carried_scalars [] q_last [] p_last is = behind_scalars q_last p_last nothing is refl
carried_scalars [] q_last (p ∷ ps) p_last is = behind_scalars q_last p.inserted nothing is.0 refl
carried_scalars (q ∷ qs) q_last [] p_last is = behind_scalars q.inserted p_last nothing is refl
carried_scalars (q ∷ qs) q_last (p ∷ ps) p_last is =
    let rest = carried_scalars qs q_last ps p_last is.1 in
    behind_scalars q.inserted p.inserted _ is.0 (covers_if_scalars q.kept p.kept 1 (carried_cells Editor qs q_last ps p_last) rest)

passed_scalars : (p q : Cells) → InsertsScalars p → InsertsScalars (after_editor p q)
passed_scalars p q is =
    let carried = carried_cells Editor q.cells q.last p.cells p.last in
    normal_scalars carried.cells carried.last (carried_scalars q.cells q.last p.cells p.last is)

past_scalars : (p : Cells) (list : List Cells) → InsertsScalars p → InsertsScalars (past_list p list)
past_scalars p [] is = is
past_scalars p (q ∷ list) is = past_scalars (after_editor p q) list (passed_scalars p q is)

pub carried_edit_scalars : (seen : ℕ) (d : Cells) (link : Link) → InsertsScalars d → InsertsScalars (carried_edit seen d link)
carried_edit_scalars seen d link is = past_scalars d (unshown seen link) is
