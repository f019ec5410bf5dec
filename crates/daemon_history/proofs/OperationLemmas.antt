-- The operations that a delta is made to: what they insert, how much they delete, and how many they are.
use Rattle.std.proofs.Common.{◌≡◌, ℕ, suc, ◌+◌, ◌*◌, ◌<◌, ◌≤◌, Bool, true, false, cond, refl, ◌∙◌, List, [], ◌∷◌, ◌++◌, map, length, replicate, Option, Some, None, arith}
use Rattle.std.specs.Str.{all_scalars}
use Rattle.std.specs.List.{AllByRecursion}
use Rattle.std.proofs.lemmas.List.{length-append, length-replicate}
use Rattle.delta.specs.Cells.{Cell, Cells}
use Rattle.tt_base.specs.declared.ids.ElemId.{ElemId}
use Rattle.tt_base.specs.declared.elements.Element.{Element}
use Rattle.tt_base.specs.declared.text_ops.TextOp.{TextOp}
use Rattle.tt_base.specs.declared.text_ops.TextOp.TheVariants.{Insert, Delete}
use Rattle.change_codec.specs.declared.ops.Ref.{Ref}
use Rattle.change_graph.specs.Refusals.{Character, things}
use Rattle.replica_text.specs.Ids.{same, shifted}
use Rattle.replica_text.specs.Made.{visible_ids, insertion, deletion, begins_deleted, at_place, made_from, made_ops, inserted_length_of, inserted_length}
use Rattle.replica_views.specs.Made.{written_op}
use Rattle.daemon_history.specs.Bounds.{InsertsScalarsOf, InsertsScalars}

-- ---- each operation

-- some characters are inserted, and no more than so many, or some are deleted, and no more than so many
abbrev pub IsPlain : (longest most : ℕ) → TextOp → Type 0
IsPlain longest most (Insert first parent text) = (all_scalars text ≡ true) × ((0 < length text) × (length text ≤ longest))
IsPlain longest most (Delete first count) = (0 < count) × (count ≤ most)

module _ (longest : ℕ) where
  abbrev ArePlain : ℕ → List TextOp → Type 0
  ArePlain most ops = AllByRecursion (IsPlain longest most) ops

  plain_more : (most : ℕ) (ops : List TextOp) → ArePlain most ops → ArePlain (suc most) ops
  plain_more most [] all = tt
  plain_more most (Insert first parent text ∷ ops) all = (all.0, plain_more most ops all.1)
  plain_more most (Delete first count ∷ ops) all =
      let le = all.0.1 in ((all.0.0, omega (arith, le)), plain_more most ops all.1)

  plain_deletion : (most : ℕ) (id : ElemId) (ops : List TextOp) → ArePlain most ops → ArePlain (suc most) (deletion id 1 ops)
  plain_deletion most id [] all = ((omega arith, omega arith), tt)
  plain_deletion most id (Insert first parent text ∷ ops) all = ((omega arith, omega arith), plain_more most (Insert first parent text ∷ ops) all)
  plain_deletion most id (Delete first more ∷ ops) all = by (same (shifted id 1) first) where
    le : more ≤ most
    le = all.0.1

    by : (b : Bool) → ArePlain (suc most) (cond b (Delete id (1 + more) ∷ ops) (Delete id 1 ∷ (Delete first more ∷ ops)))
    by true = ((omega arith, omega (arith, le)), plain_more most ops all.1)
    by false = ((omega arith, omega arith), plain_more most (Delete first more ∷ ops) all)

  plain_place : (kept shares : Bool) (most : ℕ) (id : ElemId) (ops : List TextOp) → ArePlain most ops → ArePlain (suc most) (at_place kept shares id ops)
  plain_place true shares most id ops all = plain_more most ops all
  plain_place false true most id ops all = plain_deletion most id ops all
  plain_place false false most id ops all = ((omega arith, omega arith), plain_more most ops all)

  plain_insertion : (most : ℕ) (next : ElemId) (left : Option ElemId) (text : List ℕ) (ops : List TextOp) → all_scalars text ≡ true → length text ≤ longest
      → ArePlain most ops → ArePlain most (insertion next left text ++ ops)
  plain_insertion most next left [] ops scalars short all = all
  plain_insertion most next left (ch ∷ text) ops scalars short all = ((scalars, (omega arith, short)), all)

  plain_last : (most : ℕ) (next : ElemId) (left : Option ElemId) (text : List ℕ) → all_scalars text ≡ true → length text ≤ longest
      → ArePlain most (insertion next left text)
  plain_last most next left [] scalars short = tt
  plain_last most next left (ch ∷ text) scalars short = ((scalars, (omega arith, short)), tt)

  plain_from : (cells : List Cell) (last : List ℕ) (ids : List ElemId) (left : Option ElemId) (next : ElemId) → InsertsScalarsOf cells last
      → inserted_length_of cells last ≤ longest → ArePlain (length cells) (made_from cells last ids left next)
  plain_from [] last ids left next scalars short = plain_last 0 next left last scalars short
  plain_from (c ∷ cs) last [] left next scalars short = tt
  plain_from (c ∷ cs) last (id ∷ ids) left next scalars short =
      let rest : List TextOp = made_from cs last ids (Some id) (shifted next (length c.inserted)) in
      plain_insertion (suc (length cs)) next left c.inserted (at_place c.kept (begins_deleted cs) id rest) scalars.0 (omega (arith, short))
      (plain_place c.kept (begins_deleted cs) (length cs) id rest
      (plain_from cs last ids (Some id) (shifted next (length c.inserted)) scalars.1 (omega (arith, short))))

pub made_plain : (elements : List Element) (d : Cells) (next : ElemId) → InsertsScalars d
    → AllByRecursion (IsPlain (inserted_length d) (length d.cells)) (made_ops elements d next)
made_plain elements d next scalars = plain_from (inserted_length d) d.cells d.last (visible_ids elements) None next scalars (omega arith)

-- ---- how many they are

few_deletion : (id : ElemId) (ops : List TextOp) → length (deletion id 1 ops) ≤ suc (length ops)
few_deletion id [] = omega arith
few_deletion id (Insert first parent text ∷ ops) = omega arith
few_deletion id (Delete first more ∷ ops) = by (same (shifted id 1) first) where
  by : (b : Bool) → length (cond b (Delete id (1 + more) ∷ ops) (Delete id 1 ∷ (Delete first more ∷ ops))) ≤ suc (suc (length ops))
  by true = omega arith
  by false = omega arith

few_place : (kept shares : Bool) (id : ElemId) (ops : List TextOp) → length (at_place kept shares id ops) ≤ suc (length ops)
few_place true shares id ops = omega arith
few_place false true id ops = few_deletion id ops
few_place false false id ops = omega arith

few_insertion : (next : ElemId) (left : Option ElemId) (text : List ℕ) (ops : List TextOp) → length (insertion next left text ++ ops) ≤ suc (length ops)
few_insertion next left [] ops = omega arith
few_insertion next left (ch ∷ text) ops = omega arith

few_last : (next : ElemId) (left : Option ElemId) (text : List ℕ) → length (insertion next left text) ≤ 1
few_last next left [] = omega arith
few_last next left (ch ∷ text) = omega arith

few_from : (cells : List Cell) (last : List ℕ) (ids : List ElemId) (left : Option ElemId) (next : ElemId)
    → length (made_from cells last ids left next) ≤ 2 * length cells + 1
few_from [] last ids left next = let few = few_last next left last in omega (arith, few)
few_from (c ∷ cs) last [] left next = omega arith
few_from (c ∷ cs) last (id ∷ ids) left next =
    let rest : List TextOp = made_from cs last ids (Some id) (shifted next (length c.inserted)) in
    let one = few_insertion next left c.inserted (at_place c.kept (begins_deleted cs) id rest) in
    let two = few_place c.kept (begins_deleted cs) id rest in
    let few = few_from cs last ids (Some id) (shifted next (length c.inserted)) in
    omega (arith, one, two, few)

pub made_few : (elements : List Element) (d : Cells) (next : ElemId) → length (made_ops elements d next) ≤ 2 * length d.cells + 1
made_few elements d next = few_from d.cells d.last (visible_ids elements) None next

-- ---- how many characters they make

abbrev characters_in : List TextOp → ℕ
characters_in [] = 0
characters_in (Insert first parent text ∷ ops) = length text + characters_in ops
characters_in (Delete first count ∷ ops) = characters_in ops

written_things : (own : Ref) (ops : List TextOp) → length (things (map (written_op own) ops)) ≡ characters_in ops
written_things own [] = refl
written_things own (Insert first parent text ∷ ops) =
    length-append (replicate (length text) (Character own)) (things (map (written_op own) ops))
    ∙ (let one : length (replicate (length text) (Character own)) ≡ length text = length-replicate (length text) (Character own) in
    let rest = written_things own ops in omega (arith, one, rest))
written_things own (Delete first count ∷ ops) = written_things own ops

deletion_makes : (id : ElemId) (ops : List TextOp) → characters_in (deletion id 1 ops) ≡ characters_in ops
deletion_makes id [] = refl
deletion_makes id (Insert first parent text ∷ ops) = refl
deletion_makes id (Delete first more ∷ ops) = by (same (shifted id 1) first) where
  by : (b : Bool) → characters_in (cond b (Delete id (1 + more) ∷ ops) (Delete id 1 ∷ (Delete first more ∷ ops))) ≡ characters_in ops
  by true = refl
  by false = refl

place_makes : (kept shares : Bool) (id : ElemId) (ops : List TextOp) → characters_in (at_place kept shares id ops) ≡ characters_in ops
place_makes true shares id ops = refl
place_makes false true id ops = deletion_makes id ops
place_makes false false id ops = refl

insertion_makes : (next : ElemId) (left : Option ElemId) (text : List ℕ) (ops : List TextOp)
    → characters_in (insertion next left text ++ ops) ≡ length text + characters_in ops
insertion_makes next left [] ops = omega arith
insertion_makes next left (ch ∷ text) ops = refl

last_makes : (next : ElemId) (left : Option ElemId) (text : List ℕ) → characters_in (insertion next left text) ≡ length text
last_makes next left [] = refl
last_makes next left (ch ∷ text) = omega arith

from_makes : (cells : List Cell) (last : List ℕ) (ids : List ElemId) (left : Option ElemId) (next : ElemId)
    → characters_in (made_from cells last ids left next) ≤ inserted_length_of cells last
from_makes [] last ids left next = let is = last_makes next left last in omega (arith, is)
from_makes (c ∷ cs) last [] left next = omega arith
from_makes (c ∷ cs) last (id ∷ ids) left next =
    let rest : List TextOp = made_from cs last ids (Some id) (shifted next (length c.inserted)) in
    let one = insertion_makes next left c.inserted (at_place c.kept (begins_deleted cs) id rest) in
    let two = place_makes c.kept (begins_deleted cs) id rest in
    let few = from_makes cs last ids (Some id) (shifted next (length c.inserted)) in
    omega (arith, one, two, few)

pub made_makes : (own : Ref) (elements : List Element) (d : Cells) (next : ElemId)
    → length (things (map (written_op own) (made_ops elements d next))) ≤ inserted_length d
made_makes own elements d next =
    let is = written_things own (made_ops elements d next) in
    let few = from_makes d.cells d.last (visible_ids elements) None next in
    omega (arith, is, few)
