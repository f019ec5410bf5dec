-- Operations on a text as a change writes them, one after the other.
use Rattle.std.proofs.Common.{◌≡◌, ℕ, ◌+◌, ◌<◌, Bool, true, false, cond, List, [], ◌∷◌, ◌++◌, map, length, Option, Some, None, arith, lit<}
use Rattle.std.specs.Prelude.{encode_utf8_all}
use Rattle.std.specs.Str.{all_scalars}
use Rattle.std.specs.List.{AllByRecursion}
use Rattle.delta.specs.Cells.{Cell, Cells}
use Rattle.tt_base.specs.declared.ids.ElemId.{ElemId}
use Rattle.tt_base.specs.declared.elements.Element.{Element}
use Rattle.tt_base.specs.declared.text_ops.TextOp.{TextOp}
use Rattle.tt_base.specs.declared.text_ops.TextOp.TheVariants.{Insert, Delete}
use Rattle.change_codec.specs.Encoding.{op_field}
use Rattle.change_codec.specs.declared.ops.Op.{Op}
use Rattle.change_codec.specs.declared.ops.Ref.{Ref}
use Rattle.replica_text.specs.Ids.{same, shifted}
use Rattle.replica_text.specs.Made.{visible_ids, insertion, deletion, begins_deleted, at_place, made_from, made_ops}
use Rattle.replica_views.specs.Made.{written_op, removal}
use Rattle.change_making.specs.Writing.{CanBeWritten}

-- ---- each operation of a made change can be written

abbrev AllWritten : List TextOp → Type 0
AllWritten ops = AllByRecursion CanBeWritten ops

some_more : (count more : ℕ) → 0 < count → 0 < count + more
some_more count more some = omega (arith, some)

written_insertion : (next : ElemId) (left : Option ElemId) (text : List ℕ) (ops : List TextOp) → AllWritten ops → AllWritten (insertion next left text ++ ops)
written_insertion next left [] ops all = all
written_insertion next left (ch ∷ text) ops all = (omega arith, all)

written_last : (next : ElemId) (left : Option ElemId) (text : List ℕ) → AllWritten (insertion next left text)
written_last next left [] = tt
written_last next left (ch ∷ text) = (omega arith, tt)

written_deletion : (id : ElemId) (count : ℕ) (ops : List TextOp) → 0 < count → AllWritten ops → AllWritten (deletion id count ops)
written_deletion id count [] some all = (some, tt)
written_deletion id count (Insert first parent text ∷ ops) some all = (some, all)
written_deletion id count (Delete first more ∷ ops) some all = by (same (shifted id count) first) where
  by : (b : Bool) → AllWritten (cond b (Delete id (count + more) ∷ ops) (Delete id count ∷ (Delete first more ∷ ops)))
  by true = (some_more count more some, all.1)
  by false = (some, all)

written_place : (kept shares : Bool) (id : ElemId) (ops : List TextOp) → AllWritten ops → AllWritten (at_place kept shares id ops)
written_place true shares id ops all = all
written_place false true id ops all = written_deletion id 1 ops (lit< tt) all
written_place false false id ops all = (lit< tt, all)

written_from : (cells : List Cell) (last : List ℕ) (ids : List ElemId) (left : Option ElemId) (next : ElemId) → AllWritten (made_from cells last ids left next)
written_from [] last ids left next = written_last next left last
written_from (c ∷ cs) last [] left next = tt
written_from (c ∷ cs) last (id ∷ ids) left next =
    let rest : List TextOp = made_from cs last ids (Some id) (shifted next (length c.inserted)) in
    written_insertion next left c.inserted (at_place c.kept (begins_deleted cs) id rest)
    (written_place c.kept (begins_deleted cs) id rest (written_from cs last ids (Some id) (shifted next (length c.inserted))))

pub made_can_be_written : (elements : List Element) (d : Cells) (next : ElemId) → AllByRecursion CanBeWritten (made_ops elements d next)
made_can_be_written elements d next = written_from d.cells d.last (visible_ids elements) None next

-- ---- what is written so far, and what is left

pub record Pushes (object : Ref) (all : List TextOp) (before done : List Op) (left : List TextOp) : Type 0 where
  pub whole : done ++ map (written_op object) left ≡ before ++ map (written_op object) all
  pub some : AllByRecursion CanBeWritten left
  pub fit : AllByRecursion op_field.Fits (map (written_op object) left) → AllByRecursion op_field.Fits (map (written_op object) all)

-- the same for objects that are removed
pub record Removes (all : List ElemId) (before done : List Op) (left : List ElemId) : Type 0 where
  pub whole : done ++ map removal left ≡ before ++ map removal all
  pub fit : AllByRecursion op_field.Fits (map removal left) → AllByRecursion op_field.Fits (map removal all)

-- ---- characters that are counted

pub record Counts (all : List ℕ) (bytes : ℕ) (left : List ℕ) : Type 0 where
  pub whole : bytes + length (encode_utf8_all left) ≡ length (encode_utf8_all all)
  pub scalars : all_scalars left ≡ true → all_scalars all ≡ true
