-- What the tests of operations find out.
use Rattle.std.proofs.Common.{◌≡◌, ℕ, zero, suc, ◌-◌, ◌<◌, ◌≤◌, Bool, true, List, [], ◌∷◌, Option, Some, None, length, take, drop, MatchOption, is_some, get_or, sym, ap, ◌∙◌, subst, arith}
use Rattle.std.specs.Prelude.{slice_get}
use Rattle.std.proofs.lemmas.List.{drop_all}
use Rattle.delta.specs.Cells.{Cell, result_length_of}
use Rattle.tt_base.specs.Elements.{id_at, IsNew}
use Rattle.tt_base.specs.declared.ids.ElemId.{ElemId}
use Rattle.tt_base.specs.declared.elements.Element.{Element}
use Rattle.tt_base.specs.declared.text_ops.TextOp.{TextOp}
use Rattle.replica_text.specs.Ids.{less, is_known, next_id}
use Rattle.replica_text.specs.Ops.{IsRunKnown, MayFollow, AllMayFollow, known_after, all_known_after}
use Rattle.replica_text.specs.Made.{IsAbove, inserted_length_of}
use Rattle.replica_text.proofs.MemberLemmas.{Has, has_here, has_known, new_unknown}
use Rattle.replica_text.proofs.RunLemmas.{IsCut, cut_at}

-- an id that has a place is known, and one that has none is not
pub known_by_place : (id : ElemId) (elements : List Element) (answer : Option ℕ)
    → MatchOption answer (IsNew id elements) (λ place. id_at elements place ≡ Some id) → is_some answer ≡ is_known elements id
known_by_place id elements None h = sym (new_unknown id elements h)
known_by_place id elements (Some place) h =
    let cut : IsCut elements place id = cut_at elements place id h in
    sym (has_known id elements (subst (λ l. Has id l) (sym cut.whole) (has_here id cut.before cut.behind cut.element cut.id_is)))

-- a run with its first id
pub run_known_more : (answer : Bool) (first : ElemId) (count : ℕ) (known : ElemId → Bool) → 0 < count → known first ≡ answer
    → IsRunKnown answer (next_id first) (count - 1) known → IsRunKnown answer first count known
run_known_more answer first zero known some h k = absurd (omega (arith, some))
run_known_more answer first (suc count) known some h k = (h, subst (λ n. IsRunKnown answer (next_id first) n known) (omega arith) k)

-- an id is greater than an element and those behind it
pub above_more : (id : ElemId) (elements : List Element) (place : ℕ) (e : Element) → slice_get elements place ≡ Some e → less e.id id ≡ true
    → IsAbove id (drop (suc place) elements) → IsAbove id (drop place elements)
above_more id [] place e is h k = cc
above_more id (x ∷ elements) zero e is h k = let same : e ≡ x = cc in (subst (λ (y : Element). less y.id id ≡ true) same h, k)
above_more id (x ∷ elements) (suc place) e is h k = above_more id elements place e is h k

-- behind all elements there is none
pub above_none : (id : ElemId) (elements : List Element) (place : ℕ) → place ≡ length elements → IsAbove id (drop place elements)
above_none id elements place is = subst (IsAbove id) (sym (drop_all place elements (omega (arith, is)))) tt

-- what a delta inserts stands in its result
pub inserted_in_result : (cells : List Cell) (last : List ℕ) → inserted_length_of cells last ≤ result_length_of cells last
inserted_in_result [] last = omega arith
inserted_in_result (c ∷ cs) last = omega (arith, inserted_in_result cs last)

-- the first of some operations, and the others
pub record BeginsWith (ops first others : List TextOp) : Type 0 where
  pub op : TextOp
  pub alone : first ≡ op ∷ []
  pub whole : ops ≡ op ∷ others

pub begins : (ops first others : List TextOp) → 0 < length ops → first ≡ take 1 ops → others ≡ drop 1 ops → BeginsWith ops first others
begins [] first others some f o = absurd (omega (arith, some))
begins (op ∷ ops) first others some f o = record { op = op; alone = f; whole = ap (λ l. op ∷ l) (sym o) }

first_is : {ops first others : List TextOp} (b : BeginsWith ops first others) (op : TextOp) → op ≡ get_or first 0 op → op ≡ b.op
first_is b op is = is ∙ ap (λ l. get_or l 0 op) b.alone

pub first_may : (ops first others : List TextOp) (op : TextOp) (known : ElemId → Bool) → BeginsWith ops first others → op ≡ get_or first 0 op
    → MayFollow op known → AllMayFollow first known
first_may ops first others op known b is h =
    subst (λ l. AllMayFollow l known) (sym b.alone) (subst (λ (o : TextOp). MayFollow o known) (first_is b op is) h, tt)

-- what is known behind the first one
behind_first : (ops first others : List TextOp) (known mid : ElemId → Bool) (b : BeginsWith ops first others) → mid ≡ all_known_after first known
    → mid ≡ known_after b.op known
behind_first ops first others known mid b e = e ∙ ap (λ l. all_known_after l known) b.alone

pub all_may : (ops first others : List TextOp) (op : TextOp) (known mid : ElemId → Bool) → BeginsWith ops first others → op ≡ get_or first 0 op
    → MayFollow op known → mid ≡ all_known_after first known → AllMayFollow others mid → AllMayFollow ops known
all_may ops first others op known mid b is h e k =
    subst (λ l. AllMayFollow l known) (sym b.whole)
    (subst (λ (o : TextOp). MayFollow o known) (first_is b op is) h, subst (AllMayFollow others) (behind_first ops first others known mid b e) k)

pub all_known : (ops first others : List TextOp) (known mid later : ElemId → Bool) → BeginsWith ops first others
    → mid ≡ all_known_after first known → later ≡ all_known_after others mid → later ≡ all_known_after ops known
all_known ops first others known mid later b e k =
    k ∙ ap (all_known_after others) (behind_first ops first others known mid b e) ∙ sym (ap (λ l. all_known_after l known) b.whole)
