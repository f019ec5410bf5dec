-- Which ids are known behind the operations of changes, and what more that are known leave possible.
use Rattle.std.proofs.Common.{◌≡◌, ℕ, zero, suc, Bool, true, false, ◌||◌, refl, sym, ap, ◌∙◌, subst, List, [], ◌∷◌, ◌++◌, length, Option, Some, None}
use Rattle.std.specs.List.{AllByRecursion}
use Rattle.std.proofs.lemmas.Bool.{both_ways}
use Rattle.tt_base.specs.declared.ids.Name.{Name}
use Rattle.tt_base.specs.declared.ids.ElemId.{ElemId}
use Rattle.tt_base.specs.declared.text_ops.TextOp.{TextOp}
use Rattle.tt_base.specs.declared.text_ops.TextOp.TheVariants.{Insert, Delete}
use Rattle.change_graph.specs.History.{is_name}
use Rattle.change_graph.proofs.OrderLemmas.{name_itself}
use Rattle.replica_text.specs.Ids.{same, next_id, is_in_run}
use Rattle.replica_text.specs.Ops.{known_after, all_known_after, MayBeParent, IsRunKnown, MayFollow, AllMayFollow}
use Rattle.replica_text.proofs.OrderLemmas.{same_one}
use Rattle.replica_text.proofs.MemberLemmas.{or_true}

abbrev Known : Type 0
Known = ElemId → Bool

-- what an operation inserts is not of the change with this name
abbrev pub IsNotOf : Name → TextOp → Type 0
IsNotOf name (Insert first parent text) = is_name name first.name ≡ false
IsNotOf name (Delete first count) = Unit {0}

-- all that is known is known
abbrev pub IsMore : Known → Known → Type 0
IsMore known more = (id : ElemId) → known id ≡ true → more id ≡ true

-- the same ids of other changes are known
abbrev pub AgreesElsewhere : Name → Known → Known → Type 0
AgreesElsewhere name known more = (id : ElemId) → is_name name id.name ≡ false → more id ≡ known id

or_more : (a b c : Bool) → (b ≡ true → c ≡ true) → (a || b) ≡ true → (a || c) ≡ true
or_more true b c each is = refl
or_more false b c each is = each is

more_after : (op : TextOp) (known more : Known) → IsMore known more → IsMore (known_after op known) (known_after op more)
more_after (Insert first parent text) known more is = λ id. or_more (is_in_run first (length text) id) (known id) (more id) (is id)
more_after (Delete first count) known more is = is

agrees_after : (name : Name) (op : TextOp) (known more : Known) → AgreesElsewhere name known more
    → AgreesElsewhere name (known_after op known) (known_after op more)
agrees_after name (Insert first parent text) known more is = λ id apart. ap (λ (b : Bool). is_in_run first (length text) id || b) (is id apart)
agrees_after name (Delete first count) known more is = is

-- an id of a run has the name of its first
run_name : (first : ElemId) (count : ℕ) (id : ElemId) → is_in_run first count id ≡ true → id.name ≡ first.name
run_name first zero id is = cc
run_name first (suc count) id is = by (run_name (next_id first) count id) (same first id) refl is where
  by : (is_in_run (next_id first) count id ≡ true → id.name ≡ first.name) → (b : Bool) → same first id ≡ b
      → (b || is_in_run (next_id first) count id) ≡ true → id.name ≡ first.name
  by later true here is = ap (λ (e : ElemId). e.name) (sym (same_one first id here))
  by later false here is = later is

-- an operation of another change adds no id of this one
known_elsewhere : (name : Name) (op : TextOp) (known : Known) (id : ElemId) → IsNotOf name op → id.name ≡ name → known_after op known id ≡ known id
known_elsewhere name (Insert first parent text) known id apart of = by (is_in_run first (length text) id) refl where
  by : (b : Bool) → is_in_run first (length text) id ≡ b → (b || known id) ≡ known id
  by true is =
      let e : first.name ≡ name = sym (run_name first (length text) id is) ∙ of in
      absurd (both_ways (is_name name first.name) apart (subst (λ (n : Name). is_name name n ≡ true) (sym e) (name_itself name)))
  by false is = refl
known_elsewhere name (Delete first count) known id apart of = refl

pub all_known_elsewhere : (name : Name) (ops : List TextOp) (known : Known) (id : ElemId) → AllByRecursion (IsNotOf name) ops → id.name ≡ name
    → all_known_after ops known id ≡ known id
all_known_elsewhere name [] known id apart of = refl
all_known_elsewhere name (op ∷ ops) known id apart of =
    all_known_elsewhere name ops (known_after op known) id apart.1 of ∙ known_elsewhere name op known id apart.0 of

-- what is known stays known
known_stays : (op : TextOp) (known : Known) → IsMore known (known_after op known)
known_stays (Insert first parent text) known = λ id is. ap (λ (b : Bool). is_in_run first (length text) id || b) is ∙ or_true (is_in_run first (length text) id)
known_stays (Delete first count) known = λ id is. is

pub all_known_stays : (ops : List TextOp) (known : Known) → IsMore known (all_known_after ops known)
all_known_stays [] known = λ id is. is
all_known_stays (op ∷ ops) known = λ id is. all_known_stays ops (known_after op known) id (known_stays op known id is)

pub all_more_after : (ops : List TextOp) (known more : Known) → IsMore known more → IsMore (all_known_after ops known) (all_known_after ops more)
all_more_after [] known more is = is
all_more_after (op ∷ ops) known more is = all_more_after ops (known_after op known) (known_after op more) (more_after op known more is)

-- what an operation inserts is of the change with this name
abbrev pub IsOf : Name → TextOp → Type 0
IsOf name (Insert first parent text) = first.name ≡ name
IsOf name (Delete first count) = Unit {0}

own_adds : (name : Name) (op : TextOp) (known : Known) → IsOf name op → AgreesElsewhere name known (known_after op known)
own_adds name (Insert first parent text) known of = λ id apart. by id apart (is_in_run first (length text) id) refl where
  by : (id : ElemId) → is_name name id.name ≡ false → (b : Bool) → is_in_run first (length text) id ≡ b → (b || known id) ≡ known id
  by id apart true is =
      let e : id.name ≡ name = run_name first (length text) id is ∙ of in
      absurd (both_ways (is_name name id.name) apart (subst (λ (n : Name). is_name name n ≡ true) (sym e) (name_itself name)))
  by id apart false is = refl
own_adds name (Delete first count) known of = λ id apart. refl

pub all_own_add : (name : Name) (ops : List TextOp) (known : Known) → AllByRecursion (IsOf name) ops → AgreesElsewhere name known (all_known_after ops known)
all_own_add name [] known of = λ id apart. refl
all_own_add name (op ∷ ops) known of = λ id apart.
    all_own_add name ops (known_after op known) of.1 id apart ∙ own_adds name op known of.0 id apart

-- ---- what was possible stays possible

run_true : (first : ElemId) (count : ℕ) (known more : Known) → IsMore known more → IsRunKnown true first count known → IsRunKnown true first count more
run_true first zero known more is run = tt
run_true first (suc count) known more is run = (is first run.0, run_true (next_id first) count known more is run.1)

run_false : (name : Name) (first : ElemId) (count : ℕ) (known more : Known) → AgreesElsewhere name known more → is_name name first.name ≡ false
    → IsRunKnown false first count known → IsRunKnown false first count more
run_false name first zero known more is apart run = tt
run_false name first (suc count) known more is apart run =
    (is first apart ∙ run.0, run_false name (next_id first) count known more is apart run.1)

parent_more : (parent : Option ElemId) (first : ElemId) (known more : Known) → IsMore known more → MayBeParent parent first known → MayBeParent parent first more
parent_more None first known more is may = tt
parent_more (Some parent) first known more is may = (is parent may.0, may.1)

op_may_more : (name : Name) (op : TextOp) (known more : Known) → IsNotOf name op → IsMore known more → AgreesElsewhere name known more
    → MayFollow op known → MayFollow op more
op_may_more name (Insert first parent text) known more apart is agrees may = record {
  below = parent_more parent first known more is may.below;
  fresh = run_false name first (length text) known more agrees apart may.fresh;
  fits = may.fits;
}
op_may_more name (Delete first count) known more apart is agrees may =
    record { there = run_true first count known more is may.there; fits = may.fits }

-- operations stay possible where more ids are known, all of a change whose operations are not among them
pub may_more : (name : Name) (ops : List TextOp) (known more : Known) → AllByRecursion (IsNotOf name) ops → IsMore known more
    → AgreesElsewhere name known more → AllMayFollow ops known → AllMayFollow ops more
may_more name [] known more apart is agrees may = tt
may_more name (op ∷ ops) known more apart is agrees may = (
  op_may_more name op known more apart.0 is agrees may.0,
  may_more name ops (known_after op known) (known_after op more) apart.1 (more_after op known more is)
      (agrees_after name op known more agrees) may.1,
)

pub may-append : (xs ys : List TextOp) (known : Known) → AllMayFollow xs known → AllMayFollow ys (all_known_after xs known) → AllMayFollow (xs ++ ys) known
may-append [] ys known one other = other
may-append (x ∷ xs) ys known one other = (one.0, may-append xs ys (known_after x known) one.1 other)
