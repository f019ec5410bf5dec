-- A made change may come next: its operations speak of what its maker holds.
use Rattle.std.proofs.Common.{◌≡◌, ◌⊎◌, inl, inr, ℕ, zero, suc, ◌+◌, ◌-◌, ◌<◌, ◌≤◌, Bool, true, false, cond, not, ◌||◌, ◌&&◌}
use Rattle.std.proofs.Common.{refl, sym, ap, ap₂, ◌∙◌, subst, List, [], ◌∷◌, ◌++◌, map, take, drop, flat_map, length, Some, None, arith}
use Rattle.std.specs.Prelude.{replicate, slice_get}
use Rattle.std.specs.List.{AllByRecursion, list_any}
use Rattle.tt_base.specs.declared.ids.Name.{Name}
use Rattle.tt_base.specs.declared.ids.ElemId.{ElemId}
use Rattle.tt_base.specs.declared.elements.Element.{Element}
use Rattle.tt_base.specs.declared.text_ops.TextOp.{TextOp}
use Rattle.tt_base.specs.declared.text_ops.TextOp.TheVariants as on_text
use Rattle.change_codec.specs.Change.{Change}
use Rattle.change_codec.specs.declared.ops.Ref.{Ref}
use Rattle.change_codec.specs.declared.ops.Op.{Op}
use Rattle.change_codec.specs.declared.ops.Op.TheVariants.{Make, Remove, Insert, Delete}
use Rattle.change_graph.specs.declared.causes.Cause.TheVariants.{OutsideRef, NotAMake, NotAnElement, OtherObject}
use Rattle.change_graph.specs.History.{History, change_at, ops_of, ops_at}
use Rattle.change_graph.specs.Refusals.{Thing, Object, Character, things_of, things, run_at, is_there, is_object, is_elsewhere, object_fault, characters_fault}
use Rattle.replica_text.specs.Ids.{same, next_id, is_in_run, is_known}
use Rattle.replica_text.specs.Ops.{all_known_after}
use Rattle.replica_text.proofs.OrderLemmas.{same_one}
use Rattle.replica_views.specs.Ids.{id_at, id_of}
use Rattle.replica_views.specs.Objects.{makes_from}
use Rattle.replica_views.specs.Texts.{parent_of, text_op, text_ops}
use Rattle.replica_text.proofs.MemberLemmas.{Has, has_known}
use Rattle.replica_text.proofs.OpsLemmas.{all_known_after-append}
use Rattle.replica_views.specs.Texts.{ops_on, tree_of, elements_of, by_depth}
use Rattle.replica_views.specs.Growth.{IsGrown}
use Rattle.replica_views.proofs.LayerLemmas.{all_more}
use Rattle.replica_views.proofs.StayLemmas.{IsEntry, all_by_depth, grown_entries}
use Rattle.replica_views.proofs.StepLemmas.{IsIn}
use Rattle.replica_views.proofs.TreeLemmas.{IsWell}
use Rattle.replica_views.proofs.ViewLemmas.{known_on, well_tree}
use Rattle.replica_views.proofs.HeldLemmas.{run_is, each_has}
use Rattle.replica_views.proofs.WinnerLemmas.{IsMakeAt, make_in, at_least}

-- ---- what is asked of an operation

-- an operation on an object: what it names there is seen
pub record IsSeenAs (within : Ref → List Thing) (own first : Ref) (count : ℕ) : Type 0 where
  pub own_there : is_there within own 1 ≡ true
  pub own_object : list_any is_object (run_at within own 1) ≡ true
  pub there : is_there within first count ≡ true
  pub characters : list_any is_object (run_at within first count) ≡ false
  pub alike : list_any (is_elsewhere own) (run_at within first count) ≡ false

and_is : (a b : Bool) → a ≡ true → b ≡ true → (a && b) ≡ true
and_is true b one other = other
and_is false b one other = cc

pub no_object_fault : (within : Ref → List Thing) (own : Ref) → is_there within own 1 ≡ true → list_any is_object (run_at within own 1) ≡ true
    → object_fault within own ≡ None
no_object_fault within own there object =
    ap (λ (b : Bool). cond (not b) (Some OutsideRef) (cond (not (list_any is_object (run_at within own 1))) (Some NotAMake) None)) there
    ∙ ap (λ (b : Bool). cond (not b) (Some NotAMake) None) object

pub no_characters_fault : (within : Ref → List Thing) (own first : Ref) (count : ℕ) → IsSeenAs within own first count → characters_fault within own first count ≡ None
no_characters_fault within own first count seen =
    ap (λ (b : Bool). cond (not b) (Some OutsideRef)
    (cond (not (list_any is_object (run_at within own 1))) (Some NotAMake)
    (cond (list_any is_object (run_at within first count)) (Some NotAnElement)
    (cond (list_any (is_elsewhere own) (run_at within first count)) (Some OtherObject) None))))
    (and_is (is_there within own 1) (is_there within first count) seen.own_there seen.there)
    ∙ ap (λ (b : Bool). cond (not b) (Some NotAMake)
    (cond (list_any is_object (run_at within first count)) (Some NotAnElement)
    (cond (list_any (is_elsewhere own) (run_at within first count)) (Some OtherObject) None))) seen.own_object
    ∙ ap (λ (b : Bool). cond b (Some NotAnElement) (cond (list_any (is_elsewhere own) (run_at within first count)) (Some OtherObject) None)) seen.characters
    ∙ ap (λ (b : Bool). cond b (Some OtherObject) None) seen.alike

-- ---- runs of things

-- the thing stands at the index
abbrev pub StandsAt : List Thing → ℕ → Thing → Type 0
StandsAt ts index t = slice_get ts index ≡ Some t

pub stands_long : (ts : List Thing) (index : ℕ) (t : Thing) → StandsAt ts index t → index < length ts
stands_long [] index t is = cc
stands_long (x ∷ ts) zero t is = omega arith
stands_long (x ∷ ts) (suc index) t is = let e = stands_long ts index t is in omega (arith, e)

-- each index of a run has a thing of a kind
abbrev pub RunStands : (Thing → Type 0) → List Thing → ℕ → ℕ → Type 0
RunStands P ts index zero = Unit {0}
RunStands P ts index (suc count) = ((t : Thing) × (StandsAt ts index t × P t)) × RunStands P ts (suc index) count

pub first_dropped : (ts : List Thing) (index : ℕ) (t : Thing) → StandsAt ts index t → drop index ts ≡ t ∷ drop (suc index) ts
first_dropped [] index t is = cc
first_dropped (x ∷ ts) zero t is = let e : x ≡ t = cc in ap (λ (y : Thing). y ∷ ts) e
first_dropped (x ∷ ts) (suc index) t is = first_dropped ts index t is

module _ (f : Thing → Thing) (P : Thing → Type 0) (test : Thing → Bool) (fails : (t : Thing) → P t → test (f t) ≡ false) where
  pub run_dropped : (ts : List Thing) (index count : ℕ) → RunStands P ts index count
      → (length (take count (map f (drop index ts))) ≡ count) × (list_any test (take count (map f (drop index ts))) ≡ false)
  run_dropped ts index zero run = (refl, refl)
  run_dropped ts index (suc count) run =
      let t : Thing = run.0.0 in
      let at : drop index ts ≡ t ∷ drop (suc index) ts = first_dropped ts index t run.0.1.0 in
      let rest = run_dropped ts (suc index) count run.1 in
      let long : length (take count (map f (drop (suc index) ts))) ≡ count = rest.0 in (
        ap (λ (l : List Thing). length (take (suc count) (map f l))) at ∙ ap suc long,
        ap (λ (l : List Thing). list_any test (take (suc count) (map f l))) at
            ∙ ap₂ (λ (a b : Bool). a || b) (fails t run.0.1.1) rest.1,
      )

pub run_long : (P : Thing → Type 0) (ts : List Thing) (count index : ℕ) → 0 < count → RunStands P ts index count → index + count ≤ length ts
run_long P ts zero index some run = absurd (omega (arith, some))
run_long P ts (suc zero) index some run = let e = stands_long ts index run.0.0 run.0.1.0 in omega (arith, e)
run_long P ts (suc (suc count)) index some run =
    let e = run_long P ts (suc count) (suc index) (omega arith) run.1 in omega (arith, e)

stands_behind : (xs ys : List Thing) (k : ℕ) (t : Thing) → StandsAt ys k t → StandsAt (xs ++ ys) (length xs + k) t
stands_behind [] ys k t is = subst (λ (i : ℕ). StandsAt ys i t) (let e : k ≡ 0 + k = omega arith in e) is
stands_behind (x ∷ xs) ys k t is =
    subst (λ (i : ℕ). StandsAt (x ∷ (xs ++ ys)) i t) (let e : suc (length xs + k) ≡ suc (length xs) + k = omega arith in e) (stands_behind xs ys k t is)

stands_in_front : (xs ys : List Thing) (k : ℕ) (t : Thing) → StandsAt xs k t → StandsAt (xs ++ ys) k t
stands_in_front [] ys k t is = cc
stands_in_front (x ∷ xs) ys zero t is = is
stands_in_front (x ∷ xs) ys (suc k) t is = stands_in_front xs ys k t is

stands_among : (count k : ℕ) (t : Thing) → k < count → StandsAt (replicate count t) k t
stands_among zero k t lt = absurd (omega (arith, lt))
stands_among (suc count) zero t lt = refl
stands_among (suc count) (suc k) t lt = stands_among count k t (omega (arith, lt))

-- ---- what stands at the ids of a history

-- at the id of an object stands an object
pub make_stands : (h : History) (n : Name) (path : List ℕ) (ops : List Op) (index : ℕ) (v : ElemId) → IsIn v (makes_from h n path index ops)
    → StandsAt (things ops) (v.index - index) Object
make_stands h n path [] index v is = absurd is
make_stands h n path (op ∷ ops) index v is =
    elim (make_in h n path index op (makes_from h n path (index + length (things_of op)) ops) v is) [
      | inl here ↦
          let e : v.index ≡ index = ap (λ (id : ElemId). id.index) here.0 in
          subst (λ (k : ℕ). StandsAt (things_of op ++ things ops) k Object) (let z : 0 ≡ v.index - index = omega (arith, e) in z) (at_make op here.1)
      | inr later ↦
          let le = at_least h n path ops (index + length (things_of op)) v later in
          subst (λ (k : ℕ). StandsAt (things_of op ++ things ops) k Object)
          (let z : length (things_of op) + (v.index - (index + length (things_of op))) ≡ v.index - index = omega (arith, le) in z)
          (stands_behind (things_of op) (things ops) (v.index - (index + length (things_of op))) Object
          (make_stands h n path ops (index + length (things_of op)) v later))
    ] where
      at_make : (op : Op) → IsMakeAt path op → StandsAt (things_of op ++ things ops) 0 Object
      at_make (Make made) is = refl
      at_make (Remove object) is = absurd is
      at_make (Insert object parent text) is = absurd is
      at_make (Delete object first count) is = absurd is

-- at the id stands a character of the object
pub record IsCharacterOf (h : History) (object id : ElemId) : Type 0 where
  pub own : Ref
  pub of : id_of h id.name own ≡ object
  pub stands : StandsAt (things (ops_at h id.name)) id.index (Character own)

-- a character of the object stands at the id, for operations of a change from an index on
record IsCharacterIn (h : History) (object : ElemId) (n : Name) (index : ℕ) (ops : List Op) (id : ElemId) : Type 0 where
  own : Ref
  of : id_of h n own ≡ object
  named : id.name ≡ n
  behind : index ≤ id.index
  stands : StandsAt (things ops) (id.index - index) (Character own)

run_within : (first : ElemId) (count : ℕ) (id : ElemId) → is_in_run first count id ≡ true → (first.index ≤ id.index) × (id.index < first.index + count)
run_within first zero id is = cc
run_within first (suc count) id is = by (run_within (next_id first) count id) (same first id) refl is where
  by : (is_in_run (next_id first) count id ≡ true → (suc first.index ≤ id.index) × (id.index < suc first.index + count)) → (b : Bool) → same first id ≡ b
      → (b || is_in_run (next_id first) count id) ≡ true → (first.index ≤ id.index) × (id.index < first.index + suc count)
  by later true here is = let e : first.index ≡ id.index = ap (λ (x : ElemId). x.index) (same_one first id here) in (omega (arith, e), omega (arith, e))
  by later false here is = let both = later is in let a = both.0 in let b = both.1 in (omega (arith, a), omega (arith, b))

module _ (h : History) (object : ElemId) (n : Name) where
  char_in_op : (op : Op) (ops : List Op) (index : ℕ) (known : ElemId → Bool) (id : ElemId) → all_known_after (text_op h n object index op) known id ≡ true
      → IsCharacterIn h object n index (op ∷ ops) id ⊎ (known id ≡ true)
  char_in_op (Make path) ops index known id is = inr is
  char_in_op (Remove removed) ops index known id is = inr is
  char_in_op (Delete own first count) ops index known id is = by (same object (id_of h n own)) is where
    by : (b : Bool) → all_known_after (cond b (on_text.Delete (id_of h n first) count ∷ []) []) known id ≡ true
        → IsCharacterIn h object n index (Delete own first count ∷ ops) id ⊎ (known id ≡ true)
    by true is = inr is
    by false is = inr is
  char_in_op (Insert own parent text) ops index known id is = by (same object (id_of h n own)) refl is where
    here : same object (id_of h n own) ≡ true → (b : Bool) → is_in_run (id_at h n index) (length text) id ≡ b → (b || known id) ≡ true
        → IsCharacterIn h object n index (Insert own parent text ∷ ops) id ⊎ (known id ≡ true)
    here own_is true in_run is =
        let within = run_within (id_at h n index) (length text) id in_run in
        let low = within.0 in
        let high = within.1 in
        inl (record {
          own = own;
          of = sym (same_one object (id_of h n own) own_is);
          named = ap (λ (x : ElemId). x.name) (run_is (id_at h n index) (length text) id in_run);
          behind = low;
          stands = stands_in_front (replicate (length text) (Character own)) (things ops) (id.index - index) (Character own)
              (stands_among (length text) (id.index - index) (Character own) (omega (arith, low, high)));
        })
    here own_is false in_run is = inr is

    by : (b : Bool) → same object (id_of h n own) ≡ b
        → all_known_after (cond b (on_text.Insert (id_at h n index) (parent_of h n parent) text ∷ []) []) known id ≡ true
        → IsCharacterIn h object n index (Insert own parent text ∷ ops) id ⊎ (known id ≡ true)
    by true own_is is = here own_is (is_in_run (id_at h n index) (length text) id) refl is
    by false own_is is = inr is

  char_in : (ops : List Op) (index : ℕ) (known : ElemId → Bool) (id : ElemId) → all_known_after (text_ops h n object index ops) known id ≡ true
      → IsCharacterIn h object n index ops id ⊎ (known id ≡ true)
  char_in [] index known id is = inr is
  char_in (op ∷ ops) index known id is =
      let rest : List TextOp = text_ops h n object (index + length (things_of op)) ops in
      elim (char_in ops (index + length (things_of op)) (all_known_after (text_op h n object index op) known) id
      (ap (λ (f : ElemId → Bool). f id) (sym (all_known_after-append (text_op h n object index op) rest known)) ∙ is)) [
        | inl later ↦
            let le = later.behind in
            inl (record {
              own = later.own;
              of = later.of;
              named = later.named;
              behind = omega (arith, le);
              stands = subst (λ (k : ℕ). StandsAt (things_of op ++ things ops) k (Character later.own))
                  (let z : length (things_of op) + (id.index - (index + length (things_of op))) ≡ id.index - index = omega (arith, le) in z)
                  (stands_behind (things_of op) (things ops) (id.index - (index + length (things_of op))) (Character later.own) later.stands);
            })
        | inr before ↦ char_in_op op ops index known id before
      ]

module _ (h : History) (object : ElemId) where
  char_of_entries : (es : History) (known : ElemId → Bool) (id : ElemId) → AllByRecursion (IsEntry h) es
      → all_known_after (flat_map (λ (e : Name × Change). text_ops h e.0 object 0 e.1.ops) es) known id ≡ true → IsCharacterOf h object id ⊎ (known id ≡ true)
  char_of_entries [] known id all is = inr is
  char_of_entries (e ∷ es) known id all is =
      let own : List TextOp = text_ops h e.0 object 0 e.1.ops in
      let rest : List TextOp = flat_map (λ (x : Name × Change). text_ops h x.0 object 0 x.1.ops) es in
      elim (char_of_entries es (all_known_after own known) id all.1 (ap (λ (f : ElemId → Bool). f id) (sym (all_known_after-append own rest known)) ∙ is)) [
        | inl later ↦ inl later
        | inr before ↦
            elim (char_in h object e.0 e.1.ops 0 known id before) [
              | inl here ↦
                  let ops_are : e.1.ops ≡ ops_at h id.name = sym (ap ops_of (ap (change_at h) here.named ∙ all.0.found)) in
                  inl (record {
                    own = here.own;
                    of = ap (λ (n : Name). id_of h n here.own) here.named ∙ here.of;
                    stands = subst (λ (ops : List Op). StandsAt (things ops) id.index (Character here.own)) ops_are
                        (subst (λ (k : ℕ). StandsAt (things e.1.ops) k (Character here.own)) (let z : id.index - 0 ≡ id.index = omega arith in z) here.stands);
                  })
              | inr earlier ↦ inr earlier
            ]
      ]

  pub elements_are : IsGrown h → AllByRecursion (λ (e : Element). IsCharacterOf h object e.id) (elements_of h object)
  unfolding ops_on
  elements_are grown =
      let well : IsWell (tree_of h object) (known_on h object) = well_tree h grown object in
      all_more (λ (e : Element). Has e.id (elements_of h object)) (λ (e : Element). IsCharacterOf h object e.id) (elements_of h object)
      (λ e has.
      elim (char_of_entries (by_depth h) (is_known []) e.id (all_by_depth (IsEntry h) h (grown_entries h grown))
      (sym (ap (λ (f : ElemId → Bool). f e.id) well.known_is) ∙ has_known e.id (elements_of h object) has)) [
        | inl is ↦ is
        | inr never ↦ cc
      ])
      (each_has h grown (elements_of h object))
