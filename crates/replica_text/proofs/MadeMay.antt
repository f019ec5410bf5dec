-- The operations of a made change may follow one another.
use Rattle.std.proofs.Common.{◌≡◌, ℕ, zero, suc, ◌+◌, ◌≤◌, ◌^◌, Bool, true, false, cond, ◌||◌, List, [], ◌∷◌, ◌++◌, Option, Some, None, length, refl, sym, ap, ap₂, ◌∙◌, subst, arith, inl, inr}
use Rattle.std.proofs.lemmas.Bool.{cases_Bool}
use Rattle.delta.specs.Cells.{Cell, Cells}
use Rattle.tt_base.specs.declared.ids.ElemId.{ElemId}
use Rattle.tt_base.specs.declared.elements.Element.{Element}
use Rattle.tt_base.specs.declared.text_ops.TextOp.{TextOp}
use Rattle.tt_base.specs.declared.text_ops.TextOp.TheVariants.{Insert, Delete}
use Rattle.replica_text.specs.Ids.{less, same, next_id, shifted, is_in_run, is_known}
use Rattle.replica_text.specs.Ops.{MayBeParent, IsRunKnown, AllMayFollow}
use Rattle.replica_text.specs.Made.{visible_ids, insertion, deletion, begins_deleted, at_place, made_from, made_ops, inserted_length_of, inserted_length, IsAbove}
use Rattle.replica_text.specs.Making.{DeletionsFit}
use Rattle.replica_text.proofs.OrderLemmas.{less_trans, same_one, same_self, other_same}
use Rattle.replica_text.proofs.MemberLemmas.{new_unknown, or_true}
use Rattle.replica_text.proofs.PlaceLemmas.{shifted_none, shifted_next, shifted_more}
use Rattle.replica_text.proofs.MadeLemmas.{id_if, ids_cons}
use Rattle.replica_text.proofs.MadeWalks.{above_new, above_shifted, less_shifted}

-- runs of ids that are known, one behind the other
run_both : (answer : Bool) (first : ElemId) (m n : ℕ) (known : ElemId → Bool) → IsRunKnown answer first m known → IsRunKnown answer (shifted first m) n known
    → IsRunKnown answer first (m + n) known
run_both answer first zero n known h k =
    let sum : n ≡ 0 + n = omega arith in
    subst (λ c. IsRunKnown answer first c known) sum (subst (λ (i : ElemId). IsRunKnown answer i n known) (shifted_none first) k)
run_both answer first (suc m) n known h k =
    let sum : suc (m + n) ≡ suc m + n = omega arith in
    subst (λ c. IsRunKnown answer first c known) sum
    (h.0, run_both answer (next_id first) m n known h.1 (subst (λ (i : ElemId). IsRunKnown answer i n known) (sym (shifted_next first m)) k))

may_deletion : (first : ElemId) (count : ℕ) (ops : List TextOp) (known : ElemId → Bool) → IsRunKnown true first count known → DeletionsFit (deletion first count ops)
    → AllMayFollow ops known → AllMayFollow (deletion first count ops) known
may_deletion first count [] known r f h = (record { there = r; fits = f.0 }, tt)
may_deletion first count (Insert next parent text ∷ ops) known r f h = (record { there = r; fits = f.0 }, h)
may_deletion first count (Delete next more ∷ ops) known r f h = elim (cases_Bool (same (shifted first count) next)) [
  | inl k ↦
      let fits : DeletionsFit (Delete first (count + more) ∷ ops) =
      subst (λ b. DeletionsFit (cond b (Delete first (count + more) ∷ ops) (Delete first count ∷ (Delete next more ∷ ops)))) k f in
      subst (λ b. AllMayFollow (cond b (Delete first (count + more) ∷ ops) (Delete first count ∷ (Delete next more ∷ ops))) known) (sym k) (
        record {
          there = run_both true first count more known r (subst (λ (i : ElemId). IsRunKnown true i more known) (sym {A = ElemId} (same_one (shifted first count) next k)) h.0.there);
          fits = fits.0;
        },
        h.1,
      )
  | inr k ↦
      let fits : DeletionsFit (Delete first count ∷ (Delete next more ∷ ops)) =
      subst (λ b. DeletionsFit (cond b (Delete first (count + more) ∷ ops) (Delete first count ∷ (Delete next more ∷ ops)))) k f in
      subst (λ b. AllMayFollow (cond b (Delete first (count + more) ∷ ops) (Delete first count ∷ (Delete next more ∷ ops))) known) (sym k)
      (record { there = r; fits = fits.0 }, h)
]

-- what stands behind fits too
fit_deletion : (first : ElemId) (count : ℕ) (ops : List TextOp) → DeletionsFit (deletion first count ops) → DeletionsFit ops
fit_deletion first count [] f = tt
fit_deletion first count (Insert next parent text ∷ ops) f = f.1
fit_deletion first count (Delete next more ∷ ops) f = elim (cases_Bool (same (shifted first count) next)) [
  | inl k ↦
      let fits : DeletionsFit (Delete first (count + more) ∷ ops) =
      subst (λ b. DeletionsFit (cond b (Delete first (count + more) ∷ ops) (Delete first count ∷ (Delete next more ∷ ops)))) k f in
      let at : first.index + count ≡ next.index = ap (λ (i : ElemId). i.index) (same_one (shifted first count) next k) in
      (omega (arith, at, fits.0), fits.1)
  | inr k ↦
      let fits : DeletionsFit (Delete first count ∷ (Delete next more ∷ ops)) =
      subst (λ b. DeletionsFit (cond b (Delete first (count + more) ∷ ops) (Delete first count ∷ (Delete next more ∷ ops)))) k f in
      fits.1
]

fit_place : (kept shares : Bool) (id : ElemId) (ops : List TextOp) → DeletionsFit (at_place kept shares id ops) → DeletionsFit ops
fit_place true shares id ops f = f
fit_place false true id ops f = fit_deletion id 1 ops f
fit_place false false id ops f = f.1

fit_insertion : (next : ElemId) (left : Option ElemId) (text : List ℕ) (ops : List TextOp) → DeletionsFit (insertion next left text ++ ops) → DeletionsFit ops
fit_insertion next left [] ops f = f
fit_insertion next left (ch ∷ text) ops f = f

may_place : (kept shares : Bool) (id : ElemId) (ops : List TextOp) (known : ElemId → Bool) → known id ≡ true → DeletionsFit (at_place kept shares id ops)
    → AllMayFollow ops known → AllMayFollow (at_place kept shares id ops) known
may_place true shares id ops known k f h = h
may_place false true id ops known k f h = may_deletion id 1 ops known (k, tt) f h
may_place false false id ops known k f h = (record { there = (k, tt); fits = f.0 }, h)

-- no id is known from this one of its run on
abbrev IsFresh : ElemId → (ElemId → Bool) → Type 0
IsFresh next known = (k : ℕ) → known (shifted next k) ≡ false

fresh_run : (next : ElemId) (count : ℕ) (known : ElemId → Bool) → IsFresh next known → IsRunKnown false next count known
fresh_run next zero known h = tt
fresh_run next (suc count) known h =
    (ap known (sym (shifted_none next)) ∙ h 0, fresh_run (next_id next) count known (λ k. ap known (shifted_next next k) ∙ h (suc k)))

outside_run : (first : ElemId) (count : ℕ) (id : ElemId) → first.index + count ≤ id.index → is_in_run first count id ≡ false
outside_run first zero id h = refl
outside_run first (suc count) id h =
    ap (λ b. b || is_in_run (next_id first) count id)
    (other_same first id (λ is. absurd (let at : first.index ≡ id.index = ap (λ (i : ElemId). i.index) is in omega (arith, at, h))))
    ∙ outside_run (next_id first) count id (omega (arith, h))

-- what is known behind an insertion
abbrev with_known : ElemId → ℕ → (ElemId → Bool) → ElemId → Bool
with_known next count known id = is_in_run next count id || known id

fresh_behind : (next : ElemId) (count : ℕ) (known : ElemId → Bool) → IsFresh next known → IsFresh (shifted next count) (with_known next count known)
fresh_behind next count known h k =
    ap (with_known next count known) (shifted_more next count k)
    ∙ ap₂ (λ a b. a || b) (outside_run next count (shifted next (count + k)) (omega arith)) (h (count + k))

known_behind : (next : ElemId) (count : ℕ) (known : ElemId → Bool) (id : ElemId) → known id ≡ true → with_known next count known id ≡ true
known_behind next count known id h = ap (λ b. is_in_run next count id || b) h ∙ or_true (is_in_run next count id)

may_insertion : (next : ElemId) (left : Option ElemId) (text : List ℕ) (ops : List TextOp) (known : ElemId → Bool) → MayBeParent left next known → IsFresh next known
    → next.index + length text ≤ 2 ^ 64 → AllMayFollow ops (with_known next (length text) known) → AllMayFollow (insertion next left text ++ ops) known
may_insertion next left [] ops known p f fits h = h
may_insertion next left (ch ∷ text) ops known p f fits h =
    (record { below = p; fresh = fresh_run next (length (ch ∷ text)) known f; fits = fits }, h)

-- these ids are known, and less than the next one
abbrev AreThere : (ElemId → Bool) → ElemId → List ElemId → Type 0
AreThere known next [] = Unit {0}
AreThere known next (id ∷ ids) = (known id ≡ true) × (less id next ≡ true) × AreThere known next ids

less_later : (id next : ElemId) (count : ℕ) → less id next ≡ true → less id (shifted next count) ≡ true
less_later id next zero h = subst (λ (i : ElemId). less id i ≡ true) (sym (shifted_none next)) h
less_later id next (suc count) h = less_trans id next (shifted next (suc count)) h (less_shifted next count)

there_behind : (next : ElemId) (count : ℕ) (known : ElemId → Bool) (ids : List ElemId) → AreThere known next ids → AreThere (with_known next count known) (shifted next count) ids
there_behind next count known [] h = tt
there_behind next count known (id ∷ ids) h =
    (known_behind next count known id h.0, less_later id next count h.1, there_behind next count known ids h.2)

may_from : (cs : List Cell) (last : List ℕ) (ids : List ElemId) (left : Option ElemId) (next : ElemId) (known : ElemId → Bool) → AreThere known next ids
    → MayBeParent left next known → IsFresh next known → next.index + inserted_length_of cs last ≤ 2 ^ 64 → DeletionsFit (made_from cs last ids left next)
    → AllMayFollow (made_from cs last ids left next) known
may_from [] last ids left next known t p f fits d = alone last fits where
  alone : (text : List ℕ) → next.index + length text ≤ 2 ^ 64 → AllMayFollow (insertion next left text) known
  alone [] fits = tt
  alone (ch ∷ text) fits = (record { below = p; fresh = fresh_run next (length (ch ∷ text)) known f; fits = fits }, tt)
may_from (c ∷ cs) last [] left next known t p f fits d = tt
may_from (c ∷ cs) last (id ∷ ids) left next known t p f fits d =
    let n : ℕ = length c.inserted in
    let later : ElemId = shifted next n in
    let rest : List TextOp = made_from cs last ids (Some id) later in
    let here : List TextOp = at_place c.kept (begins_deleted cs) id rest in
    let fit : DeletionsFit here = fit_insertion next left c.inserted here d in
    let more : ElemId → Bool = with_known next n known in
    may_insertion next left c.inserted here known p f (omega (arith, fits))
    (may_place c.kept (begins_deleted cs) id rest more (known_behind next n known id t.0) fit
    (may_from cs last ids (Some id) later more (there_behind next n known ids t.2) (known_behind next n known id t.0, less_later id next n t.1)
    (fresh_behind next n known f) (omega (arith, fits)) (fit_place c.kept (begins_deleted cs) id rest fit)))

-- visible elements are there
there_if : (b : Bool) (known : ElemId → Bool) (next id : ElemId) (ids : List ElemId) → known id ≡ true → less id next ≡ true → AreThere known next ids
    → AreThere known next (id_if b id ++ ids)
there_if true known next id ids k l h = (k, l, h)
there_if false known next id ids k l h = h

there_wider : (known more : ElemId → Bool) (next : ElemId) (ids : List ElemId) → ((id : ElemId) → known id ≡ true → more id ≡ true) → AreThere known next ids → AreThere more next ids
there_wider known more next [] w h = tt
there_wider known more next (id ∷ ids) w h = (w id h.0, h.1, there_wider known more next ids w h.2)

all_there : (next : ElemId) (elements : List Element) → IsAbove next elements → AreThere (is_known elements) next (visible_ids elements)
all_there next [] h = tt
all_there next (e ∷ elements) h =
    subst (AreThere (is_known (e ∷ elements)) next) (sym (ids_cons e elements))
    (there_if e.alive (is_known (e ∷ elements)) next e.id (visible_ids elements) (ap (λ b. b || is_known elements e.id) (same_self e.id)) h.0
    (there_wider (is_known elements) (is_known (e ∷ elements)) next (visible_ids elements) (λ id k. ap (λ b. same e.id id || b) k ∙ or_true (same e.id id))
    (all_there next elements h.1)))

pub made_may : (elements : List Element) (d : Cells) (next : ElemId) → IsAbove next elements → next.index + inserted_length d ≤ 2 ^ 64 → DeletionsFit (made_ops elements d next)
    → AllMayFollow (made_ops elements d next) (is_known elements)
made_may elements d next h fits f =
    may_from d.cells d.last (visible_ids elements) None next (is_known elements) (all_there next elements h) tt
    (λ k. new_unknown (shifted next k) elements (above_new (shifted next k) elements (above_shifted next k elements h))) fits f
