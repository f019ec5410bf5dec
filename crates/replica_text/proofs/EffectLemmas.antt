-- Effects of two steps compose to that of both.
use Rattle.std.proofs.Common.{◌≡◌, ℕ, suc, ◌+◌, Bool, true, false, cond, ◌&&◌, ◌||◌, List, [], ◌∷◌, refl, sym, ap, ap₂, ◌∙◌, arith, inl, inr}
use Rattle.std.specs.List.{count_by}
use Rattle.std.proofs.lemmas.List.Sums.{sum_by-cons}
use Rattle.delta.specs.Cells.{Cells, covers, normal, base_length, result_length, one_if}
use Rattle.delta.specs.Marks.{New, Place, applied_marks, marks_from, composed}
use Rattle.delta.proofs.CellsLemmas.{base_length-inserts, result_length-inserts}
use Rattle.delta.proofs.MarksLemmas.{applied_marks-inserts, marks_from-inserts}
use Rattle.delta.proofs.NormalLemmas.{applied_marks-normal, marks_from-normal, base_length-normal, result_length-normal, IsNormal-normal}
use Rattle.delta.proofs.LawLemmas.{marks_fix}
use Rattle.delta.proofs.ComposedLemmas.{marks_of-composed, base_length-composed, IsNormal-composed}
use Rattle.tt_base.specs.Elements.{is_alive, IsNew, AreDistinct}
use Rattle.tt_base.specs.declared.ids.ElemId.{ElemId}
use Rattle.tt_base.specs.declared.elements.Element.{Element}
use Rattle.replica_text.specs.Ids.{same}
use Rattle.replica_text.specs.Effect.{is_visible, Shown, step_of, change_of, compared, effect}
use Rattle.replica_text.specs.Joined.{Grows}
use Rattle.replica_text.proofs.OrderLemmas.{same_self, other_same}
use Rattle.replica_text.proofs.GrowsLemmas.{new_before}

-- the elements of a list beside two answers on each
abbrev pub answers : (f g : ElemId → Bool) → List Element → List Shown
answers f g [] = []
answers f g (e ∷ elements) = record { was = f e.id; now = g e.id; ch = e.ch } ∷ answers f g elements

-- what was visible and is not does not come back
abbrev pub StaysGone : Bool → Bool → Bool → Type 0
StaysGone true false now = now ≡ false
StaysGone true true now = Unit {0}
StaysGone false between now = Unit {0}

abbrev pub NoneComesBack : (f g : ElemId → Bool) → List Element → Type 0
NoneComesBack f g [] = Unit {0}
NoneComesBack f g (e ∷ elements) = StaysGone (f e.id) (g e.id) e.alive × NoneComesBack f g elements

-- both steps leave the marks that the whole leaves
step_marks : (was mid now : Bool) (c i : ℕ) (first last outer : Cells) → StaysGone was mid now → ((j : ℕ) → marks_from j outer ≡ applied_marks last (marks_from j first))
    → marks_from i (step_of was now c outer) ≡ applied_marks (step_of mid now c last) (marks_from i (step_of was mid c first))
step_marks true true true c i first last outer g h = ap (λ l. Place i ∷ l) (h (suc i))
step_marks true true false c i first last outer g h = h (suc i)
step_marks true false true c i first last outer g h = cc
step_marks true false false c i first last outer g h = h (suc i)
step_marks false true true c i first last outer g h =
    marks_from-inserts i (c ∷ []) outer ∙ ap (λ l. New c ∷ l) (h i)
    ∙ ap (applied_marks (covers true 1 last)) (sym (marks_from-inserts i (c ∷ []) first))
step_marks false true false c i first last outer g h =
    h i ∙ ap (applied_marks (covers false 1 last)) (sym (marks_from-inserts i (c ∷ []) first))
step_marks false false true c i first last outer g h =
    marks_from-inserts i (c ∷ []) outer ∙ ap (λ l. New c ∷ l) (h i) ∙ sym (applied_marks-inserts (c ∷ []) last (marks_from i first))
step_marks false false false c i first last outer g h = h i

all_marks : (f g : ElemId → Bool) (elements : List Element) (i : ℕ) → NoneComesBack f g elements
    → marks_from i (change_of (compared f elements)) ≡ applied_marks (change_of (compared g elements)) (marks_from i (change_of (answers f g elements)))
all_marks f g [] i h = refl
all_marks f g (e ∷ elements) i h =
    step_marks (f e.id) (g e.id) e.alive e.ch i (change_of (answers f g elements)) (change_of (compared g elements)) (change_of (compared f elements)) h.0
    (λ j. all_marks f g elements j h.1)

pub base_step : (was now : Bool) (c : ℕ) (d : Cells) → base_length (step_of was now c d) ≡ one_if was + base_length d
base_step true true c d = omega arith
base_step true false c d = omega arith
base_step false true c d = base_length-inserts (c ∷ []) d ∙ omega arith
base_step false false c d = omega arith

all_base : (f g : ElemId → Bool) (elements : List Element) → base_length (change_of (compared f elements)) ≡ base_length (change_of (answers f g elements))
all_base f g [] = refl
all_base f g (e ∷ elements) =
    base_step (f e.id) e.alive e.ch (change_of (compared f elements))
    ∙ ap (λ n. one_if (f e.id) + n) (all_base f g elements)
    ∙ sym (base_step (f e.id) (g e.id) e.ch (change_of (answers f g elements)))

answers_compose : (f g : ElemId → Bool) (elements : List Element) → NoneComesBack f g elements
    → composed (normal (change_of (answers f g elements))) (normal (change_of (compared g elements))) ≡ normal (change_of (compared f elements))
answers_compose f g elements h =
    let first : Cells = change_of (answers f g elements) in
    let last : Cells = change_of (compared g elements) in
    let outer : Cells = change_of (compared f elements) in
    marks_fix (composed (normal first) (normal last)) (normal outer) (IsNormal-composed (normal first) (normal last)) (IsNormal-normal outer)
    (base_length-composed (normal first) (normal last) ∙ base_length-normal first ∙ sym (all_base f g elements) ∙ sym (base_length-normal outer))
    (marks_of-composed (normal first) (normal last)
    ∙ ap (applied_marks (normal last)) (marks_from-normal 0 first)
    ∙ applied_marks-normal last (marks_from 0 first)
    ∙ sym (all_marks f g elements 0 h)
    ∙ sym (marks_from-normal 0 outer))

-- the test tells of each element whether it is visible
abbrev pub AllSeen : (ElemId → Bool) → List Element → Type 0
AllSeen g [] = Unit {0}
AllSeen g (e ∷ elements) = (g e.id ≡ e.alive) × AllSeen g elements

-- between a list and a later one, the new elements of the later were not visible before or between
grown_answers : (f g : ElemId → Bool) (whole xs ys : List Element) → Grows whole xs ys → AllSeen g xs
    → ((id : ElemId) → IsNew id whole → f id ≡ false) → ((id : ElemId) → IsNew id whole → g id ≡ false)
    → change_of (answers f g ys) ≡ change_of (compared f xs)
grown_answers f g whole [] [] h s u v = refl
grown_answers f g whole (x ∷ xs) [] h s u v = absurd h
grown_answers f g whole [] (y ∷ ys) h s u v =
    ap₂ (λ a b. step_of a b y.ch (change_of (answers f g ys))) (u y.id h.0) (v y.id h.0) ∙ grown_answers f g whole [] ys h.1 s u v
grown_answers f g whole (x ∷ xs) (y ∷ ys) h s u v = elim h [
  | inl k ↦
      ap₂ (λ a b. step_of a b y.ch (change_of (answers f g ys))) (ap f k.0.id) (ap g k.0.id ∙ s.0)
      ∙ ap₂ (λ c d. step_of (f x.id) x.alive c d) k.0.ch (grown_answers f g whole xs ys k.1 s.1 u v)
  | inr k ↦
      ap₂ (λ a b. step_of a b y.ch (change_of (answers f g ys))) (u y.id k.0) (v y.id k.0) ∙ grown_answers f g whole (x ∷ xs) ys k.1 s u v
]

stays : (a b c : Bool) → (b ≡ false → c ≡ false) → StaysGone a b c
stays true true c h = tt
stays true false c h = h refl
stays false b c h = tt

comes : (a b c : Bool) → a ≡ false → StaysGone a b c
comes true b c h = cc
comes false b c h = tt

none_comes_back : (f g : ElemId → Bool) (whole xs ys : List Element) → Grows whole xs ys → AllSeen g xs → ((id : ElemId) → IsNew id whole → f id ≡ false)
    → NoneComesBack f g ys
none_comes_back f g whole [] [] h s u = tt
none_comes_back f g whole (x ∷ xs) [] h s u = absurd h
none_comes_back f g whole [] (y ∷ ys) h s u = (comes (f y.id) (g y.id) y.alive (u y.id h.0), none_comes_back f g whole [] ys h.1 s u)
none_comes_back f g whole (x ∷ xs) (y ∷ ys) h s u = elim h [
  | inl k ↦ (
    stays (f y.id) (g y.id) y.alive (λ gone. k.0.gone (sym s.0 ∙ ap g (sym k.0.id) ∙ gone)),
    none_comes_back f g whole xs ys k.1 s.1 u,
  )
  | inr k ↦ (comes (f y.id) (g y.id) y.alive (u y.id k.0), none_comes_back f g whole (x ∷ xs) ys k.1 s u)
]

-- of distinct elements each is visible where it says so
seen_more : (x : Element) (g : ElemId → Bool) (elements : List Element) → IsNew x.id elements → AllSeen g elements
    → AllSeen (λ id. (same x.id id && x.alive) || g id) elements
seen_more x g [] n s = tt
seen_more x g (e ∷ elements) n s = (
  ap (λ b. (b && x.alive) || g e.id) (other_same x.id e.id (λ is. n.0 (sym is))) ∙ s.0,
  seen_more x g elements n.1 s.1,
)

pub new_invisible : (id : ElemId) (elements : List Element) → IsNew id elements → is_visible elements id ≡ false
new_invisible id [] h = refl
new_invisible id (e ∷ elements) h =
    ap (λ b. (b && e.alive) || is_visible elements id) (other_same e.id id h.0) ∙ new_invisible id elements h.1

or_false : (a : Bool) → (a || false) ≡ a
or_false true = refl
or_false false = refl

pub all_seen : (elements : List Element) → AreDistinct elements → AllSeen (is_visible elements) elements
all_seen [] d = tt
all_seen (e ∷ elements) d = (
  ap₂ (λ a b. (a && e.alive) || b) (same_self e.id) (new_invisible e.id elements d.0) ∙ or_false e.alive,
  seen_more e (is_visible elements) elements d.0 (all_seen elements d.1),
)

pub effects_compose : (old mid new : List Element) → AreDistinct mid → Grows old old mid → Grows mid mid new
    → composed (effect old mid) (effect mid new) ≡ effect old new
effects_compose old mid new d h k =
    let f : ElemId → Bool = is_visible old in
    let g : ElemId → Bool = is_visible mid in
    let unseen : (id : ElemId) → IsNew id mid → f id ≡ false = λ id n. new_invisible id old (new_before id old old mid h n) in
    ap (λ c. composed (normal c) (effect mid new)) (sym (grown_answers f g mid mid new k (all_seen mid d) unseen (λ id n. new_invisible id mid n)))
    ∙ answers_compose f g new (none_comes_back f g mid mid new k (all_seen mid d) unseen)

-- the lengths of an effect are those of the visible texts
pub count_more : (e : Element) (elements : List Element) → count_by is_alive (e ∷ elements) ≡ one_if e.alive + count_by is_alive elements
count_more e elements = sum_by-cons (λ (x : Element). cond (is_alive x) 1 0) e elements ∙ ap (λ n. n + count_by is_alive elements) (one e.alive) where
  one : (b : Bool) → cond b 1 0 ≡ one_if b
  one true = refl
  one false = refl

grown_base : (g : ElemId → Bool) (whole xs ys : List Element) → Grows whole xs ys → AllSeen g xs → ((id : ElemId) → IsNew id whole → g id ≡ false)
    → base_length (change_of (compared g ys)) ≡ count_by is_alive xs
grown_base g whole [] [] h s v = refl
grown_base g whole (x ∷ xs) [] h s v = absurd h
grown_base g whole [] (y ∷ ys) h s v =
    base_step (g y.id) y.alive y.ch (change_of (compared g ys)) ∙ ap₂ (λ b n. one_if b + n) (v y.id h.0) (grown_base g whole [] ys h.1 s v)
grown_base g whole (x ∷ xs) (y ∷ ys) h s v = elim h [
  | inl k ↦
      base_step (g y.id) y.alive y.ch (change_of (compared g ys))
      ∙ ap₂ (λ b n. one_if b + n) (ap g k.0.id ∙ s.0) (grown_base g whole xs ys k.1 s.1 v)
      ∙ sym (count_more x xs)
  | inr k ↦
      base_step (g y.id) y.alive y.ch (change_of (compared g ys))
      ∙ ap₂ (λ b n. one_if b + n) (v y.id k.0) (grown_base g whole (x ∷ xs) ys k.1 s v)
      ∙ (omega arith)
]

pub effect_base : (old new : List Element) → AreDistinct old → Grows old old new → base_length (effect old new) ≡ count_by is_alive old
effect_base old new d h =
    base_length-normal (change_of (compared (is_visible old) new))
    ∙ grown_base (is_visible old) old old new h (all_seen old d) (λ id n. new_invisible id old n)

result_step : (was now : Bool) (c : ℕ) (d : Cells) → result_length (step_of was now c d) ≡ one_if now + result_length d
result_step true true c d = omega arith
result_step true false c d = omega arith
result_step false true c d = result_length-inserts (c ∷ []) d
result_step false false c d = omega arith

pub effect_result : (old new : List Element) → result_length (effect old new) ≡ count_by is_alive new
effect_result old new = result_length-normal (change_of (compared (is_visible old) new)) ∙ by_elements (is_visible old) new where
  by_elements : (f : ElemId → Bool) (elements : List Element) → result_length (change_of (compared f elements)) ≡ count_by is_alive elements
  by_elements f [] = refl
  by_elements f (e ∷ elements) =
      result_step (f e.id) e.alive e.ch (change_of (compared f elements)) ∙ ap (λ n. one_if e.alive + n) (by_elements f elements) ∙ sym (count_more e elements)
