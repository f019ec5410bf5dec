-- A run of characters in the tree stands as a run in the full order, and a tombstone stays where it was.
use Rattle.std.proofs.Common.{◌≡◌, ℕ, zero, suc, Bool, true, false, cond, List, [], ◌∷◌, ◌++◌, Option, Some, None, length, map, refl, sym, ap, ap₂, ◌∙◌, subst, inl, inr, append_assoc}
use Rattle.std.specs.Prelude.{slice_get}
use Rattle.std.proofs.lemmas.Bool.{cases_Bool}
use Rattle.std.proofs.lemmas.List.{map-append}
use Rattle.tt_base.specs.Elements.{id_at, IsNew, AreDistinct, dead, killed}
use Rattle.tt_base.specs.declared.ids.ElemId.{ElemId}
use Rattle.tt_base.specs.declared.elements.Element.{Element}
use Rattle.tt_base.proofs.ElementLemmas.{new_front, distinct_with}
use Rattle.replica_text.specs.Ids.{less, same, next_id, is_known}
use Rattle.replica_text.specs.Tree.{Tree, Leaf, Node, walk, FallsFrom, IsTreeUnder, IsTree, with_element, without}
use Rattle.replica_text.specs.Ops.{with_run, IsRunKnown, MayBeParent}
use Rattle.replica_text.specs.Placed.{passing, behind, placed, Stops, run_of}
use Rattle.replica_text.proofs.OrderLemmas.{less_trans, less_other, less_next, same_self, other_same, never}
use Rattle.replica_text.proofs.MemberLemmas.{Has, has_here, new_with, known_has, unknown_new}
use Rattle.replica_text.proofs.SkipLemmas.{IsParent, element_walk, element_tree, absent_list, passing_stops}

-- no element has one of the ids of a run
abbrev pub IsRunNew : ElemId → ℕ → List Element → Type 0
IsRunNew first zero elements = Unit {0}
IsRunNew first (suc count) elements = IsNew first elements × IsRunNew (next_id first) count elements

pub run_unknown : (first : ElemId) (count : ℕ) (elements : List Element) → IsRunKnown false first count (is_known elements) → IsRunNew first count elements
run_unknown first zero elements h = tt
run_unknown first (suc count) elements h = (unknown_new first elements h.0, run_unknown (next_id first) count elements h.1)

-- a parent that is known is there
pub parent_known : (parent : Option ElemId) (id : ElemId) (elements : List Element) → MayBeParent parent id (is_known elements) → IsParent parent id elements
parent_known None id elements h = tt
parent_known (Some p) id elements h = (known_has p elements h.0, h.1)

pub run_new_with : (e : Element) (xs ys : List Element) (first : ElemId) (count : ℕ) → less e.id first ≡ true → IsRunNew first count (xs ++ ys) → IsRunNew first count (xs ++ e ∷ ys)
run_new_with e xs ys first zero l h = tt
run_new_with e xs ys first (suc count) l h = (
  new_with first xs ys e h.0 (less_other e.id first l),
  run_new_with e xs ys (next_id first) count (less_trans e.id first (next_id first) l (less_next first)) h.1,
)

-- what stops an id stops the next one of its run
stops_next : (id : ElemId) (ys : List Element) → Stops id ys → Stops (next_id id) ys
stops_next id [] s = tt
stops_next id (y ∷ ys) s = elim (cases_Bool (less (next_id id) y.id)) [
  | inl e ↦ never (less id y.id) (less_trans id (next_id id) y.id (less_next id) e) s
  | inr e ↦ e
]

-- what the walk of a tree is, and that it is a tree
pub record WalksTo (tree : Tree) (elements : List Element) : Type 0 where
  pub walks : walk tree ≡ elements
  pub is_tree : IsTree tree

pub run_walk : (first : ElemId) (parent : Option ElemId) (text : List ℕ) (tree : Tree) (xs ys : List Element) → IsTree tree → AreDistinct (walk tree)
    → IsParent parent first (walk tree) → IsRunNew first (length text) (walk tree) → walk tree ≡ xs ++ ys
    → ((new : Element) → new.id ≡ first → placed parent new (walk tree) ≡ xs ++ (new ∷ ys)) → Stops first ys
    → WalksTo (with_run first parent text tree) (xs ++ (run_of first text ++ ys))
run_walk first parent [] tree xs ys t d p n w f s = record { walks = w; is_tree = t }
run_walk first parent (ch ∷ text) tree xs ys t d p n w f s =
    let new : Element = record { id = first; ch = ch; alive = true } in
    let grown : Tree = with_element parent new tree in
    let here : walk grown ≡ xs ++ (new ∷ ys) = element_walk parent new tree t d p ∙ f new refl in
    let fresh : IsNew first (xs ++ ys) = subst (IsNew first) w n.0 in
    let distinct : AreDistinct (walk grown) = subst AreDistinct (sym here) (distinct_with new xs ys fresh (subst AreDistinct w d)) in
    let later : IsRunNew (next_id first) (length text) (walk grown) =
    subst (IsRunNew (next_id first) (length text)) (sym here)
    (run_new_with new xs ys (next_id first) (length text) (less_next first) (subst (IsRunNew (next_id first) (length text)) w n.1)) in
    let below : IsParent (Some first) (next_id first) (walk grown) = (subst (Has first) (sym here) (has_here first xs ys new refl), less_next first) in
    let places : (e : Element) → e.id ≡ next_id first → placed (Some first) e (walk grown) ≡ (xs ++ new ∷ []) ++ (e ∷ ys) = λ e is.
    ap (behind first e) here
    ∙ absent_list first e xs (new ∷ ys) (new_front first xs ys fresh)
    ∙ ap (λ l. xs ++ l) (
    ap (λ b. cond b (new ∷ passing e ys) (new ∷ behind first e ys)) (same_self first)
    ∙ ap (λ l. new ∷ l) (passing_stops e ys (subst (λ (i : ElemId). Stops i ys) (sym is) (stops_next first ys s))))
    ∙ sym (append_assoc xs (new ∷ []) (e ∷ ys)) in
    let rest : WalksTo (with_run (next_id first) (Some first) text grown) ((xs ++ new ∷ []) ++ (run_of (next_id first) text ++ ys)) =
    run_walk (next_id first) (Some first) text grown (xs ++ new ∷ []) ys (element_tree parent new tree t n.0 p) distinct below later
    (here ∙ sym (append_assoc xs (new ∷ []) ys)) places (stops_next first ys s) in
    record { walks = rest.walks ∙ append_assoc xs (new ∷ []) (run_of (next_id first) text ++ ys); is_tree = rest.is_tree }

-- tombstones
abbrev pub deadened : ElemId → Element → Element
deadened id e = cond (same id e.id) (dead e) e

without_walk : (id : ElemId) (tree : Tree) → walk (without id tree) ≡ map (deadened id) (walk tree)
without_walk id Leaf = refl
without_walk id (Node e children siblings) =
    ap (λ l. deadened id e ∷ l) (
    ap₂ (λ xs ys. xs ++ ys) (without_walk id children) (without_walk id siblings) ∙ sym (map-append (deadened id) (walk children) (walk siblings)))

pub deadened_id : (id : ElemId) (e : Element) → (deadened id e).id ≡ e.id
deadened_id id e = by_answer (same id e.id) where
  by_answer : (b : Bool) → (cond b (dead e) e).id ≡ e.id
  by_answer true = refl
  by_answer false = refl

without_falls : (id y : ElemId) (tree : Tree) → FallsFrom y tree → FallsFrom y (without id tree)
without_falls id y Leaf s = s
without_falls id y (Node e children siblings) s = ap (λ i. less i y) (deadened_id id e) ∙ s

without_tree : (id : ElemId) (may : ElemId → Bool) (tree : Tree) → IsTreeUnder may tree → IsTreeUnder may (without id tree)
without_tree id may Leaf h = h
without_tree id may (Node e children siblings) h =
    let is : e.id ≡ (deadened id e).id = sym (deadened_id id e) in
    record {
      own = ap may (deadened_id id e) ∙ h.own;
      below = subst (λ (i : ElemId). IsTreeUnder (less i) (without id children)) is (without_tree id (less e.id) children h.below);
      order = subst (λ (i : ElemId). FallsFrom i (without id siblings)) is (without_falls id e.id siblings h.order);
      beside = without_tree id may siblings h.beside;
    }

deadened_none : (id : ElemId) (xs : List Element) → IsNew id xs → map (deadened id) xs ≡ xs
deadened_none id [] h = refl
deadened_none id (x ∷ xs) h =
    ap₂ (λ b l. cond b (dead x) x ∷ l) (other_same id x.id (λ is. h.0 (sym is))) (deadened_none id xs h.1)

deadened_at : (id : ElemId) (xs ys : List Element) (e : Element) → e.id ≡ id → IsNew id xs → IsNew id ys → map (deadened id) (xs ++ e ∷ ys) ≡ xs ++ dead e ∷ ys
deadened_at id xs ys e is n m =
    map-append (deadened id) xs (e ∷ ys)
    ∙ ap₂ (λ l r. l ++ r) (deadened_none id xs n)
    (ap₂ (λ b l. cond b (dead e) e ∷ l) (ap (same id) is ∙ same_self id) (deadened_none id ys m))

pub tombstone_walk : (id : ElemId) (tree : Tree) (xs ys : List Element) (e : Element) → IsTree tree → walk tree ≡ xs ++ e ∷ ys → e.id ≡ id → IsNew id xs → IsNew id ys
    → WalksTo (without id tree) (xs ++ dead e ∷ ys)
tombstone_walk id tree xs ys e t w is n m = record {
  walks = without_walk id tree ∙ ap (map (deadened id)) w ∙ deadened_at id xs ys e is n m;
  is_tree = without_tree id (λ i. true) tree t;
}

pub dead_already : (e : Element) → e.alive ≡ false → dead e ≡ e
dead_already e h = λ i. record { id = e.id; ch = e.ch; alive = sym h i }

pub killed_at : (xs ys : List Element) (e : Element) → killed (xs ++ e ∷ ys) (length xs) ≡ xs ++ dead e ∷ ys
killed_at [] ys e = refl
killed_at (x ∷ xs) ys e = ap (λ l. x ∷ l) (killed_at xs ys e)

-- a list cut at the place of an id
pub record IsCut (elements : List Element) (place : ℕ) (id : ElemId) : Type 0 where
  pub before : List Element
  pub element : Element
  pub behind : List Element
  pub whole : elements ≡ before ++ element ∷ behind
  pub place_is : length before ≡ place
  pub id_is : element.id ≡ id
  pub there : slice_get elements place ≡ Some element

pub cut_at : (elements : List Element) (place : ℕ) (id : ElemId) → id_at elements place ≡ Some id → IsCut elements place id
cut_at [] place id h = cc
cut_at (x ∷ xs) zero id h = record { before = []; element = x; behind = xs; whole = refl; place_is = refl; id_is = cc; there = refl }
cut_at (x ∷ xs) (suc place) id h =
    let rest : IsCut xs place id = cut_at xs place id h in
    record {
      before = x ∷ rest.before;
      element = rest.element;
      behind = rest.behind;
      whole = ap (λ l. x ∷ l) rest.whole;
      place_is = ap suc rest.place_is;
      id_is = rest.id_is;
      there = rest.there;
    }
