-- The skip rule: behind its parent and all that are greater there, a new element stands where the tree has it.
use Rattle.std.proofs.Common.{◌≡◌, Bool, true, false, cond, List, [], ◌∷◌, ◌++◌, Option, Some, None, refl, sym, ap, ◌∙◌, subst, inl, inr, append_assoc}
use Rattle.std.proofs.lemmas.Bool.{cases_Bool}
use Rattle.std.proofs.lemmas.List.{append-nil}
use Rattle.tt_base.specs.Elements.{IsNew, AreDistinct}
use Rattle.tt_base.specs.declared.ids.ElemId.{ElemId}
use Rattle.tt_base.specs.declared.elements.Element.{Element}
use Rattle.tt_base.proofs.ElementLemmas.{new_front, new_back}
use Rattle.replica_text.specs.Ids.{less, same}
use Rattle.replica_text.specs.Tree.{Tree, Leaf, Node, walk, FallsFrom, IsTreeUnder, IsTree, with_sibling, with_child, with_element}
use Rattle.replica_text.specs.Placed.{passing, behind, placed, Stops}
use Rattle.replica_text.proofs.OrderLemmas.{less_trans, same_one, same_self, other_same, never, not_back, greater_other}
use Rattle.replica_text.proofs.MemberLemmas.{Has, has-append, front_distinct, back_distinct, not_behind, not_before}

-- all of these pass the test
abbrev pub AllMay : (ElemId → Bool) → List Element → Type 0
AllMay may [] = Unit {0}
AllMay may (e ∷ elements) = (may e.id ≡ true) × AllMay may elements

may-append : (may : ElemId → Bool) (xs ys : List Element) → AllMay may xs → AllMay may ys → AllMay may (xs ++ ys)
may-append may [] ys h k = k
may-append may (x ∷ xs) ys h k = (h.0, may-append may xs ys h.1 k)

may_weaker : (f g : ElemId → Bool) (xs : List Element) → ((a : ElemId) → f a ≡ true → g a ≡ true) → AllMay f xs → AllMay g xs
may_weaker f g [] w h = tt
may_weaker f g (x ∷ xs) w h = (w x.id h.0, may_weaker f g xs w h.1)

-- all below a parent are greater than it
walk_greater : (p : ElemId) (tree : Tree) → IsTreeUnder (less p) tree → AllMay (less p) (walk tree)
walk_greater p Leaf h = tt
walk_greater p (Node e children siblings) h = (
  h.own,
  may-append (less p) (walk children) (walk siblings)
      (may_weaker (less e.id) (less p) (walk children) (λ a g. less_trans p e.id a h.own g) (walk_greater e.id children h.below))
      (walk_greater p siblings h.beside),
)

-- greater ones are passed
passing_past : (new : Element) (xs ys : List Element) → AllMay (less new.id) xs → passing new (xs ++ ys) ≡ xs ++ passing new ys
passing_past new [] ys h = refl
passing_past new (x ∷ xs) ys h =
    ap (λ b. cond b (x ∷ passing new (xs ++ ys)) (new ∷ (x ∷ (xs ++ ys)))) h.0 ∙ ap (λ l. x ∷ l) (passing_past new xs ys h.1)

pub passing_stops : (new : Element) (ys : List Element) → Stops new.id ys → passing new ys ≡ new ∷ ys
passing_stops new [] h = refl
passing_stops new (y ∷ ys) h = ap (λ b. cond b (y ∷ passing new ys) (new ∷ (y ∷ ys))) h

-- siblings that fall below an id stop whatever is above it
next_stops : (y x : ElemId) (siblings : Tree) (rest : List Element) → less y x ≡ true → FallsFrom y siblings → Stops x rest → Stops x (walk siblings ++ rest)
next_stops y x Leaf rest h s k = k
next_stops y x (Node z children siblings) rest h s k = not_back z.id x (less_trans z.id y x s h)

-- a new sibling stands behind the greater ones and all below these
sibling_walk : (may : ElemId → Bool) (new : Element) (tree : Tree) (rest : List Element) → IsTreeUnder may tree → Stops new.id rest
    → walk (with_sibling new tree) ++ rest ≡ passing new (walk tree ++ rest)
sibling_walk may new Leaf rest h s = sym (passing_stops new rest s)
sibling_walk may new (Node e children siblings) rest h s = elim (cases_Bool (less new.id e.id)) [
  | inl greater ↦
      ap (λ b. walk (cond b (Node e children (with_sibling new siblings)) (Node new Leaf (Node e children siblings))) ++ rest) greater
      ∙ ap (λ l. e ∷ l) (
      append_assoc (walk children) (walk (with_sibling new siblings)) rest
      ∙ ap (λ l. walk children ++ l) (sibling_walk may new siblings rest h.beside s)
      ∙ sym (passing_past new (walk children) (walk siblings ++ rest)
      (may_weaker (less e.id) (less new.id) (walk children) (λ a g. less_trans new.id e.id a greater g) (walk_greater e.id children h.below)))
      ∙ ap (passing new) (sym (append_assoc (walk children) (walk siblings) rest))
      )
      ∙ sym (ap (λ b. cond b (e ∷ passing new ((walk children ++ walk siblings) ++ rest)) (new ∷ (e ∷ ((walk children ++ walk siblings) ++ rest)))) greater)
  | inr smaller ↦
      ap (λ b. walk (cond b (Node e children (with_sibling new siblings)) (Node new Leaf (Node e children siblings))) ++ rest) smaller
      ∙ sym (ap (λ b. cond b (e ∷ passing new ((walk children ++ walk siblings) ++ rest)) (new ∷ (e ∷ ((walk children ++ walk siblings) ++ rest)))) smaller)
]

may_has : (y p : ElemId) (xs : List Element) → AllMay (less y) xs → Has p xs → less y p ≡ true
may_has y p [] h k = absurd k
may_has y p (x ∷ xs) h k = elim k [
  | inl e ↦ subst (λ (a : ElemId). less y a ≡ true) e h.0
  | inr g ↦ may_has y p xs h.1 g
]

-- where the parent is not, nothing changes
turn : (p : ElemId) (e : Element) → (e.id ≡ p → ⊥) → same p e.id ≡ false
turn p e n = other_same p e.id (λ is. n (sym is))

pub absent_list : (p : ElemId) (new : Element) (xs ys : List Element) → IsNew p xs → behind p new (xs ++ ys) ≡ xs ++ behind p new ys
absent_list p new [] ys h = refl
absent_list p new (x ∷ xs) ys h =
    ap (λ b. cond b (x ∷ passing new (xs ++ ys)) (x ∷ behind p new (xs ++ ys))) (turn p x h.0) ∙ ap (λ l. x ∷ l) (absent_list p new xs ys h.1)

absent_tree : (p : ElemId) (new : Element) (tree : Tree) → IsNew p (walk tree) → with_child p new tree ≡ tree
absent_tree p new Leaf h = refl
absent_tree p new (Node e children siblings) h =
    ap (λ b. cond b (Node e (with_sibling new children) siblings) (Node e (with_child p new children) (with_child p new siblings))) (turn p e h.0)
    ∙ ap (λ k. Node e k (with_child p new siblings)) (absent_tree p new children (new_front p (walk children) (walk siblings) h.1))
    ∙ ap (λ k. Node e children k) (absent_tree p new siblings (new_back p (walk children) (walk siblings) h.1))

differs : (p : ElemId) (e : Element) → same p e.id ≡ false → e.id ≡ p → ⊥
differs p e other is = never (same p p) (same_self p) (subst (λ (a : ElemId). same p a ≡ false) is other)

-- the list with the new element behind its parent is the walk of the tree with it below its parent
child_walk : (may : ElemId → Bool) (p : ElemId) (new : Element) (tree : Tree) (rest : List Element) → IsTreeUnder may tree → AreDistinct (walk tree)
    → Has p (walk tree) → less p new.id ≡ true → Stops new.id rest → behind p new (walk tree ++ rest) ≡ walk (with_child p new tree) ++ rest
child_walk may p new Leaf rest t d h g s = absurd h
child_walk may p new (Node e children siblings) rest t d h g s =
    let all : List Element = (walk children ++ walk siblings) ++ rest in
    let regroup : all ≡ walk children ++ (walk siblings ++ rest) = append_assoc (walk children) (walk siblings) rest in
    elim (cases_Bool (same p e.id)) [
      | inl here ↦
          let is : p ≡ e.id = same_one p e.id here in
          ap (λ b. cond b (e ∷ passing new all) (e ∷ behind p new all)) here
          ∙ ap (λ l. e ∷ passing new l) regroup
          ∙ ap (λ l. e ∷ l) (sym (sibling_walk (less e.id) new children (walk siblings ++ rest) t.below
          (next_stops e.id new.id siblings rest (subst (λ (a : ElemId). less a new.id ≡ true) is g) t.order s)))
          ∙ ap (λ l. e ∷ l) (sym (append_assoc (walk (with_sibling new children)) (walk siblings) rest))
          ∙ sym (ap (λ b. walk (cond b (Node e (with_sibling new children) siblings) (Node e (with_child p new children) (with_child p new siblings))) ++ rest) here)
      | inr later ↦
          let deeper : Has p (walk children ++ walk siblings) = elim h [
            | inl is ↦ absurd (differs p e later is)
            | inr k ↦ k
          ] in
          ap (λ b. cond b (e ∷ passing new all) (e ∷ behind p new all)) later
          ∙ ap (λ l. e ∷ behind p new l) regroup
          ∙ elim (has-append p (walk children) (walk siblings) deeper) [
            | inl k ↦
                let above : less e.id new.id ≡ true = less_trans e.id p new.id (may_has e.id p (walk children) (walk_greater e.id children t.below) k) g in
                ap (λ l. e ∷ l) (child_walk (less e.id) p new children (walk siblings ++ rest) t.below (front_distinct (walk children) (walk siblings) d.1) k g
                (next_stops e.id new.id siblings rest above t.order s))
                ∙ ap (λ n. e ∷ (walk (with_child p new children) ++ (walk n ++ rest)))
                (sym (absent_tree p new siblings (not_behind p (walk children) (walk siblings) d.1 k)))
            | inr k ↦
                let none : IsNew p (walk children) = not_before p (walk children) (walk siblings) d.1 k in
                ap (λ l. e ∷ l) (absent_list p new (walk children) (walk siblings ++ rest) none)
                ∙ ap (λ l. e ∷ (walk children ++ l)) (child_walk may p new siblings rest t.beside (back_distinct (walk children) (walk siblings) d.1) k g s)
                ∙ ap (λ n. e ∷ (walk n ++ (walk (with_child p new siblings) ++ rest))) (sym (absent_tree p new children none))
          ]
          ∙ ap (λ l. e ∷ l) (sym (append_assoc (walk (with_child p new children)) (walk (with_child p new siblings)) rest))
          ∙ sym (ap (λ b. walk (cond b (Node e (with_sibling new children) siblings) (Node e (with_child p new children) (with_child p new siblings))) ++ rest) later)
    ]

-- the parent of a new element is the root, or is there and less
abbrev pub IsParent : Option ElemId → ElemId → List Element → Type 0
IsParent None id elements = Unit {0}
IsParent (Some p) id elements = Has p elements × (less p id ≡ true)

pub element_walk : (parent : Option ElemId) (new : Element) (tree : Tree) → IsTree tree → AreDistinct (walk tree) → IsParent parent new.id (walk tree)
    → walk (with_element parent new tree) ≡ placed parent new (walk tree)
element_walk None new tree t d h =
    sym (append-nil (walk (with_sibling new tree))) ∙ sibling_walk (λ id. true) new tree [] t tt ∙ ap (passing new) (append-nil (walk tree))
element_walk (Some p) new tree t d h =
    sym (append-nil (walk (with_child p new tree)))
    ∙ sym (child_walk (λ id. true) p new tree [] t d h.0 h.1 tt)
    ∙ ap (behind p new) (append-nil (walk tree))

-- the tree stays a tree
falls_sibling : (y : ElemId) (new : Element) (tree : Tree) → less new.id y ≡ true → FallsFrom y tree → FallsFrom y (with_sibling new tree)
falls_sibling y new Leaf h s = h
falls_sibling y new (Node z children siblings) h s = elim (cases_Bool (less new.id z.id)) [
  | inl c ↦ subst (λ b. FallsFrom y (cond b (Node z children (with_sibling new siblings)) (Node new Leaf (Node z children siblings)))) (sym c) s
  | inr c ↦ subst (λ b. FallsFrom y (cond b (Node z children (with_sibling new siblings)) (Node new Leaf (Node z children siblings)))) (sym c) h
]

falls_child : (y p : ElemId) (new : Element) (tree : Tree) → FallsFrom y tree → FallsFrom y (with_child p new tree)
falls_child y p new Leaf s = s
falls_child y p new (Node z children siblings) s = elim (cases_Bool (same p z.id)) [
  | inl c ↦ subst (λ b. FallsFrom y (cond b (Node z (with_sibling new children) siblings) (Node z (with_child p new children) (with_child p new siblings)))) (sym c) s
  | inr c ↦ subst (λ b. FallsFrom y (cond b (Node z (with_sibling new children) siblings) (Node z (with_child p new children) (with_child p new siblings)))) (sym c) s
]

sibling_tree : (may : ElemId → Bool) (new : Element) (tree : Tree) → may new.id ≡ true → IsNew new.id (walk tree) → IsTreeUnder may tree → IsTreeUnder may (with_sibling new tree)
sibling_tree may new Leaf a n h = record { own = a; below = tt; order = tt; beside = tt }
sibling_tree may new (Node e children siblings) a n h = elim (cases_Bool (less new.id e.id)) [
  | inl c ↦
      subst (λ b. IsTreeUnder may (cond b (Node e children (with_sibling new siblings)) (Node new Leaf (Node e children siblings)))) (sym c)
      (record {
        own = h.own;
        below = h.below;
        order = falls_sibling e.id new siblings c h.order;
        beside = sibling_tree may new siblings a (new_back new.id (walk children) (walk siblings) n.1) h.beside;
      })
  | inr c ↦
      subst (λ b. IsTreeUnder may (cond b (Node e children (with_sibling new siblings)) (Node new Leaf (Node e children siblings)))) (sym c)
      (record { own = a; below = tt; order = greater_other new.id e.id c (turn new.id e n.0); beside = h })
]

child_tree : (may : ElemId → Bool) (p : ElemId) (new : Element) (tree : Tree) → less p new.id ≡ true → IsNew new.id (walk tree) → IsTreeUnder may tree → IsTreeUnder may (with_child p new tree)
child_tree may p new Leaf g n h = h
child_tree may p new (Node e children siblings) g n h =
    let front : IsNew new.id (walk children) = new_front new.id (walk children) (walk siblings) n.1 in
    let back : IsNew new.id (walk siblings) = new_back new.id (walk children) (walk siblings) n.1 in
    elim (cases_Bool (same p e.id)) [
      | inl c ↦
          subst (λ b. IsTreeUnder may (cond b (Node e (with_sibling new children) siblings) (Node e (with_child p new children) (with_child p new siblings)))) (sym c)
          (record {
            own = h.own;
            below = sibling_tree (less e.id) new children (subst (λ (a : ElemId). less a new.id ≡ true) (same_one p e.id c) g) front h.below;
            order = h.order;
            beside = h.beside;
          })
      | inr c ↦
          subst (λ b. IsTreeUnder may (cond b (Node e (with_sibling new children) siblings) (Node e (with_child p new children) (with_child p new siblings)))) (sym c)
          (record {
            own = h.own;
            below = child_tree (less e.id) p new children g front h.below;
            order = falls_child e.id p new siblings h.order;
            beside = child_tree may p new siblings g back h.beside;
          })
    ]

pub element_tree : (parent : Option ElemId) (new : Element) (tree : Tree) → IsTree tree → IsNew new.id (walk tree) → IsParent parent new.id (walk tree) → IsTree (with_element parent new tree)
element_tree None new tree t n h = sibling_tree (λ id. true) new tree refl n t
element_tree (Some p) new tree t n h = child_tree (λ id. true) p new tree h.1 n t
