-- The order in which elements and deletions come does not matter.
use Rattle.std.proofs.Common.{◌≡◌, Bool, true, false, cond, Option, Some, None, refl, sym, ap, ap₂, ◌∙◌, subst, inl, inr}
use Rattle.std.proofs.lemmas.Bool.{cases_Bool}
use Rattle.tt_base.specs.Elements.{dead}
use Rattle.tt_base.specs.declared.ids.ElemId.{ElemId}
use Rattle.tt_base.specs.declared.elements.Element.{Element}
use Rattle.replica_text.specs.Ids.{less, same}
use Rattle.replica_text.specs.Tree.{Tree, Leaf, Node, with_sibling, with_child, with_element, without}
use Rattle.replica_text.specs.Laws.{AreApart}
use Rattle.replica_text.proofs.OrderLemmas.{less_trans, same_one, other_same, not_back, greater_other}
use Rattle.replica_text.proofs.RunLemmas.{deadened, deadened_id}

-- where a is less than b and c is not, a is less than c
between : (a b c : ElemId) → less a b ≡ true → less c b ≡ false → less a c ≡ true
between a b c h k = elim (cases_Bool (same c b)) [
  | inl e ↦ subst (λ (i : ElemId). less a i ≡ true) (sym {A = ElemId} (same_one c b e)) h
  | inr e ↦ less_trans a b c h (greater_other c b k e)
]

siblings_commute : (x z : Element) (tree : Tree) → (x.id ≡ z.id → ⊥) → with_sibling x (with_sibling z tree) ≡ with_sibling z (with_sibling x tree)
siblings_commute x z Leaf n = elim (cases_Bool (less x.id z.id)) [
  | inl c ↦
      ap (λ b. cond b (Node z Leaf (Node x Leaf Leaf)) (Node x Leaf (Node z Leaf Leaf))) c
      ∙ sym (ap (λ b. cond b (Node x Leaf (Node z Leaf Leaf)) (Node z Leaf (Node x Leaf Leaf))) (not_back x.id z.id c))
  | inr c ↦
      ap (λ b. cond b (Node z Leaf (Node x Leaf Leaf)) (Node x Leaf (Node z Leaf Leaf))) c
      ∙ sym (ap (λ b. cond b (Node x Leaf (Node z Leaf Leaf)) (Node z Leaf (Node x Leaf Leaf))) (greater_other x.id z.id c (other_same x.id z.id n)))
]
siblings_commute x z (Node y kids next) n =
    let fx : Tree = with_sibling x next in
    let fz : Tree = with_sibling z next in
    let whole : Tree = Node y kids next in
    elim (cases_Bool (less x.id y.id)) [
      | inl xy ↦ elim (cases_Bool (less z.id y.id)) [
        | inl zy ↦
            ap (λ b. with_sibling x (cond b (Node y kids fz) (Node z Leaf whole))) zy
            ∙ ap (λ b. cond b (Node y kids (with_sibling x fz)) (Node x Leaf (Node y kids fz))) xy
            ∙ ap (λ k. Node y kids k) (siblings_commute x z next n)
            ∙ sym (ap (λ b. cond b (Node y kids (with_sibling z fx)) (Node z Leaf (Node y kids fx))) zy)
            ∙ sym (ap (λ b. with_sibling z (cond b (Node y kids fx) (Node x Leaf whole))) xy)
        | inr zy ↦
            ap (λ b. with_sibling x (cond b (Node y kids fz) (Node z Leaf whole))) zy
            ∙ ap (λ b. cond b (Node z Leaf (with_sibling x whole)) (Node x Leaf (Node z Leaf whole))) (between x.id y.id z.id xy zy)
            ∙ ap (λ b. Node z Leaf (cond b (Node y kids fx) (Node x Leaf whole))) xy
            ∙ sym (ap (λ b. cond b (Node y kids (with_sibling z fx)) (Node z Leaf (Node y kids fx))) zy)
            ∙ sym (ap (λ b. with_sibling z (cond b (Node y kids fx) (Node x Leaf whole))) xy)
      ]
      | inr xy ↦ elim (cases_Bool (less z.id y.id)) [
        | inl zy ↦
            ap (λ b. with_sibling x (cond b (Node y kids fz) (Node z Leaf whole))) zy
            ∙ ap (λ b. cond b (Node y kids (with_sibling x fz)) (Node x Leaf (Node y kids fz))) xy
            ∙ sym (ap (λ b. Node x Leaf (cond b (Node y kids fz) (Node z Leaf whole))) zy)
            ∙ sym (ap (λ b. cond b (Node x Leaf (with_sibling z whole)) (Node z Leaf (Node x Leaf whole))) (between z.id y.id x.id zy xy))
            ∙ sym (ap (λ b. with_sibling z (cond b (Node y kids fx) (Node x Leaf whole))) xy)
        | inr zy ↦ elim (cases_Bool (less x.id z.id)) [
          | inl xz ↦
              ap (λ b. with_sibling x (cond b (Node y kids fz) (Node z Leaf whole))) zy
              ∙ ap (λ b. cond b (Node z Leaf (with_sibling x whole)) (Node x Leaf (Node z Leaf whole))) xz
              ∙ ap (λ b. Node z Leaf (cond b (Node y kids fx) (Node x Leaf whole))) xy
              ∙ sym (ap (λ b. cond b (Node x Leaf (with_sibling z whole)) (Node z Leaf (Node x Leaf whole))) (not_back x.id z.id xz))
              ∙ sym (ap (λ b. with_sibling z (cond b (Node y kids fx) (Node x Leaf whole))) xy)
          | inr xz ↦
              ap (λ b. with_sibling x (cond b (Node y kids fz) (Node z Leaf whole))) zy
              ∙ ap (λ b. cond b (Node z Leaf (with_sibling x whole)) (Node x Leaf (Node z Leaf whole))) xz
              ∙ sym (ap (λ b. Node x Leaf (cond b (Node y kids fz) (Node z Leaf whole))) zy)
              ∙ sym (ap (λ b. cond b (Node x Leaf (with_sibling z whole)) (Node z Leaf (Node x Leaf whole))) (greater_other x.id z.id xz (other_same x.id z.id n)))
              ∙ sym (ap (λ b. with_sibling z (cond b (Node y kids fx) (Node x Leaf whole))) xy)
        ]
      ]
    ]

-- a sibling here, and something below another element
child_sibling : (p : ElemId) (x z : Element) (tree : Tree) → (p ≡ z.id → ⊥) → with_child p x (with_sibling z tree) ≡ with_sibling z (with_child p x tree)
child_sibling p x z Leaf n = ap (λ b. cond b (Node z (Node x Leaf Leaf) Leaf) (Node z Leaf Leaf)) (other_same p z.id n)
child_sibling p x z (Node y kids next) n =
    let gz : Tree = with_sibling z next in
    let gx : Tree = with_child p x next in
    let kx : Tree = with_child p x kids in
    let kc : Tree = with_sibling x kids in
    let whole : Tree = Node y kids next in
    elim (cases_Bool (less z.id y.id)) [
      | inl zy ↦ elim (cases_Bool (same p y.id)) [
        | inl py ↦
            ap (λ b. with_child p x (cond b (Node y kids gz) (Node z Leaf whole))) zy
            ∙ ap (λ b. cond b (Node y kc gz) (Node y kx (with_child p x gz))) py
            ∙ sym (ap (λ b. cond b (Node y kc gz) (Node z Leaf (Node y kc next))) zy)
            ∙ sym (ap (λ b. with_sibling z (cond b (Node y kc next) (Node y kx gx))) py)
        | inr py ↦
            ap (λ b. with_child p x (cond b (Node y kids gz) (Node z Leaf whole))) zy
            ∙ ap (λ b. cond b (Node y kc gz) (Node y kx (with_child p x gz))) py
            ∙ ap (λ k. Node y kx k) (child_sibling p x z next n)
            ∙ sym (ap (λ b. cond b (Node y kx (with_sibling z gx)) (Node z Leaf (Node y kx gx))) zy)
            ∙ sym (ap (λ b. with_sibling z (cond b (Node y kc next) (Node y kx gx))) py)
      ]
      | inr zy ↦
          ap (λ b. with_child p x (cond b (Node y kids gz) (Node z Leaf whole))) zy
          ∙ ap (λ b. cond b (Node z (Node x Leaf Leaf) whole) (Node z Leaf (with_child p x whole))) (other_same p z.id n)
          ∙ elim (cases_Bool (same p y.id)) [
            | inl py ↦
                ap (λ b. Node z Leaf (cond b (Node y kc next) (Node y kx gx))) py
                ∙ sym (ap (λ b. cond b (Node y kc gz) (Node z Leaf (Node y kc next))) zy)
                ∙ sym (ap (λ b. with_sibling z (cond b (Node y kc next) (Node y kx gx))) py)
            | inr py ↦
                ap (λ b. Node z Leaf (cond b (Node y kc next) (Node y kx gx))) py
                ∙ sym (ap (λ b. cond b (Node y kx (with_sibling z gx)) (Node z Leaf (Node y kx gx))) zy)
                ∙ sym (ap (λ b. with_sibling z (cond b (Node y kc next) (Node y kx gx))) py)
          ]
    ]

children_commute : (p q : ElemId) (x z : Element) (tree : Tree) → (p ≡ z.id → ⊥) → (q ≡ x.id → ⊥) → (x.id ≡ z.id → ⊥)
    → with_child p x (with_child q z tree) ≡ with_child q z (with_child p x tree)
children_commute p q x z Leaf pz qx xz = refl
children_commute p q x z (Node y kids next) pz qx xz =
    let nz : Tree = with_child q z next in
    let nx : Tree = with_child p x next in
    let kz : Tree = with_child q z kids in
    let kx : Tree = with_child p x kids in
    let cz : Tree = with_sibling z kids in
    let cx : Tree = with_sibling x kids in
    elim (cases_Bool (same p y.id)) [
      | inl py ↦ elim (cases_Bool (same q y.id)) [
        | inl qy ↦
            ap (λ b. with_child p x (cond b (Node y cz next) (Node y kz nz))) qy
            ∙ ap (λ b. cond b (Node y (with_sibling x cz) next) (Node y (with_child p x cz) nx)) py
            ∙ ap (λ k. Node y k next) (siblings_commute x z kids xz)
            ∙ sym (ap (λ b. cond b (Node y (with_sibling z cx) next) (Node y (with_child q z cx) nz)) qy)
            ∙ sym (ap (λ b. with_child q z (cond b (Node y cx next) (Node y kx nx))) py)
        | inr qy ↦
            ap (λ b. with_child p x (cond b (Node y cz next) (Node y kz nz))) qy
            ∙ ap (λ b. cond b (Node y (with_sibling x kz) nz) (Node y (with_child p x kz) (with_child p x nz))) py
            ∙ ap (λ k. Node y k nz) (sym (child_sibling q z x kids qx))
            ∙ sym (ap (λ b. cond b (Node y (with_sibling z cx) next) (Node y (with_child q z cx) nz)) qy)
            ∙ sym (ap (λ b. with_child q z (cond b (Node y cx next) (Node y kx nx))) py)
      ]
      | inr py ↦ elim (cases_Bool (same q y.id)) [
        | inl qy ↦
            ap (λ b. with_child p x (cond b (Node y cz next) (Node y kz nz))) qy
            ∙ ap (λ b. cond b (Node y (with_sibling x cz) next) (Node y (with_child p x cz) nx)) py
            ∙ ap (λ k. Node y k nx) (child_sibling p x z kids pz)
            ∙ sym (ap (λ b. cond b (Node y (with_sibling z kx) nx) (Node y (with_child q z kx) (with_child q z nx))) qy)
            ∙ sym (ap (λ b. with_child q z (cond b (Node y cx next) (Node y kx nx))) py)
        | inr qy ↦
            ap (λ b. with_child p x (cond b (Node y cz next) (Node y kz nz))) qy
            ∙ ap (λ b. cond b (Node y (with_sibling x kz) nz) (Node y (with_child p x kz) (with_child p x nz))) py
            ∙ ap₂ (λ k l. Node y k l) (children_commute p q x z kids pz qx xz) (children_commute p q x z next pz qx xz)
            ∙ sym (ap (λ b. cond b (Node y (with_sibling z kx) nx) (Node y (with_child q z kx) (with_child q z nx))) qy)
            ∙ sym (ap (λ b. with_child q z (cond b (Node y cx next) (Node y kx nx))) py)
      ]
    ]

pub elements_commute : (p q : Option ElemId) (x z : Element) (tree : Tree) → AreApart p x q z → with_element p x (with_element q z tree) ≡ with_element q z (with_element p x tree)
elements_commute None None x z tree h = siblings_commute x z tree h.differ
elements_commute None (Some q) x z tree h = sym (child_sibling q z x tree h.down)
elements_commute (Some p) None x z tree h = child_sibling p x z tree h.up
elements_commute (Some p) (Some q) x z tree h = children_commute p q x z tree h.up h.down h.differ

-- deletions
dead_twice : (a b : Bool) (e : Element) → cond a (dead (cond b (dead e) e)) (cond b (dead e) e) ≡ cond b (dead (cond a (dead e) e)) (cond a (dead e) e)
dead_twice true true e = refl
dead_twice true false e = refl
dead_twice false true e = refl
dead_twice false false e = refl

deadened_twice : (a b : ElemId) (e : Element) → deadened a (deadened b e) ≡ deadened b (deadened a e)
deadened_twice a b e =
    ap (λ (i : ElemId). cond (same a i) (dead (deadened b e)) (deadened b e)) (deadened_id b e)
    ∙ dead_twice (same a e.id) (same b e.id) e
    ∙ sym (ap (λ (i : ElemId). cond (same b i) (dead (deadened a e)) (deadened a e)) (deadened_id a e))

pub deletions_commute : (a b : ElemId) (tree : Tree) → without a (without b tree) ≡ without b (without a tree)
deletions_commute a b Leaf = refl
deletions_commute a b (Node e children siblings) =
    ap₂ (λ x k. Node x k (without a (without b siblings))) (deadened_twice a b e) (deletions_commute a b children)
    ∙ ap (λ k. Node (deadened b (deadened a e)) (without b (without a children)) k) (deletions_commute a b siblings)

without_one : (id : ElemId) (new : Element) → (id ≡ new.id → ⊥) → deadened id new ≡ new
without_one id new n = ap (λ b. cond b (dead new) new) (other_same id new.id n)

without_sibling : (id : ElemId) (new : Element) (tree : Tree) → (id ≡ new.id → ⊥) → without id (with_sibling new tree) ≡ with_sibling new (without id tree)
without_sibling id new Leaf n = ap (λ x. Node x Leaf Leaf) (without_one id new n)
without_sibling id new (Node e children siblings) n = elim (cases_Bool (less new.id e.id)) [
  | inl c ↦
      ap (λ b. without id (cond b (Node e children (with_sibling new siblings)) (Node new Leaf (Node e children siblings)))) c
      ∙ ap (λ k. Node (deadened id e) (without id children) k) (without_sibling id new siblings n)
      ∙ sym (ap (λ b. cond b (Node (deadened id e) (without id children) (with_sibling new (without id siblings))) (Node new Leaf (without id (Node e children siblings))))
      (ap (less new.id) (deadened_id id e) ∙ c))
  | inr c ↦
      ap (λ b. without id (cond b (Node e children (with_sibling new siblings)) (Node new Leaf (Node e children siblings)))) c
      ∙ ap (λ x. Node x Leaf (without id (Node e children siblings))) (without_one id new n)
      ∙ sym (ap (λ b. cond b (Node (deadened id e) (without id children) (with_sibling new (without id siblings))) (Node new Leaf (without id (Node e children siblings))))
      (ap (less new.id) (deadened_id id e) ∙ c))
]

without_child : (id p : ElemId) (new : Element) (tree : Tree) → (id ≡ new.id → ⊥) → without id (with_child p new tree) ≡ with_child p new (without id tree)
without_child id p new Leaf n = refl
without_child id p new (Node e children siblings) n = elim (cases_Bool (same p e.id)) [
  | inl c ↦
      ap (λ b. without id (cond b (Node e (with_sibling new children) siblings) (Node e (with_child p new children) (with_child p new siblings)))) c
      ∙ ap (λ k. Node (deadened id e) k (without id siblings)) (without_sibling id new children n)
      ∙ sym (ap (λ b. cond b (Node (deadened id e) (with_sibling new (without id children)) (without id siblings)) (Node (deadened id e) (with_child p new (without id children)) (with_child p new (without id siblings))))
      (ap (same p) (deadened_id id e) ∙ c))
  | inr c ↦
      ap (λ b. without id (cond b (Node e (with_sibling new children) siblings) (Node e (with_child p new children) (with_child p new siblings)))) c
      ∙ ap₂ (λ k l. Node (deadened id e) k l) (without_child id p new children n) (without_child id p new siblings n)
      ∙ sym (ap (λ b. cond b (Node (deadened id e) (with_sibling new (without id children)) (without id siblings)) (Node (deadened id e) (with_child p new (without id children)) (with_child p new (without id siblings))))
      (ap (same p) (deadened_id id e) ∙ c))
]

pub deletion_and_element_commute : (id : ElemId) (parent : Option ElemId) (new : Element) (tree : Tree) → (id ≡ new.id → ⊥)
    → without id (with_element parent new tree) ≡ with_element parent new (without id tree)
deletion_and_element_commute id None new tree n = without_sibling id new tree n
deletion_and_element_commute id (Some p) new tree n = without_child id p new tree n
