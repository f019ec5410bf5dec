-- A tree is fixed by its edges. Its first child of the root is the greatest of those that have an edge from the root; an edge
-- below that child is one below it in each tree with the same edges, by going down from it; and what is left are its siblings.
use Rattle.std.proofs.Common.{◌≡◌, ◌⊎◌, Bool, true, false, List, [], ◌∷◌, ◌++◌, Option, Some, None, refl, sym, ap, ◌∙◌, subst, inl, inr}
use Rattle.tt_base.specs.Elements.{IsNew, AreDistinct}
use Rattle.tt_base.specs.declared.ids.ElemId.{ElemId}
use Rattle.tt_base.specs.declared.elements.Element.{Element}
use Rattle.tt_base.proofs.ElementLemmas.{new_front, new_back}
use Rattle.replica_text.specs.Ids.{less}
use Rattle.replica_text.specs.Tree.{Tree, Leaf, Node, walk, FallsFrom, IsTreeUnder, IsTree}
use Rattle.replica_text.specs.Laws.{IsBelow, HasEdge, HaveEqualEdges}
use Rattle.replica_text.proofs.OrderLemmas.{less_trans, not_back, never}
use Rattle.replica_text.proofs.MemberLemmas.{Has, has-append, has_here, new_has, front_distinct, back_distinct, not_behind}
use Rattle.replica_text.proofs.EdgeLemmas.{IsIn, below_in}

-- the parent has one of these ids
abbrev IsParentIn : Option ElemId → List Element → Type 0
IsParentIn None elements = ⊥
IsParentIn (Some parent) elements = Has parent elements

-- the parent has none of them
abbrev IsOutside : Option ElemId → List Element → Type 0
IsOutside None elements = Unit {0}
IsOutside (Some parent) elements = IsNew parent elements

outside_in : {G : Type 0} (p : Option ElemId) (elements : List Element) → IsOutside p elements → IsParentIn p elements → G
outside_in None elements out is = absurd is
outside_in (Some p) elements out is = absurd (new_has p elements out is)

outside_front : (p : Option ElemId) (xs ys : List Element) → IsOutside p (xs ++ ys) → IsOutside p xs
outside_front None xs ys out = tt
outside_front (Some p) xs ys out = new_front p xs ys out

outside_back : (p : Option ElemId) (xs ys : List Element) → IsOutside p (xs ++ ys) → IsOutside p ys
outside_back None xs ys out = tt
outside_back (Some p) xs ys out = new_back p xs ys out

outside_behind : (p : Option ElemId) (e : Element) (xs : List Element) → IsOutside p (e ∷ xs) → IsOutside p xs
outside_behind None e xs out = tt
outside_behind (Some p) e xs out = out.1

has_front : (id : ElemId) (xs ys : List Element) → Has id xs → Has id (xs ++ ys)
has_front id [] ys h = absurd h
has_front id (x ∷ xs) ys h = elim h [ inl is ↦ inl is | inr k ↦ inr (has_front id xs ys k) ]

has_back : (id : ElemId) (xs ys : List Element) → Has id ys → Has id (xs ++ ys)
has_back id [] ys h = h
has_back id (x ∷ xs) ys h = inr (has_back id xs ys h)

parent_behind : (p : Option ElemId) (e : Element) (xs : List Element) → IsParentIn p xs → IsParentIn p (e ∷ xs)
parent_behind None e xs is = is
parent_behind (Some p) e xs is = inr is

parent_front : (p : Option ElemId) (xs ys : List Element) → IsParentIn p xs → IsParentIn p (xs ++ ys)
parent_front None xs ys is = is
parent_front (Some p) xs ys is = has_front p xs ys is

parent_back : (p : Option ElemId) (xs ys : List Element) → IsParentIn p ys → IsParentIn p (xs ++ ys)
parent_back None xs ys is = is
parent_back (Some p) xs ys is = has_back p xs ys is

-- of two parts of distinct elements a parent is in one alone
parent_in_one : {G : Type 0} (p : Option ElemId) (xs ys : List Element) → AreDistinct (xs ++ ys) → IsParentIn p xs → IsParentIn p ys → G
parent_in_one None xs ys d one other = absurd one
parent_in_one (Some p) xs ys d one other = absurd (new_has p ys (not_behind p xs ys d one) other)

-- an element below a parent is one of the tree
below_has : (here p : Option ElemId) (x : Element) (tree : Tree) → IsBelow here p x tree → Has x.id (walk tree)
below_has here p x tree h =
    let is : IsIn x (walk tree) = below_in here p x tree h in
    subst (λ (l : List Element). Has x.id l) (sym is.whole) (has_here x.id is.front is.behind x refl)

-- a parent is the one above these elements, or one of them
parent_of : (here p : Option ElemId) (x : Element) (tree : Tree) → IsBelow here p x tree → (here ≡ p) ⊎ IsParentIn p (walk tree)
parent_of here p x Leaf h = absurd h
parent_of here p x (Node e children siblings) h = elim h [
  | inl k ↦ inl k.0
  | inr k ↦ elim k [
    | inl d ↦ elim (parent_of (Some e.id) p x children d) [
      | inl is ↦ inr (subst (λ (o : Option ElemId). IsParentIn o (e ∷ (walk children ++ walk siblings))) is (inl refl))
      | inr is ↦ inr (parent_behind p e (walk children ++ walk siblings) (parent_front p (walk children) (walk siblings) is))
    ]
    | inr d ↦ elim (parent_of here p x siblings d) [
      | inl is ↦ inl is
      | inr is ↦ inr (parent_behind p e (walk children ++ walk siblings) (parent_back p (walk children) (walk siblings) is))
    ]
  ]
]

-- of the elements below a parent that is none of them, the first is the greatest
first_is_greatest : (may : ElemId → Bool) (here : Option ElemId) (x e : Element) (children siblings : Tree) → IsTreeUnder may (Node e children siblings)
    → IsOutside here (walk (Node e children siblings)) → IsBelow here here x (Node e children siblings) → (e ≡ x) ⊎ (less x.id e.id ≡ true)
first_is_greatest may here x e children Leaf t out h = elim h [
  | inl k ↦ inl k.1
  | inr k ↦ elim k [
    | inl d ↦ elim (parent_of (Some e.id) here x children d) [
      | inl is ↦ outside_in here (e ∷ (walk children ++ [])) out (subst (λ (o : Option ElemId). IsParentIn o (e ∷ (walk children ++ []))) is (inl refl))
      | inr is ↦ outside_in here (e ∷ (walk children ++ [])) out (parent_behind here e (walk children ++ []) (parent_front here (walk children) [] is))
    ]
    | inr d ↦ absurd d
  ]
]
first_is_greatest may here x e children (Node f below beside) t out h =
    let others : List Element = walk (Node f below beside) in
    elim h [
      | inl k ↦ inl k.1
      | inr k ↦ elim k [
        | inl d ↦ elim (parent_of (Some e.id) here x children d) [
          | inl is ↦ outside_in here (e ∷ (walk children ++ others)) out (subst (λ (o : Option ElemId). IsParentIn o (e ∷ (walk children ++ others))) is (inl refl))
          | inr is ↦ outside_in here (e ∷ (walk children ++ others)) out (parent_behind here e (walk children ++ others) (parent_front here (walk children) others is))
        ]
        | inr d ↦ elim (first_is_greatest may here x f below beside t.beside
            (outside_back here (walk children) others (outside_behind here e (walk children ++ others) out)) d) [
              | inl is ↦ inr (subst (λ (y : Element). less y.id e.id ≡ true) is t.order)
              | inr l ↦ inr (less_trans x.id f.id e.id l t.order)
            ]
      ]
    ]

-- the trees below one element: what holds of the edges of a part that stands below it, or below one of its children's tree
record GoesDown (here : Option ElemId) (e : Element) (children siblings : Tree) : Type 0 where
  pub distinct : AreDistinct (walk (Node e children siblings))
  pub out : IsOutside here (walk (Node e children siblings))

-- an edge from the element or from one below it is an edge below it
edge_goes_down : (here h : Option ElemId) (x e : Element) (children siblings : Tree) → GoesDown here e children siblings
    → (Some e.id ≡ h) ⊎ IsParentIn h (walk children) → IsBelow here h x (Node e children siblings) → IsBelow (Some e.id) h x children
edge_goes_down here h x e children siblings g from b =
    let all : List Element = walk children ++ walk siblings in
    let inside : IsParentIn h (e ∷ all) = elim from [
      | inl is ↦ subst (λ (o : Option ElemId). IsParentIn o (e ∷ all)) is (inl refl)
      | inr is ↦ parent_behind h e all (parent_front h (walk children) (walk siblings) is)
    ]
    in
    elim b [
      | inl k ↦ outside_in here (e ∷ all) g.out (subst (λ (o : Option ElemId). IsParentIn o (e ∷ all)) (sym k.0) inside)
      | inr k ↦ elim k [
        | inl d ↦ d
        | inr d ↦ elim (parent_of here h x siblings d) [
          | inl is ↦ outside_in here (e ∷ all) g.out (subst (λ (o : Option ElemId). IsParentIn o (e ∷ all)) (sym is) inside)
          | inr is ↦ elim from [
            | inl same ↦ absurd (new_has e.id (walk siblings) (new_back e.id (walk children) (walk siblings) g.distinct.0)
                (subst (λ (o : Option ElemId). IsParentIn o (walk siblings)) (sym same) is))
            | inr k ↦ parent_in_one h (walk children) (walk siblings) g.distinct.1 k is
          ]
        ]
      ]
    ]

-- so where each edge of a part is one of the tree, each is one below the element
part_goes_down : (here h : Option ElemId) (e : Element) (children siblings part : Tree) → GoesDown here e children siblings
    → (Some e.id ≡ h) ⊎ IsParentIn h (walk children)
    → ((p : Option ElemId) (x : Element) → IsBelow h p x part → IsBelow here p x (Node e children siblings))
    → (p : Option ElemId) (x : Element) → IsBelow h p x part → IsBelow (Some e.id) p x children
part_goes_down here h e children siblings Leaf g from k p x b = absurd b
part_goes_down here h e children siblings (Node y below beside) g from k p x b =
    let first : IsBelow (Some e.id) h y children = edge_goes_down here h y e children siblings g from (k h y (inl (refl, refl))) in
    elim b [
      | inl is ↦ subst (λ (o : Option ElemId). IsBelow (Some e.id) o x children) is.0
          (subst (λ (z : Element). IsBelow (Some e.id) h z children) is.1 first)
      | inr d ↦ elim d [
        | inl d ↦ part_goes_down here (Some y.id) e children siblings below g (inr (below_has (Some e.id) h y children first))
            (λ q z c. k q z (inr (inl c))) p x d
        | inr d ↦ part_goes_down here h e children siblings beside g from (λ q z c. k q z (inr (inr c))) p x d
      ]
    ]

-- an element is not twice in a tree with distinct elements
not_twice : {G : Type 0} (x : Element) (xs ys : List Element) → AreDistinct (xs ++ ys) → Has x.id xs → Has x.id ys → G
not_twice x xs ys d one other = absurd (new_has x.id ys (not_behind x.id xs ys d one) other)

-- what holds of a tree below a parent
record IsFixable (may : ElemId → Bool) (here : Option ElemId) (tree : Tree) : Type 0 where
  pub is_tree : IsTreeUnder may tree
  pub distinct : AreDistinct (walk tree)
  pub out : IsOutside here (walk tree)

abbrev Leads : Option ElemId → Tree → Tree → Type 0
Leads here one other = (p : Option ElemId) (x : Element) → IsBelow here p x one → IsBelow here p x other

goes_down_of : (may : ElemId → Bool) (here : Option ElemId) (e : Element) (children siblings : Tree) → IsFixable may here (Node e children siblings)
    → GoesDown here e children siblings
goes_down_of may here e children siblings f = record { distinct = f.distinct; out = f.out }

below_of : (may : ElemId → Bool) (here : Option ElemId) (e : Element) (children siblings : Tree) → IsFixable may here (Node e children siblings)
    → IsFixable (less e.id) (Some e.id) children
below_of may here e children siblings f = record {
  is_tree = f.is_tree.below;
  distinct = front_distinct (walk children) (walk siblings) f.distinct.1;
  out = new_front e.id (walk children) (walk siblings) f.distinct.0;
}

beside_of : (may : ElemId → Bool) (here : Option ElemId) (e : Element) (children siblings : Tree) → IsFixable may here (Node e children siblings)
    → IsFixable may here siblings
beside_of may here e children siblings f = record {
  is_tree = f.is_tree.beside;
  distinct = back_distinct (walk children) (walk siblings) f.distinct.1;
  out = outside_back here (walk children) (walk siblings) (outside_behind here e (walk children ++ walk siblings) f.out);
}

first_is_one : (may can : ElemId → Bool) (here : Option ElemId) (e f : Element) (c s d r : Tree) → IsFixable may here (Node e c s) → IsFixable can here (Node f d r)
    → Leads here (Node e c s) (Node f d r) → Leads here (Node f d r) (Node e c s) → e ≡ f
first_is_one may can here e f c s d r one other lead back =
    elim (first_is_greatest can here e f d r other.is_tree other.out (lead here e (inl (refl, refl)))) [
      | inl is ↦ sym is
      | inr l ↦ elim (first_is_greatest may here f e c s one.is_tree one.out (back here f (inl (refl, refl)))) [
        | inl is ↦ is
        | inr k ↦ never (less f.id e.id) k (not_back e.id f.id l)
      ]
    ]

-- the edges below the first element are the same
leads_below : (may can : ElemId → Bool) (here : Option ElemId) (e : Element) (c s d r : Tree) → IsFixable may here (Node e c s) → IsFixable can here (Node e d r)
    → Leads here (Node e c s) (Node e d r) → Leads (Some e.id) c d
leads_below may can here e c s d r one other lead =
    part_goes_down here (Some e.id) e d r c (goes_down_of can here e d r other) (inl refl) (λ p x b. lead p x (inr (inl b)))

-- and so are those of its siblings
leads_beside : (may can : ElemId → Bool) (here : Option ElemId) (e : Element) (c s d r : Tree) → IsFixable may here (Node e c s) → IsFixable can here (Node e d r)
    → Leads here (Node e c s) (Node e d r) → Leads (Some e.id) d c → Leads here s r
leads_beside may can here e c s d r one other lead back = λ p x b. elim (lead p x (inr (inr b))) [
  | inl k ↦ absurd (new_has e.id (walk s) (new_back e.id (walk c) (walk s) one.distinct.0)
      (subst (λ (y : Element). Has y.id (walk s)) (sym k.1) (below_has here p x s b)))
  | inr k ↦ elim k [
    | inl h ↦ not_twice x (walk c) (walk s) one.distinct.1 (below_has (Some e.id) p x c (back p x h)) (below_has here p x s b)
    | inr h ↦ h
  ]
]

fixed_by_edges : (may can : ElemId → Bool) (here : Option ElemId) (one other : Tree) → IsFixable may here one → IsFixable can here other
    → Leads here one other → Leads here other one → one ≡ other
fixed_by_edges may can here Leaf Leaf one other lead back = refl
fixed_by_edges may can here Leaf (Node f d r) one other lead back = absurd (back here f (inl (refl, refl)))
fixed_by_edges may can here (Node e c s) Leaf one other lead back = absurd (lead here e (inl (refl, refl)))
fixed_by_edges may can here (Node e c s) (Node f d r) one other lead back =
    let same : f ≡ e = sym (first_is_one may can here e f c s d r one other lead back) in
    let other_e : IsFixable can here (Node e d r) = subst (λ (y : Element). IsFixable can here (Node y d r)) same other in
    let lead_e : Leads here (Node e c s) (Node e d r) = subst (λ (y : Element). Leads here (Node e c s) (Node y d r)) same lead in
    let back_e : Leads here (Node e d r) (Node e c s) = subst (λ (y : Element). Leads here (Node y d r) (Node e c s)) same back in
    let down : Leads (Some e.id) c d = leads_below may can here e c s d r one other_e lead_e in
    let up : Leads (Some e.id) d c = leads_below can may here e d r c s other_e one back_e in
    let children : c ≡ d =
    fixed_by_edges (less e.id) (less e.id) (Some e.id) c d (below_of may here e c s one) (below_of can here e d r other_e) down up in
    let siblings : s ≡ r =
    fixed_by_edges may can here s r (beside_of may here e c s one) (beside_of can here e d r other_e)
    (leads_beside may can here e c s d r one other_e lead_e up) (leads_beside can may here e d r c s other_e one back_e down) in
    ap (λ (t : Tree). Node e t s) children ∙ ap (λ (t : Tree). Node e d t) siblings ∙ ap (λ (y : Element). Node y d r) (sym same)

pub tree_is_fixed : (one other : Tree) → IsTree one → IsTree other → AreDistinct (walk one) → AreDistinct (walk other) → HaveEqualEdges one other → one ≡ other
tree_is_fixed one other t u d e same =
    fixed_by_edges (λ id. true) (λ id. true) None one other (record { is_tree = t; distinct = d; out = tt }) (record { is_tree = u; distinct = e; out = tt })
    same.there same.back
