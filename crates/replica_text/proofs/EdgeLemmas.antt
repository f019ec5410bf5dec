-- An element stands behind its parent.
use Rattle.std.proofs.Common.{◌≡◌, ◌⊎◌, List, [], ◌∷◌, ◌++◌, Option, Some, None, sym, ap, ◌∙◌, inl, inr, append_assoc}
use Rattle.tt_base.specs.declared.ids.ElemId.{ElemId}
use Rattle.tt_base.specs.declared.elements.Element.{Element}
use Rattle.replica_text.specs.Tree.{Tree, Leaf, Node, walk}
use Rattle.replica_text.specs.Laws.{IsBelow, HasEdge, StandsBehind}

pub record IsIn (x : Element) (elements : List Element) : Type 0 where
  pub front : List Element
  pub behind : List Element
  pub whole : elements ≡ front ++ x ∷ behind

pub below_in : (here p : Option ElemId) (x : Element) (tree : Tree) → IsBelow here p x tree → IsIn x (walk tree)
below_in here p x Leaf h = absurd h
below_in here p x (Node e children siblings) h = elim h [
  | inl k ↦ record { front = []; behind = walk children ++ walk siblings; whole = ap (λ (y : Element). y ∷ (walk children ++ walk siblings)) k.1 }
  | inr k ↦ elim k [
    | inl d ↦
        let r : IsIn x (walk children) = below_in (Some e.id) p x children d in
        record {
          front = e ∷ r.front;
          behind = r.behind ++ walk siblings;
          whole = ap (λ l. e ∷ (l ++ walk siblings)) r.whole ∙ ap (λ l. e ∷ l) (append_assoc r.front (x ∷ r.behind) (walk siblings));
        }
    | inr d ↦
        let r : IsIn x (walk siblings) = below_in here p x siblings d in
        record {
          front = e ∷ (walk children ++ r.front);
          behind = r.behind;
          whole = ap (λ l. e ∷ (walk children ++ l)) r.whole ∙ ap (λ l. e ∷ l) (sym (append_assoc (walk children) r.front (x ∷ r.behind)));
        }
  ]
]

here_or_behind : (here : Option ElemId) (p : ElemId) (x : Element) (tree : Tree) → IsBelow here (Some p) x tree → (here ≡ Some p) ⊎ StandsBehind p x (walk tree)
here_or_behind here p x Leaf h = absurd h
here_or_behind here p x (Node e children siblings) h = elim h [
  | inl k ↦ inl k.0
  | inr k ↦ elim k [
    | inl d ↦ elim (here_or_behind (Some e.id) p x children d) [
      | inl is ↦
          let r : IsIn x (walk children) = below_in (Some e.id) (Some p) x children d in
          inr (record {
            before = [];
            ancestor = e;
            between = r.front;
            behind = r.behind ++ walk siblings;
            whole = ap (λ l. e ∷ (l ++ walk siblings)) r.whole ∙ ap (λ l. e ∷ l) (append_assoc r.front (x ∷ r.behind) (walk siblings));
            is_parent = cc;
          })
      | inr b ↦
          inr (record {
            before = e ∷ b.before;
            ancestor = b.ancestor;
            between = b.between;
            behind = b.behind ++ walk siblings;
            whole = ap (λ l. e ∷ (l ++ walk siblings)) b.whole
                ∙ ap (λ l. e ∷ l) (append_assoc b.before (b.ancestor ∷ (b.between ++ x ∷ b.behind)) (walk siblings)
                ∙ ap (λ l. b.before ++ b.ancestor ∷ l) (append_assoc b.between (x ∷ b.behind) (walk siblings)));
            is_parent = b.is_parent;
          })
    ]
    | inr d ↦ elim (here_or_behind here p x siblings d) [
      | inl is ↦ inl is
      | inr b ↦
          inr (record {
            before = e ∷ (walk children ++ b.before);
            ancestor = b.ancestor;
            between = b.between;
            behind = b.behind;
            whole = ap (λ l. e ∷ (walk children ++ l)) b.whole
                ∙ ap (λ l. e ∷ l) (sym (append_assoc (walk children) b.before (b.ancestor ∷ (b.between ++ x ∷ b.behind))));
            is_parent = b.is_parent;
          })
    ]
  ]
]

pub behind_its_parent : (tree : Tree) (p : ElemId) (x : Element) → HasEdge tree (Some p) x → StandsBehind p x (walk tree)
behind_its_parent tree p x h = elim (here_or_behind None p x tree h) [
  | inl is ↦ absurd (cc)
  | inr b ↦ b
]
