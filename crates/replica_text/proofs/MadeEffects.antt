-- The effect of a made change is its delta, and each list of elements is the full order of a tree.
use Rattle.std.proofs.Common.{◌≡◌, ℕ, suc, Bool, true, false, cond, List, [], ◌∷◌, ◌++◌, length, refl, sym, ap, ap₂, ◌∙◌, subst, arith, inl, inr, append_assoc}
use Rattle.std.specs.List.{count_by}
use Rattle.std.proofs.lemmas.Bool.{cases_Bool}
use Rattle.delta.specs.Cells.{Cell, Cells, covers, inserts, normal, base_length, IsNormal, front, front_of, with_front_text}
use Rattle.delta.proofs.NormalLemmas.{inserts-front, normal_is_fixed}
use Rattle.tt_base.specs.Elements.{is_alive, IsNew, AreDistinct}
use Rattle.tt_base.specs.declared.ids.ElemId.{ElemId}
use Rattle.tt_base.specs.declared.elements.Element.{Element}
use Rattle.tt_base.proofs.ElementLemmas.{new_back}
use Rattle.replica_text.specs.Ids.{less, shifted}
use Rattle.replica_text.specs.Tree.{Tree, Leaf, Node, walk, FallsFrom, IsTreeUnder, IsTree}
use Rattle.replica_text.specs.Ops.{after_ops}
use Rattle.replica_text.specs.Effect.{is_visible, step_of, change_of, compared, effect}
use Rattle.replica_text.specs.Placed.{run_of}
use Rattle.replica_text.specs.Laws.{IsOrderOf}
use Rattle.replica_text.specs.Made.{made_ops, IsAbove}
use Rattle.replica_text.proofs.OrderLemmas.{other_same, greater_other}
use Rattle.replica_text.proofs.EffectLemmas.{AllSeen, all_seen, new_invisible}
use Rattle.replica_text.proofs.JoinLemmas.{change_run}
use Rattle.replica_text.proofs.MadeWalks.{above_shifted, above_run, kept_if, later_from, later, some_first, none_first, made_walk}

change_place : (v : ElemId → Bool) (kept : Bool) (e : Element) (rest : Cells) → v e.id ≡ true → e.alive ≡ true
    → step_of (v (kept_if kept e).id) (kept_if kept e).alive (kept_if kept e).ch rest ≡ covers kept 1 rest
change_place v true e rest h a = ap₂ (λ b c. step_of b c e.ch rest) h a
change_place v false e rest h a = ap (λ b. step_of b false e.ch rest) h

change_later : (v : ElemId → Bool) (whole elements : List Element) (cs : List Cell) (last : List ℕ) (next : ElemId) → AllSeen v elements → IsAbove next whole
    → ((id : ElemId) → IsNew id whole → v id ≡ false) → length cs ≡ count_by is_alive elements
    → change_of (compared v (later_from elements cs last next)) ≡ with_front_text [] (record { cells = cs; last = last })
change_later v whole [] [] last next s h u e = refl
change_later v whole [] (c ∷ cs) last next s h u e = absurd (omega (arith, e))
change_later v whole (x ∷ elements) [] last next s h u e = elim (cases_Bool x.alive) [
  | inl a ↦ absurd (omega (arith, some_first x elements 0 a e))
  | inr a ↦
      ap₂ (λ b c. step_of b c x.ch (change_of (compared v elements))) (s.0 ∙ a) a
      ∙ ap (λ l. change_of (compared v l)) (sym (later_none elements last next))
      ∙ change_later v whole elements [] last next s.1 h u (none_first x elements 0 a e)
] where
  later_none : (elements : List Element) (last : List ℕ) (next : ElemId) → later_from elements [] last next ≡ elements
  later_none [] last next = refl
  later_none (y ∷ elements) last next = refl
change_later v whole (x ∷ elements) (c ∷ cs) last next s h u e = elim (cases_Bool x.alive) [
  | inl a ↦
      let text : List ℕ = front_of cs last in
      let n : ElemId = shifted next (length text) in
      let rest : Cells = record { cells = cs; last = last } in
      let left : suc (length cs) ≡ suc (count_by is_alive elements) = some_first x elements (suc (length cs)) a e in
      ap (λ b. change_of (compared v (cond b (kept_if c.kept x ∷ (run_of next text ++ later_from elements cs last n)) (x ∷ later_from elements (c ∷ cs) last next)))) a
      ∙ change_place v c.kept x (change_of (compared v (run_of next text ++ later_from elements cs last n))) (s.0 ∙ a) a
      ∙ ap (covers c.kept 1) (
      change_run v whole next text (later_from elements cs last n) (above_run next (length text) whole h) u
      ∙ ap (inserts text) (change_later v whole elements cs last n s.1 (above_shifted next (length text) whole h) u (omega (arith, left)))
      ∙ inserts-front rest)
  | inr a ↦
      let text : List ℕ = front_of cs last in
      let n : ElemId = shifted next (length text) in
      ap (λ b. change_of (compared v (cond b (kept_if c.kept x ∷ (run_of next text ++ later_from elements cs last n)) (x ∷ later_from elements (c ∷ cs) last next)))) a
      ∙ ap₂ (λ b d. step_of b d x.ch (change_of (compared v (later_from elements (c ∷ cs) last next)))) (s.0 ∙ a) a
      ∙ change_later v whole elements (c ∷ cs) last next s.1 h u (none_first x elements (suc (length cs)) a e)
]

later_effect : (elements : List Element) (d : Cells) (next : ElemId) → AreDistinct elements → IsNormal d → base_length d ≡ count_by is_alive elements → IsAbove next elements
    → effect elements (later elements d next) ≡ d
later_effect elements d next distinct n e h =
    let v : ElemId → Bool = is_visible elements in
    let text : List ℕ = front d in
    ap normal (
    change_run v elements next text (later_from elements d.cells d.last (shifted next (length text))) (above_run next (length text) elements h) (λ id m. new_invisible id elements m)
    ∙ ap (inserts text) (change_later v elements elements d.cells d.last (shifted next (length text)) (all_seen elements distinct)
    (above_shifted next (length text) elements h) (λ id m. new_invisible id elements m) e)
    ∙ inserts-front d)
    ∙ normal_is_fixed d n

-- the siblings that are greater than an element, and the others
abbrev taken : Element → Tree → Tree
taken e Leaf = Leaf
taken e (Node y children siblings) = cond (less e.id y.id) (Node y children (taken e siblings)) Leaf

abbrev spared : Element → Tree → Tree
spared e Leaf = Leaf
spared e (Node y children siblings) = cond (less e.id y.id) (spared e siblings) (Node y children siblings)

taken_falls : (y : ElemId) (e : Element) (tree : Tree) → FallsFrom y tree → FallsFrom y (taken e tree)
taken_falls y e Leaf h = h
taken_falls y e (Node z children siblings) h = elim (cases_Bool (less e.id z.id)) [
  | inl k ↦ subst (λ b. FallsFrom y (cond b (Node z children (taken e siblings)) Leaf)) (sym k) h
  | inr k ↦ subst (λ b. FallsFrom y (cond b (Node z children (taken e siblings)) Leaf)) (sym k) tt
]

taken_tree : (e : Element) (tree : Tree) → IsTree tree → IsTreeUnder (less e.id) (taken e tree)
taken_tree e Leaf t = tt
taken_tree e (Node y children siblings) t = elim (cases_Bool (less e.id y.id)) [
  | inl k ↦
      subst (λ b. IsTreeUnder (less e.id) (cond b (Node y children (taken e siblings)) Leaf)) (sym k)
      (record { own = k; below = t.below; order = taken_falls y.id e siblings t.order; beside = taken_tree e siblings t.beside })
  | inr k ↦ subst (λ b. IsTreeUnder (less e.id) (cond b (Node y children (taken e siblings)) Leaf)) (sym k) tt
]

spared_tree : (e : Element) (tree : Tree) → IsTree tree → IsTree (spared e tree)
spared_tree e Leaf t = tt
spared_tree e (Node y children siblings) t = elim (cases_Bool (less e.id y.id)) [
  | inl k ↦ subst (λ b. IsTree (cond b (spared e siblings) (Node y children siblings))) (sym k) (spared_tree e siblings t.beside)
  | inr k ↦ subst (λ b. IsTree (cond b (spared e siblings) (Node y children siblings))) (sym k) t
]

spared_falls : (e : Element) (tree : Tree) → IsNew e.id (walk tree) → FallsFrom e.id (spared e tree)
spared_falls e Leaf n = tt
spared_falls e (Node y children siblings) n = elim (cases_Bool (less e.id y.id)) [
  | inl k ↦
      subst (λ b. FallsFrom e.id (cond b (spared e siblings) (Node y children siblings))) (sym k)
      (spared_falls e siblings (new_back e.id (walk children) (walk siblings) n.1))
  | inr k ↦
      subst (λ b. FallsFrom e.id (cond b (spared e siblings) (Node y children siblings))) (sym k)
      (greater_other e.id y.id k (other_same e.id y.id (λ is. n.0 (sym is))))
]

split_walk : (e : Element) (tree : Tree) → walk (taken e tree) ++ walk (spared e tree) ≡ walk tree
split_walk e Leaf = refl
split_walk e (Node y children siblings) = elim (cases_Bool (less e.id y.id)) [
  | inl k ↦
      ap (λ b. walk (cond b (Node y children (taken e siblings)) Leaf) ++ walk (cond b (spared e siblings) (Node y children siblings))) k
      ∙ ap (λ l. y ∷ l) (append_assoc (walk children) (walk (taken e siblings)) (walk (spared e siblings)) ∙ ap (λ l. walk children ++ l) (split_walk e siblings))
  | inr k ↦ ap (λ b. walk (cond b (Node y children (taken e siblings)) Leaf) ++ walk (cond b (spared e siblings) (Node y children siblings))) k
]

-- distinct elements are the full order of a tree
pub tree_of : (elements : List Element) → AreDistinct elements → IsOrderOf elements
tree_of [] d = record { tree = Leaf; is_tree = tt; walks = refl }
tree_of (e ∷ elements) d =
    let rest : IsOrderOf elements = tree_of elements d.1 in
    record {
      tree = Node e (taken e rest.tree) (spared e rest.tree);
      is_tree = record {
        own = refl;
        below = taken_tree e rest.tree rest.is_tree;
        order = spared_falls e rest.tree (subst (IsNew e.id) (sym rest.walks) d.0);
        beside = spared_tree e rest.tree rest.is_tree;
      };
      walks = ap (λ l. e ∷ l) (split_walk e rest.tree ∙ rest.walks);
    }

-- whatever a join of the operations leaves, its effect is the delta
pub made_effect : (elements new : List Element) (d : Cells) (next : ElemId) → AreDistinct elements → IsNormal d → base_length d ≡ count_by is_alive elements → IsAbove next elements
    → ((tree : Tree) → IsTree tree → walk tree ≡ elements → walk (after_ops (made_ops elements d next) tree) ≡ new) → effect elements new ≡ d
made_effect elements new d next distinct n e h order =
    let o : IsOrderOf elements = tree_of elements distinct in
    ap (effect elements) (sym (order o.tree o.is_tree o.walks) ∙ made_walk o.tree elements d next o.is_tree o.walks distinct h e)
    ∙ later_effect elements d next distinct n e h
