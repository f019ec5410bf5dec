-- Histories that hold the same changes are one.
use Rattle.std.proofs.Common.{◌≡◌, Bool, true, false, cond, refl, sym, ap, ap₂, ◌∙◌, subst, List, [], ◌∷◌, Some, None}
use Rattle.std.specs.declared.cmp.Ordering.{Ordering}
use Rattle.std.specs.declared.cmp.Ordering.TheVariants.{Less, Equal, Greater}
use Rattle.std.specs.Ordering.{is_eq, ordering_reverse}
use Rattle.std.specs.List.{AllByRecursion}
use Rattle.std.specs.List.Sorted.{IsStrictlySortedBy}
use Rattle.std.specs.Map.{keys_of}
use Rattle.tt_base.specs.Ids.{name_cmp}
use Rattle.tt_base.specs.declared.ids.Name.{Name}
use Rattle.tt_base.proofs.IdOrders.{name_cmp_total, name_tied}
use Rattle.change_codec.specs.Change.{Change}
use Rattle.change_graph.specs.History.{History, is_name, change_at}
use Rattle.change_graph.specs.Histories.{IsHistory}
use Rattle.change_graph.proofs.OrderLemmas.{name_same, name_itself}

-- nothing stands at a name below all
below_none : (q : Name) (es : History) → AllByRecursion (λ k. name_cmp q k ≡ Less) (keys_of es) → change_at es q ≡ None
below_none q [] all = refl
below_none q (e ∷ es) all = ap (λ (r : Ordering). cond (is_eq r) (Some e.1) (change_at es q)) all.0 ∙ below_none q es all.1

below_more : (p q : Name) (ks : List Name) → name_cmp p q ≡ Less → AllByRecursion (λ k. name_cmp q k ≡ Less) ks → AllByRecursion (λ k. name_cmp p k ≡ Less) ks
below_more p q [] lt all = tt
below_more p q (k ∷ ks) lt all = (name_cmp_total.trans p q k lt all.0, below_more p q ks lt all.1)

first_found : (e : Name × Change) (es : History) → change_at (e ∷ es) e.0 ≡ Some e.1
first_found e es = ap (λ (b : Bool). cond b (Some e.1) (change_at es e.0)) (name_itself e.0)

-- what is below all of a history is not in it
not_there : (e : Name × Change) (es fs : History) → AllByRecursion (λ k. name_cmp e.0 k ≡ Less) (keys_of fs)
    → ((q : Name) → change_at (e ∷ es) q ≡ change_at fs q) → (e ∷ es) ≡ fs
not_there e es fs below same =
    let never : Some e.1 ≡ None = sym (first_found e es) ∙ same e.0 ∙ below_none e.0 fs below in cc

pub same_history : (es fs : History) → IsStrictlySortedBy name_cmp (keys_of es) → IsStrictlySortedBy name_cmp (keys_of fs)
    → ((q : Name) → change_at es q ≡ change_at fs q) → es ≡ fs
unfolding IsStrictlySortedBy
same_history [] [] a b same = refl
same_history [] (f ∷ fs) a b same = let never : None ≡ Some f.1 = same f.0 ∙ first_found f fs in cc
same_history (e ∷ es) [] a b same = let never : Some e.1 ≡ None = sym (first_found e es) ∙ same e.0 in cc
same_history (e ∷ es) (f ∷ fs) a b same = by (λ rest. same_history es fs a.1 b.1 rest) (name_cmp e.0 f.0) refl where
  tails : e.0 ≡ f.0 → (q : Name) → (t : Bool) → is_name q e.0 ≡ t → change_at es q ≡ change_at fs q
  tails at q true here =
      let q_is : e.0 ≡ q = sym (name_same q e.0 here) in
      subst (λ (n : Name). change_at es n ≡ change_at fs n) q_is
      (below_none e.0 es a.0 ∙ sym (subst (λ (n : Name). change_at fs n ≡ None) (sym at) (below_none f.0 fs b.0)))
  tails at q false apart =
      sym (ap (λ (c : Bool). cond c (Some e.1) (change_at es q)) apart)
      ∙ same q
      ∙ ap (λ (c : Bool). cond c (Some f.1) (change_at fs q)) (ap (is_name q) (sym at) ∙ apart)

  by : (((q : Name) → change_at es q ≡ change_at fs q) → es ≡ fs) → (r : Ordering) → name_cmp e.0 f.0 ≡ r → (e ∷ es) ≡ (f ∷ fs)
  by rest Less is = not_there e es (f ∷ fs) (is, below_more e.0 f.0 (keys_of fs) is b.0) same
  by rest Equal is =
      let at : e.0 ≡ f.0 = name_tied e.0 f.0 is in
      let found : Some e.1 ≡ Some f.1 =
      sym (first_found e es) ∙ same e.0 ∙ subst (λ (n : Name). change_at (f ∷ fs) n ≡ Some f.1) (sym at) (first_found f fs) in
      let value : e.1 ≡ f.1 = cc in
      ap₂ (λ (x : Name × Change) (xs : History). x ∷ xs) (λ i. (at i, value i)) (rest (λ q. tails at q (is_name q e.0) refl))
  by rest Greater is =
      let lt : name_cmp f.0 e.0 ≡ Less = name_cmp_total.antisymm f.0 e.0 ∙ ap ordering_reverse is in
      sym (not_there f fs (e ∷ es) (lt, below_more f.0 e.0 (keys_of es) lt a.0) (λ q. sym (same q)))

pub same_changes : (one other : History) → IsHistory one → IsHistory other → ((q : Name) → change_at one q ≡ change_at other q) → one ≡ other
same_changes one other a b same = same_history one other a.rising b.rising same
