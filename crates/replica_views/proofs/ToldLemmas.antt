-- What a graph tells of a history is what the readings of it rest on.
use Rattle.std.proofs.Common.{◌≡◌, ℕ, ◌+◌, Bool, true, false, ◌||◌, refl, sym, ap, ap₂, ◌∙◌, subst, List, [], ◌∷◌, arith}
use Rattle.std.specs.declared.cmp.Ordering.{Ordering}
use Rattle.std.specs.declared.cmp.Ordering.TheVariants.{Less, Equal, Greater}
use Rattle.std.specs.Ordering.{is_eq, ordering_reverse}
use Rattle.std.specs.BTreeMap.{is_at}
use Rattle.std.specs.Cmp.{IsTotalOrder, both_ways}
use Rattle.std.specs.List.{AllByRecursion, list_any}
use Rattle.std.specs.List.Sorted.{IsStrictlySortedBy}
use Rattle.std.proofs.lemmas.Cmp.{tied_itself}
use Rattle.tt_base.specs.Ids.{name_cmp}
use Rattle.tt_base.specs.declared.ids.Name.{Name}
use Rattle.tt_base.proofs.IdOrders.{name_cmp_total, name_tied}
use Rattle.change_graph.specs.History.{History, has_name, is_held}
use Rattle.change_graph.specs.Answers.{IsHeads}
use Rattle.change_graph.specs.Depths.{IsDepths, IsDepth}
use Rattle.change_graph.specs.Histories.{IsClosed}
use Rattle.replica_views.specs.Ids.{depth_at}
use Rattle.replica_views.specs.Made.{heads_of}
use Rattle.replica_views.specs.Growth.{IsGrown}
use Rattle.replica_views.proofs.DepthLemmas.{depth_found, are_depths}
use Rattle.replica_views.proofs.HeadsLemmas.{is_heads}
use Rattle.replica_views.proofs.HistoryLemmas.{grown_history}

-- ---- lists in one order with the same members

module _ {K : Type 0} (R : K → K → Ordering) (order : IsTotalOrder R) (tied : (a b : K) → R a b ≡ Equal → a ≡ b) where
  not_among : (q : K) (ks : List K) → AllByRecursion (λ k. R q k ≡ Less) ks → list_any (is_at (R q)) ks ≡ false
  not_among q [] all = refl
  not_among q (k ∷ ks) all = ap₂ (λ (r : Ordering) (b : Bool). is_eq r || b) all.0 (not_among q ks all.1)

  first_among : (k : K) (ks : List K) → list_any (is_at (R k)) (k ∷ ks) ≡ true
  first_among k ks = ap (λ (r : Ordering). is_eq r || list_any (is_at (R k)) ks) (tied_itself order k)

  pub all_below : (p q : K) (ks : List K) → R p q ≡ Less → AllByRecursion (λ k. R q k ≡ Less) ks → AllByRecursion (λ k. R p k ≡ Less) ks
  all_below p q [] lt all = tt
  all_below p q (k ∷ ks) lt all = (order.trans p q k lt all.0, all_below p q ks lt all.1)

  never_below : (x : K) (xs ys : List K) → AllByRecursion (λ k. R x k ≡ Less) ys
      → ((q : K) → list_any (is_at (R q)) (x ∷ xs) ≡ list_any (is_at (R q)) ys) → (x ∷ xs) ≡ ys
  never_below x xs ys below same = let never : true ≡ false = sym (first_among x xs) ∙ same x ∙ not_among x ys below in cc

  at_is : (q k : K) → is_at (R q) k ≡ true → q ≡ k
  at_is q k is = by (R q k) refl is where
    by : (r : Ordering) → R q k ≡ r → is_eq r ≡ true → q ≡ k
    by Less at is = cc
    by Equal at is = tied q k at
    by Greater at is = cc

  pub same_list : (xs ys : List K) → IsStrictlySortedBy R xs → IsStrictlySortedBy R ys
      → ((q : K) → list_any (is_at (R q)) xs ≡ list_any (is_at (R q)) ys) → xs ≡ ys
  unfolding IsStrictlySortedBy
  same_list [] [] a b same = refl
  same_list [] (y ∷ ys) a b same = let never : false ≡ true = same y ∙ first_among y ys in cc
  same_list (x ∷ xs) [] a b same = let never : true ≡ false = sym (first_among x xs) ∙ same x in cc
  same_list (x ∷ xs) (y ∷ ys) a b same = by (λ rest. same_list xs ys a.1 b.1 rest) (R x y) refl where
    tails : x ≡ y → (q : K) → (t : Bool) → is_at (R q) x ≡ t → list_any (is_at (R q)) xs ≡ list_any (is_at (R q)) ys
    tails at q true here =
        let x_is : x ≡ q = sym (at_is q x here) in
        subst (λ (k : K). list_any (is_at (R k)) xs ≡ list_any (is_at (R k)) ys) x_is
        (not_among x xs a.0 ∙ sym (subst (λ (k : K). list_any (is_at (R k)) ys ≡ false) (sym at) (not_among y ys b.0)))
    tails at q false apart =
        sym (ap (λ (c : Bool). c || list_any (is_at (R q)) xs) apart)
        ∙ same q
        ∙ ap (λ (c : Bool). c || list_any (is_at (R q)) ys) (ap (is_at (R q)) (sym at) ∙ apart)

    by : (((q : K) → list_any (is_at (R q)) xs ≡ list_any (is_at (R q)) ys) → xs ≡ ys) → (r : Ordering) → R x y ≡ r → (x ∷ xs) ≡ (y ∷ ys)
    by rest Less is = never_below x xs (y ∷ ys) (is, all_below x y ys is b.0) same
    by rest Equal is =
        let at : x ≡ y = tied x y is in
        ap₂ (λ (k : K) (ks : List K). k ∷ ks) at (rest (λ q. tails at q (is_at (R q) x) refl))
    by rest Greater is =
        let lt : R y x ≡ Less = order.antisymm y x ∙ ap ordering_reverse is in
        sym (never_below y ys (x ∷ xs) (lt, all_below y x xs lt a.0) (λ q. sym (same q)))

-- ---- heads and depths

-- a history has one list of heads
pub one_heads : (history : History) (one other : List Name) → IsHeads history one → IsHeads history other → one ≡ other
one_heads history one other a b =
    same_list name_cmp name_cmp_total name_tied one other a.rising b.rising
    (λ q.
    both_ways (has_name one q) (has_name other q)
    (λ has. b.are_heads.all q (a.are_heads.held q has) (a.are_heads.unnamed q has))
    (λ has. a.are_heads.all q (b.are_heads.held q has) (b.are_heads.unnamed q has)))

-- and one depth for each change
pub one_depth : (history : History) → IsClosed history → (one other : Name → ℕ) → IsDepths history one → IsDepths history other → (name : Name)
    → is_held history name ≡ true → one name ≡ other name
one_depth history closed one other a b name held =
    sym (depth_found history closed one a (one name + other name) name held (omega arith))
    ∙ depth_found history closed other b (one name + other name) name held (omega arith)

pub heads_told : (history : History) → IsGrown history → (heads : List Name) → IsHeads history heads → heads ≡ heads_of history
heads_told history grown heads are = one_heads history heads (heads_of history) are (is_heads history grown)

pub depth_told : (history : History) → IsGrown history → (name : Name) (depth : ℕ) → IsDepth history name depth → depth ≡ depth_at history name
depth_told history grown name depth is =
    sym is.is ∙ one_depth history (grown_history history grown).closed is.depth (depth_at history) is.are_depths (are_depths history grown) name is.held
