-- The winner of a path is that of a directory that was told just the makes and the removes of the history.
use Rattle.std.proofs.Common.{◌≡◌, ℕ, Bool, true, false, cond, not, ◌||◌, ◌&&◌, refl, sym, ap, ap₂, ◌∙◌, subst, List, [], ◌∷◌, filter, Option, Some, None}
use Rattle.std.specs.Ordering.{is_eq}
use Rattle.std.proofs.lemmas.Cmp.{tied_itself}
use Rattle.tt_base.proofs.IdOrders.{id_cmp_total}
use Rattle.tt_base.specs.declared.ids.ElemId.{ElemId}
use Rattle.change_graph.specs.History.{History}
use Rattle.replica_dir.specs.Ids.{is_id, has_id}
use Rattle.replica_dir.specs.DirectoryView.{DirectoryView, is_live, IsWinner}
use Rattle.replica_dir.proofs.IdLemmas.{id_same}
use Rattle.replica_text.specs.Ids.{less, same}
use Rattle.replica_text.proofs.OrderLemmas.{less_is, less_trans, itself_not_less, not_back, same_one, greater_other}
use Rattle.replica_views.specs.Objects.{makes_at, removes, IsDirectoryOf, live_at, greater_of, greatest_id, winner_at}

pub is_itself : (id : ElemId) → is_id id id ≡ true
is_itself id = ap is_eq (tied_itself id_cmp_total id)

pub has_filter : (test : ElemId → Bool) (ids : List ElemId) (q : ElemId) → has_id (filter test ids) q ≡ (has_id ids q && test q)
has_filter test [] q = refl
has_filter test (x ∷ xs) q = by (has_filter test xs q) (test x) refl (is_id q x) refl where
  true_and : (b : Bool) → (true && b) ≡ b
  true_and b = refl

  by : has_id (filter test xs) q ≡ (has_id xs q && test q) → (t : Bool) → test x ≡ t → (b : Bool) → is_id q x ≡ b
      → has_id (cond t (x ∷ filter test xs) (filter test xs)) q ≡ ((b || has_id xs q) && test q)
  by rest true passes true here =
      ap (λ (b : Bool). b || has_id (filter test xs) q) here ∙ sym (ap test (id_same q x here) ∙ passes)
  by rest true passes false apart = ap (λ (b : Bool). b || has_id (filter test xs) q) apart ∙ rest
  by rest false fails true here =
      rest
      ∙ ap (λ (b : Bool). has_id xs q && b) (ap test (id_same q x here) ∙ fails)
      ∙ none (has_id xs q)
      ∙ sym (ap test (id_same q x here) ∙ fails) where
        none : (b : Bool) → (b && false) ≡ false
        none true = refl
        none false = refl
  by rest false fails false apart = rest

-- the greatest is among them, and none is greater
pub record IsGreatestOf (ids : List ElemId) (id : ElemId) : Type 0 where
  pub has : has_id ids id ≡ true
  pub none_above : (other : ElemId) → has_id ids other ≡ true → less id other ≡ false

up_to : (x w other : ElemId) → less x w ≡ false → less w other ≡ false → (b : Bool) → less x other ≡ b → b ≡ false
up_to x w other one two false is = refl
up_to x w other one two true is = by (same x w) refl where
  by : (b : Bool) → same x w ≡ b → true ≡ false
  by true alike = sym (subst (λ (id : ElemId). less id other ≡ true) (same_one x w alike) is) ∙ two
  by false apart = sym (less_trans w x other (greater_other x w one apart) is) ∙ two

pub greatest_is : (ids : List ElemId) (id : ElemId) → greatest_id ids ≡ Some id → IsGreatestOf ids id
greatest_is [] id is = cc
greatest_is (x ∷ xs) id is = by (greatest_id xs) refl is (λ w e. greatest_is xs w e) where
  alone : (ids : List ElemId) → greatest_id ids ≡ None → (q : ElemId) → has_id ids q ≡ false
  alone [] is q = refl
  alone (y ∷ ys) is q = none (greatest_id ys) is where
    none : (o : Option ElemId) → greater_of y o ≡ None → has_id (y ∷ ys) q ≡ false
    none None is = cc
    none (Some other) is = pick (less y other) is where
      pick : (b : Bool) → cond b (Some other) (Some y) ≡ None → has_id (y ∷ ys) q ≡ false
      pick true is = cc
      pick false is = cc

  itself : (b : Bool) → (is_id x x || b) ≡ true
  itself b = ap (λ (c : Bool). c || b) (is_itself x)

  later : (a b : Bool) → b ≡ true → (a || b) ≡ true
  later true b is = refl
  later false b is = is

  first_only : greatest_id xs ≡ None → IsGreatestOf (x ∷ xs) x
  first_only none = record {
    has = itself (has_id xs x);
    none_above = λ other has. at other (is_id other x) refl has;
  } where
    at : (other : ElemId) → (b : Bool) → is_id other x ≡ b → (is_id other x || has_id xs other) ≡ true → less x other ≡ false
    at other true here has = subst (λ (q : ElemId). less x q ≡ false) (sym (id_same other x here)) (itself_not_less x)
    at other false apart has =
        let never_has : true ≡ false = sym has ∙ ap₂ (λ (a b : Bool). a || b) apart (alone xs none other) in cc

  by : (o : Option ElemId) → greatest_id xs ≡ o → greater_of x o ≡ Some id → ((w : ElemId) → greatest_id xs ≡ Some w → IsGreatestOf xs w)
      → IsGreatestOf (x ∷ xs) id
  by None none is rest = let e : x ≡ id = cc in subst (IsGreatestOf (x ∷ xs)) e (first_only none)
  by (Some w) found is rest = pick (less x w) refl is where
    g : IsGreatestOf xs w
    g = rest w found

    pick : (b : Bool) → less x w ≡ b → cond b (Some w) (Some x) ≡ Some id → IsGreatestOf (x ∷ xs) id
    pick true lt is =
        let e : w ≡ id = cc in
        subst (IsGreatestOf (x ∷ xs)) e
        (record { has = later (is_id w x) (has_id xs w) g.has; none_above = λ other has. at other (is_id other x) refl has }) where
          at : (other : ElemId) → (b : Bool) → is_id other x ≡ b → (is_id other x || has_id xs other) ≡ true → less w other ≡ false
          at other true here has = subst (λ (q : ElemId). less w q ≡ false) (sym (id_same other x here)) (not_back x w lt)
          at other false apart has = g.none_above other (ap (λ (c : Bool). c || has_id xs other) (sym apart) ∙ has)
    pick false ge is =
        let e : x ≡ id = cc in
        subst (IsGreatestOf (x ∷ xs)) e
        (record { has = itself (has_id xs x); none_above = λ other has. at other (is_id other x) refl has }) where
          at : (other : ElemId) → (b : Bool) → is_id other x ≡ b → (is_id other x || has_id xs other) ≡ true → less x other ≡ false
          at other true here has = subst (λ (q : ElemId). less x q ≡ false) (sym (id_same other x here)) (itself_not_less x)
          at other false apart has =
              up_to x w other ge (g.none_above other (ap (λ (c : Bool). c || has_id xs other) (sym apart) ∙ has)) (less x other) refl

none_has : (ids : List ElemId) → greatest_id ids ≡ None → (q : ElemId) → has_id ids q ≡ false
none_has [] is q = refl
none_has (y ∷ ys) is q = by (greatest_id ys) is where
  by : (o : Option ElemId) → greater_of y o ≡ None → has_id (y ∷ ys) q ≡ false
  by None is = cc
  by (Some other) is = pick (less y other) is where
    pick : (b : Bool) → cond b (Some other) (Some y) ≡ None → has_id (y ∷ ys) q ≡ false
    pick true is = cc
    pick false is = cc

module _ (history : History) (directory : DirectoryView) (is : IsDirectoryOf history directory) where
  pub live_is : (path : List ℕ) (id : ElemId) → is_live directory path id ≡ has_id (live_at history path) id
  live_is path id =
      ap₂ (λ (a b : Bool). a && not b) (is.makes path id) (is.removes id)
      ∙ sym (has_filter (λ x. not (has_id (removes history) x)) (makes_at history path) id)

  pub winner_is : (path : List ℕ) → IsWinner directory path (winner_at history path)
  unfolding winner_at
  winner_is path = by (greatest_id (live_at history path)) refl where
    by : (o : Option ElemId) → greatest_id (live_at history path) ≡ o → IsWinner directory path o
    by None none = λ id. live_is path id ∙ none_has (live_at history path) none id
    by (Some id) found =
        let g : IsGreatestOf (live_at history path) id = greatest_is (live_at history path) id found in
        record {
          live = live_is path id ∙ g.has;
          none_above = λ other live. sym (less_is id other) ∙ g.none_above other (sym (live_is path other) ∙ live);
        }
