-- An object is made at one path, and a winner is among the objects of its path.
use Rattle.std.proofs.Common.{◌≡◌, ◌⊎◌, inl, inr, ℕ, Bool, true, false, not, ◌||◌, ◌&&◌, refl, sym, ap, ◌∙◌, subst, List, [], ◌∷◌, Some}
use Rattle.tt_base.specs.declared.ids.ElemId.{ElemId}
use Rattle.change_codec.specs.Change.{Change}
use Rattle.change_graph.specs.History.{History}
use Rattle.replica_dir.specs.Ids.{is_id, has_id}
use Rattle.replica_dir.proofs.IdLemmas.{id_same}
use Rattle.replica_views.specs.Growth.{IsGrown}
use Rattle.replica_views.specs.Objects.{makes_from, makes_at, removes, live_at, winner_at}
use Rattle.replica_views.proofs.DirectoryLemmas.{has_filter, greatest_is, is_itself}
use Rattle.replica_views.proofs.StayLemmas.{grown_entries}
use Rattle.replica_views.proofs.StepLemmas.{IsIn}
use Rattle.replica_views.proofs.WinnerLemmas.{one_path, IsMadeBy, made_in}

pub has_in : (ids : List ElemId) (q : ElemId) → has_id ids q ≡ true → IsIn q ids
has_in [] q has = cc
has_in (x ∷ xs) q has = by (is_id q x) refl has (λ h. has_in xs q h) where
  by : (b : Bool) → is_id q x ≡ b → (b || has_id xs q) ≡ true → (has_id xs q ≡ true → IsIn q xs) → (x ≡ q) ⊎ IsIn q xs
  by true here has rest = inl (sym (id_same q x here))
  by false apart has rest = inr (rest has)

pub in_has : (ids : List ElemId) (q : ElemId) → IsIn q ids → has_id ids q ≡ true
in_has [] q is = absurd is
in_has (x ∷ xs) q (inl is) = ap (λ (b : Bool). b || has_id xs q) (subst (λ (y : ElemId). is_id q y ≡ true) (sym is) (is_itself q))
in_has (x ∷ xs) q (inr is) = either (is_id q x) (in_has xs q is) where
  either : (b : Bool) → has_id xs q ≡ true → (b || has_id xs q) ≡ true
  either true has = refl
  either false has = has

-- a list that has no id is empty
pub none_has : (ids : List ElemId) → ((q : ElemId) → has_id ids q ≡ false) → ids ≡ []
none_has [] none = refl
none_has (x ∷ xs) none =
    let never : true ≡ false = ap (λ (b : Bool). b || has_id xs x) (sym (is_itself x)) ∙ none x in cc

pub same_path : (g : History) → IsGrown g → (v : ElemId) (p q : List ℕ) → has_id (makes_at g p) v ≡ true → has_id (makes_at g q) v ≡ true → p ≡ q
same_path g grown v p q one other =
    let a : IsMadeBy g p v = made_in g p v g (grown_entries g grown) (has_in (makes_at g p) v one) in
    let b : IsMadeBy g q v = made_in g q v g (grown_entries g grown) (has_in (makes_at g q) v other) in
    let both : Some a.change ≡ Some b.change = sym a.found ∙ b.found in
    let c : b.change ≡ a.change = cc in
    one_path g v.name p q a.change.ops 0 v a.there (subst (λ (x : Change). IsIn v (makes_from g v.name q 0 x.ops)) c b.there)

both_true : (a b : Bool) → (a && b) ≡ true → a ≡ true
both_true true b is = refl
both_true false b is = cc

pub winner_has : (g : History) (path : List ℕ) (v : ElemId) → winner_at g path ≡ Some v → has_id (makes_at g path) v ≡ true
unfolding winner_at
winner_has g path v is =
    both_true (has_id (makes_at g path) v) (not (has_id (removes g) v))
    (sym (has_filter (λ id. not (has_id (removes g) id)) (makes_at g path) v) ∙ (greatest_is (live_at g path) v is).has)
