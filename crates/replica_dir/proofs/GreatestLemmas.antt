-- The last id that passes, of a list that rises, is the greatest that passes.
use Rattle.std.proofs.Common.{◌≡◌, Bool, true, false, cond, ◌||◌, List, [], ◌∷◌, Option, Some, None, refl, sym, ap, ◌∙◌, subst, reverse}
use Rattle.std.specs.declared.cmp.Ordering.{Ordering}
use Rattle.std.specs.declared.cmp.Ordering.TheVariants.{Less}
use Rattle.std.specs.Ordering.{is_lt, is_eq, ordering_reverse}
use Rattle.std.specs.List.{find, AllByRecursion}
use Rattle.std.specs.List.Sorted.{IsStrictlySortedBy}
use Rattle.std.specs.Option.{option_or}
use Rattle.std.proofs.lemmas.List.Folds.{find-append}
use Rattle.std.proofs.lemmas.Grind.{reverse_onto}
use Rattle.std.proofs.lemmas.Map.Keys.{sorted_head, sorted_tail}
use Rattle.std.proofs.lemmas.Cmp.{tied_itself}
use Rattle.tt_base.specs.Ids.{id_cmp}
use Rattle.tt_base.specs.declared.ids.ElemId.{ElemId}
use Rattle.tt_base.proofs.IdOrders.{id_cmp_total}
use Rattle.replica_dir.specs.Ids.{is_id, has_id}
use Rattle.replica_dir.proofs.IdLemmas.{id_same}

-- of the ids, this is the greatest that passes; none passes where there is none
pub record IsGreatest (p : ElemId → Bool) (ids : List ElemId) (id : ElemId) : Type 0 where
  pub among : has_id ids id ≡ true
  pub passes : p id ≡ true
  pub none_above : (q : ElemId) → has_id ids q ≡ true → p q ≡ true → is_lt (id_cmp id q) ≡ false

abbrev pub Greatest : (ElemId → Bool) → List ElemId → Option ElemId → Type 0
Greatest p ids None = (q : ElemId) → has_id ids q ≡ true → p q ≡ false
Greatest p ids (Some id) = IsGreatest p ids id

-- what is first of the list turned round
last_step : (p : ElemId → Bool) (x : ElemId) (xs : List ElemId)
    → find p (reverse (x ∷ xs)) ≡ option_or (find p (reverse xs)) (cond (p x) (Some x) None)
last_step p x xs = ap (find p) (reverse_onto xs x []) ∙ find-append p (reverse xs) (x ∷ [])

or_cases : {G : Type 0} (a b : Bool) → (a || b) ≡ true → (a ≡ true → G) → (b ≡ true → G) → G
or_cases true b e left right = left refl
or_cases false b e left right = right e

pub or_left : (a b : Bool) → a ≡ true → (a || b) ≡ true
or_left true b e = refl
or_left false b e = cc

or_right : (a b : Bool) → b ≡ true → (a || b) ≡ true
or_right true b e = refl
or_right false b e = e

less_not_back : (r s : Ordering) → r ≡ ordering_reverse s → s ≡ Less → is_lt r ≡ false
less_not_back r s e less = ap is_lt (e ∙ ap ordering_reverse less)

pub is_itself : (x : ElemId) → is_id x x ≡ true
is_itself x = ap is_eq (tied_itself id_cmp_total x)

-- what holds of each id holds of one that is among them
pub all_has : (P : ElemId → Type 0) (xs : List ElemId) → AllByRecursion P xs → (q : ElemId) → has_id xs q ≡ true → P q
all_has P [] all q has = cc
all_has P (x ∷ xs) all q has =
    or_cases (is_id q x) (has_id xs q) has
    (λ e. subst P (sym {A = ElemId} (id_same q x e)) all.0)
    (λ e. all_has P xs all.1 q e)

-- one id more, less than the others, where one of these passes
later_stays : (p : ElemId → Bool) (x : ElemId) (xs : List ElemId) → AllByRecursion (λ y. id_cmp x y ≡ Less) xs
    → (g : ElemId) → IsGreatest p xs g → IsGreatest p (x ∷ xs) g
later_stays p x xs head g h = record {
  among = or_right (is_id g x) (has_id xs g) h.among;
  passes = h.passes;
  none_above = λ q has passes.
      or_cases (is_id q x) (has_id xs q) has
      (λ e. subst (λ (y : ElemId). is_lt (id_cmp g y) ≡ false) (sym {A = ElemId} (id_same q x e))
      (less_not_back (id_cmp g x) (id_cmp x g) (id_cmp_total.antisymm g x) (all_has (λ y. id_cmp x y ≡ Less) xs head g h.among)))
      (λ e. h.none_above q e passes);
}

-- where none of the others passes, it hangs on the one
only_first : (p : ElemId → Bool) (x : ElemId) (xs : List ElemId) → Greatest p xs None
    → (b : Bool) → p x ≡ b → Greatest p (x ∷ xs) (cond b (Some x) None)
only_first p x xs none true e = record {
  among = or_left (is_id x x) (has_id xs x) (is_itself x);
  passes = e;
  none_above = λ q has passes.
      or_cases (is_id q x) (has_id xs q) has
      (λ same. subst (λ (y : ElemId). is_lt (id_cmp x y) ≡ false) (sym {A = ElemId} (id_same q x same)) (ap is_lt (tied_itself id_cmp_total x)))
      (λ in_rest. let no : p q ≡ false = none q in_rest in cc);
}
only_first p x xs none false e = λ q has.
    or_cases (is_id q x) (has_id xs q) has
    (λ same. subst (λ (y : ElemId). p y ≡ false) (sym {A = ElemId} (id_same q x same)) e)
    (λ in_rest. none q in_rest)

greatest_step : (p : ElemId → Bool) (x : ElemId) (xs : List ElemId) → AllByRecursion (λ y. id_cmp x y ≡ Less) xs
    → (r : Option ElemId) → Greatest p xs r → Greatest p (x ∷ xs) (option_or r (cond (p x) (Some x) None))
greatest_step p x xs head None none = only_first p x xs none (p x) refl
greatest_step p x xs head (Some g) h = later_stays p x xs head g h

pub greatest_is_last : (p : ElemId → Bool) (xs : List ElemId) → IsStrictlySortedBy id_cmp xs → Greatest p xs (find p (reverse xs))
greatest_is_last p [] sorted = λ q has. cc
greatest_is_last p (x ∷ xs) sorted =
    subst (Greatest p (x ∷ xs)) (sym (last_step p x xs))
    (greatest_step p x xs (sorted_head id_cmp x xs sorted) (find p (reverse xs)) (greatest_is_last p xs (sorted_tail id_cmp x xs sorted)))

keeps_last_cases : (o : Option ElemId) (b : Bool) (x : ElemId) (kept : Option ElemId)
    → option_or o (cond b (Some x) kept) ≡ option_or (option_or o (cond b (Some x) None)) kept
keeps_last_cases None true x kept = refl
keeps_last_cases None false x kept = refl
keeps_last_cases (Some y) b x kept = refl

-- a walk from the front that keeps the last that passes: at each id, what the rest gives goes before what is kept
pub keeps_last : (p : ElemId → Bool) (x : ElemId) (rest : List ElemId) (kept : Option ElemId)
    → option_or (find p (reverse rest)) (cond (p x) (Some x) kept) ≡ option_or (find p (reverse (x ∷ rest))) kept
keeps_last p x rest kept =
    keeps_last_cases (find p (reverse rest)) (p x) x kept ∙ ap (λ (o : Option ElemId). option_or o kept) (sym (last_step p x rest))

-- the same at a step of the walk, where s is what was left before it
pub keeps_last_step : (p : ElemId → Bool) (x : ElemId) (s rest : List ElemId) (kept next whole : Option ElemId)
    → s ≡ x ∷ rest → next ≡ cond (p x) (Some x) kept
    → option_or (find p (reverse s)) kept ≡ whole → option_or (find p (reverse rest)) next ≡ whole
keeps_last_step p x s rest kept next whole first is before =
    ap (option_or (find p (reverse rest))) is
    ∙ keeps_last p x rest kept
    ∙ ap (λ (l : List ElemId). option_or (find p (reverse l)) kept) (sym {A = List ElemId} first)
    ∙ before
