-- Names and places that tie are one, and places stand in one order.
use Rattle.std.proofs.Common.{◌≡◌, true, false, refl, sym, ap, ◌∙◌, subst}
use Rattle.std.specs.declared.cmp.Ordering.{Ordering}
use Rattle.std.specs.declared.cmp.Ordering.TheVariants.{Less, Equal, Greater}
use Rattle.std.specs.Ordering.{nat_cmp, is_eq, is_lt, ordering_then, ordering_reverse}
use Rattle.std.specs.BTreeMap.{is_at}
use Rattle.std.specs.Cmp.{IsTotalOrder}
use Rattle.std.proofs.lemmas.Bool.{both_ways, false_from_ne_true}
use Rattle.std.proofs.lemmas.Cmp.{nat_cmp_total, on_total, then_total, tied_itself, eq_by_cmp_equiv}
use Rattle.std.proofs.lemmas.Map.Lookups.{exact_unsigned}
use Rattle.tt_base.specs.Ids.{name_cmp}
use Rattle.tt_base.specs.declared.ids.Name.{Name}
use Rattle.tt_base.proofs.IdOrders.{name_cmp_total, name_tied}
use Rattle.change_graph.specs.declared.places.Place.{Place}
use Rattle.change_graph.specs.History.{is_name}
use Rattle.change_graph.specs.Walk.{place_cmp}

is_tied : (r : Ordering) → is_eq r ≡ true → r ≡ Equal
is_tied Less e = cc
is_tied Equal e = refl
is_tied Greater e = cc

-- ---- names

pub name_same : (a b : Name) → is_name a b ≡ true → a ≡ b
name_same a b e = name_tied a b (is_tied (name_cmp a b) e)

pub name_itself : (a : Name) → is_name a a ≡ true
name_itself a = ap is_eq (tied_itself name_cmp_total a)

pub name_swap : (a b : Name) → is_name a b ≡ is_name b a
name_swap a b = (eq_by_cmp_equiv name_cmp_total).symm a b

pub name_apart : (a b : Name) → is_name a b ≡ false → a ≡ b → ⊥
name_apart a b apart e = both_ways (is_name a b) apart (subst (λ (x : Name). is_name a x ≡ true) e (name_itself a))

-- ---- places

pub place_cmp_total : IsTotalOrder place_cmp
place_cmp_total = then_total (on_total (λ (p : Place). p.depth) nat_cmp_total) (on_total (λ (p : Place). p.name) name_cmp_total)

then_tied : (r s : Ordering) → ordering_then r s ≡ Equal → (r ≡ Equal) × (s ≡ Equal)
then_tied Less s e = cc
then_tied Equal s e = (refl, e)
then_tied Greater s e = cc

pub place_tied : (a b : Place) → place_cmp a b ≡ Equal → a ≡ b
place_tied a b e =
    let both = then_tied (nat_cmp a.depth b.depth) (name_cmp a.name b.name) e in
    let depth : a.depth ≡ b.depth = exact_unsigned _ _ both.0 in
    let name : a.name ≡ b.name = name_tied _ _ both.1 in
    λ i. record { depth = depth i; name = name i }

pub place_same : (a b : Place) → is_at (place_cmp a) b ≡ true → a ≡ b
place_same a b e = place_tied a b (is_tied (place_cmp a b) e)

pub place_itself : (a : Place) → is_at (place_cmp a) a ≡ true
place_itself a = ap is_eq (tied_itself place_cmp_total a)

pub is_less : (r : Ordering) → is_lt r ≡ true → r ≡ Less
is_less Less e = refl
is_less Equal e = cc
is_less Greater e = cc

-- no place is before itself
pub before_itself : (a : Place) → place_cmp a a ≡ Less → ⊥
before_itself a less = let e : Less ≡ Equal = sym less ∙ tied_itself place_cmp_total a in cc

-- a is before b, which is not behind c
pub before_up_to : (a b c : Place) (r : Ordering) → place_cmp c b ≡ r → is_lt r ≡ false → place_cmp a b ≡ Less → place_cmp a c ≡ Less
before_up_to a b c Less e up less = cc
before_up_to a b c Equal e up less = subst (λ (x : Place). place_cmp a x ≡ Less) (sym (place_tied c b e)) less
before_up_to a b c Greater e up less = place_cmp_total.trans a b c less (place_cmp_total.antisymm b c ∙ ap ordering_reverse e)

-- not behind a place that is not behind another
pub up_to_up_to : (top mid low : Place) → is_lt (place_cmp top mid) ≡ false → is_lt (place_cmp mid low) ≡ false → is_lt (place_cmp top low) ≡ false
up_to_up_to top mid low first second =
    false_from_ne_true (is_lt (place_cmp top low))
    (λ less. both_ways (is_lt (place_cmp top mid)) first
    (ap is_lt (before_up_to top low mid (place_cmp mid low) refl second (is_less (place_cmp top low) less))))

-- of two places, one that is neither before the other nor the other stands behind it
pub behind_else : (a b : Place) (r : Ordering) → place_cmp a b ≡ r → is_lt r ≡ false → is_eq r ≡ false → place_cmp b a ≡ Less
behind_else a b Less e up apart = cc
behind_else a b Equal e up apart = cc
behind_else a b Greater e up apart = place_cmp_total.antisymm b a ∙ ap ordering_reverse e

-- what is before a place is not behind it
pub not_behind : (a b : Place) → place_cmp a b ≡ Less → is_lt (place_cmp b a) ≡ false
not_behind a b less = ap is_lt (place_cmp_total.antisymm b a ∙ ap ordering_reverse less)

-- a is not behind b, which is before c
pub up_to_before : (a b c : Place) (r : Ordering) → place_cmp b a ≡ r → is_lt r ≡ false → place_cmp b c ≡ Less → place_cmp a c ≡ Less
up_to_before a b c Less e up less = cc
up_to_before a b c Equal e up less = subst (λ (x : Place). place_cmp x c ≡ Less) (place_tied b a e) less
up_to_before a b c Greater e up less = place_cmp_total.trans a b c (place_cmp_total.antisymm a b ∙ ap ordering_reverse e) less

-- what stands behind another, the other stands before
pub before_back : (a b : Place) → place_cmp a b ≡ Greater → place_cmp b a ≡ Less
before_back a b behind = place_cmp_total.antisymm b a ∙ ap ordering_reverse behind
