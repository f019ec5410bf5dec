-- Names that a chain reads one behind the other are strictly sorted, and strictly sorted names are such a chain.
use Rattle.std.proofs.Common.{◌≡◌, ℕ, zero, suc, true, List, [], ◌∷◌, length, Option, Some, None, refl, ap}
use Rattle.std.specs.List.{AllByRecursion}
use Rattle.std.specs.List.Sorted.{IsStrictlySortedBy}
use Rattle.std.specs.Ordering.{is_lt}
use Rattle.std.specs.declared.cmp.Ordering.{Ordering}
use Rattle.std.specs.declared.cmp.Ordering.TheVariants.{Less, Equal, Greater}
use Rattle.std.specs.Cmp.Lexicographic.{nat_list_cmp_total}
use Rattle.tt_base.specs.Ids.{name_cmp}
use Rattle.tt_base.specs.declared.ids.Name.{Name}
use Rattle.byte_format.specs.Lists.{chain, just}
use Rattle.byte_format.specs.Values.{name_field, next_name, any_name, is_behind}

less_is : (o : Ordering) → is_lt o ≡ true → o ≡ Less
less_is Less is = refl
less_is Equal is = absurd cc
less_is Greater is = absurd cc

pub each_by : {X : Type 0} (P Q : X → Type 0) → ((x : X) → P x → Q x) → (xs : List X) → AllByRecursion P xs → AllByRecursion Q xs
each_by P Q step [] each = tt
each_by P Q step (x ∷ xs) each = (step x each.0, each_by P Q step xs each.1)

-- what is behind a name is behind what that name is behind
behind_next : (before : Option Name) (x y : Name) → is_behind before x ≡ true → is_lt (name_cmp x y) ≡ true → is_behind before y ≡ true
behind_next None x y first second = refl
behind_next (Some b) x y first second = ap is_lt (nat_list_cmp_total.trans b.0 x.0 y.0 (less_is (name_cmp b x) first) (less_is (name_cmp x y) second))

abbrev IsRising : Option Name → List Name → Type 0
IsRising before names = AllByRecursion (λ y. is_behind before y ≡ true) names × IsStrictlySortedBy name_cmp names

pub rising_sorted : (n : ℕ) (names : List Name) (before : Option Name) → (chain any_name next_name just before n).Fits names → IsRising before names
unfolding IsStrictlySortedBy
rising_sorted zero names before fits = rw (← fits) (tt, tt)
rising_sorted (suc n) [] before fits = absurd cc
rising_sorted (suc n) (x ∷ xs) before fits =
    let rest : IsRising (Some x) xs = rising_sorted n xs (Some x) fits.0.1 in (
      (
        fits.0.0.1,
        each_by (λ y. is_behind (Some x) y ≡ true) (λ y. is_behind before y ≡ true) (λ y behind. behind_next before x y fits.0.0.1 behind) xs rest.0,
      ),
      (each_by (λ y. is_behind (Some x) y ≡ true) (λ y. name_cmp x y ≡ Less) (λ y behind. less_is (name_cmp x y) behind) xs rest.0, rest.1),
    )

pub sorted_rising : (names : List Name) (before : Option Name) → AllByRecursion name_field.Fits names → IsRising before names
    → (chain any_name next_name just before (length names)).Fits names
unfolding IsStrictlySortedBy
sorted_rising [] before each rising = refl
sorted_rising (x ∷ xs) before each rising = (
  (
    (each.0, rising.0.0),
    sorted_rising xs (Some x) each.1 (each_by (λ y. name_cmp x y ≡ Less) (λ y. is_behind (Some x) y ≡ true) (λ y less. ap is_lt less) xs rising.1.0, rising.1.1),
  ),
  refl,
)
