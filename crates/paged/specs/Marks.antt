-- Places of a list that its marked items tell.
use Rattle.std.specs.Prelude.{ℕ, zero, suc, Bool, List, [], ◌∷◌, Option, Some, None, option_map, if◌then◌else◌}

-- the number of items up to the nth that is marked, this one included, where there are so many: 0 for n = 0
abbrev pub behind : {A : Type 0} → (A → Bool) → List A → ℕ → Option ℕ
behind is_marked items zero = Some 0
behind is_marked [] (suc n) = None
behind is_marked (x ∷ items) (suc n) = option_map suc (behind is_marked items (if is_marked x then n else suc n))
