-- What is left of a list behind one of its items.
use Rattle.std.proofs.Common.{◌≡◌, ℕ, ◌+◌, ◌<◌, sym, ap, ◌∙◌, List, ◌∷◌, length, get_or, drop}
use Rattle.std.proofs.lemmas.List.{at_drop_more}

pub item_drop : {X : Type 0} (xs : List X) (i : ℕ) (x : X) → i < length xs → x ≡ get_or xs i x → drop i xs ≡ x ∷ drop (i + 1) xs
item_drop {X} xs i x lt is = at_drop_more (λ (ys : List X). ys) xs i x lt ∙ ap (λ (y : X). y ∷ drop (i + 1) xs) (sym is)
