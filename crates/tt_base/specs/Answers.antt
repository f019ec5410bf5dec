-- What steps answer that may be refused, over any type of refusals.
use Rattle.std.specs.Prelude.{◌≡◌, ◌⊎◌, Result, Ok, Err, MatchResult}

-- the next step on what this one gave, unless this one was refused
abbrev pub and_then : {T U E : Type 0} → Result T E → (T → Result U E) → Result U E
and_then (Ok value) next = next value
and_then (Err fault) next = Err fault

-- the result is the expected one, value or refusal, unless memory ran out
abbrev pub Gives : {T E : Type 0} → E → Result T E → Result T E → Type 0
Gives memory result expected =
    MatchResult result (λ value. expected ≡ Ok value) (λ fault. (expected ≡ Err fault) ⊎ (fault ≡ memory))
