-- Steps that came to an end.
use Rattle.std.proofs.Common.{◌≡◌, Result, Ok, Err, refl}
use Rattle.tt_base.specs.Answers.{and_then}

pub ok_is : {A F : Type 0} (x y : A) → ◌≡◌ {A = Result A F} (Ok x) (Ok y) → x ≡ y
ok_is x y is = cc

-- what holds where a step gave a value and the next one came to its end holds of both
pub then_ended : {A B F : Type 0} (found : Result A F) (next : A → Result B F) (end : B) (P : Type 0)
    → ((value : A) → found ≡ Ok value → next value ≡ Ok end → P) → and_then found next ≡ Ok end → P
then_ended (Ok value) next end P each is = each value refl is
then_ended (Err fault) next end P each is = cc
