-- What a reading of all the bytes says of them as an encoding.
use Rattle.std.proofs.Common.{◌≡◌, ℕ, ◌-◌, ◌≤◌, List, length, Option, Some, Result, Ok, Err, ap, sym, subst, ◌∙◌, arith}
use Rattle.std.specs.Option.{option_map}
use Rattle.byte_format.specs.Format.{Format, IsBytes, whole, IsEncoding}
use Rattle.byte_format.specs.declared.faults.Outside.{Outside}
use Rattle.byte_format.proofs.Lawful.{Lawful, wholly_again, wholly_within}
use Rattle.byte_format.specs.Read.{IsKept, ReadsAll}
use Rattle.change_codec.specs.Read.{IsFirstAt}

-- what is read is the one value that the bytes encode
pub read_is : {A : Type 0} (f : Format A) → Lawful f → (bytes : List ℕ) (read a : A) → whole f bytes ≡ Ok read → IsEncoding f bytes a → read ≡ a
read_is {A} f lawful bytes read a is encoding =
    let again : whole f bytes ≡ Ok a = wholly_again f lawful bytes a encoding in
    cc

-- where a field is outside the format, the bytes encode nothing
pub none_is : {A : Type 0} (f : Format A) → Lawful f → (bytes : List ℕ) (fault : Outside) (a : A) → whole f bytes ≡ Err fault → IsEncoding f bytes a → ⊥
none_is f lawful bytes fault a is encoding =
    let again : whole f bytes ≡ Ok a = wholly_again f lawful bytes a encoding in
    cc

-- the offset of the first field outside the format
pub first_at : {A : Type 0} (f : Format A) → Lawful f → (bytes : List ℕ) (fault : Outside) → IsBytes bytes → whole f bytes ≡ Err fault
    → IsFirstAt (length bytes) (length bytes - fault.left) fault.kind (whole f bytes)
first_at f lawful bytes fault fits is =
    let within : fault.left ≤ length bytes = wholly_within f lawful bytes fault fits is in
    record { left = fault.left; ends = omega arith; first = is }

-- what was kept, seen as `view` says, is what is read
pub kept_is_read : {A B : Type 0} (view : A → B) (kept : Option A) (a : A) (reading : Result B Outside) → kept ≡ Some a → ReadsAll (option_map view kept) reading
    → reading ≡ Ok (view a)
kept_is_read view kept a reading is all =
    let same : view a ≡ all.value = subst (λ k. IsKept (option_map view k) all.value) is all.is_kept in
    all.read ∙ ap Ok (sym same)
