-- For private clauses: a reader inside the crate answers its reading, unless memory ran out.
use Rattle.std.specs.Prelude.{◌≡◌, ⊤, Result, Ok, Err}
use Rattle.rpc_message.specs.Reading.{Reading}
use Rattle.rpc_message.specs.declared.faults.Fault.{Fault}
use Rattle.rpc_message.specs.declared.faults.Fault.TheVariants as fault

-- the cause is the expected one, unless memory ran out
abbrev pub Fails : {T : Type 0} → Fault → Reading T → Type 0
Fails (fault.Cause cause) expected = expected ≡ Err cause
Fails fault.Memory expected = ⊤

-- the result is the expected one, value or cause, unless memory ran out
abbrev pub Reads : {T : Type 0} → Result T Fault → Reading T → Type 0
Reads (Ok value) expected = expected ≡ Ok value
Reads (Err fault) expected = Fails fault expected

-- the same of a result that is seen by a view
abbrev pub ReadsBy : {S T : Type 0} → (S → T) → Result S Fault → Reading T → Type 0
ReadsBy view (Ok value) expected = expected ≡ Ok (view value)
ReadsBy view (Err fault) expected = Fails fault expected
