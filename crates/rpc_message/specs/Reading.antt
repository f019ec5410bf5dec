-- What reading a value gives: a message or a part of one, or the cause for which it is none.
use Rattle.std.specs.Prelude.{Result, Ok, Err}
use Rattle.rpc_message.specs.declared.faults.Cause.{Cause}

-- a value, or the cause of the refusal
abbrev pub Reading : Type 0 → Type 0
Reading T = Result T Cause

-- the next step, unless this one was refused
infixl 10 ◌>>=◌
abbrev pub ◌>>=◌ : {A B : Type 0} → Reading A → (A → Reading B) → Reading B
(Ok x) >>= f = f x
(Err cause) >>= f = Err cause
