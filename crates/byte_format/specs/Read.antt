-- What a reader in code returned, against what reading gives.
use Rattle.std.specs.Prelude.{◌≡◌, ℕ, List, Option, Some, None, Result, Ok, Err, IsOk}
use Rattle.byte_format.specs.Format.{Outside}
use Rattle.byte_format.specs.declared.faults.ReadFault.{ReadFault}
use Rattle.byte_format.specs.declared.faults.ReadFault.TheVariants.{Memory, At}

-- the result, seen through `view`, is what reading gives: the value, or the first field outside the format
abbrev pub GivesExactly : {X Y : Type 0} → (X → Y) → Result X Outside → Result Y Outside → Type 0
GivesExactly view (Ok x) reading = reading ≡ Ok (view x)
GivesExactly view (Err fault) reading = reading ≡ Err fault

-- the fault is the one that reading gives; memory is asked for only where reading gives a value
abbrev pub RefusesAs : {Y : Type 0} → ReadFault → Result Y Outside → Type 0
RefusesAs Memory reading = IsOk reading
RefusesAs (At fault) reading = reading ≡ Err fault

-- the result, seen through `view`, is what reading gives, or memory ran out for a value that reading gives
abbrev pub Answers : {X Y : Type 0} → (X → Y) → Result X ReadFault → Result Y Outside → Type 0
Answers view (Ok x) reading = reading ≡ Ok (view x)
Answers view (Err fault) reading = RefusesAs fault reading

-- what was kept is this value, or memory ran out for it
abbrev pub IsKept : {Y : Type 0} → Option Y → Y → Type 0
IsKept None value = Unit {0}
IsKept (Some y) value = y ≡ value

-- reading gives a value, with these bytes behind it, and the value was kept unless memory ran out
pub record ReadsOn {Y : Type 0} (kept : Option Y) (rest : List ℕ) (reading : Result (Y × List ℕ) Outside) : Type 0 where
  pub value : Y
  pub read : reading ≡ Ok (value, rest)
  pub is_kept : IsKept kept value

-- the result tells the bytes behind a value, or the first field outside, whatever memory there is
abbrev pub Judges : {X Y : Type 0} → (X → Option Y) → (X → List ℕ) → Result X Outside → Result (Y × List ℕ) Outside → Type 0
Judges kept rest (Ok x) reading = ReadsOn (kept x) (rest x) reading
Judges kept rest (Err fault) reading = reading ≡ Err fault

-- reading gives a value, and it was kept unless memory ran out
pub record ReadsAll {Y : Type 0} (kept : Option Y) (reading : Result Y Outside) : Type 0 where
  pub value : Y
  pub read : reading ≡ Ok value
  pub is_kept : IsKept kept value

-- the same for the value that all of the bytes are
abbrev pub JudgesAll : {X Y : Type 0} → (X → Option Y) → Result X Outside → Result Y Outside → Type 0
JudgesAll kept (Ok x) reading = ReadsAll (kept x) reading
JudgesAll kept (Err fault) reading = reading ≡ Err fault

-- the fault is the one that reading gives; want of memory says nothing
abbrev pub FailsAs : {Y : Type 0} → ReadFault → Result Y Outside → Type 0
FailsAs Memory reading = Unit {0}
FailsAs (At fault) reading = reading ≡ Err fault

-- the result, seen through `view`, is what reading gives, unless memory runs out
abbrev pub Gives : {X Y : Type 0} → (X → Y) → Result X ReadFault → Result Y Outside → Type 0
Gives view (Ok x) reading = reading ≡ Ok (view x)
Gives view (Err fault) reading = FailsAs fault reading
