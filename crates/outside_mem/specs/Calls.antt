-- The calls of an object in memory, numbered together from 1.
use Rattle.std.specs.Prelude.{ℕ, ◌+◌, ◌-◌, ◌^◌, ◌==◌, Bool, List, min, if◌then◌else◌}
use Rattle.std.specs.List.{list_any}
use Rattle.outside.specs.Calls.{counted}

-- the next call is one of those that are to fail
abbrev pub is_to_fail : List ℕ → ℕ → Bool
is_to_fail failing calls = list_any (λ number. number == counted calls) failing

-- the count of faults after a call that failed or not
abbrev pub faults_with : Bool → ℕ → ℕ
faults_with failed faults = if failed then min (faults + 1) (2 ^ 64 - 1) else faults

-- the same after the next call
abbrev pub faults_after : List ℕ → ℕ → ℕ → ℕ
faults_after failing calls faults = faults_with (is_to_fail failing calls) faults
