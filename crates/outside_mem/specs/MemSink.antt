use Rattle.std.specs.Prelude.{◌≡◌, ◌⊎◌, ℕ, Bool, true, false, List, Some}
use Rattle.outside.specs.SinkMeaning.{SinkMeaning}
use Rattle.outside.specs.declared.sinks.Gave.{Gave}
use Rattle.outside.specs.declared.sinks.Gave.TheVariants.{Bytes, Failed, Memory}
use Rattle.outside_mem.specs.Calls.{is_to_fail}

-- what contracts see of a sink over memory that may fail; one that never fails is seen as its bytes
pub record MemSinkView : Type 0 where
  pub written : List ℕ
  pub failing : List ℕ
  pub calls : ℕ
  pub faults : ℕ

-- each tells its bytes; one that never fails counts no fault
abbrev pub sure_sink : List ℕ → SinkMeaning
sure_sink written = record { written = Some written; faults = 0 }

abbrev pub mem_sink : MemSinkView → SinkMeaning
mem_sink s = record { written = Some s.written; faults = s.faults }

-- a write fails where it is to fail, and else gives the whole piece, unless memory runs out
abbrev pub IsWrite : Bool → ℕ → Gave → Type 0
IsWrite true len answer = answer ≡ Failed
IsWrite false len answer = (answer ≡ Bytes len) ⊎ (answer ≡ Memory)

abbrev pub IsMemWrite : MemSinkView → ℕ → Gave → Type 0
IsMemWrite s len answer = IsWrite (is_to_fail s.failing s.calls) len answer
