-- What a write does to a sink (POSIX, write).
use Rattle.std.specs.Prelude.{◌≡◌, ◌<◌, ◌≤◌, ℕ, List, take, length}
use Rattle.std.specs.Io.KnownBytes.{append_known}
use Rattle.outside.specs.Faults.{Rose}
use Rattle.outside.specs.SinkMeaning.{SinkMeaning}
use Rattle.outside.specs.declared.sinks.Gave.{Gave}
use Rattle.outside.specs.declared.sinks.Gave.TheVariants.{Bytes, Failed, Memory}

-- the front of the piece was appended
pub record GaveFront (old new : SinkMeaning) (piece : List ℕ) (n : ℕ) : Type 0 where
  pub some : 0 < n
  pub fits : n ≤ length piece
  pub written : new.written ≡ append_known old.written (take n piece)
  pub faults : new.faults ≡ old.faults

-- else nothing is appended; the count of faults rises with a failed write, and with no other
abbrev pub GaveSo : SinkMeaning → SinkMeaning → List ℕ → Gave → Type 0
GaveSo old new piece (Bytes n) = GaveFront old new piece n
GaveSo old new piece Failed = (new.written ≡ old.written) × Rose old.faults new.faults
GaveSo old new piece Memory = (new.written ≡ old.written) × (new.faults ≡ old.faults)

-- what a write does, by its answer; the count of faults never falls
pub record Gives (old new : SinkMeaning) (piece : List ℕ) (answer : Gave) : Type 0 where
  pub later : old.faults ≤ new.faults
  pub so : GaveSo old new piece answer
