-- What a read or a write of a standard stream did to the bytes that the reader or the writer below it tells.
use Rattle.std.specs.Prelude.{ℕ, List, [], take, Option}
use Rattle.std.specs.Io.KnownBytes.{Consumes, Appends, Keeps, IsAtEnd}
use Rattle.outside.specs.declared.sources.Took.{Took}
use Rattle.outside.specs.declared.sources.Took.TheVariants as took
use Rattle.outside.specs.declared.sinks.Gave.{Gave}
use Rattle.outside.specs.declared.sinks.Gave.TheVariants as gave

-- bytes that were given are consumed, the end comes where none is left, and a failed read consumed none
abbrev pub ReadBelow : Option (List ℕ) → Option (List ℕ) → List ℕ → Took → Type 0
ReadBelow old new buf (took.Bytes n) = Consumes old new (take n buf)
ReadBelow old new buf took.Ended = Consumes old new [] × IsAtEnd new
ReadBelow old new buf took.Failed = Keeps old new

-- the front that was given is appended, and any other write appended nothing
abbrev pub WrittenBelow : Option (List ℕ) → Option (List ℕ) → List ℕ → Gave → Type 0
WrittenBelow old new piece (gave.Bytes n) = Appends old new (take n piece)
WrittenBelow old new piece gave.Failed = Keeps old new
WrittenBelow old new piece gave.Memory = Keeps old new
