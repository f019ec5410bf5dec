-- What a read does to a source (POSIX, read).
use Rattle.std.specs.Prelude.{◌≡◌, ◌<◌, ◌≤◌, ℕ, List, [], take, length, true, IfSome}
use Rattle.std.specs.Io.KnownBytes.{prepend_known}
use Rattle.outside.specs.Faults.{Rose}
use Rattle.outside.specs.SourceMeaning.{SourceMeaning}
use Rattle.outside.specs.declared.sources.Took.{Took}
use Rattle.outside.specs.declared.sources.Took.TheVariants.{Bytes, Ended, Failed}

-- bytes were taken from the front of what was left
pub record TookBytes (old new : SourceMeaning) (buf : List ℕ) (n : ℕ) : Type 0 where
  pub some : 0 < n
  pub fits : n ≤ length buf
  pub left : old.left ≡ prepend_known (take n buf) new.left
  pub ended : new.ended ≡ old.ended
  pub faults : new.faults ≡ old.faults

-- the end came, where nothing is left
pub record TookEnd (old new : SourceMeaning) : Type 0 where
  pub none_left : IfSome old.left (λ left. left ≡ [])
  pub left : new.left ≡ old.left
  pub ended : new.ended ≡ true
  pub faults : new.faults ≡ old.faults

-- the read failed, and took nothing
pub record TookNothing (old new : SourceMeaning) : Type 0 where
  pub left : new.left ≡ old.left
  pub ended : new.ended ≡ old.ended
  pub faults : Rose old.faults new.faults

-- the count of faults rises with a failed read, and with no other
abbrev pub TookSo : SourceMeaning → SourceMeaning → List ℕ → Took → Type 0
TookSo old new buf (Bytes n) = TookBytes old new buf n
TookSo old new buf Ended = TookEnd old new
TookSo old new buf Failed = TookNothing old new

-- what a read does, by its answer; the count of faults never falls
pub record Takes (old new : SourceMeaning) (buf : List ℕ) (answer : Took) : Type 0 where
  pub later : old.faults ≤ new.faults
  pub so : TookSo old new buf answer
