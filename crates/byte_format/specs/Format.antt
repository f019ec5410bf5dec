-- A format of bytes: how a value is spelled, which values have a spelling, and how bytes are read.
use Rattle.std.specs.Prelude.{◌≡◌, ℕ, ◌<◌, ◌==◌, Bool, true, false, List, length, slice_index, Result, Ok, Err}
pub use Rattle.byte_format.specs.declared.faults.Kind.{Kind}
pub use Rattle.byte_format.specs.declared.faults.Kind.TheVariants.{Magic, Short, Order, Tag, Path, Utf8, Zero, Rest}
pub use Rattle.byte_format.specs.declared.faults.Outside.{Outside}

-- each member of the list is a byte
abbrev pub IsBytes : List ℕ → Type 0
IsBytes bytes = (i : ℕ) → slice_index bytes i < 256

-- A reading gives a value and the bytes behind it, or the first field that is outside its format.
pub record Format (A : Type 0) : Type 1 where
  pub spelled : A → List ℕ
  pub Fits : A → Type 0
  pub reads : List ℕ → Result (A × List ℕ) Outside

-- the field that begins these bytes is outside its format
abbrev pub outside : {A : Type 0} → Kind → List ℕ → Result A Outside
outside kind bytes = Err (record { kind = kind; left = length bytes })

-- the first field outside a format stays the first; else reading goes on with what was read
infixl 10 ◌>>=◌
abbrev pub ◌>>=◌ : {A B : Type 0} → Result A Outside → (A → Result B Outside) → Result B Outside
(Ok x) >>= next = next x
(Err fault) >>= next = Err fault

-- where bytes follow the last field, they are outside the format
abbrev pub ended_if : {A : Type 0} → Bool → A × List ℕ → Result A Outside
ended_if true read = Ok read.0
ended_if false read = outside Rest read.1

-- the value that all of the bytes are, or the first field outside its format
abbrev pub whole : {A : Type 0} → Format A → List ℕ → Result A Outside
whole f bytes = f.reads bytes >>= λ read. ended_if (length read.1 == 0) read

-- the bytes are the spelling of the value: the grammar as a relation
pub record IsEncoding {A : Type 0} (f : Format A) (bytes : List ℕ) (value : A) : Type 0 where
  pub fits : f.Fits value
  pub spelling : bytes ≡ f.spelled value
