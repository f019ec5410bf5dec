-- What formats are made of: one behind the other, tested, marked, seen as another type, in a box of its length.
use Rattle.std.specs.Prelude.{◌≡◌, ℕ, ◌+◌, Bool, true, false, List, ◌++◌, length, take, drop, Result, Ok, Err, nat_lt}
use Rattle.std.specs.Str.{bytes_eq}
use Rattle.byte_format.specs.Format.{Kind, Short, Outside, Format, outside, ◌>>=◌, whole}
use Rattle.byte_format.specs.Fields.{taking}

-- one value behind another, which says what the second may be
abbrev pub depends : {A B : Type 0} → Format A → (A → Format B) → Format (A × B)
depends f g = record {
  spelled = λ x. f.spelled x.0 ++ (g x.0).spelled x.1;
  Fits = λ x. f.Fits x.0 × (g x.0).Fits x.1;
  reads = λ bytes. f.reads bytes >>= λ a. (g a.0).reads a.1 >>= λ b. Ok ((a.0, b.0), b.1);
}

-- one value behind another
abbrev pub pair : {A B : Type 0} → Format A → Format B → Format (A × B)
pair f g = depends f (λ a. g)

-- the same bytes for values of another type
abbrev pub seen_as : {A B : Type 0} → (A → B) → (B → A) → Format A → Format B
seen_as to from f = record {
  spelled = λ b. f.spelled (from b);
  Fits = λ b. f.Fits (from b) × (to (from b) ≡ b);
  reads = λ bytes. f.reads bytes >>= λ a. Ok (to a.0, a.1);
}

-- a value that fails the test makes the field outside the format, from its first byte on
abbrev pub checked_if : {A : Type 0} → Bool → Kind → List ℕ → A × List ℕ → Result (A × List ℕ) Outside
checked_if true kind bytes read = Ok read
checked_if false kind bytes read = outside kind bytes

-- a field whose value passes a test
abbrev pub checked : {A : Type 0} → (A → Bool) → Kind → Format A → Format A
checked test kind f = record {
  spelled = f.spelled;
  Fits = λ a. f.Fits a × (test a ≡ true);
  reads = λ bytes. f.reads bytes >>= λ a. checked_if (test a.0) kind bytes a;
}

-- a mark of fixed bytes, and then a value
abbrev pub marked : {A : Type 0} → List ℕ → Kind → Format A → Format A
marked mark kind f = seen_as (λ x. x.1) (λ a. (mark, a)) (pair (checked (λ m. bytes_eq m mark) kind (taking (length mark))) f)

-- a tag, and then the value that it selects; `tag` is the tag of a value
abbrev pub tagged : {A : Type 0} → (A → ℕ) → Format ℕ → (ℕ → Format A) → Format A
tagged tag f g = seen_as (λ x. x.1) (λ a. (tag a, a)) (depends f g)

-- what was read within a box, with the bytes behind the box
abbrev pub within_box : {A : Type 0} → List ℕ → Result A Outside → Result (A × List ℕ) Outside
within_box rest (Ok a) = Ok (a, rest)
within_box rest (Err fault) = Err (record { kind = fault.kind; left = fault.left + length rest })

-- a length that runs past the end is itself outside the format
abbrev pub boxed_if : {A : Type 0} → Bool → List ℕ → Format A → ℕ × List ℕ → Result (A × List ℕ) Outside
boxed_if true bytes f length_read = outside Short bytes
boxed_if false bytes f length_read = within_box (drop length_read.0 length_read.1) (whole f (take length_read.0 length_read.1))

-- a length, and then so many bytes, all of which are the value
abbrev pub boxed : {A : Type 0} → Format ℕ → Format A → Format A
boxed count f = record {
  spelled = λ a. count.spelled (length (f.spelled a)) ++ f.spelled a;
  Fits = λ a. count.Fits (length (f.spelled a)) × f.Fits a;
  reads = λ bytes. count.reads bytes >>= λ n. boxed_if (nat_lt (length n.1) n.0) bytes f n;
}
