-- The formats of single fields.
use Rattle.std.specs.Prelude.{◌≡◌, ℕ, ◌<◌, Bool, true, false, List, [], ◌∷◌, length, take, drop, Result, Ok, nat_lt}
use Rattle.std.specs.Int.{Width, byte_len, from_be_bytes, to_be_bytes}
use Rattle.byte_format.specs.Format.{Kind, Short, Outside, IsBytes, Format, outside, ◌>>=◌}

-- where there are fewer bytes than the field has, the bytes end within it
abbrev pub taken_if : Bool → ℕ → List ℕ → Result (List ℕ × List ℕ) Outside
taken_if true n bytes = outside Short bytes
taken_if false n bytes = Ok (take n bytes, drop n bytes)

-- so many bytes
abbrev pub taking : ℕ → Format (List ℕ)
taking n = record {
  spelled = λ bytes. bytes;
  Fits = λ bytes. (length bytes ≡ n) × IsBytes bytes;
  reads = λ bytes. taken_if (nat_lt (length bytes) n) n bytes;
}

-- the first byte, and those behind it
abbrev pub first_byte : List ℕ → Result (ℕ × List ℕ) Outside
first_byte [] = outside Short []
first_byte (b ∷ bytes) = Ok (b, bytes)

-- one byte
abbrev pub byte : Format ℕ
byte = record { spelled = λ b. b ∷ []; Fits = λ b. b < 256; reads = first_byte }

-- a value that is known, so that nothing is spelled
abbrev pub constant : {A : Type 0} → A → Format A
constant known = record { spelled = λ a. []; Fits = λ a. known ≡ a; reads = λ bytes. Ok (known, bytes) }

-- no value: whatever stands there is outside the format
abbrev pub never : {A : Type 0} → Kind → Format A
never kind = record { spelled = λ a. []; Fits = λ a. ⊥; reads = λ bytes. outside kind bytes }

-- a number below the limit, in as many bytes as the width has, the highest first (network byte order, RFC 1700)
abbrev pub number : Width → ℕ → Format ℕ
number width limit = record {
  spelled = λ n. to_be_bytes width n;
  Fits = λ n. n < limit;
  reads = λ bytes. (taking (byte_len width)).reads bytes >>= λ read. Ok (from_be_bytes width read.0, read.1);
}
