-- Two more parts that formats are made of: bytes that encode some value, and a box that values fill.
use Rattle.std.specs.Prelude.{ℕ, ◌<◌, ◌==◌, Bool, true, false, List, ◌++◌, length, take, drop, Result, Ok, nat_lt}
use Rattle.std.specs.List.{flat_map, AllByRecursion}
use Rattle.byte_format.specs.declared.faults.Kind.TheVariants.{Short, Zero}
use Rattle.byte_format.specs.declared.faults.Outside.{Outside}
use Rattle.byte_format.specs.Format.{Format, outside, ◌>>=◌, IsEncoding}
use Rattle.byte_format.specs.Lists.{to_end}

-- the bytes that encode some value, kept as they stand
abbrev pub encoding_of : {A : Type 0} → Format A → Format (List ℕ)
encoding_of {A} f = record {
  spelled = λ encoding. encoding;
  Fits = λ encoding. (value : A) × IsEncoding f encoding value;
  reads = λ bytes. f.reads bytes >>= λ read. Ok (f.spelled read.0, read.1);
}

-- where nothing was in the box, its length is outside the format
abbrev pub some_if : {A : Type 0} → Bool → List ℕ → List ℕ → List A → Result (List A × List ℕ) Outside
some_if true bytes behind values = outside Zero bytes
some_if false bytes behind values = Ok (values, behind)

-- a length that runs past the end is itself outside the format; the values fill the box
abbrev pub filled_if : {A : Type 0} → Bool → Format A → List ℕ → ℕ × List ℕ → Result (List A × List ℕ) Outside
filled_if true f bytes size = outside Short bytes
filled_if false f bytes size =
    to_end f (take size.0 size.1) >>= λ values. some_if (length values == 0) bytes (drop size.0 size.1) values

-- a length, and then so many bytes, which are values one behind the other and nothing else, at least one
abbrev pub filled : {A : Type 0} → Format ℕ → Format A → Format (List A)
filled count f = record {
  spelled = λ values. count.spelled (length (flat_map f.spelled values)) ++ flat_map f.spelled values;
  Fits = λ values. count.Fits (length (flat_map f.spelled values)) × AllByRecursion f.Fits values × (0 < length values);
  reads = λ bytes. count.reads bytes >>= λ size. filled_if (nat_lt (length size.1) size.0) f bytes size;
}
