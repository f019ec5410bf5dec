-- Worked rows of what a stop leaves: a disk of `abcdef`, and a write of `XYZ` at place 1.
use Rattle.std.proofs.Common.{◌≡◌, ◌+◌, ℕ, true, false, List, [], ◌∷◌, refl}
use Rattle.std.specs.Prelude.{codes, ◌++◌}
use Rattle.outside.specs.Images.{Write, is_written, reach, left_by}
use Rattle.outside.specs.declared.modes.Mode.TheVariants.{Lost, Kept, Torn}

abbrev letters : List ℕ
letters = codes "abcdef"

abbrev inside : Write
inside = record { place = 1; bytes = codes "XYZ" }

abbrev past_the_end : Write
past_the_end = record { place = 4; bytes = codes "1234" }

lost : left_by Lost letters (inside ∷ past_the_end ∷ []) ≡ codes "abcdef"
lost = refl

kept : left_by Kept letters (inside ∷ past_the_end ∷ []) ≡ codes "aXYZ1234"
kept = refl

-- of three bytes one was made, of four two
torn_writes : left_by Torn letters (inside ∷ past_the_end ∷ []) ≡ codes "aX" ++ 0xa5 ∷ 0xa5 ∷ [] ++ codes "12" ++ 0xa5 ∷ 0xa5 ∷ []
torn_writes = refl

-- a torn write of one byte makes none
torn_byte : left_by Torn letters (record { place = 0; bytes = codes "Q" } ∷ []) ≡ 0xa5 ∷ codes "bcdef"
torn_byte = refl

-- the later of two writes over one place counts
kept_in_order : left_by Kept letters (record { place = 0; bytes = codes "PQ" } ∷ record { place = 1; bytes = codes "RS" } ∷ []) ≡ codes "PRSdef"
kept_in_order = refl

before_it : is_written (inside ∷ []) 0 ≡ false
before_it = refl

at_its_last : is_written (inside ∷ []) 3 ≡ true
at_its_last = refl

behind_it : is_written (inside ∷ []) 4 ≡ false
behind_it = refl

no_longer_than : reach 6 (inside ∷ past_the_end ∷ []) ≡ 8
no_longer_than = refl
