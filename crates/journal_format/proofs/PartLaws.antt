-- The two parts are lawful where what they are made of is.
use Rattle.std.proofs.Common.{◌≡◌, ℕ, ◌<◌, ◌≤◌, Bool, true, false, ltb, eqb, List, ◌++◌, length, take, drop, Result, Ok, Err, refl, sym, ap, ◌∙◌, append_assoc, arith}
use Rattle.std.specs.List.{flat_map, AllByRecursion}
use Rattle.std.proofs.lemmas.Bool.{ltb-false, le-ltb, eqb-false}
use Rattle.std.proofs.lemmas.Bool.Decides.{nat_tests}
use Rattle.std.proofs.lemmas.List.{take_at, drop_at, take-append-drop, length-append, length-take}
use Rattle.byte_format.specs.declared.faults.Outside.{Outside}
use Rattle.byte_format.specs.Format.{IsBytes, Format, ◌>>=◌}
use Rattle.byte_format.specs.Lists.{to_end}
use Rattle.byte_format.proofs.Lawful.{IsSound, Lawful, bytes_behind, bytes_in_front, shorter_behind, then_sound}
use Rattle.byte_format.proofs.ListLaws.{listed_sound, listed_again}
use Rattle.journal_format.specs.Parts.{encoding_of, some_if, filled_if, filled}

pub encoding_of_lawful : {A : Type 0} (f : Format A) → Lawful f → Lawful (encoding_of f)
encoding_of_lawful f lawful = record {
  sound = λ bytes fits.
      then_sound f (encoding_of f) bytes bytes (f.reads bytes) (λ read. Ok (f.spelled read.0, read.1)) (omega arith) (lawful.sound bytes fits)
      (λ read fit is. ((read.0, record { fits = fit; spelling = refl }), is));
  again = λ encoding rest fits.
      let is : encoding ≡ f.spelled fits.0 = fits.1.spelling in
      let read : f.reads (encoding ++ rest) ≡ Ok (fits.0, rest) = ap (λ (e : List ℕ). f.reads (e ++ rest)) is ∙ lawful.again fits.0 rest fits.1.fits in
      rw read (ap (λ (e : List ℕ). Ok (e, rest)) (sym is));
}

-- ---- a box that values fill

-- what was read up to the end of the box
abbrev AreValues : {A : Type 0} → Format A → List ℕ → Result (List A) Outside → Type 0
AreValues f bytes (Ok xs) = AllByRecursion f.Fits xs × (bytes ≡ flat_map f.spelled xs)
AreValues f bytes (Err fault) = fault.left ≤ length bytes

module _ {A : Type 0} (count : Format ℕ) (f : Format A) (bytes : List ℕ) (size : ℕ × List ℕ) (fits : count.Fits size.0) (is : bytes ≡ count.spelled size.0 ++ size.1)
    (long : size.0 ≤ length size.1) where
  some_sound : (values : List A) → AllByRecursion f.Fits values → take size.0 size.1 ≡ flat_map f.spelled values → (b : Bool) → eqb (length values) 0 ≡ b
      → IsSound (filled count f) bytes (some_if b bytes (drop size.0 size.1) values)
  some_sound values each inside true none = omega arith
  some_sound values each inside false some =
      let len : size.0 ≡ length (flat_map f.spelled values) = omega (arith, length-take size.0 size.1, ap length inside) in
      let whole : size.1 ≡ flat_map f.spelled values ++ drop size.0 size.1 =
      sym (take-append-drop size.0 size.1) ∙ ap (λ (front : List ℕ). front ++ drop size.0 size.1) inside in
      let filled_up : bytes ≡ (count.spelled (length (flat_map f.spelled values)) ++ flat_map f.spelled values) ++ drop size.0 size.1 =
      is ∙ ap (λ (rest : List ℕ). count.spelled size.0 ++ rest) whole
      ∙ ap (λ (k : ℕ). count.spelled k ++ (flat_map f.spelled values ++ drop size.0 size.1)) len
      ∙ sym (append_assoc (count.spelled (length (flat_map f.spelled values))) (flat_map f.spelled values) (drop size.0 size.1)) in
      ((rw (← len) fits, each, omega (arith, eqb-false _ _ some)), filled_up)

  full_sound : (reading : Result (List A) Outside) → AreValues f (take size.0 size.1) reading
      → IsSound (filled count f) bytes (reading >>= λ values. some_if (eqb (length values) 0) bytes (drop size.0 size.1) values)
  full_sound (Ok values) listed = some_sound values listed.0 listed.1 (eqb (length values) 0) refl
  full_sound (Err fault) within = omega (arith, within, length-take size.0 size.1, shorter_behind (count.spelled size.0) size.1 bytes is)

box_sound : {A : Type 0} (count : Format ℕ) (f : Format A) → Lawful f → (bytes : List ℕ) → IsBytes bytes → (size : ℕ × List ℕ) → count.Fits size.0
    → bytes ≡ count.spelled size.0 ++ size.1 → (b : Bool) → ltb (length size.1) size.0 ≡ b → IsSound (filled count f) bytes (filled_if b f bytes size)
box_sound count f lawful bytes bytes_fit size fits is true short = omega arith
box_sound count f lawful bytes bytes_fit size fits is false enough =
    full_sound count f bytes size fits is (ltb-false _ _ enough) (to_end f (take size.0 size.1))
    (listed_sound f lawful (length (take size.0 size.1)) (take size.0 size.1)
    (bytes_in_front size.0 size.1 (bytes_behind (count.spelled size.0) size.1 bytes is bytes_fit)))

pub filled_lawful : {A : Type 0} (count : Format ℕ) (f : Format A) → Lawful count → Lawful f → ((a : A) → f.Fits a → 0 < length (f.spelled a))
    → Lawful (filled count f)
filled_lawful count f count_lawful lawful some = record {
  sound = λ bytes fits.
      then_sound count (filled count f) bytes bytes (count.reads bytes) (λ size. filled_if (ltb (length size.1) size.0) f bytes size) (omega arith) (count_lawful.sound bytes fits)
      (λ size fit is. box_sound count f lawful bytes fits size fit is (ltb (length size.1) size.0) refl);
  again = λ values rest fits.
      let inside = flat_map f.spelled values in
      let enough : ltb (length (inside ++ rest)) (length inside) ≡ false = le-ltb _ _ (omega (arith, length-append inside rest)) in
      let more : eqb (length values) 0 ≡ false = grind (arith, nat_tests, fits.2) in
      let grouped : (count.spelled (length inside) ++ inside) ++ rest ≡ count.spelled (length inside) ++ (inside ++ rest) = append_assoc (count.spelled (length inside)) inside rest in
      ap (filled count f).reads grouped
      ∙ rw (
        count_lawful.again (length inside) (inside ++ rest) fits.0,
        enough,
        take_at inside rest (length inside) refl,
        drop_at inside rest (length inside) refl,
        listed_again f lawful some (length inside) values fits.1 (omega arith),
        more,
      ) refl;
}
