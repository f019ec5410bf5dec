-- Formats that are made of lawful ones are lawful.
use Rattle.std.proofs.Common.{◌≡◌, ℕ, ◌+◌, ◌≤◌, Bool, true, false, ltb, List, ◌++◌, length, take, drop, Result, Ok, Err, refl, sym, ap, subst, ◌∙◌, append_assoc, arith}
use Rattle.std.specs.Str.{bytes_eq}
use Rattle.std.proofs.lemmas.Bool.{ltb-false, le-ltb}
use Rattle.std.proofs.lemmas.List.{take_at, drop_at, take-append-drop, length-append, length-take}
use Rattle.std.proofs.lemmas.Slice.Eq.{bytes_eq-Decides}
use Rattle.byte_format.specs.Format.{Kind, Outside, IsBytes, Format, ◌>>=◌, whole}
use Rattle.byte_format.specs.Fields.{taking}
use Rattle.byte_format.specs.Parts.{depends, pair, seen_as, checked_if, checked, marked, tagged, within_box, boxed_if, boxed}
use Rattle.byte_format.proofs.Lawful.{IsSound, Lawful, bytes_behind, bytes_in_front, shorter_behind, then_sound, IsWhollySound, wholly_sound, wholly_again}
use Rattle.byte_format.proofs.FieldLaws.{taking_lawful}

pub depends_lawful : {A B : Type 0} (f : Format A) (g : A → Format B) → Lawful f → ((a : A) → Lawful (g a)) → Lawful (depends f g)
depends_lawful f g f_lawful g_lawful = record {
  sound = λ bytes fits.
      then_sound f (depends f g) bytes bytes (f.reads bytes) (λ a. (g a.0).reads a.1 >>= λ b. Ok ((a.0, b.0), b.1)) (omega arith) (f_lawful.sound bytes fits)
      (λ a first is.
      then_sound (g a.0) (depends f g) a.1 bytes ((g a.0).reads a.1) (λ b. Ok ((a.0, b.0), b.1)) (shorter_behind (f.spelled a.0) a.1 bytes is)
      ((g_lawful a.0).sound a.1 (bytes_behind (f.spelled a.0) a.1 bytes is fits))
      (λ b second more.
      ((first, second), is ∙ ap (λ rest. f.spelled a.0 ++ rest) more ∙ sym (append_assoc (f.spelled a.0) ((g a.0).spelled b.0) b.1))));
  again = λ x rest fits.
      ap (depends f g).reads (append_assoc (f.spelled x.0) ((g x.0).spelled x.1) rest)
      ∙ rw (f_lawful.again x.0 ((g x.0).spelled x.1 ++ rest) fits.0, (g_lawful x.0).again x.1 rest fits.1) refl;
}

pub pair_lawful : {A B : Type 0} (f : Format A) (g : Format B) → Lawful f → Lawful g → Lawful (pair f g)
pair_lawful f g f_lawful g_lawful = depends_lawful f (λ a. g) f_lawful (λ a. g_lawful)

pub seen_as_lawful : {A B : Type 0} (to : A → B) (from : B → A) (f : Format A) → Lawful f → ((a : A) → f.Fits a → from (to a) ≡ a) → Lawful (seen_as to from f)
seen_as_lawful to from f lawful back = record {
  sound = λ bytes fits.
      then_sound f (seen_as to from f) bytes bytes (f.reads bytes) (λ a. Ok (to a.0, a.1)) (omega arith) (lawful.sound bytes fits)
      (λ a fit is.
      let same = back a.0 fit in
      ((subst f.Fits (sym same) fit, ap to same), is ∙ ap (λ b. f.spelled b ++ a.1) (sym same)));
  again = λ b rest fits. rw (lawful.again (from b) rest fits.0) (ap (λ c. Ok (c, rest)) fits.1);
}

checked_sound : {A : Type 0} (test : A → Bool) (kind : Kind) (f : Format A) (bytes : List ℕ) (read : A × List ℕ) → f.Fits read.0
    → bytes ≡ f.spelled read.0 ++ read.1 → (b : Bool) → test read.0 ≡ b → IsSound (checked test kind f) bytes (checked_if b kind bytes read)
checked_sound test kind f bytes read fits is true passed = ((fits, passed), is)
checked_sound test kind f bytes read fits is false failed = omega arith

pub checked_lawful : {A : Type 0} (test : A → Bool) (kind : Kind) (f : Format A) → Lawful f → Lawful (checked test kind f)
checked_lawful test kind f lawful = record {
  sound = λ bytes fits.
      then_sound f (checked test kind f) bytes bytes (f.reads bytes) (λ a. checked_if (test a.0) kind bytes a) (omega arith) (lawful.sound bytes fits)
      (λ a fit is. checked_sound test kind f bytes a fit is (test a.0) refl);
  again = λ a rest fits. rw (lawful.again a rest fits.0, fits.1) refl;
}

pub marked_lawful : {A : Type 0} (mark : List ℕ) (kind : Kind) (f : Format A) → Lawful f → Lawful (marked mark kind f)
marked_lawful mark kind f lawful =
    let first = checked (λ m. bytes_eq m mark) kind (taking (length mark)) in
    seen_as_lawful (λ x. x.1) (λ a. (mark, a)) (pair first f)
    (pair_lawful first f (checked_lawful (λ m. bytes_eq m mark) kind (taking (length mark)) (taking_lawful (length mark))) lawful)
    (λ x fits. ap (λ (m : List ℕ). (m, x.1)) (sym ((bytes_eq-Decides x.0 mark).0 fits.0.1)))

pub tagged_lawful : {A : Type 0} (tag : A → ℕ) (f : Format ℕ) (g : ℕ → Format A) → Lawful f → ((b : ℕ) → Lawful (g b))
    → ((b : ℕ) (a : A) → (g b).Fits a → tag a ≡ b) → Lawful (tagged tag f g)
tagged_lawful tag f g f_lawful g_lawful selects =
    seen_as_lawful (λ x. x.1) (λ a. (tag a, a)) (depends f g) (depends_lawful f g f_lawful g_lawful) (λ x fits. ap (λ (b : ℕ). (b, x.1)) (selects x.0 x.1 fits.1))

-- ---- a value in a box of its length

box_sound : {A : Type 0} (count : Format ℕ) (f : Format A) (bytes : List ℕ) (n : ℕ × List ℕ) → count.Fits n.0 → bytes ≡ count.spelled n.0 ++ n.1 → n.0 ≤ length n.1
    → (reading : Result A Outside) → IsWhollySound f (take n.0 n.1) reading → IsSound (boxed count f) bytes (within_box (drop n.0 n.1) reading)
box_sound count f bytes n fits is long (Ok a) encoding =
    let len : length (f.spelled a) ≡ n.0 = rw (← encoding.spelling) (omega (arith, length-take n.0 n.1)) in
    let inside : n.1 ≡ f.spelled a ++ drop n.0 n.1 = sym (take-append-drop n.0 n.1) ∙ ap (λ (front : List ℕ). front ++ drop n.0 n.1) encoding.spelling in (
      (subst count.Fits (sym len) fits, encoding.fits),
      is ∙ ap (λ (rest : List ℕ). count.spelled n.0 ++ rest) inside ∙ ap (λ (k : ℕ). count.spelled k ++ (f.spelled a ++ drop n.0 n.1)) (sym len)
          ∙ sym (append_assoc (count.spelled (length (f.spelled a))) (f.spelled a) (drop n.0 n.1)),
    )
box_sound count f bytes n fits is long (Err fault) within =
    let parts : length (take n.0 n.1) + length (drop n.0 n.1) ≡ length n.1 =
    sym (length-append (take n.0 n.1) (drop n.0 n.1)) ∙ ap length (take-append-drop n.0 n.1) in
    omega (arith, within, parts, shorter_behind (count.spelled n.0) n.1 bytes is)

boxed_sound : {A : Type 0} (count : Format ℕ) (f : Format A) → Lawful f → (bytes : List ℕ) → IsBytes bytes → (n : ℕ × List ℕ) → count.Fits n.0
    → bytes ≡ count.spelled n.0 ++ n.1 → (b : Bool) → ltb (length n.1) n.0 ≡ b → IsSound (boxed count f) bytes (boxed_if b bytes f n)
boxed_sound count f lawful bytes bytes_fit n fits is true short = omega arith
boxed_sound count f lawful bytes bytes_fit n fits is false enough =
    box_sound count f bytes n fits is (ltb-false _ _ enough) (whole f (take n.0 n.1))
    (wholly_sound f lawful (take n.0 n.1) (bytes_in_front n.0 n.1 (bytes_behind (count.spelled n.0) n.1 bytes is bytes_fit)))

pub boxed_lawful : {A : Type 0} (count : Format ℕ) (f : Format A) → Lawful count → Lawful f → Lawful (boxed count f)
boxed_lawful count f count_lawful lawful = record {
  sound = λ bytes fits.
      then_sound count (boxed count f) bytes bytes (count.reads bytes) (λ n. boxed_if (ltb (length n.1) n.0) bytes f n) (omega arith) (count_lawful.sound bytes fits)
      (λ n fit is. boxed_sound count f lawful bytes fits n fit is (ltb (length n.1) n.0) refl);
  again = λ a rest fits.
      let inside = f.spelled a in
      let enough : ltb (length (inside ++ rest)) (length inside) ≡ false = le-ltb _ _ (omega (arith, length-append inside rest)) in
      ap (boxed count f).reads (append_assoc (count.spelled (length inside)) inside rest)
      ∙ rw (
        count_lawful.again (length inside) (inside ++ rest) fits.0,
        enough,
        take_at inside rest (length inside) refl,
        drop_at inside rest (length inside) refl,
        wholly_again f lawful inside a (record { fits = fits.1; spelling = refl }),
      ) refl;
}
