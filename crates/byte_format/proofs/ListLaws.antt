-- Formats of lists are lawful.
use Rattle.std.proofs.Common.{◌≡◌, ℕ, zero, suc, ◌+◌, ◌≤◌, ◌<◌, Bool, List, [], ◌∷◌, ◌++◌, length, Result, Ok, Err, refl, sym, ap, ◌∙◌, arith}
use Rattle.std.specs.List.{flat_map, AllByRecursion}
use Rattle.std.proofs.lemmas.List.{length-append}
use Rattle.std.proofs.lemmas.List.Concat.{flat_map-cons}
use Rattle.byte_format.specs.Format.{Kind, Outside, IsBytes, Format, ◌>>=◌}
use Rattle.byte_format.specs.Fields.{taking}
use Rattle.byte_format.specs.Parts.{depends, checked}
use Rattle.byte_format.specs.Lists.{counted, sized, first_and_rest, chain, up_to}
use Rattle.byte_format.proofs.Lawful.{IsSound, Lawful, bytes_behind, shorter_behind}
use Rattle.byte_format.proofs.FieldLaws.{taking_lawful, constant_lawful}
use Rattle.byte_format.proofs.PartLaws.{depends_lawful, seen_as_lawful, checked_lawful}

pub counted_lawful : {A : Type 0} (count : Format ℕ) (g : ℕ → Format (List A)) → Lawful count → ((n : ℕ) → Lawful (g n))
    → ((n : ℕ) (xs : List A) → (g n).Fits xs → length xs ≡ n) → Lawful (counted count g)
counted_lawful count g count_lawful g_lawful long =
    seen_as_lawful (λ x. x.1) (λ xs. (length xs, xs)) (depends count g) (depends_lawful count g count_lawful g_lawful) (λ x fits. ap (λ (n : ℕ). (n, x.1)) (long x.0 x.1 fits.1))

pub sized_lawful : (count : Format ℕ) (test : List ℕ → Bool) (kind : Kind) → Lawful count → Lawful (sized count test kind)
sized_lawful count test kind count_lawful =
    counted_lawful count (λ n. checked test kind (taking n)) count_lawful (λ n. checked_lawful test kind (taking n) (taking_lawful n)) (λ n bytes fits. fits.0.0)

pub chain_lawful : {A S : Type 0} (any : A) (one : S → Format A) (next : S → A → S) → ((s : S) → Lawful (one s)) → (n : ℕ) (s : S) → Lawful (chain any one next s n)
chain_lawful any one next lawful zero s = constant_lawful []
chain_lawful any one next lawful (suc n) s =
    let behind = λ (x : _). chain any one next (next s x) n in
    seen_as_lawful (λ x. x.0 ∷ x.1) (first_and_rest any) (depends (one s) behind)
    (depends_lawful (one s) behind (lawful s) (λ x. chain_lawful any one next lawful n (next s x))) (λ x fits. refl)

-- a chain of n values has n values
pub chain_long : {A S : Type 0} (any : A) (one : S → Format A) (next : S → A → S) (n : ℕ) (s : S) (xs : List A) → (chain any one next s n).Fits xs → length xs ≡ n
chain_long any one next zero s xs fits = rw (← fits) refl
chain_long any one next (suc n) s [] fits = absurd cc
chain_long any one next (suc n) s (x ∷ xs) fits = ap suc (chain_long any one next n (next s x) xs fits.0.1)

-- a chain is spelled one value behind the other
pub chain_spelled : {A S : Type 0} (any : A) (one : S → Format A) (next : S → A → S) (spell : A → List ℕ) → ((s : S) (x : A) → (one s).spelled x ≡ spell x)
    → (xs : List A) (s : S) → (chain any one next s (length xs)).spelled xs ≡ flat_map spell xs
chain_spelled any one next spell same [] s = refl
chain_spelled any one next spell same (x ∷ xs) s =
    ap (λ (front : List ℕ). front ++ (chain any one next (next s x) (length xs)).spelled xs) (same s x)
    ∙ ap (λ (rest : List ℕ). spell x ++ rest) (chain_spelled any one next spell same xs (next s x)) ∙ sym (flat_map-cons spell x xs)

-- what each value of a chain is, whatever the state before it
pub chain_each : {A S : Type 0} (any : A) (one : S → Format A) (next : S → A → S) (P : A → Type 0) → ((s : S) (x : A) → (one s).Fits x → P x)
    → (n : ℕ) (xs : List A) (s : S) → (chain any one next s n).Fits xs → AllByRecursion P xs
chain_each any one next P each zero xs s fits = rw (← fits) tt
chain_each any one next P each (suc n) [] s fits = absurd cc
chain_each any one next P each (suc n) (x ∷ xs) s fits = (each s x fits.0.0, chain_each any one next P each n xs (next s x) fits.0.1)

-- values of which each is of the format are a chain of it
pub many_fits : {A : Type 0} (any : A) (f : Format A) (xs : List A) → AllByRecursion f.Fits xs → (chain any (λ (s : ℕ). f) (λ s x. s) 0 (length xs)).Fits xs
many_fits any f [] each = refl
many_fits any f (x ∷ xs) each = ((each.0, many_fits any f xs each.1), refl)

-- ---- values up to the end of the bytes

abbrev values : {A : Type 0} → List A → Result (List A) Outside
values xs = Ok xs

abbrev with_first : {A : Type 0} → A → List A → Result (List A) Outside
with_first a xs = values (a ∷ xs)

abbrev IsListed : {A : Type 0} → Format A → List ℕ → Result (List A) Outside → Type 0
IsListed f bytes (Ok xs) = AllByRecursion f.Fits xs × (bytes ≡ flat_map f.spelled xs)
IsListed f bytes (Err fault) = fault.left ≤ length bytes

listed_behind : {A : Type 0} (f : Format A) (bytes : List ℕ) (a : A × List ℕ) → f.Fits a.0 → bytes ≡ f.spelled a.0 ++ a.1
    → (reading : Result (List A) Outside) → IsListed f a.1 reading → IsListed f bytes (reading >>= with_first a.0)
listed_behind f bytes a fits is (Ok xs) rest = ((fits, rest.0), is ∙ ap (λ (l : List ℕ). f.spelled a.0 ++ l) rest.1 ∙ sym (flat_map-cons f.spelled a.0 xs))
listed_behind f bytes a fits is (Err fault) within = omega (arith, within, shorter_behind (f.spelled a.0) a.1 bytes is)

listed_from : {A : Type 0} (f : Format A) (fuel : ℕ) (bytes : List ℕ) → IsBytes bytes → (reading : Result (A × List ℕ) Outside) → IsSound f bytes reading
    → ((rest : List ℕ) → IsBytes rest → IsListed f rest (up_to f fuel rest)) → IsListed f bytes (reading >>= λ a. up_to f fuel a.1 >>= λ xs. Ok (a.0 ∷ xs))
listed_from f fuel bytes fits (Ok a) sound on =
    listed_behind f bytes a sound.0 sound.1 (up_to f fuel a.1) (on a.1 (bytes_behind (f.spelled a.0) a.1 bytes sound.1 fits))
listed_from f fuel bytes fits (Err fault) sound on = sound

-- what is read up to the end is spelled by all of the bytes, or the fault lies within them
pub listed_sound : {A : Type 0} (f : Format A) → Lawful f → (fuel : ℕ) (bytes : List ℕ) → IsBytes bytes → IsListed f bytes (up_to f fuel bytes)
listed_sound f lawful fuel [] fits = (tt, refl)
listed_sound f lawful zero (b ∷ bytes) fits = omega arith
listed_sound f lawful (suc fuel) (b ∷ bytes) fits =
    listed_from f fuel (b ∷ bytes) fits (f.reads (b ∷ bytes)) (lawful.sound (b ∷ bytes) fits) (λ rest more. listed_sound f lawful fuel rest more)

listed_step : {A : Type 0} (f : Format A) (fuel : ℕ) (bytes : List ℕ) → 0 < length bytes
    → up_to f (suc fuel) bytes ≡ (f.reads bytes >>= λ a. up_to f fuel a.1 >>= with_first a.0)
listed_step f fuel [] some = absurd (omega (arith, some))
listed_step f fuel (b ∷ bytes) some = refl

-- what is spelled one behind the other is read up to the end, where no value is spelled by nothing
pub listed_again : {A : Type 0} (f : Format A) → Lawful f → ((a : A) → f.Fits a → 0 < length (f.spelled a)) → (fuel : ℕ) (xs : List A) → AllByRecursion f.Fits xs
    → length (flat_map f.spelled xs) ≤ fuel → up_to f fuel (flat_map f.spelled xs) ≡ Ok xs
listed_again f lawful some fuel [] fits short = refl
listed_again f lawful some zero (x ∷ xs) fits short =
    absurd (omega (arith, short, some x fits.0, ap length (flat_map-cons f.spelled x xs), length-append (f.spelled x) (flat_map f.spelled xs)))
listed_again f lawful some (suc fuel) (x ∷ xs) fits short =
    let rest = flat_map f.spelled xs in
    let is : flat_map f.spelled (x ∷ xs) ≡ f.spelled x ++ rest = flat_map-cons f.spelled x xs in
    let parts : length (f.spelled x ++ rest) ≡ length (f.spelled x) + length rest = length-append (f.spelled x) rest in
    ap (up_to f (suc fuel)) is ∙ listed_step f fuel (f.spelled x ++ rest) (omega (arith, some x fits.0, parts))
    ∙ ap (λ reading. reading >>= λ a. up_to f fuel a.1 >>= with_first a.0) (lawful.again x rest fits.0)
    ∙ ap (λ reading. reading >>= with_first x) (listed_again f lawful some fuel xs fits.1 (omega (arith, short, some x fits.0, ap length is, parts)))
