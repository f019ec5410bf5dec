-- Looking up in what a daemon has open.
use Rattle.std.proofs.Common.{◌≡◌, ℕ, Bool, true, false, cond, not, List, [], ◌∷◌, map, filter, Some, None, refl, sym, ap, ◌∙◌}
use Rattle.std.specs.Map.{lookup}
use Rattle.std.specs.Option.{option_map}
use Rattle.std.specs.Ordering.{nat_cmp}
use Rattle.std.proofs.lemmas.Map.Lookups.{exact_unsigned}
use Rattle.daemon_core.specs.State.{is_number}
use Rattle.daemon_core.proofs.FileLemmas.{is_tied}

-- without the entries of a key, what is found at another is what was found, and at the key nothing
pub lookup_without : {K X : Type 0} (test drops : K → Bool) (es : List (K × X)) (x : X)
    → lookup test (filter (λ e. not (drops e.0)) es) ≡ Some x → ((k : K) → test k ≡ true → drops k ≡ false) → lookup test es ≡ Some x
lookup_without test drops [] x found apart = found
lookup_without {K} {X} test drops (e ∷ es) x found apart =
    by (lookup_without test drops es x) (test e.0) refl (drops e.0) refl found where
      by : (lookup test (filter (λ (f : K × X). not (drops f.0)) es) ≡ Some x → ((k : K) → test k ≡ true → drops k ≡ false) → lookup test es ≡ Some x)
          → (here : Bool) → test e.0 ≡ here → (gone : Bool) → drops e.0 ≡ gone
          → lookup test (cond (not gone) (e ∷ filter (λ (f : K × X). not (drops f.0)) es) (filter (λ (f : K × X). not (drops f.0)) es)) ≡ Some x
          → cond (test e.0) (Some e.1) (lookup test es) ≡ Some x
      by later true here true gone found = let both : true ≡ false = sym gone ∙ apart e.0 here in cc
      by later true here false gone found =
          ap (λ b. cond b (Some e.1) (lookup test es)) here
          ∙ (sym (ap (λ b. cond b (Some e.1) (lookup test (filter (λ (f : K × X). not (drops f.0)) es))) here) ∙ found)
      by later false here true gone found = ap (λ b. cond b (Some e.1) (lookup test es)) here ∙ later found apart
      by later false here false gone found =
          ap (λ b. cond b (Some e.1) (lookup test es)) here
          ∙ later (sym (ap (λ b. cond b (Some e.1) (lookup test (filter (λ (f : K × X). not (drops f.0)) es))) here) ∙ found) apart

pub none_left : {K X : Type 0} (test : K → Bool) (es : List (K × X)) → lookup test (filter (λ e. not (test e.0)) es) ≡ None
none_left test [] = refl
none_left {K} {X} test (e ∷ es) = by (none_left test es) (test e.0) refl where
  by : lookup test (filter (λ (f : K × X). not (test f.0)) es) ≡ None → (b : Bool) → test e.0 ≡ b
      → lookup test (cond (not b) (e ∷ filter (λ (f : K × X). not (test f.0)) es) (filter (λ (f : K × X). not (test f.0)) es)) ≡ None
  by later true is = later
  by later false is = ap (λ b. cond b (Some e.1) (lookup test (filter (λ (f : K × X). not (test f.0)) es))) is ∙ later

-- each entry is changed in a way that its key tells
pub lookup_each : {K X : Type 0} (test : K → Bool) (f : K → X → X) (q : K) → ((k : K) → test k ≡ true → q ≡ k) → (es : List (K × X))
    → lookup test (map (λ e. (e.0, f e.0 e.1)) es) ≡ option_map (f q) (lookup test es)
lookup_each test f q exact [] = refl
lookup_each {K} {X} test f q exact (e ∷ es) = by (lookup_each test f q exact es) (test e.0) refl where
  by : lookup test (map (λ (x : K × X). (x.0, f x.0 x.1)) es) ≡ option_map (f q) (lookup test es) → (b : Bool) → test e.0 ≡ b
      → cond b (Some (f e.0 e.1)) (lookup test (map (λ (x : K × X). (x.0, f x.0 x.1)) es)) ≡ option_map (f q) (cond b (Some e.1) (lookup test es))
  by later true is = ap (λ k. Some (f k e.1)) (sym (exact e.0 is))
  by later false is = later

pub number_same : (n k : ℕ) → is_number n k ≡ true → n ≡ k
number_same n k e = exact_unsigned n k (is_tied (nat_cmp n k) e)
