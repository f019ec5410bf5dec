-- The search for the first space outside quotes, byte by byte.
use Rattle.std.proofs.Common.{◌≡◌, ℕ, suc, ◌+◌, ◌<◌, Bool, true, false, List, [], ◌∷◌, ◌++◌, length, drop}
use Rattle.std.proofs.Common.{get_or, Option, Some, None, refl, sym, ap, ◌∙◌, arith, fold, append_assoc, eqb-true, subst, inl, inr}
use Rattle.std.specs.Prelude.{option_map, not, ◌==◌, ◌&&◌}
use Rattle.std.proofs.lemmas.Bool.{cases_Bool, and_parts, false≢true}
use Rattle.std.proofs.lemmas.Bool.Decides.{nat_tests}
use Rattle.std.specs.List.{list_all}
use Rattle.std.proofs.lemmas.List.{take_at, drop_at, length_push}
use Rattle.std.proofs.lemmas.List.Sums.{fold-append}
use Rattle.replay_script.specs.Cut.{Parts, cut, cut_at, space_place, quoting_behind, ends_argument}
use Rattle.replay_script.specs.declared.cuts.Quoting.{Quoting}
use Rattle.replay_script.specs.declared.cuts.Quoting.TheVariants.{Outside, Inside, Escaped}

-- the search past bytes of which none ends an argument
pub record Passes (before : Quoting) (bytes : List ℕ) (behind : Quoting) : Type 0 where
  pub no_end : space_place before bytes ≡ None
  pub quoting : fold quoting_behind before bytes ≡ behind

none_mapped : (o : Option ℕ) → option_map suc o ≡ None → o ≡ None
none_mapped None none = refl
none_mapped (Some place) none = cc

-- the first byte ends no argument, and the rest is passed too
passes_rest : (quoting behind : Quoting) (b : ℕ) (bytes : List ℕ) → Passes quoting (b ∷ bytes) behind → (ends_argument quoting b ≡ false) × Passes (quoting_behind quoting b) bytes behind
passes_rest quoting behind b bytes passes =
    elim (cases_Bool (ends_argument quoting b)) [
      | inl holds ↦ let none : Some 0 ≡ None = rw holds at passes.no_end in absurd (cc)
      | inr fails ↦
          let rest : option_map suc (space_place (quoting_behind quoting b) bytes) ≡ None = rw fails at passes.no_end in
          (fails, record { no_end = none_mapped _ rest; quoting = passes.quoting })
    ]

zero_added : (o : Option ℕ) → option_map (λ place. 0 + place) o ≡ o
zero_added None = refl
zero_added (Some place) = let same : 0 + place ≡ place = omega arith in ap Some same

place_pushed : (n : ℕ) (o : Option ℕ) → option_map suc (option_map (λ place. n + place) o) ≡ option_map (λ place. suc n + place) o
place_pushed n None = refl
place_pushed n (Some place) = let same : suc (n + place) ≡ suc n + place = omega arith in ap Some same

pub space_place-append : (quoting behind : Quoting) (xs ys : List ℕ) → Passes quoting xs behind → space_place quoting (xs ++ ys) ≡ option_map (λ place. length xs + place) (space_place behind ys)
space_place-append quoting behind [] ys passes =
    ap (λ q. space_place q ys) passes.quoting ∙ sym (zero_added (space_place behind ys))
space_place-append quoting behind (x ∷ xs) ys passes =
    let parts = passes_rest quoting behind x xs passes in
    rw parts.0 (ap (option_map suc) (space_place-append (quoting_behind quoting x) behind xs ys parts.1) ∙ place_pushed (length xs) (space_place behind ys))

pub passes-append : (before between behind : Quoting) (xs ys : List ℕ) → Passes before xs between → Passes between ys behind → Passes before (xs ++ ys) behind
passes-append before between behind xs ys first second =
    record {
      no_end = space_place-append before between xs ys first ∙ ap (option_map (λ place. length xs + place)) second.no_end;
      quoting = fold-append quoting_behind before xs ys ∙ ap (λ q. fold quoting_behind q ys) first.quoting ∙ second.quoting;
    }

pub drop_behind : (xs : List ℕ) (x : ℕ) (ys : List ℕ) → drop (length xs + 1) (xs ++ x ∷ ys) ≡ ys
drop_behind xs x ys =
    ap (λ t. drop (length xs + 1) t) (sym (append_assoc xs (x ∷ []) ys)) ∙ drop_at (xs ++ x ∷ []) ys (length xs + 1) (length_push xs x)

-- an argument that the search passes ends at the space behind it
pub cut-argument : (argument rest : List ℕ) → Passes Outside argument Outside → cut (argument ++ 32 ∷ rest) ≡ Some (record { argument = argument; rest = rest })
cut-argument argument rest passes =
    let found = space_place-append Outside Outside argument (32 ∷ rest) passes in
    let here : length argument + 0 ≡ length argument = omega arith in
    let front = take_at argument (32 ∷ rest) (length argument) refl in
    let back : drop (length argument + 1) (argument ++ 32 ∷ rest) ≡ rest = drop_behind argument 32 rest in
    ap (option_map (cut_at (argument ++ 32 ∷ rest))) (found ∙ ap Some here)
    ∙ ap (λ a. let parts : Parts = record { argument = a; rest = drop (length argument + 1) (argument ++ 32 ∷ rest) } in Some parts) front
    ∙ ap (λ r. let parts : Parts = record { argument = argument; rest = r } in Some parts) back

-- what an argument without quotes has: no quotes and no spaces
abbrev pub is_unquoted : ℕ → Bool
is_unquoted b = not (b == 34) && not (b == 32)

pub unquoted_parts : (b : ℕ) → is_unquoted b ≡ true → ((b == 34) ≡ false) × ((b == 32) ≡ false)
unquoted_parts b holds = (grind (arith, nat_tests), grind (arith, nat_tests))

pub unquoted_passes : (bytes : List ℕ) → list_all is_unquoted bytes ≡ true → Passes Outside bytes Outside
unquoted_passes [] all = record { no_end = refl; quoting = refl }
unquoted_passes (b ∷ bytes) all =
    let here = and_parts (is_unquoted b) (list_all is_unquoted bytes) all in
    let tests = unquoted_parts b here.0 in
    let rest = unquoted_passes bytes here.1 in
    record {
      no_end = rw (tests.1, tests.0) (ap (option_map suc) rest.no_end);
      quoting = rw tests.0 rest.quoting;
    }

pushed_some : (o : Option ℕ) (i : ℕ) → option_map suc o ≡ Some i → (k : ℕ) × ((o ≡ Some k) × (i ≡ suc k))
pushed_some None i found = cc
pushed_some (Some k) i found = (k, (refl, cc))

space_ends : (quoting : Quoting) (b : ℕ) → ends_argument quoting b ≡ true → b ≡ 32
space_ends Outside b test = eqb-true b 32 test
space_ends Inside b test = absurd (false≢true test)
space_ends Escaped b test = absurd (false≢true test)

-- at the place that the search finds, there is a space
pub found_space : (quoting : Quoting) (text : List ℕ) (i : ℕ) → space_place quoting text ≡ Some i → (i < length text) × (get_or text i 0 ≡ 32)
found_space quoting [] i found = cc
found_space quoting (b ∷ text) i found =
    elim (cases_Bool (ends_argument quoting b)) [
      | inl ends ↦
          let zero_is : Some 0 ≡ Some i = rw ends at found in
          let first : 0 ≡ i = cc in
          subst (λ k. (k < length (b ∷ text)) × (get_or (b ∷ text) k 0 ≡ 32)) first (omega arith, space_ends quoting b ends)
      | inr goes_on ↦
          let further = pushed_some (space_place (quoting_behind quoting b) text) i (rw goes_on at found) in
          let rest = found_space (quoting_behind quoting b) text further.0 further.1.0 in
          subst (λ k. (k < length (b ∷ text)) × (get_or (b ∷ text) k 0 ≡ 32)) (sym further.1.1) (omega (arith, rest.0), rest.1)
    ]
