use Rattle.std.proofs.Common.{◌≡◌, ℕ, ◌==◌, false, List, [], ◌∷◌, None, ◌≢◌, length, refl, sym, ap, ◌∙◌, lit<, inl, inr, eqb-true}
use Rattle.std.proofs.lemmas.Bool.{cases_Bool, false≢true}
use Rattle.std.proofs.lemmas.Str.Pattern.{strip_prefix_char}
use Rattle.replay_script.specs.Quotes.{times_of}
use Rattle.replay_script.proofs.quotes.read_times.Goals as goal

-- what does not begin with a star says no number of times
no_star : (len : ℕ) (behind : List ℕ) → (length behind == 0) ≡ false → ((rest : List ℕ) → behind ≢ 42 ∷ rest) → times_of len behind ≡ None
no_star len [] some other = absurd (false≢true (sym some))
no_star len (b ∷ behind) some other =
    elim (cases_Bool (b == 42)) [
      | inl star ↦ absurd (other behind (ap (λ c. c ∷ behind) (eqb-true b 42 star)))
      | inr differs ↦ rw differs refl
    ]

pub returns-in_err-strip_prefix : goal.returns-in_err-strip_prefix
returns-in_err-strip_prefix c =
    let other = strip_prefix_char 42 c.args.behind.now None c.in_err-strip_prefix.ensures.cases (lit< tt) in
    c.from_residual.ensures ∙ sym (no_star c.args.len c.args.behind.now (sym c.is_empty.ensures ∙ c.if-is_empty.false) other)
