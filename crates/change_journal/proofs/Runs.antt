-- One run of counted calls behind another.
use Rattle.std.proofs.Common.{◌≡◌, ℕ, List, [], ◌∷◌, ◌++◌, refl, sym, ap, subst, append_assoc, ◌∙◌}
use Rattle.outside.specs.Images.{Write}
use Rattle.outside.specs.DiskMeaning.{DiskMeaning}
use Rattle.change_journal.specs.Steps.{Step, Trail, trail_of, made, failed, all_made, IsBehind, MadeAll, MadeUntil, MadeFront}

all_made-append : (steps more : List Step) (trail : Trail) → all_made (steps ++ more) trail ≡ all_made more (all_made steps trail)
all_made-append [] more trail = refl
all_made-append (s ∷ steps) more trail = all_made-append steps more (made s trail)

abbrev trail_with : ℕ → List ℕ → List ℕ → List Write → Trail
trail_with calls seen synced writes = record { calls = calls; seen = seen; synced = synced; writes = writes }

module _ (old mid new : DiskMeaning) (steps : List Step) (all : MadeAll old mid steps) where
  trail_mid : trail_of mid ≡ all_made steps (trail_of old)
  trail_mid =
      let t : Trail = all_made steps (trail_of old) in
      ap (λ (c : ℕ). trail_with c mid.seen mid.synced mid.writes) all.behind.calls
      ∙ ap (λ (s : List ℕ). trail_with t.calls s mid.synced mid.writes) all.seen
      ∙ ap (λ (s : List ℕ). trail_with t.calls t.seen s mid.writes) all.behind.synced
      ∙ ap (λ (w : List Write). trail_with t.calls t.seen t.synced w) all.behind.writes

  behind_both : (more : List Step) → all_made more (trail_of mid) ≡ all_made (steps ++ more) (trail_of old)
  behind_both more = ap (all_made more) trail_mid ∙ sym (all_made-append steps more (trail_of old))

  pub made_on : (more : List Step) → MadeAll mid new more → MadeAll old new (steps ++ more)
  made_on more later = record {
    behind = subst (IsBehind new) (behind_both more) later.behind;
    seen = subst (λ (t : Trail). new.seen ≡ t.seen) (behind_both more) later.seen;
  }

  pub until_on : (more : List Step) → MadeUntil mid new more → MadeUntil old new (steps ++ more)
  until_on more later = record {
    before = steps ++ later.before;
    step = later.step;
    left = later.left;
    steps_are = ap (λ (l : List Step). steps ++ l) later.steps_are ∙ sym (append_assoc steps later.before (later.step ∷ later.left));
    behind = subst (λ (t : Trail). IsBehind new (failed later.step t)) (behind_both later.before) later.behind;
  }

  pub front_on : (more : List Step) → MadeFront mid new more → MadeFront old new (steps ++ more)
  front_on more later = record {
    before = steps ++ later.before;
    left = later.left;
    steps_are = ap (λ (l : List Step). steps ++ l) later.steps_are ∙ sym (append_assoc steps later.before later.left);
    behind = subst (IsBehind new) (behind_both later.before) later.behind;
    seen = subst (λ (t : Trail). new.seen ≡ t.seen) (behind_both later.before) later.seen;
  }
