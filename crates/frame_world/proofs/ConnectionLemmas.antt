-- Connections begin and end beside that of an editor.
use Rattle.std.proofs.Common.{◌≡◌, ℕ, Bool, true, false, cond, not, List, [], ◌∷◌, filter, inl, inr, refl, sym, ap, ◌∙◌}
use Rattle.std.specs.declared.cmp.Ordering.{Ordering}
use Rattle.std.specs.declared.cmp.Ordering.TheVariants.{Less, Equal, Greater}
use Rattle.std.specs.BTreeMap.{insert_entry}
use Rattle.std.specs.Option.{option_map}
use Rattle.std.specs.Ordering.{nat_cmp, is_eq, match_ordering}
use Rattle.daemon_core.specs.State.{Links, State, is_number}
use Rattle.daemon_core.proofs.MapLemmas.{number_same}
use Rattle.bridge_world.specs.Counted as N
use Rattle.frame_world.specs.Serving.{link_held, HasNone, HasOnce, Connections}
use Rattle.frame_world.proofs.SentLemmas.{number_itself}

-- another number is put among these
none_put : (k n : ℕ) (new : Links) (cs : List (ℕ × Links)) → is_number k n ≡ false → HasNone k cs → HasNone k (insert_entry nat_cmp cs n new)
none_put k n new [] apart none = (apart, tt)
none_put k n new (c ∷ cs) apart none = by (none_put k n new cs apart none.1) (nat_cmp n c.0) where
  by : HasNone k (insert_entry nat_cmp cs n new) → (r : Ordering) → HasNone k (match_ordering r ((n, new) ∷ c ∷ cs) ((c.0, new) ∷ cs) (c ∷ insert_entry nat_cmp cs n new))
  by later Less = (apart, none)
  by later Equal = (none.0, none.1)
  by later Greater = (none.0, later)

once_put : (k n : ℕ) (links new : Links) (cs : List (ℕ × Links)) → is_number k n ≡ false → HasOnce k links cs → HasOnce k links (insert_entry nat_cmp cs n new)
once_put k n links new [] apart once = absurd once
once_put k n links new (c ∷ cs) apart once = by (λ later. once_put k n links new cs apart later) (nat_cmp n c.0) refl where
  by : (HasOnce k links cs → HasOnce k links (insert_entry nat_cmp cs n new))
      → (r : Ordering) → nat_cmp n c.0 ≡ r → HasOnce k links (match_ordering r ((n, new) ∷ c ∷ cs) ((c.0, new) ∷ cs) (c ∷ insert_entry nat_cmp cs n new))
  by more Less is = inr (apart, once)
  by more Greater is = elim once [
    | inl here ↦ inl (here.0, none_put k n new cs apart here.1)
    | inr later ↦ inr (later.0, more later.1)
  ]
  by more Equal is = elim once [
    | inl here ↦
        let one : n ≡ c.0 = number_same n c.0 (ap is_eq is) in
        let other : n ≡ k = one ∙ ap (λ (d : ℕ × Links). d.0) here.0 in
        let both : true ≡ false = sym (number_itself k) ∙ ap (is_number k) (sym other) ∙ apart in cc
    | inr later ↦ inr (later.0, later.1)
  ]

-- a new number
once_new : (n : ℕ) (new : Links) (cs : List (ℕ × Links)) → HasNone n cs → HasOnce n new (insert_entry nat_cmp cs n new)
once_new n new [] none = inl (refl, tt)
once_new n new (c ∷ cs) none = by (once_new n new cs none.1) (nat_cmp n c.0) refl where
  by : HasOnce n new (insert_entry nat_cmp cs n new)
      → (r : Ordering) → nat_cmp n c.0 ≡ r → HasOnce n new (match_ordering r ((n, new) ∷ c ∷ cs) ((c.0, new) ∷ cs) (c ∷ insert_entry nat_cmp cs n new))
  by later Less is = inl (refl, none)
  by later Equal is = let both : true ≡ false = sym (ap is_eq is) ∙ none.0 in cc
  by later Greater is = inr (none.0, later)

-- without a number
none_without : (k n : ℕ) (cs : List (ℕ × Links)) → HasNone k cs → HasNone k (filter (λ c. not (is_number n c.0)) cs)
none_without k n [] none = tt
none_without k n (c ∷ cs) none = by (none_without k n cs none.1) (is_number n c.0) where
  by : HasNone k (filter (λ (d : ℕ × Links). not (is_number n d.0)) cs) → (b : Bool)
      → HasNone k (cond (not b) (c ∷ filter (λ (d : ℕ × Links). not (is_number n d.0)) cs) (filter (λ (d : ℕ × Links). not (is_number n d.0)) cs))
  by later true = later
  by later false = (none.0, later)

once_without : (k n : ℕ) (links : Links) (cs : List (ℕ × Links)) → is_number n k ≡ false → HasOnce k links cs → HasOnce k links (filter (λ c. not (is_number n c.0)) cs)
once_without k n links [] apart once = once
once_without k n links (c ∷ cs) apart once = by (λ later. once_without k n links cs apart later) (is_number n c.0) refl where
  by : (HasOnce k links cs → HasOnce k links (filter (λ (d : ℕ × Links). not (is_number n d.0)) cs)) → (b : Bool) → is_number n c.0 ≡ b
      → HasOnce k links (cond (not b) (c ∷ filter (λ (d : ℕ × Links). not (is_number n d.0)) cs) (filter (λ (d : ℕ × Links). not (is_number n d.0)) cs))
  by more true is = elim once [
    | inl here ↦ let both : true ≡ false = sym is ∙ ap (λ (d : ℕ × Links). is_number n d.0) here.0 ∙ apart in cc
    | inr later ↦ more later.1
  ]
  by more false is = elim once [
    | inl here ↦ inl (here.0, none_without k n cs here.1)
    | inr later ↦ inr (later.0, more later.1)
  ]

pub connections_are_alike : (s : State) (n : ℕ) (path : List ℕ) (e : N.Editor) → Connections s n path e
connections_are_alike s n path e = record {
  begins = λ none unlinked. record {
    links = [];
    once = once_new n [] s.connections none;
    link = sym (ap (option_map link_held) unlinked);
    others = λ q apart. refl;
  };
  another_begins = λ k apart at. record { links = at.links; once = once_put n k at.links [] s.connections apart at.once; link = at.link; others = at.others };
  another_ends = λ k apart at. record { links = at.links; once = once_without n k at.links s.connections apart at.once; link = at.link; others = at.others };
}
