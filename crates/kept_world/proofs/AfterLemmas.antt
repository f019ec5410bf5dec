-- What a daemon is after a message, with all its connections and with those that a script feeds alone.
use Rattle.std.proofs.Common.{◌≡◌, ℕ, Bool, true, false, cond, nat_lt, List, [], ◌∷◌, map, filter, Option, Some, refl, sym, ap, ◌∙◌}
use Rattle.std.specs.Prelude.{if◌then◌else◌}
use Rattle.std.specs.Map.{lookup}
use Rattle.std.specs.Option.{unwrap_or}
use Rattle.daemon_core.specs.Outcome.{Outcome, links_after, own_links, told_links}
use Rattle.daemon_core.specs.State.{Links, State, is_number, links_of}
use Rattle.plain_world.specs.declared.TheConstants.{FIRST_OWN}
use Rattle.kept_world.specs.Tie.{is_fed_one}
use Rattle.kept_world.proofs.NumberLemmas.{other_number}
use Rattle.kept_world.proofs.PrintedLemmas.{own_apart}

-- ---- the connections

-- each connection has the number that it had
pub numbers_after : (f : ℕ → Links → Links) (cs : List (ℕ × Links))
    → map (λ (c : ℕ × Links). c.0) (map (λ c. (c.0, f c.0 c.1)) cs) ≡ map (λ (c : ℕ × Links). c.0) cs
numbers_after f [] = refl
numbers_after f (c ∷ cs) = ap (λ ns. c.0 ∷ ns) (numbers_after f cs)

-- so those that the script feeds come to what they come to without the others
pub fed_after : (f : ℕ → Links → Links) (cs : List (ℕ × Links))
    → filter is_fed_one (map (λ c. (c.0, f c.0 c.1)) cs) ≡ map (λ c. (c.0, f c.0 c.1)) (filter is_fed_one cs)
fed_after f [] = refl
fed_after f (c ∷ cs) = by (fed_after f cs) (nat_lt c.0 FIRST_OWN) where
  by : filter is_fed_one (map (λ (d : ℕ × Links). (d.0, f d.0 d.1)) cs) ≡ map (λ (d : ℕ × Links). (d.0, f d.0 d.1)) (filter is_fed_one cs) → (b : Bool)
      → cond b ((c.0, f c.0 c.1) ∷ filter is_fed_one (map (λ (d : ℕ × Links). (d.0, f d.0 d.1)) cs)) (filter is_fed_one (map (λ (d : ℕ × Links). (d.0, f d.0 d.1)) cs))
      ≡ map (λ (d : ℕ × Links). (d.0, f d.0 d.1)) (cond b (c ∷ filter is_fed_one cs) (filter is_fed_one cs))
  by later true = ap (λ ds. (c.0, f c.0 c.1) ∷ ds) later
  by later false = later

-- a message on a connection of the script's own tells them
pub fed_told : (n : ℕ) (o : Outcome) (cs : List (ℕ × Links)) → nat_lt n FIRST_OWN ≡ false
    → map {B = ℕ × Links} (λ c. (c.0, links_after n o c.0 c.1)) (filter is_fed_one cs) ≡ map {B = ℕ × Links} (λ c. (c.0, told_links o.effects c.1)) (filter is_fed_one cs)
fed_told n o [] own = refl
fed_told n o (c ∷ cs) own = by (fed_told n o cs own) (nat_lt c.0 FIRST_OWN) refl where
  rest : List (ℕ × Links)
  rest = filter is_fed_one cs

  by : map {B = ℕ × Links} (λ (d : ℕ × Links). (d.0, links_after n o d.0 d.1)) rest ≡ map {B = ℕ × Links} (λ (d : ℕ × Links). (d.0, told_links o.effects d.1)) rest
      → (b : Bool) → nat_lt c.0 FIRST_OWN ≡ b
      → map {B = ℕ × Links} (λ (d : ℕ × Links). (d.0, links_after n o d.0 d.1)) (cond b (c ∷ rest) rest)
      ≡ map {B = ℕ × Links} (λ (d : ℕ × Links). (d.0, told_links o.effects d.1)) (cond b (c ∷ rest) rest)
  by later true fed =
      ap (λ b. (c.0, if b then own_links o.own c.1 else told_links o.effects c.1) ∷ map {B = ℕ × Links} (λ (d : ℕ × Links). (d.0, links_after n o d.0 d.1)) rest) (own_apart n c.0 own fed)
      ∙ ap (λ ds. (c.0, told_links o.effects c.1) ∷ ds) later
  by later false other = later

fed_number : (n c : ℕ) → nat_lt n FIRST_OWN ≡ true → nat_lt c FIRST_OWN ≡ false → is_number n c ≡ false
fed_number n c fed own =
    other_number n c (λ same. let both : true ≡ false = sym fed ∙ ap (λ k. nat_lt k FIRST_OWN) same ∙ own in cc)

-- what one of them has open is found among them
found_fed : (n : ℕ) (cs : List (ℕ × Links)) → nat_lt n FIRST_OWN ≡ true → lookup (is_number n) (filter is_fed_one cs) ≡ lookup (is_number n) cs
found_fed n [] fed = refl
found_fed n (c ∷ cs) fed = by (found_fed n cs fed) (nat_lt c.0 FIRST_OWN) refl where
  by : lookup (is_number n) (filter is_fed_one cs) ≡ lookup (is_number n) cs → (b : Bool) → nat_lt c.0 FIRST_OWN ≡ b
      → lookup (is_number n) (cond b (c ∷ filter is_fed_one cs) (filter is_fed_one cs)) ≡ cond (is_number n c.0) (Some c.1) (lookup (is_number n) cs)
  by later true same = ap (λ (found : Option Links). cond (is_number n c.0) (Some c.1) found) later
  by later false own =
      later ∙ sym (ap (λ b. cond b (Some c.1) (lookup (is_number n) cs)) (fed_number n c.0 fed own))

pub links_fed : (s t : State) (n : ℕ) → nat_lt n FIRST_OWN ≡ true → t.connections ≡ filter is_fed_one s.connections → links_of t n ≡ links_of s n
links_fed s t n fed is =
    ap (λ cs. unwrap_or (lookup (is_number n) cs) []) is
    ∙ ap (λ (found : Option Links). unwrap_or found []) (found_fed n s.connections fed)
