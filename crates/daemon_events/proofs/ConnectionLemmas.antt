-- What holds of each link of each connection, when one begins or ends, or one has a message and the others are told of it.
use Rattle.std.proofs.Common.{◌≡◌, ℕ, Bool, true, false, cond, not, List, [], map, filter, Option, Some, None, refl, sym, ap, ◌∙◌, subst}
use Rattle.std.specs.BTreeMap.{insert_entry}
use Rattle.std.specs.Map.{lookup}
use Rattle.std.specs.Option.{option_map, unwrap_or}
use Rattle.std.specs.Ordering.{nat_cmp}
use Rattle.std.specs.Prelude.{if◌then◌else◌}
use Rattle.std.proofs.lemmas.Cmp.{nat_cmp_total}
use Rattle.editor_bridge.specs.Link.{Link}
use Rattle.daemon_core.specs.Outcome.{LinkEvent, Effect, own_links, told_links}
use Rattle.daemon_core.specs.State.{Links, is_number, link_at}
use Rattle.daemon_core.proofs.FileLemmas.{lookup_put}
use Rattle.daemon_core.proofs.MapLemmas.{lookup_without, none_left, lookup_each, number_same}
use Rattle.daemon_events.proofs.OpenLemmas.{AllOpen}

-- what a connection has open, as a look-up finds it
abbrev pub found_links : Option Links → Links
found_links found = unwrap_or found []

abbrev pub links_in : List (ℕ × Links) → ℕ → Links
links_in connections c = found_links (lookup (is_number c) connections)

-- each link that a connection has open has the property, with its path
abbrev pub AllOpenIn : (List ℕ → Link → Type 0) → List (ℕ × Links) → Type 0
AllOpenIn P connections = (c : ℕ) → AllOpen P (links_in connections c)

-- what connection c has open after a message of connection n
abbrev pub links_told : ℕ → LinkEvent → List Effect → ℕ → Links → Links
links_told n own effects c links = if is_number n c then own_links own links else told_links effects links

-- a message of one connection, of which the others are told
pub after_open : (P Q : List ℕ → Link → Type 0) (n : ℕ) (own : LinkEvent) (effects : List Effect) (connections : List (ℕ × Links))
    → AllOpenIn P connections → AllOpen Q (own_links own (links_in connections n))
    → ((links : Links) → AllOpen P links → AllOpen Q (told_links effects links))
    → AllOpenIn Q (map (λ (c : ℕ × Links). (c.0, links_told n own effects c.0 c.1)) connections)
after_open P Q n own effects connections all here told c path link found =
    by (lookup (is_number c) connections) refl (sym (ap (λ ls. link_at ls path) there) ∙ found) where
      there : links_in (map (λ (e : ℕ × Links). (e.0, links_told n own effects e.0 e.1)) connections) c
          ≡ found_links (option_map (links_told n own effects c) (lookup (is_number c) connections))
      there = ap found_links (lookup_each (is_number c) (links_told n own effects) c (number_same c) connections)

      of_links : (links : Links) → links_in connections c ≡ links → (b : Bool) → is_number n c ≡ b
          → link_at (if b then own_links own links else told_links effects links) path ≡ Some link → Q path link
      of_links links is true mine e =
          let same : links ≡ links_in connections n = sym is ∙ ap (links_in connections) (sym (number_same n c mine)) in
          here path link (ap (λ ls. link_at (own_links own ls) path) (sym same) ∙ e)
      of_links links is false other e =
          told links (λ p l at_p. all c p l (ap (λ ls. link_at ls p) is ∙ at_p)) path link e

      by : (links : Option Links) → lookup (is_number c) connections ≡ links
          → link_at (found_links (option_map (links_told n own effects c) links)) path ≡ Some link → Q path link
      by None is e = cc
      by (Some links) is e = of_links links (ap found_links is) (is_number n c) refl e

-- a connection begins
pub began_open : (P : List ℕ → Link → Type 0) (n : ℕ) (connections : List (ℕ × Links)) → AllOpenIn P connections
    → AllOpenIn P (insert_entry nat_cmp connections n [])
began_open P n connections all c path link found = by (is_number c n) refl where
  put : lookup (is_number c) (insert_entry nat_cmp connections n []) ≡ cond (is_number c n) (Some []) (lookup (is_number c) connections)
  put = lookup_put nat_cmp nat_cmp_total n c [] connections

  by : (b : Bool) → is_number c n ≡ b → P path link
  by true new =
      let none : None ≡ Some link =
      sym (ap (λ ls. link_at (found_links ls) path) (put ∙ ap (λ b. cond b (Some []) (lookup (is_number c) connections)) new)) ∙ found in cc
  by false old =
      all c path link
      (sym (ap (λ ls. link_at (found_links ls) path) (put ∙ ap (λ b. cond b (Some []) (lookup (is_number c) connections)) old)) ∙ found)

-- a connection ends
pub ended_open : (P : List ℕ → Link → Type 0) (n : ℕ) (connections : List (ℕ × Links)) → AllOpenIn P connections
    → AllOpenIn P (filter (λ c. not (is_number n c.0)) connections)
ended_open P n connections all c path link found = by (is_number n c) refl where
  left : List (ℕ × Links)
  left = filter (λ e. not (is_number n e.0)) connections

  others : (links : Option Links) → lookup (is_number c) left ≡ links → is_number n c ≡ false
      → link_at (found_links links) path ≡ Some link → P path link
  others None is apart e = cc
  others (Some links) is apart e =
      all c path link
      (ap (λ ls. link_at (found_links ls) path)
      (lookup_without (is_number c) (is_number n) connections links is
      (λ k at_k. subst (λ m. is_number n m ≡ false) (number_same c k at_k) apart))
      ∙ e)

  by : (b : Bool) → is_number n c ≡ b → P path link
  by true same =
      let none : lookup (is_number c) left ≡ None =
      subst (λ m. lookup (is_number m) left ≡ None) (number_same n c same) (none_left (is_number n) connections) in
      let never : None ≡ Some link = sym (ap (λ ls. link_at (found_links ls) path) none) ∙ found in cc
  by false apart = others (lookup (is_number c) left) refl apart found
