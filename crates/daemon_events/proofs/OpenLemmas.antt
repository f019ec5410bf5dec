-- What holds of each link that is open, when one ends, one is opened, or those at a path change.
use Rattle.std.proofs.Common.{◌≡◌, ℕ, Bool, true, false, cond, List, [], ◌∷◌, map, Option, Some, None, refl, sym, ap, ◌∙◌, subst}
use Rattle.std.specs.BTreeMap.{insert_entry}
use Rattle.std.specs.Cmp.Lexicographic.{slice_cmp, nat_list_cmp_total}
use Rattle.std.specs.Option.{option_map}
use Rattle.std.specs.Ordering.{nat_cmp}
use Rattle.std.specs.Prelude.{if◌then◌else◌}
use Rattle.editor_bridge.specs.Link.{Link}
use Rattle.daemon_core.specs.History.{is_path}
use Rattle.daemon_core.specs.Outcome.{Gone, own_links}
use Rattle.daemon_core.specs.State.{Links, link_at, at_path}
use Rattle.daemon_core.proofs.FileLemmas.{path_same, is_path_back, lookup_put}
use Rattle.daemon_core.proofs.MapLemmas.{lookup_without, none_left, lookup_each}

-- each link that is open has the property, with its path
abbrev pub AllOpen : (List ℕ → Link → Type 0) → Links → Type 0
AllOpen P links = (path : List ℕ) (link : Link) → link_at links path ≡ Some link → P path link

-- a link ends
pub gone_open : (P : List ℕ → Link → Type 0) (path : List ℕ) (links : Links) → AllOpen P links → AllOpen P (own_links (Gone path) links)
gone_open P path links h other link found = by (is_path path other) refl where
  by : (b : Bool) → is_path path other ≡ b → P other link
  by true same =
      let none : link_at (own_links (Gone path) links) other ≡ None =
      subst (λ p. link_at (own_links (Gone path) links) p ≡ None) (path_same path other same) (none_left (is_path path) links) in
      let never : None ≡ Some link = sym none ∙ found in cc
  by false apart =
      h other link
      (lookup_without (is_path other) (is_path path) links link found
      (λ k at_k. subst (λ p. is_path path p ≡ false) (path_same other k at_k) apart))

-- a file is opened
pub new_open : (P : List ℕ → Link → Type 0) (path : List ℕ) (new : Link) (links : Links) → P path new
    → ((other : List ℕ) (link : Link) → is_path path other ≡ false → link_at links other ≡ Some link → P other link)
    → AllOpen P (insert_entry (slice_cmp nat_cmp) links path new)
new_open P path new links there elsewhere other link found = by (is_path other path) refl where
  put : link_at (insert_entry (slice_cmp nat_cmp) links path new) other ≡ cond (is_path other path) (Some new) (link_at links other)
  put = lookup_put (slice_cmp nat_cmp) nat_list_cmp_total path other new links

  by : (b : Bool) → is_path other path ≡ b → P other link
  by true same =
      let is : Some new ≡ Some link = sym (put ∙ ap (λ b. cond b (Some new) (link_at links other)) same) ∙ found in
      let one : new ≡ link = cc in
      subst (P other) one (subst (λ p. P p new) (sym (path_same other path same)) there)
  by false apart =
      elsewhere other link (is_path_back other path apart)
      (sym (put ∙ ap (λ b. cond b (Some new) (link_at links other)) apart) ∙ found)

-- what is found where the link at a path is changed
at_path_found : (path : List ℕ) (f : Link → Link) (links : Links) (other : List ℕ)
    → link_at (at_path path f links) other ≡ option_map (λ l. if is_path path other then f l else l) (link_at links other)
at_path_found path f links other =
    ap (λ es. link_at es other) (pointwise links)
    ∙ lookup_each (is_path other) (λ k l. if is_path path k then f l else l) other (path_same other) links where
      pair_if : (b : Bool) (k : List ℕ) (l : Link) → ◌≡◌ {A = List ℕ × Link} (if b then (k, f l) else (k, l)) (k, if b then f l else l)
      pair_if true k l = refl
      pair_if false k l = refl

      pointwise : (es : Links) → at_path path f es ≡ map (λ (e : List ℕ × Link). (e.0, if is_path path e.0 then f e.1 else e.1)) es
      pointwise [] = refl
      pointwise (e ∷ es) = λ i. pair_if (is_path path e.0) e.0 e.1 i ∷ pointwise es i

-- the link at a path is changed, and those elsewhere stay
pub changed_open : (P Q : List ℕ → Link → Type 0) (path : List ℕ) (f : Link → Link) (links : Links) → AllOpen P links
    → ((link : Link) → link_at links path ≡ Some link → P path link → Q path (f link))
    → ((other : List ℕ) (link : Link) → is_path path other ≡ false → P other link → Q other link)
    → AllOpen Q (at_path path f links)
changed_open P Q path f links h there elsewhere other link found =
    by (link_at links other) refl (is_path path other) refl (sym (at_path_found path f links other) ∙ found) where
      by : (found_before : Option Link) → link_at links other ≡ found_before → (b : Bool) → is_path path other ≡ b
          → option_map (λ l. if is_path path other then f l else l) (link_at links other) ≡ Some link → Q other link
      by None is b test e =
          let never : None ≡ Some link = sym (ap (option_map (λ l. if is_path path other then f l else l)) is) ∙ e in cc
      by (Some l) is true test e =
          let one : Some (f l) ≡ Some link =
          sym (ap (option_map (λ l. if is_path path other then f l else l)) is ∙ ap (λ b. Some (if b then f l else l)) test) ∙ e in
          let same : f l ≡ link = cc in
          let here : path ≡ other = path_same path other test in
          subst (Q other) same
          (subst (λ p. Q p (f l)) here (there l (ap (link_at links) here ∙ is) (subst (λ p. P p l) (sym here) (h other l is))))
      by (Some l) is false test e =
          let one : Some l ≡ Some link =
          sym (ap (option_map (λ l. if is_path path other then f l else l)) is ∙ ap (λ b. Some (if b then f l else l)) test) ∙ e in
          let same : l ≡ link = cc in
          subst (Q other) same (elsewhere other l test (h other l is))
