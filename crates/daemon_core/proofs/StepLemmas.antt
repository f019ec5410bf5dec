-- What a message makes of the links, by what it does: nothing, a file opened, an edit taken, or a link gone.
use Rattle.std.proofs.Common.{◌≡◌, ℕ, Bool, true, false, cond, List, [], ◌∷◌, length, map, Option, Some, None, refl, sym, ap, ◌∙◌, subst}
use Rattle.std.specs.BTreeMap.{insert_entry}
use Rattle.std.specs.Cmp.Lexicographic.{slice_cmp, nat_list_cmp_total}
use Rattle.std.specs.Option.{option_map}
use Rattle.std.specs.Ordering.{nat_cmp}
use Rattle.std.specs.Prelude.{if◌then◌else◌}
use Rattle.delta.specs.Cells.{Cells, base_length}
use Rattle.editor_bridge.specs.Link.{Link}
use Rattle.daemon_core.specs.History.{History, is_path, text_at, made}
use Rattle.daemon_core.specs.Laws.{IsLinked}
use Rattle.daemon_core.specs.Outcome.{Gone, Outcome, effects_of, own_links}
use Rattle.daemon_core.specs.State.{Links, State, link_at, links_of, at_path}
use Rattle.daemon_core.proofs.FileLemmas.{path_same, is_path_back, lookup_put}
use Rattle.daemon_core.proofs.MapLemmas.{lookup_without, none_left, lookup_each}

-- each link that is open is as it should be
abbrev pub AllLinked : History → Links → Type 0
AllLinked history links = (path : List ℕ) (link : Link) → link_at links path ≡ Some link → IsLinked history path link

-- an outcome changes no text and tells nobody, or it makes one change, which it tells
pub data IsChange (s : State) (o : Outcome) : Type 0 where
  Quiet : o.history ≡ s.history → o.effects ≡ [] → IsChange s o
  Made : (path : List ℕ) (d : Cells) → base_length d ≡ length (text_at s.history path) → o.history ≡ made s.history path d
      → o.effects ≡ effects_of path d → IsChange s o

-- what an outcome owes: one change at most, and that the links of its own connection are as they should be
pub record IsSound (s : State) (n : ℕ) (o : Outcome) : Type 0 where
  pub own : AllLinked o.history (own_links o.own (links_of s n))
  pub change : IsChange s o

-- a link ends
pub gone_linked : (history : History) (path : List ℕ) (links : Links) → AllLinked history links
    → AllLinked history (own_links (Gone path) links)
gone_linked history path links h other link found = by (is_path path other) refl where
  by : (b : Bool) → is_path path other ≡ b → IsLinked history other link
  by true same =
      let none : link_at (own_links (Gone path) links) other ≡ None =
      subst (λ p. link_at (own_links (Gone path) links) p ≡ None) (path_same path other same) (none_left (is_path path) links) in
      let never : None ≡ Some link = sym none ∙ found in cc
  by false apart =
      h other link
      (lookup_without (is_path other) (is_path path) links link found
      (λ k at_k. subst (λ p. is_path path p ≡ false) (path_same other k at_k) apart))

-- a file is opened
pub opened_linked : (history : History) (path : List ℕ) (new : Link) (links : Links) → IsLinked history path new
    → ((other : List ℕ) (link : Link) → is_path path other ≡ false → link_at links other ≡ Some link → IsLinked history other link)
    → AllLinked history (insert_entry (slice_cmp nat_cmp) links path new)
opened_linked history path new links there elsewhere other link found = by (is_path other path) refl where
  put : link_at (insert_entry (slice_cmp nat_cmp) links path new) other ≡ cond (is_path other path) (Some new) (link_at links other)
  put = lookup_put (slice_cmp nat_cmp) nat_list_cmp_total path other new links

  by : (b : Bool) → is_path other path ≡ b → IsLinked history other link
  by true same =
      let is : Some new ≡ Some link = sym (put ∙ ap (λ b. cond b (Some new) (link_at links other)) same) ∙ found in
      let one : new ≡ link = cc in
      subst (IsLinked history other) one (subst (λ p. IsLinked history p new) (sym (path_same other path same)) there)
  by false apart =
      elsewhere other link (is_path_back other path apart)
      (sym (put ∙ ap (λ b. cond b (Some new) (link_at links other)) apart) ∙ found)

-- what is found where the link at a path is changed
at_path_found : (path : List ℕ) (f : Link → Link) (links : Links) (other : List ℕ)
    → link_at (at_path path f links) other ≡ option_map (λ l. if is_path path other then f l else l) (link_at links other)
at_path_found path f links other =
    ap (λ es. link_at es other) (pointwise links)
    ∙ lookup_each (is_path other) (λ k l. if is_path path k then f l else l) other (path_same other) links where
      pair_if : (b : Bool) (k : List ℕ) (l : Link) → ◌≡◌ {A = List ℕ × Link} (if b then (k, f l) else (k, l)) (k, if b then f l else l)
      pair_if true k l = refl
      pair_if false k l = refl

      pointwise : (es : Links) → at_path path f es ≡ map (λ (e : List ℕ × Link). (e.0, if is_path path e.0 then f e.1 else e.1)) es
      pointwise [] = refl
      pointwise (e ∷ es) = λ i. pair_if (is_path path e.0) e.0 e.1 i ∷ pointwise es i

-- the link at a path is changed, and those elsewhere stay
pub changed_linked : (history after : History) (path : List ℕ) (f : Link → Link) (links : Links) → AllLinked history links
    → ((link : Link) → link_at links path ≡ Some link → IsLinked history path link → IsLinked after path (f link))
    → ((other : List ℕ) (link : Link) → is_path path other ≡ false → IsLinked history other link → IsLinked after other link)
    → AllLinked after (at_path path f links)
changed_linked history after path f links h there elsewhere other link found =
    by (link_at links other) refl (is_path path other) refl (sym (at_path_found path f links other) ∙ found) where
      by : (found_before : Option Link) → link_at links other ≡ found_before → (b : Bool) → is_path path other ≡ b
          → option_map (λ l. if is_path path other then f l else l) (link_at links other) ≡ Some link → IsLinked after other link
      by None is b test e =
          let never : None ≡ Some link = sym (ap (option_map (λ l. if is_path path other then f l else l)) is) ∙ e in cc
      by (Some l) is true test e =
          let one : Some (f l) ≡ Some link =
          sym (ap (option_map (λ l. if is_path path other then f l else l)) is ∙ ap (λ b. Some (if b then f l else l)) test) ∙ e in
          let same : f l ≡ link = cc in
          let here : path ≡ other = path_same path other test in
          subst (IsLinked after other) same
          (subst (λ p. IsLinked after p (f l)) here
          (there l (ap (link_at links) here ∙ is) (subst (λ p. IsLinked history p l) (sym here) (h other l is))))
      by (Some l) is false test e =
          let one : Some l ≡ Some link =
          sym (ap (option_map (λ l. if is_path path other then f l else l)) is ∙ ap (λ b. Some (if b then f l else l)) test) ∙ e in
          let same : l ≡ link = cc in
          subst (IsLinked after other) same (elsewhere other l test (h other l is))
