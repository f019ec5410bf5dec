-- What a connection has open after a message of its own.
use Rattle.std.proofs.Common.{◌≡◌, ℕ, Bool, true, false, cond, List, [], ◌∷◌, map, Option, Some, None, inl, inr, refl, sym, ap, ◌∙◌, subst}
use Rattle.std.specs.Prelude.{if◌then◌else◌}
use Rattle.std.specs.BTreeMap.{insert_entry}
use Rattle.std.specs.Cmp.Lexicographic.{slice_cmp, nat_list_cmp_total}
use Rattle.std.specs.Map.{lookup}
use Rattle.std.specs.Option.{option_map}
use Rattle.std.specs.Ordering.{nat_cmp}
use Rattle.editor_bridge.specs.Link.{Link}
use Rattle.daemon_core.specs.History.{is_path}
use Rattle.daemon_core.specs.Outcome.{Gone, Outcome, own_links, told_links, links_after, state_after}
use Rattle.daemon_core.specs.State.{Links, State, is_number, link_at, at_path}
use Rattle.daemon_core.proofs.FileLemmas.{lookup_put, is_path_itself, path_same}
use Rattle.daemon_core.proofs.MapLemmas.{lookup_without, none_left, lookup_each}
use Rattle.frame_world.specs.Serving.{HasNone, HasOnce}
use Rattle.frame_world.proofs.SentLemmas.{number_itself}

-- ---- a connection that is there once

pub once_found : (n : ℕ) (links : Links) (cs : List (ℕ × Links)) → HasOnce n links cs → lookup (is_number n) cs ≡ Some links
once_found n links [] once = absurd once
once_found n links (c ∷ cs) once = elim once [
  | inl here ↦
      ap (λ (d : ℕ × Links). cond (is_number n d.0) (Some d.1) (lookup (is_number n) cs)) here.0
      ∙ ap (λ b. cond b (Some links) (lookup (is_number n) cs)) (number_itself n)
  | inr later ↦ ap (λ b. cond b (Some c.1) (lookup (is_number n) cs)) later.0 ∙ once_found n links cs later.1
]

none_mapped : (f : ℕ → Links → Links) (n : ℕ) (cs : List (ℕ × Links)) → HasNone n cs → HasNone n (map (λ c. (c.0, f c.0 c.1)) cs)
none_mapped f n [] none = tt
none_mapped f n (c ∷ cs) none = (none.0, none_mapped f n cs none.1)

once_mapped : (f : ℕ → Links → Links) (n : ℕ) (links : Links) (cs : List (ℕ × Links)) → HasOnce n links cs → HasOnce n (f n links) (map (λ c. (c.0, f c.0 c.1)) cs)
once_mapped f n links [] once = once
once_mapped f n links (c ∷ cs) once = elim once [
  | inl here ↦ inl (ap (λ (d : ℕ × Links). (d.0, f d.0 d.1)) here.0, none_mapped f n cs here.1)
  | inr later ↦ inr (later.0, once_mapped f n links cs later.1)
]

-- the connection is there, with what its own links came to
pub own_after : (s : State) (n : ℕ) (o : Outcome) (links : Links) → HasOnce n links s.connections
    → HasOnce n (own_links o.own links) (state_after s n o).connections
own_after s n o links once =
    subst (λ b. HasOnce n (if b then own_links o.own links else told_links o.effects links) (state_after s n o).connections) (number_itself n)
    (once_mapped (links_after n o) n links s.connections once)

-- and another one, with what its links are told
pub told_after : (s : State) (n k : ℕ) (o : Outcome) (links : Links) → is_number n k ≡ false → HasOnce k links s.connections
    → HasOnce k (told_links o.effects links) (state_after s n o).connections
told_after s n k o links apart once =
    subst (λ b. HasOnce k (if b then own_links o.own links else told_links o.effects links) (state_after s n o).connections) apart
    (once_mapped (links_after n o) k links s.connections once)

pub not_at : (q path : List ℕ) → (q ≡ path → ⊥) → is_path q path ≡ false
not_at q path apart = by (is_path q path) refl where
  by : (b : Bool) → is_path q path ≡ b → b ≡ false
  by true is = absurd (apart (path_same q path is))
  by false is = refl

-- ---- a file is opened

pub opened_at : (path : List ℕ) (new : Link) (links : Links) → link_at (insert_entry (slice_cmp nat_cmp) links path new) path ≡ Some new
opened_at path new links =
    lookup_put (slice_cmp nat_cmp) nat_list_cmp_total path path new links
    ∙ ap (λ b. cond b (Some new) (link_at links path)) (is_path_itself path)

pub opened_beside : (path : List ℕ) (new : Link) (links : Links) (q : List ℕ) → (q ≡ path → ⊥)
    → link_at (insert_entry (slice_cmp nat_cmp) links path new) q ≡ link_at links q
opened_beside path new links q apart =
    lookup_put (slice_cmp nat_cmp) nat_list_cmp_total path q new links
    ∙ ap (λ b. cond b (Some new) (link_at links q)) (not_at q path apart)

-- ---- a link is changed

-- what is found where the link at a path is changed
pub changed_at : (path : List ℕ) (f : Link → Link) (links : Links) (other : List ℕ)
    → link_at (at_path path f links) other ≡ option_map (λ l. if is_path path other then f l else l) (link_at links other)
changed_at path f links other =
    ap (λ es. link_at es other) (pointwise links)
    ∙ lookup_each (is_path other) (λ k l. if is_path path k then f l else l) other (path_same other) links where
      pair_if : (b : Bool) (k : List ℕ) (l : Link) → ◌≡◌ {A = List ℕ × Link} (if b then (k, f l) else (k, l)) (k, if b then f l else l)
      pair_if true k l = refl
      pair_if false k l = refl

      pointwise : (es : Links) → at_path path f es ≡ map (λ (e : List ℕ × Link). (e.0, if is_path path e.0 then f e.1 else e.1)) es
      pointwise [] = refl
      pointwise (e ∷ es) = λ i. pair_if (is_path path e.0) e.0 e.1 i ∷ pointwise es i

pub changed_here : (path : List ℕ) (f : Link → Link) (links : Links) (link : Link) → link_at links path ≡ Some link
    → link_at (at_path path f links) path ≡ Some (f link)
changed_here path f links link is =
    changed_at path f links path ∙ ap (option_map (λ l. if is_path path path then f l else l)) is
    ∙ ap (λ b. Some (if b then f link else link)) (is_path_itself path)

pub changed_none : (path : List ℕ) (f : Link → Link) (links : Links) (other : List ℕ) → link_at links other ≡ None
    → link_at (at_path path f links) other ≡ None
changed_none path f links other is =
    changed_at path f links other ∙ ap (option_map (λ l. if is_path path other then f l else l)) is

-- ---- a link is gone

pub gone_at : (path : List ℕ) (links : Links) → link_at (own_links (Gone path) links) path ≡ None
gone_at path links = none_left (is_path path) links

pub gone_none : (path : List ℕ) (links : Links) (q : List ℕ) → (q ≡ path → ⊥) → link_at links q ≡ None → link_at (own_links (Gone path) links) q ≡ None
gone_none path links q apart is = by (link_at (own_links (Gone path) links) q) refl where
  by : (found : Option Link) → link_at (own_links (Gone path) links) q ≡ found → found ≡ None
  by None e = refl
  by (Some l) e =
      let kept : link_at links q ≡ Some l =
      lookup_without (is_path q) (is_path path) links l e
      (λ k at_k. not_at path k (λ same. apart (path_same q k at_k ∙ sym same))) in
      let never : None ≡ Some l = sym is ∙ kept in cc
