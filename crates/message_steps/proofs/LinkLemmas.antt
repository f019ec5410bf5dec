-- The links of a connection, once one is put and once it is taken out again.
use Rattle.std.proofs.Common.{◌≡◌, ℕ, cond, not, List, [], ◌∷◌, filter, Some, None, refl, sym, ap, ◌∙◌}
use Rattle.std.specs.declared.cmp.Ordering.{Ordering}
use Rattle.std.specs.declared.cmp.Ordering.TheVariants.{Less, Equal, Greater}
use Rattle.std.specs.BTreeMap.{is_at, insert_entry}
use Rattle.std.specs.Cmp.{IsTotalOrder}
use Rattle.std.specs.Cmp.Lexicographic.{slice_cmp, nat_list_cmp_total}
use Rattle.std.specs.Map.{lookup}
use Rattle.std.specs.Ordering.{nat_cmp, is_eq, match_ordering}
use Rattle.std.proofs.lemmas.Cmp.{tied_itself}
use Rattle.editor_bridge.specs.Link.{Link}
use Rattle.daemon_core.specs.History.{is_path}
use Rattle.daemon_core.specs.Outcome.{Gone, own_links}
use Rattle.daemon_core.specs.State.{Links, link_at}
use Rattle.daemon_core.proofs.MapLemmas.{none_left}
use Rattle.daemon_links.proofs.MapLemmas.{none_gone}

module _ {K X : Type 0} (R : K → K → Ordering) (o : IsTotalOrder R) (k : K) (x : X) where
  abbrev others : List (K × X) → List (K × X)
  others es = filter (λ e. not (is_at (R k) e.0)) es

  -- what is put at a key where nothing is, and taken out again, leaves all as it was
  put_gone : (es : List (K × X)) → None ≡ lookup (is_at (R k)) es → others (insert_entry R es k x) ≡ es
  put_gone [] none = ap (λ r. cond (not (is_eq r)) ((k, x) ∷ []) []) (tied_itself o k)
  put_gone (e ∷ es) none = by (put_gone es) (R k e.0) refl none where
    by : (None ≡ lookup (is_at (R k)) es → others (insert_entry R es k x) ≡ es) → (r : Ordering) → R k e.0 ≡ r
        → None ≡ cond (is_eq r) (Some e.1) (lookup (is_at (R k)) es)
        → others (match_ordering r ((k, x) ∷ e ∷ es) ((e.0, x) ∷ es) (e ∷ insert_entry R es k x)) ≡ e ∷ es
    by later Equal is none = cc
    by later Less is none =
        ap (λ r. cond (not (is_eq r)) ((k, x) ∷ others (e ∷ es)) (others (e ∷ es))) (tied_itself o k)
        ∙ none_gone R o k (e ∷ es) (none ∙ ap (λ r. cond (is_eq r) (Some e.1) (lookup (is_at (R k)) es)) (sym is))
    by later Greater is none =
        ap (λ r. cond (not (is_eq r)) (e ∷ others (insert_entry R es k x)) (others (insert_entry R es k x))) is
        ∙ ap (λ (rest : List (K × X)). e ∷ rest) (later none)

-- a link that is put where none is ends again
pub new_gone : (path : List ℕ) (link : Link) (links : Links) → None ≡ link_at links path
    → own_links (Gone path) (insert_entry (slice_cmp nat_cmp) links path link) ≡ links
new_gone path link links none = put_gone (slice_cmp nat_cmp) nat_list_cmp_total path link links none

-- so does one that is put where another has ended
pub next_gone : (path : List ℕ) (link : Link) (links : Links)
    → own_links (Gone path) (insert_entry (slice_cmp nat_cmp) (own_links (Gone path) links) path link) ≡ own_links (Gone path) links
next_gone path link links = new_gone path link (own_links (Gone path) links) (sym (none_left (is_path path) links))
