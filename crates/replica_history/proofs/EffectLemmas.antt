-- Effects that were found path by path are those of a function of paths.
use Rattle.std.proofs.Common.{◌≡◌, ℕ, Bool, true, false, cond, not, ◌&&◌, refl, sym, ap, ◌∙◌, subst, List, [], ◌∷◌, ◌++◌, flat_map, filter, Option, Some, None}
use Rattle.std.specs.List.{AllByRecursion}
use Rattle.std.specs.List.Sorted.{IsStrictlySortedBy}
use Rattle.std.specs.Map.{lookup, keys_of}
use Rattle.std.specs.Ordering.{nat_cmp, is_eq}
use Rattle.std.specs.declared.cmp.Ordering.TheVariants.{Less}
use Rattle.std.specs.Cmp.Lexicographic.{slice_cmp}
use Rattle.std.proofs.lemmas.List.Kept.{IsStrictlySortedBy-filter}
use Rattle.std.proofs.lemmas.Map.Views.{any-filter_same}
use Rattle.delta.specs.Cells.{Cells, changes_nothing}
use Rattle.replica_dir.specs.Ids.{is_path, has_path}
use Rattle.replica_dir.proofs.IdLemmas.{path_same}
use Rattle.replica_views.specs.Effects.{PathEffect, paths_of}
use Rattle.replica_history.specs.Shown.{effect_of}
use Rattle.replica_history.proofs.IdTests.{path_itself, path_turned}

-- ---- each entry of a sorted map is found

below_apart : (p k : List ℕ) → slice_cmp nat_cmp p k ≡ Less → is_path k p ≡ false
below_apart p k less = path_turned k p ∙ ap is_eq less

module _ {X : Type 0} where
  keys_all : (P : List ℕ → Type 0) (es : List (List ℕ × X)) → AllByRecursion P (keys_of es) → AllByRecursion (λ (e : List ℕ × X). P e.0) es
  keys_all P [] all = tt
  keys_all P (e ∷ es) all = (all.0, keys_all P es all.1)

  both_all : (P Q R : List ℕ × X → Type 0) (es : List (List ℕ × X)) → ((e : List ℕ × X) → P e → Q e → R e) → AllByRecursion P es → AllByRecursion Q es → AllByRecursion R es
  both_all P Q R [] each ps qs = tt
  both_all P Q R (e ∷ es) each ps qs = (each e ps.0 qs.0, both_all P Q R es each ps.1 qs.1)

  pub all_found : (es : List (List ℕ × X)) → IsStrictlySortedBy (slice_cmp nat_cmp) (keys_of es) → AllByRecursion (λ (e : List ℕ × X). lookup (is_path e.0) es ≡ Some e.1) es
  unfolding IsStrictlySortedBy
  all_found [] sorted = tt
  all_found (e ∷ es) sorted = (
    ap (λ (b : Bool). cond b (Some e.1) (lookup (is_path e.0) es)) (path_itself e.0),
    both_all (λ (x : List ℕ × X). lookup (is_path x.0) es ≡ Some x.1) (λ (x : List ℕ × X). slice_cmp nat_cmp e.0 x.0 ≡ Less)
        (λ (x : List ℕ × X). lookup (is_path x.0) (e ∷ es) ≡ Some x.1) es
        (λ x found less. ap (λ (b : Bool). cond b (Some e.1) (lookup (is_path x.0) es)) (below_apart e.0 x.0 less) ∙ found)
        (all_found es sorted.1) (keys_all (λ (k : List ℕ). slice_cmp nat_cmp e.0 k ≡ Less) es sorted.0),
  )

-- ---- effects

-- nothing is found where the wanted delta changes nothing, and else that
abbrev pub IsFound : Option Cells → Cells → Type 0
IsFound None want = changes_nothing want ≡ true
IsFound (Some delta) want = delta ≡ want

module _ {X : Type 0} (want : List ℕ → Cells) (found : List ℕ × X → Option Cells) where
  abbrev shows : List ℕ → Bool
  shows path = not (changes_nothing (want path))

  abbrev effects : List (List ℕ × X) → List PathEffect
  effects es = flat_map (λ (e : List ℕ × X). effect_of e.0 (found e)) es

  abbrev wanted : List ℕ → List PathEffect
  wanted path = cond (changes_nothing (want path)) [] (record { path = path; delta = want path } ∷ [])

  one_is : (path : List ℕ) (o : Option Cells) → IsFound o (want path) → effect_of path o ≡ wanted path
  one_is path None is = ap (λ (b : Bool). cond b [] (record { path = path; delta = want path } ∷ [])) (sym is)
  one_is path (Some delta) is = ap (λ (d : Cells). effect_of path (Some d)) is

  abbrev AreFound : List (List ℕ × X) → Type 0
  AreFound es = AllByRecursion (λ (e : List ℕ × X). IsFound (found e) (want e.0)) es

  pub exact : (es : List (List ℕ × X)) → AreFound es → AllByRecursion (λ (x : PathEffect). x.delta ≡ want x.path) (effects es)
  exact [] all = tt
  exact (e ∷ es) all =
      subst (λ (xs : List PathEffect). AllByRecursion (λ (x : PathEffect). x.delta ≡ want x.path) (xs ++ effects es)) (sym (one_is e.0 (found e) all.0))
      (by (changes_nothing (want e.0)) (exact es all.1)) where
        by : (b : Bool) → AllByRecursion (λ (x : PathEffect). x.delta ≡ want x.path) (effects es)
            → AllByRecursion (λ (x : PathEffect). x.delta ≡ want x.path) (cond b [] (record { path = e.0; delta = want e.0 } ∷ []) ++ effects es)
        by true rest = rest
        by false rest = (refl, rest)

  pub paths_are : (es : List (List ℕ × X)) → AreFound es → paths_of (effects es) ≡ filter shows (keys_of es)
  paths_are [] all = refl
  paths_are (e ∷ es) all =
      ap (λ (xs : List PathEffect). paths_of (xs ++ effects es)) (one_is e.0 (found e) all.0)
      ∙ by (changes_nothing (want e.0)) (paths_are es all.1) where
        by : (b : Bool) → paths_of (effects es) ≡ filter shows (keys_of es)
            → paths_of (cond b [] (record { path = e.0; delta = want e.0 } ∷ []) ++ effects es)
            ≡ cond (not b) (e.0 ∷ filter shows (keys_of es)) (filter shows (keys_of es))
        by true rest = rest
        by false rest = ap (λ (ps : List (List ℕ)). e.0 ∷ ps) rest

  pub rising : (es : List (List ℕ × X)) → AreFound es → IsStrictlySortedBy (slice_cmp nat_cmp) (keys_of es)
      → IsStrictlySortedBy (slice_cmp nat_cmp) (paths_of (effects es))
  rising es all sorted =
      subst (IsStrictlySortedBy (slice_cmp nat_cmp)) (sym (paths_are es all))
      (IsStrictlySortedBy-filter (slice_cmp nat_cmp) shows (keys_of es) sorted)

  -- the path of an effect: a key at which something is wanted
  pub has_effect : (es : List (List ℕ × X)) → AreFound es → (path : List ℕ)
      → has_path (paths_of (effects es)) path ≡ (shows path && has_path (keys_of es) path)
  has_effect es all path =
      ap (λ (ps : List (List ℕ)). has_path ps path) (paths_are es all)
      ∙ any-filter_same (is_path path) shows (shows path) (λ k same. ap shows (sym (path_same path k same))) (keys_of es)
