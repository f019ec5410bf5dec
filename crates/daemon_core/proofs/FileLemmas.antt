-- What one more change makes of each file.
use Rattle.std.proofs.Common.{◌≡◌, ℕ, Bool, true, false, cond, List, [], ◌∷◌, Option, Some, is_some, refl, sym, ap, ◌∙◌}
use Rattle.std.specs.declared.cmp.Ordering.{Ordering}
use Rattle.std.specs.declared.cmp.Ordering.TheVariants.{Less, Equal, Greater}
use Rattle.std.specs.BTreeMap.{is_at, insert_entry}
use Rattle.std.specs.Cmp.{IsTotalOrder}
use Rattle.std.specs.Cmp.Lexicographic.{slice_cmp, nat_list_cmp_total}
use Rattle.std.specs.Map.{lookup}
use Rattle.std.specs.Option.{unwrap_or}
use Rattle.std.specs.Ordering.{nat_cmp, is_eq, match_ordering}
use Rattle.std.proofs.lemmas.Cmp.{tied_itself, alike_right}
use Rattle.std.proofs.lemmas.Map.Lookups.{exact_bytes}
use Rattle.delta.specs.Cells.{Cells, applied}
use Rattle.daemon_core.specs.History.{History, is_path, view_at, text_at, made}

pub is_tied : (r : Ordering) → is_eq r ≡ true → r ≡ Equal
is_tied Less e = cc
is_tied Equal e = refl
is_tied Greater e = cc

-- a key that ties with the one asked for stands for it
cond_tied : {X : Type 0} (b : Bool) (v w : X) (rest : Option X)
    → cond b (Some v) rest ≡ cond b (Some v) (cond b (Some w) rest)
cond_tied true v w rest = refl
cond_tied false v w rest = refl

-- what stands at each key once a value is put at one
pub lookup_put : {K X : Type 0} (R : K → K → Ordering) → IsTotalOrder R → (k q : K) (v : X) (es : List (K × X))
    → lookup (is_at (R q)) (insert_entry R es k v) ≡ cond (is_at (R q) k) (Some v) (lookup (is_at (R q)) es)
lookup_put R o k q v [] = refl
lookup_put {K} {X} R o k q v (e ∷ es) = by (lookup_put R o k q v es) (R k e.0) refl where
  same : (found : Ordering) → R q k ≡ found → R k e.0 ≡ Greater → (b : Bool) → is_eq (R q e.0) ≡ b
      → cond b (Some e.1) (cond (is_eq (R q k)) (Some v) (lookup (is_at (R q)) es)) ≡ cond (is_eq (R q k)) (Some v) (cond b (Some e.1) (lookup (is_at (R q)) es))
  same Equal ties above true here =
      let both : Greater ≡ Equal = sym above ∙ (sym (o.congr q k e.0 ties) ∙ is_tied (R q e.0) here) in cc
  same found ties above false here = refl
  same Less ties above true here = ap (λ r. cond (is_eq r) (Some v) (Some e.1)) (sym ties)
  same Greater ties above true here = ap (λ r. cond (is_eq r) (Some v) (Some e.1)) (sym ties)

  by : lookup (is_at (R q)) (insert_entry R es k v) ≡ cond (is_at (R q) k) (Some v) (lookup (is_at (R q)) es) → (r : Ordering) → R k e.0 ≡ r
      → lookup (is_at (R q)) (match_ordering r ((k, v) ∷ e ∷ es) ((e.0, v) ∷ es) (e ∷ insert_entry R es k v))
      ≡ cond (is_at (R q) k) (Some v) (lookup (is_at (R q)) (e ∷ es))
  by later Less is = refl
  by later Equal is =
      let alike : R q k ≡ R q e.0 = alike_right o k e.0 q is in
      cond_tied (is_eq (R q e.0)) v e.1 (lookup (is_at (R q)) es)
      ∙ ap (λ r. cond (is_eq r) (Some v) (cond (is_eq (R q e.0)) (Some e.1) (lookup (is_at (R q)) es))) (sym alike)
  by later Greater is =
      ap (λ (rest : Option X). cond (is_eq (R q e.0)) (Some e.1) rest) later
      ∙ same (R q k) refl is (is_eq (R q e.0)) refl

pub is_path_itself : (path : List ℕ) → is_path path path ≡ true
is_path_itself path = ap is_eq (tied_itself nat_list_cmp_total path)

-- paths that are one are equal
pub path_same : (path other : List ℕ) → is_path path other ≡ true → path ≡ other
path_same path other e = exact_bytes path other (is_tied (slice_cmp nat_cmp path other) e)

pub is_path_back : (path other : List ℕ) → is_path path other ≡ false → is_path other path ≡ false
is_path_back path other e = back (is_path other path) refl where
  back : (b : Bool) → is_path other path ≡ b → b ≡ false
  back false is = refl
  back true is =
      let both : true ≡ false = sym (is_path_itself other) ∙ ap (λ p. is_path p other) (path_same other path is) ∙ e in cc

-- the file has what the change made of it
pub text_made : (history : History) (path : List ℕ) (d : Cells)
    → text_at (made history path d) path ≡ applied d (text_at history path)
text_made history path d =
    ap (λ (r : Option (List ℕ)). unwrap_or r [])
    (lookup_put (slice_cmp nat_cmp) nat_list_cmp_total path path (applied d (text_at history path)) history.files
    ∙ ap (λ b. cond b (Some (applied d (text_at history path))) (lookup (is_path path) history.files)) (is_path_itself path))

-- and each other file what it had
pub text_elsewhere : (history : History) (path other : List ℕ) (d : Cells) → is_path other path ≡ false
    → text_at (made history path d) other ≡ text_at history other
text_elsewhere history path other d apart =
    ap (λ (r : Option (List ℕ)). unwrap_or r [])
    (lookup_put (slice_cmp nat_cmp) nat_list_cmp_total path other (applied d (text_at history path)) history.files
    ∙ ap (λ b. cond b (Some (applied d (text_at history path))) (lookup (is_path other) history.files)) apart)

-- a file stays a file
pub stays_there : (history : History) (path other : List ℕ) (d : Cells) → is_some (view_at history other) ≡ true
    → is_some (view_at (made history path d) other) ≡ true
stays_there history path other d there =
    ap is_some (lookup_put (slice_cmp nat_cmp) nat_list_cmp_total path other (applied d (text_at history path)) history.files)
    ∙ by (is_path other path) where
      by : (b : Bool) → is_some (cond b (Some (applied d (text_at history path))) (view_at history other)) ≡ true
      by true = refl
      by false = there

-- a change makes one
pub is_there : (history : History) (path : List ℕ) (d : Cells) → is_some (view_at (made history path d) path) ≡ true
is_there history path d =
    ap is_some
    (lookup_put (slice_cmp nat_cmp) nat_list_cmp_total path path (applied d (text_at history path)) history.files
    ∙ ap (λ b. cond b (Some (applied d (text_at history path))) (lookup (is_path path) history.files)) (is_path_itself path))
