-- Sorted maps: what is put, changed or taken out at one key, as a change of each entry.
use Rattle.std.proofs.Common.{◌≡◌, Bool, true, false, cond, not, List, [], ◌∷◌, ◌++◌, map, filter, Some, None, refl, sym, ap, ◌∙◌}
use Rattle.std.specs.declared.cmp.Ordering.{Ordering}
use Rattle.std.specs.declared.cmp.Ordering.TheVariants.{Less, Equal, Greater}
use Rattle.std.specs.BTreeMap.{is_at, insert_entry}
use Rattle.std.specs.Cmp.{IsTotalOrder}
use Rattle.std.specs.List.{AllByRecursion}
use Rattle.std.specs.List.Sorted.{IsStrictlySortedBy}
use Rattle.std.specs.Map.{lookup, keys_of, remove_entry, set_value}
use Rattle.std.specs.Ordering.{is_eq, match_ordering, ordering_reverse}
use Rattle.std.proofs.lemmas.Map.{lookup-none}
use Rattle.std.proofs.lemmas.Map.Entries.{none_below_head}
use Rattle.std.proofs.lemmas.Map.Keys.{sorted_head, sorted_tail}

-- keys above one that ties with k are above k
above : {K : Type 0} (R : K → K → Ordering) (o : IsTotalOrder R) (k x : K) (ks : List K) → R k x ≡ Equal → AllByRecursion (λ y. R x y ≡ Less) ks
    → AllByRecursion (λ y. R k y ≡ Less) ks
above R o k x [] ties all = tt
above R o k x (y ∷ ks) ties all = (o.congr k x y ties ∙ all.0, above R o k x ks ties all.1)

module _ {K X : Type 0} (R : K → K → Ordering) (o : IsTotalOrder R) (k : K) where
  -- a value that is put where one is found takes its place
  pub put_found : (es : List (K × X)) (v w : X) → IsStrictlySortedBy R (keys_of es) → Some v ≡ lookup (is_at (R k)) es
      → set_value (is_at (R k)) es w ≡ insert_entry R es k w
  put_found [] v w sorted found = cc
  put_found (e ∷ es) v w sorted found = by (put_found es v w (sorted_tail R e.0 (keys_of es) sorted)) (R k e.0) refl found where
    by : (Some v ≡ lookup (is_at (R k)) es → set_value (is_at (R k)) es w ≡ insert_entry R es k w) → (r : Ordering) → R k e.0 ≡ r
        → Some v ≡ cond (is_eq r) (Some e.1) (lookup (is_at (R k)) es)
        → cond (is_eq r) ((e.0, w) ∷ es) (e ∷ set_value (is_at (R k)) es w)
        ≡ match_ordering r ((k, w) ∷ e ∷ es) ((e.0, w) ∷ es) (e ∷ insert_entry R es k w)
    by later Less is found =
        let none : lookup (is_at (R k)) (e ∷ es) ≡ None = lookup-none (is_at (R k)) (e ∷ es) (none_below_head o k e es sorted is) in
        let never : Some v ≡ None = found ∙ sym (ap (λ r. cond (is_eq r) (Some e.1) (lookup (is_at (R k)) es)) is) ∙ none in cc
    by later Equal is found = refl
    by later Greater is found = ap (λ (rest : List (K × X)). e ∷ rest) (later found)

  rest_above : (e : K × X) (es : List (K × X)) → IsStrictlySortedBy R (keys_of (e ∷ es)) → R k e.0 ≡ Equal
      → AllByRecursion (λ y. R k y ≡ Less) (keys_of es)
  rest_above e es sorted ties = above R o k e.0 (keys_of es) ties (sorted_head R e.0 (keys_of es) sorted)

  -- where all keys are above k, none is k's
  filter_above : (es : List (K × X)) → AllByRecursion (λ y. R k y ≡ Less) (keys_of es) → filter (λ e. not (is_at (R k) e.0)) es ≡ es
  filter_above [] all = refl
  filter_above (e ∷ es) all =
      ap (λ r. cond (not (is_eq r)) (e ∷ filter (λ (x : K × X). not (is_at (R k) x.0)) es) (filter (λ (x : K × X). not (is_at (R k) x.0)) es)) all.0
      ∙ ap (λ (rest : List (K × X)). e ∷ rest) (filter_above es all.1)

  -- the first entry whose key is k's is the only one
  pub taken_out : (es : List (K × X)) → IsStrictlySortedBy R (keys_of es) → remove_entry (is_at (R k)) es ≡ filter (λ e. not (is_at (R k) e.0)) es
  taken_out [] sorted = refl
  taken_out (e ∷ es) sorted = by (taken_out es (sorted_tail R e.0 (keys_of es) sorted)) (R k e.0) refl where
    by : remove_entry (is_at (R k)) es ≡ filter (λ (x : K × X). not (is_at (R k) x.0)) es → (r : Ordering) → R k e.0 ≡ r
        → cond (is_eq r) es (e ∷ remove_entry (is_at (R k)) es)
        ≡ cond (not (is_eq r)) (e ∷ filter (λ (x : K × X). not (is_at (R k) x.0)) es) (filter (λ (x : K × X). not (is_at (R k) x.0)) es)
    by later Less is = ap (λ (rest : List (K × X)). e ∷ rest) later
    by later Greater is = ap (λ (rest : List (K × X)). e ∷ rest) later
    by later Equal is = sym (filter_above es (rest_above e es sorted is))

  module _ (f g : X → X) where
    -- the entries whose key is k's are changed in one way, and all others in another
    abbrev pub one_and_others : List (K × X) → List (K × X)
    one_and_others es = map (λ e. (e.0, cond (is_at (R k) e.0) (f e.1) (g e.1))) es

    abbrev pub others : List (K × X) → List (K × X)
    others es = map (λ e. (e.0, g e.1)) es

    others_above : (es : List (K × X)) → AllByRecursion (λ y. R k y ≡ Less) (keys_of es) → one_and_others es ≡ others es
    others_above [] all = refl
    others_above (e ∷ es) all = λ i. (e.0, cond (is_eq (all.0 i)) (f e.1) (g e.1)) ∷ others_above es all.1 i

    first_above : (es : List (K × X)) (w : X) → AllByRecursion (λ y. R k y ≡ Less) (keys_of es) → insert_entry R (others es) k w ≡ (k, w) ∷ others es
    first_above [] w all = refl
    first_above (e ∷ es) w all =
        ap (λ r. match_ordering r ((k, w) ∷ (e.0, g e.1) ∷ others es) ((e.0, w) ∷ others es) ((e.0, g e.1) ∷ insert_entry R (others es) k w)) all.0

    -- what was taken out at k and is put back in its way
    pub put_back : ((q : K) → is_at (R k) q ≡ true → k ≡ q) → (es : List (K × X)) (v : X) → IsStrictlySortedBy R (keys_of es) → Some v ≡ lookup (is_at (R k)) es
        → insert_entry R (others (filter (λ e. not (is_at (R k) e.0)) es)) k (f v) ≡ one_and_others es
    put_back exact [] v sorted found = cc
    put_back exact (e ∷ es) v sorted found = by (put_back exact es v (sorted_tail R e.0 (keys_of es) sorted)) (R k e.0) refl found where
      rest : List (K × X)
      rest = filter (λ (x : K × X). not (is_at (R k) x.0)) es

      by : (Some v ≡ lookup (is_at (R k)) es → insert_entry R (others rest) k (f v) ≡ one_and_others es) → (r : Ordering) → R k e.0 ≡ r
          → Some v ≡ cond (is_eq r) (Some e.1) (lookup (is_at (R k)) es)
          → insert_entry R (others (cond (not (is_eq r)) (e ∷ rest) rest)) k (f v) ≡ (e.0, cond (is_eq r) (f e.1) (g e.1)) ∷ one_and_others es
      by later Less is found =
          let none : lookup (is_at (R k)) (e ∷ es) ≡ None = lookup-none (is_at (R k)) (e ∷ es) (none_below_head o k e es sorted is) in
          let never : Some v ≡ None = found ∙ sym (ap (λ r. cond (is_eq r) (Some e.1) (lookup (is_at (R k)) es)) is) ∙ none in cc
      by later Equal is found =
          let all : AllByRecursion (λ y. R k y ≡ Less) (keys_of es) = rest_above e es sorted is in
          let one : v ≡ e.1 = cc in
          ap (λ (xs : List (K × X)). insert_entry R (others xs) k (f v)) (filter_above es all)
          ∙ first_above es (f v) all
          ∙ (λ i. (exact e.0 (ap is_eq is) i, f (one i)) ∷ sym (others_above es all) i)
      by later Greater is found =
          ap (λ r. match_ordering r ((k, f v) ∷ (e.0, g e.1) ∷ others rest) ((e.0, f v) ∷ others rest) ((e.0, g e.1) ∷ insert_entry R (others rest) k (f v))) is
          ∙ ap (λ (xs : List (K × X)). (e.0, g e.1) ∷ xs) (later found)

    -- where there is nothing at k, nothing was taken out
    pub none_there : (es : List (K × X)) → None ≡ lookup (is_at (R k)) es
        → others (filter (λ e. not (is_at (R k) e.0)) es) ≡ one_and_others es
    none_there [] none = refl
    none_there (e ∷ es) none = by (none_there es) (is_at (R k) e.0) none where
      by : (None ≡ lookup (is_at (R k)) es → others (filter (λ (x : K × X). not (is_at (R k) x.0)) es) ≡ one_and_others es) → (b : Bool)
          → None ≡ cond b (Some e.1) (lookup (is_at (R k)) es)
          → others (cond (not b) (e ∷ filter (λ (x : K × X). not (is_at (R k) x.0)) es) (filter (λ (x : K × X). not (is_at (R k) x.0)) es))
          ≡ (e.0, cond b (f e.1) (g e.1)) ∷ one_and_others es
      by later true none = cc
      by later false none = ap (λ (xs : List (K × X)). (e.0, g e.1) ∷ xs) (later none)

  module _ (f : X → X) where
    -- the entries whose key is k's are changed
    abbrev pub here : List (K × X) → List (K × X)
    here es = map (λ e. cond (is_at (R k) e.0) (e.0, f e.1) e) es

    here_above : (es : List (K × X)) → AllByRecursion (λ y. R k y ≡ Less) (keys_of es) → here es ≡ es
    here_above [] all = refl
    here_above (e ∷ es) all = λ i. cond (is_eq (all.0 i)) (e.0, f e.1) e ∷ here_above es all.1 i

    -- a value that is found is changed where it stands
    pub set_here : (es : List (K × X)) (v : X) → IsStrictlySortedBy R (keys_of es) → Some v ≡ lookup (is_at (R k)) es
        → set_value (is_at (R k)) es (f v) ≡ here es
    set_here [] v sorted found = cc
    set_here (e ∷ es) v sorted found = by (set_here es v (sorted_tail R e.0 (keys_of es) sorted)) (R k e.0) refl found where
      by : (Some v ≡ lookup (is_at (R k)) es → set_value (is_at (R k)) es (f v) ≡ here es) → (r : Ordering) → R k e.0 ≡ r
          → Some v ≡ cond (is_eq r) (Some e.1) (lookup (is_at (R k)) es)
          → cond (is_eq r) ((e.0, f v) ∷ es) (e ∷ set_value (is_at (R k)) es (f v)) ≡ cond (is_eq r) (e.0, f e.1) e ∷ here es
      by later Less is found = ap (λ (rest : List (K × X)). e ∷ rest) (later found)
      by later Greater is found = ap (λ (rest : List (K × X)). e ∷ rest) (later found)
      by later Equal is found =
          let one : v ≡ e.1 = cc in
          λ i. (e.0, f (one i)) ∷ sym (here_above es (rest_above e es sorted is)) i

    -- nothing is changed where nothing is found
    pub none_here : (es : List (K × X)) → None ≡ lookup (is_at (R k)) es → here es ≡ es
    none_here [] none = refl
    none_here (e ∷ es) none = by (none_here es) (is_at (R k) e.0) none where
      by : (None ≡ lookup (is_at (R k)) es → here es ≡ es) → (b : Bool) → None ≡ cond b (Some e.1) (lookup (is_at (R k)) es)
          → cond b (e.0, f e.1) e ∷ here es ≡ e ∷ es
      by later true none = cc
      by later false none = ap (λ (rest : List (K × X)). e ∷ rest) (later none)

    each_same : (es : List (K × X)) → others f (λ x. x) es ≡ es
    each_same [] = refl
    each_same (e ∷ es) = ap (λ (rest : List (K × X)). e ∷ rest) (each_same es)

    pair_if : (b : Bool) (e : K × X) → ◌≡◌ {A = K × X} (e.0, cond b (f e.1) e.1) (cond b (e.0, f e.1) e)
    pair_if true e = refl
    pair_if false e = refl

    is_here : (es : List (K × X)) → one_and_others f (λ x. x) es ≡ here es
    is_here [] = refl
    is_here (e ∷ es) = λ i. pair_if (is_at (R k) e.0) e i ∷ is_here es i

    -- what was taken out and is put back changed is changed where it stood
    pub put_here : ((q : K) → is_at (R k) q ≡ true → k ≡ q) → (es : List (K × X)) (v : X) → IsStrictlySortedBy R (keys_of es) → Some v ≡ lookup (is_at (R k)) es
        → insert_entry R (filter (λ e. not (is_at (R k) e.0)) es) k (f v) ≡ here es
    put_here exact es v sorted found =
        ap (λ (xs : List (K × X)). insert_entry R xs k (f v)) (sym (each_same (filter (λ e. not (is_at (R k) e.0)) es)))
        ∙ (put_back f (λ x. x) exact es v sorted found ∙ is_here es)

  -- a key above all others goes to the end
  at_end : (x : K) (es rest : List (K × X)) (v : X) → AllByRecursion (λ y. R x y ≡ Less) (keys_of (es ++ (k, v) ∷ rest)) → R x k ≡ Less
  at_end x [] rest v all = all.0
  at_end x (e ∷ es) rest v all = at_end x es rest v all.1

  pub put_last : (es rest : List (K × X)) (v w : X) → IsStrictlySortedBy R (keys_of (es ++ (k, v) ∷ rest)) → insert_entry R es k w ≡ es ++ (k, w) ∷ []
  put_last [] rest v w sorted = refl
  put_last (e ∷ es) rest v w sorted =
      let less : R e.0 k ≡ Less = at_end e.0 es rest v (sorted_head R e.0 (keys_of (es ++ (k, v) ∷ rest)) sorted) in
      ap (λ r. match_ordering r ((k, w) ∷ e ∷ es) ((e.0, w) ∷ es) (e ∷ insert_entry R es k w)) (o.antisymm k e.0 ∙ ap ordering_reverse less)
      ∙ ap (λ (xs : List (K × X)). e ∷ xs) (put_last es rest v w (sorted_tail R e.0 (keys_of (es ++ (k, v) ∷ rest)) sorted))

  -- another value at the key leaves the keys as they are
  pub same_keys : (es rest : List (K × X)) (v w : X) → keys_of ((es ++ (k, w) ∷ []) ++ rest) ≡ keys_of (es ++ (k, v) ∷ rest)
  same_keys [] rest v w = refl
  same_keys (e ∷ es) rest v w = ap (λ (ks : List K). e.0 ∷ ks) (same_keys es rest v w)

  -- where there is nothing at k, all stays
  pub none_gone : (es : List (K × X)) → None ≡ lookup (is_at (R k)) es → filter (λ e. not (is_at (R k) e.0)) es ≡ es
  none_gone [] none = refl
  none_gone (e ∷ es) none = by (none_gone es) (is_at (R k) e.0) none where
    rest : List (K × X)
    rest = filter (λ (x : K × X). not (is_at (R k) x.0)) es

    by : (None ≡ lookup (is_at (R k)) es → rest ≡ es) → (b : Bool) → None ≡ cond b (Some e.1) (lookup (is_at (R k)) es) → cond (not b) (e ∷ rest) rest ≡ e ∷ es
    by later true none = cc
    by later false none = ap (λ (xs : List (K × X)). e ∷ xs) (later none)
