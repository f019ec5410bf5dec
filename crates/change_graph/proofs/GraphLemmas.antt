-- What a graph keeps, and what it answers.
use Rattle.std.proofs.Common.{◌≡◌, inl, inr, ℕ, ◌+◌, ◌<◌, ◌≤◌, ◌==◌, max, Bool, true, false, cond, not, ◌||◌, ◌&&◌, refl, sym, ap, ◌∙◌, subst, List, [], ◌∷◌, ◌++◌, map, take, get_or, length, Option, Some, None, is_some, eqb-true, arith}
use Rattle.std.specs.declared.cmp.Ordering.TheVariants.{Less}
use Rattle.std.specs.List.{AllByRecursion}
use Rattle.std.specs.Map.{lookup, keys_of}
use Rattle.std.specs.Option.{unwrap_or}
use Rattle.std.specs.BTreeMap.{is_at, insert_entry}
use Rattle.std.specs.List.Sorted.{IsStrictlySortedBy}
use Rattle.std.proofs.lemmas.List.{take_more}
use Rattle.std.proofs.lemmas.List.Folds.{list_any_more}
use Rattle.std.proofs.lemmas.Bool.{or_cases, or_left, or_right, both_ways, false_from_ne_true, not_from_false, not-true, not-false}
use Rattle.tt_base.specs.Ids.{name_cmp}
use Rattle.tt_base.specs.declared.ids.Name.{Name}
use Rattle.byte_format.specs.Format.{IsEncoding}
use Rattle.byte_format.proofs.Lawful.{encoding_is_unique}
use Rattle.change_codec.specs.Change.{Change}
use Rattle.change_codec.specs.Encoding.{change_format}
use Rattle.change_codec.proofs.EncodingLaws.{change_lawful}
use Rattle.change_graph.specs.declared.places.Place.{Place}
use Rattle.change_graph.specs.History.{History, is_name, has_name, change_at, is_held, deps_of, deps_at, missing, name_of, with_change}
use Rattle.change_graph.specs.Answers.{AreHeads, IsHeads, IsDifference, IsNext}
use Rattle.change_graph.specs.Closure.{Start, Step, IsInClosure, IsAncestor, IsClosureTest}
use Rattle.change_graph.specs.Depths.{greatest, by_depth}
use Rattle.change_graph.specs.Kept.{IsKept}
use Rattle.change_graph.specs.Nodes.{NodesView, IsDeep, depth_in}
use Rattle.change_graph.specs.Walk.{place_cmp, has_place, place_in, IsWalked, known_unless, is_known}
use Rattle.change_graph.proofs.OrderLemmas.{name_same, name_itself, name_swap, place_same, place_itself}
use Rattle.change_graph.proofs.ReachedLemmas.{reached_held}
use Rattle.change_graph.proofs.InsertLemmas.{lookup_inserted, length_inserted}
use Rattle.change_graph.proofs.GrowthLemmas.{IsGrown, greatest_le, deep_grown, history_grown}
use Rattle.change_graph.proofs.HeadLemmas.{behind_heads, heads_grown}

-- ---- one change more

-- the same heads
pub kept_again : (nodes : NodesView) (heads after : List Name) → IsKept nodes heads
    → ((q : Name) → has_name after q ≡ has_name heads q) → IsStrictlySortedBy name_cmp after → IsKept nodes after
kept_again nodes heads after kept same rising =
    let are = kept.are_heads.are_heads in
    record {
      is_history = kept.is_history;
      deep = kept.deep;
      are_heads = record {
        are_heads = record {
          held = λ q has. are.held q (sym (same q) ∙ has);
          unnamed = λ q has. are.unnamed q (sym (same q) ∙ has);
          all = λ q held unnamed. same q ∙ are.all q held unnamed;
        };
        rising = rising;
      };
    }

back_cases : (b h : Bool) → (b ≡ true → h ≡ false) → cond b false (cond b true h) ≡ h
back_cases true h apart = sym (apart refl)
back_cases false h apart = refl

-- a new name is put in, and taken out again
pub put_back : (nodes : NodesView) (heads mid after : List Name) (name : Name) → IsKept nodes heads → is_held nodes.history name ≡ false
    → ((q : Name) → has_name mid q ≡ cond (is_name name q) true (has_name heads q))
    → ((q : Name) → has_name after q ≡ cond (is_name name q) false (has_name mid q)) → IsStrictlySortedBy name_cmp after → IsKept nodes after
put_back nodes heads mid after name kept new put taken rising =
    kept_again nodes heads after kept
    (λ q.
    taken q
    ∙ ap (λ (b : Bool). cond (is_name name q) false b) (put q)
    ∙ back_cases (is_name name q) (has_name heads q)
    (λ same.
    false_from_ne_true (has_name heads q)
    (λ has.
    both_ways (is_held nodes.history name) new
    (subst (λ (n : Name). is_held nodes.history n ≡ true) (sym (name_same name q same)) (kept.are_heads.are_heads.held q has)))))
    rising

passing_cases : (b : Bool) (x : Name) (xs : List Name) → cond b (x ∷ xs) xs ≡ [] → (b ≡ false) × (xs ≡ [])
passing_cases true x xs none = cc
passing_cases false x xs none = (refl, none)

-- where none is missing, each is held
pub none_missing : (history : History) (names : List Name) → missing history names ≡ [] → (dep : Name) → has_name names dep ≡ true
    → is_held history dep ≡ true
none_missing history [] none dep has = cc
none_missing history (n ∷ ns) none dep has =
    let both = passing_cases (not (is_held history n)) n (missing history ns) none in
    elim (or_cases (is_name dep n) (has_name ns dep) has) [
      | inl same ↦ subst (λ (m : Name). is_held history m ≡ true) (sym (name_same dep n same)) (not-false (is_held history n) both.0)
      | inr rest ↦ none_missing history ns both.1 dep rest
    ]

or_put : (b h : Bool) → cond b true h ≡ (b || h)
or_put true h = refl
or_put false h = refl

-- the history that is kept is that with one change more
pub put_history : (nodes grown : NodesView) (name : Name) (change : Change) (depth : ℕ) → name ≡ name_of change
    → grown ≡ record { history = insert_entry name_cmp nodes.history name change; depths = insert_entry name_cmp nodes.depths name depth }
    → grown.history ≡ with_change nodes.history change
put_history nodes grown name change depth named is =
    ap (λ (v : NodesView). v.history) is ∙ ap (λ (n : Name). insert_entry name_cmp nodes.history n change) named

pub growth : (nodes grown : NodesView) (name : Name) (change : Change) (depth : ℕ) → IsNext nodes.history change → name ≡ name_of change
    → depth ≡ greatest (map (depth_in nodes.depths) change.deps) + 1
    → grown ≡ record { history = insert_entry name_cmp nodes.history name change; depths = insert_entry name_cmp nodes.depths name depth }
    → IsGrown nodes grown name change depth
growth nodes grown name change depth next named deeper is =
    let new : is_held nodes.history name ≡ false = ap (λ (n : Name). is_held nodes.history n) named ∙ next.new in
    record {
      new = new;
      ready = none_missing nodes.history change.deps next.ready;
      deeper = deeper;
      changes = λ q. ap (λ (v : NodesView). change_at v.history q) is ∙ lookup_inserted name change nodes.history q;
      depths = λ q. ap (λ (v : NodesView). lookup (is_name q) v.depths) is ∙ lookup_inserted name depth nodes.depths q;
      longer = ap (λ (v : NodesView). length v.history) is ∙ length_inserted name change nodes.history new;
    }

-- a change is put in, its name into the heads, and its dependencies out of them
pub kept_grown : (nodes grown : NodesView) (heads mid after deps : List Name) (name : Name) (change : Change) (depth : ℕ)
    → IsKept nodes heads → IsNext nodes.history change → name ≡ name_of change
    → depth ≡ greatest (map (depth_in nodes.depths) change.deps) + 1
    → grown ≡ record { history = insert_entry name_cmp nodes.history name change; depths = insert_entry name_cmp nodes.depths name depth }
    → IsStrictlySortedBy name_cmp (keys_of grown.history)
    → ((q : Name) → has_name mid q ≡ cond (is_name name q) true (has_name heads q)) → deps ≡ change.deps
    → ((q : Name) → has_name after q ≡ (has_name mid q && not (has_name deps q))) → IsStrictlySortedBy name_cmp after
    → IsKept grown after
kept_grown nodes grown heads mid after deps name change depth kept next named deeper is rising put deps_are taken sorted =
    let growing = growth nodes grown name change depth next named deeper is in
    record {
      is_history = history_grown nodes grown name change depth growing kept.deep kept.is_history named next.accepted rising;
      deep = deep_grown nodes grown name change depth growing kept.deep;
      are_heads = record {
        are_heads = heads_grown nodes grown name change depth growing kept.deep.closed heads after kept.are_heads.are_heads
            (λ q.
            taken q
            ∙ (λ i. put q i && not (has_name (deps_are i) q))
            ∙ ap (λ (b : Bool). b && not (has_name change.deps q)) (or_put (is_name name q) (has_name heads q)));
        rising = sorted;
      };
    }

-- what is found under its name is the change
pub found_again : (nodes grown : NodesView) (name : Name) (change : Change) (depth : ℕ)
    → grown ≡ record { history = insert_entry name_cmp nodes.history name change; depths = insert_entry name_cmp nodes.depths name depth }
    → change_at grown.history name ≡ Some change
found_again nodes grown name change depth is =
    ap (λ (v : NodesView). change_at v.history name) is
    ∙ lookup_inserted name change nodes.history name
    ∙ ap (λ (b : Bool). cond b (Some change) (change_at nodes.history name)) (name_itself name)

-- ---- the greatest depth

greatest_push : (depth : Name → ℕ) (names : List Name) (x : Name) → greatest (map depth (names ++ x ∷ [])) ≡ max (greatest (map depth names)) (depth x)
greatest_push depth [] x = omega arith
greatest_push depth (n ∷ ns) x =
    let rest : greatest (map depth (ns ++ x ∷ [])) ≡ max (greatest (map depth ns)) (depth x) = greatest_push depth ns x in omega (arith, rest)

pub greatest_more : (depths : List (Name × ℕ)) (names : List Name) (i : ℕ) (d : Name) (most depth next : ℕ) → i < length names
    → most ≡ greatest (map (depth_in depths) (take i names)) → depth ≡ depth_in depths (get_or names i d) → next ≡ max most depth
    → next ≡ greatest (map (depth_in depths) (take (i + 1) names))
greatest_more depths names i d most depth next within before is step =
    step ∙ (λ j. max (before j) (is j))
    ∙ sym (greatest_push (depth_in depths) (take i names) (get_or names i d))
    ∙ ap (λ (ns : List Name). greatest (map (depth_in depths) ns)) (sym (take_more names i d within))

pub greatest_few : (nodes : NodesView) → IsDeep nodes → (names : List Name) → greatest (map (depth_in nodes.depths) names) ≤ length nodes.history
greatest_few nodes deep names = greatest_le (depth_in nodes.depths) (length nodes.history) deep.few names

-- ---- names are taken out

taken_cases : (x h t : Bool) → cond x false (h && not t) ≡ (h && not (t || x))
taken_cases true true true = refl
taken_cases true true false = refl
taken_cases true false t = refl
taken_cases false true true = refl
taken_cases false true false = refl
taken_cases false false t = refl

pub taken_more : (names : List Name) (i : ℕ) (d : Name) (old mid new : List Name) → i < length names
    → ((q : Name) → has_name mid q ≡ (has_name old q && not (has_name (take i names) q)))
    → ((q : Name) → has_name new q ≡ cond (is_name (get_or names i d) q) false (has_name mid q))
    → (q : Name) → has_name new q ≡ (has_name old q && not (has_name (take (i + 1) names) q))
taken_more names i d old mid new within before step q =
    let more : has_name (take (i + 1) names) q ≡ (has_name (take i names) q || is_name (get_or names i d) q) =
    list_any_more (is_name q) names i d within
    ∙ ap (λ (b : Bool). has_name (take i names) q || b) (name_swap q (get_or names i d)) in
    step q
    ∙ ap (λ (b : Bool). cond (is_name (get_or names i d) q) false b) (before q)
    ∙ taken_cases (is_name (get_or names i d) q) (has_name old q) (has_name (take i names) q)
    ∙ ap (λ (b : Bool). has_name old q && not b) (sym more)

-- ---- names that are missing

missing_cases : (held : Bool) (x : Name) → cond (not held) (x ∷ []) [] ≡ cond held [] (x ∷ [])
missing_cases true x = refl
missing_cases false x = refl

missing_behind : (first held : Bool) (n x : Name) (ns : List Name)
    → cond first (n ∷ cond held ns (ns ++ x ∷ [])) (cond held ns (ns ++ x ∷ [])) ≡ cond held (cond first (n ∷ ns) ns) (cond first (n ∷ ns) ns ++ x ∷ [])
missing_behind true true n x ns = refl
missing_behind true false n x ns = refl
missing_behind false true n x ns = refl
missing_behind false false n x ns = refl

missing_push : (history : History) (names : List Name) (x : Name) → missing history (names ++ x ∷ [])
    ≡ cond (is_held history x) (missing history names) (missing history names ++ x ∷ [])
missing_push history [] x = missing_cases (is_held history x) x
missing_push history (n ∷ ns) x =
    ap (λ (rest : List Name). cond (not (is_held history n)) (n ∷ rest) rest) (missing_push history ns x)
    ∙ missing_behind (not (is_held history n)) (is_held history x) n x (missing history ns)

pub missing_more : (history : History) (names : List Name) (i : ℕ) (d : Name) (old new : List Name) → i < length names
    → old ≡ missing history (take i names) → new ≡ cond (is_held history (get_or names i d)) old (old ++ get_or names i d ∷ [])
    → new ≡ missing history (take (i + 1) names)
missing_more history names i d old new within before step =
    step
    ∙ ap (λ (list : List Name). cond (is_held history (get_or names i d)) list (list ++ get_or names i d ∷ [])) before
    ∙ sym (missing_push history (take i names) (get_or names i d))
    ∙ ap (λ (ns : List Name). missing history ns) (sym (take_more names i d within))

-- ---- ancestors

-- the place of a held change
pub true_place : (nodes : NodesView) (name : Name) (depth : ℕ) → Some depth ≡ lookup (is_name name) nodes.depths
    → record { depth = depth; name = name } ≡ place_in nodes name
true_place nodes name depth is =
    let same : depth ≡ depth_in nodes.depths name = ap (λ (o : Option ℕ). unwrap_or o 0) is in
    λ i. record { depth = same i; name = name }

from_none : (history : History) (names : List Name) → names ≡ [] → {q : Name} → IsInClosure history names q → ⊥
from_none history names none (Start q passes held) =
    let never : has_name [] q ≡ true = subst (λ (ns : List Name). has_name ns q ≡ true) none passes in cc
from_none history names none (Step above below reached dep) = from_none history names none reached

-- where nothing is held there are no ancestors
pub absent_has_none : (history : History) (ancestor name : Name) → None ≡ change_at history name → IsAncestor history ancestor name → ⊥
absent_has_none history ancestor name absent reached =
    from_none history (deps_at history name) (ap deps_of (sym absent)) reached

-- ---- the difference as a list

name_of_place : (places : List Place) (name : Name) → has_name (map (λ place. place.name) places) name ≡ true
    → (place : Place) × (has_place places place ≡ true) × (place.name ≡ name)
name_of_place [] name has = cc
name_of_place (p ∷ ps) name has =
    elim (or_cases (is_name name p.name) (has_name (map (λ place. place.name) ps) name) has) [
      | inl same ↦ (p, or_left (is_at (place_cmp p) p) (has_place ps p) (place_itself p), sym (name_same name p.name same))
      | inr later ↦
          let found = name_of_place ps name later in
          (found.0, or_right (is_at (place_cmp found.0) p) (has_place ps found.0) found.1, found.2)
    ]

place_of_name : (places : List Place) (place : Place) → has_place places place ≡ true → has_name (map (λ p. p.name) places) place.name ≡ true
place_of_name [] place has = cc
place_of_name (p ∷ ps) place has =
    elim (or_cases (is_at (place_cmp place) p) (has_place ps place) has) [
      | inl same ↦
          or_left (is_name place.name p.name) (has_name (map (λ q. q.name) ps) place.name)
          (subst (λ (q : Place). is_name place.name q.name ≡ true) (place_same place p same) (name_itself place.name))
      | inr later ↦ or_right (is_name place.name p.name) (has_name (map (λ q. q.name) ps) place.name) (place_of_name ps place later)
    ]

module _ (nodes : NodesView) where
  depths_rise : (p : Place) (ps : List Place) → p ≡ place_in nodes p.name → ((q : Place) → has_place ps q ≡ true → q ≡ place_in nodes q.name)
      → AllByRecursion (λ q. place_cmp p q ≡ Less) ps
      → AllByRecursion (λ n. by_depth (depth_in nodes.depths) p.name n ≡ Less) (map (λ q. q.name) ps)
  depths_rise p [] true_p true_ps below = tt
  depths_rise p (q ∷ qs) true_p true_ps below = (
    subst (λ (x : Place). place_cmp (place_in nodes p.name) x ≡ Less) (true_ps q (or_left (is_at (place_cmp q) q) (has_place qs q) (place_itself q)))
        (subst (λ (x : Place). place_cmp x q ≡ Less) true_p below.0),
    depths_rise p qs true_p (λ x has. true_ps x (or_right (is_at (place_cmp x) q) (has_place qs x) has)) below.1,
  )

  names_rise : (places : List Place) → ((q : Place) → has_place places q ≡ true → q ≡ place_in nodes q.name) → IsStrictlySortedBy place_cmp places
      → IsStrictlySortedBy (by_depth (depth_in nodes.depths)) (map (λ q. q.name) places)
  unfolding IsStrictlySortedBy
  names_rise [] true_places sorted = tt
  names_rise (p ∷ ps) true_places sorted =
      let rest : (q : Place) → has_place ps q ≡ true → q ≡ place_in nodes q.name =
      λ q has. true_places q (or_right (is_at (place_cmp q) p) (has_place ps q) has) in
      (depths_rise p ps (true_places p (or_left (is_at (place_cmp p) p) (has_place ps p) (place_itself p))) rest sorted.0, names_rise ps rest sorted.1)

  pub difference_of : IsDeep nodes → (need have : List Name) (found : List Place) → IsWalked nodes need have found
      → IsStrictlySortedBy place_cmp found → IsDifference nodes.history need have (map (λ place. place.name) found)
  difference_of deep need have found walked sorted = record {
    needed = λ name has.
        let at = name_of_place found name has in
        subst (λ (n : Name). IsInClosure nodes.history need n) at.2 (walked.sound at.0 at.1).1;
    not_had = λ name has had.
        let at = name_of_place found name has in
        walked.not_had at.0 at.1 (subst (λ (n : Name). IsInClosure nodes.history have n) (sym at.2) had);
    all = λ name reached apart.
        elim (walked.all name reached) [
          | inl at ↦ place_of_name found (place_in nodes name) at
          | inr had ↦ absurd (apart had)
        ];
    depth = depth_in nodes.depths;
    are_depths = deep.are_depths;
    rising = names_rise found (λ q has. (walked.sound q has).0) sorted;
  }

  -- ---- what the dependencies lead to

  known_only : IsDeep nodes → (heads deps : List Name) (outside : List Place) → AreHeads nodes.history heads → IsWalked nodes heads deps outside
      → (name : Name) (o : Option ℕ) → lookup (is_name name) nodes.depths ≡ o → known_unless nodes outside name o ≡ true
      → IsInClosure nodes.history deps name
  known_only deep heads deps outside are walked name None is passes = cc
  known_only deep heads deps outside are walked name (Some depth) is passes =
      let held : is_held nodes.history name ≡ true = sym (deep.paired name) ∙ ap (λ (o : Option ℕ). is_some o) is in
      elim (walked.all name (behind_heads nodes deep heads are name held)) [
        | inl at ↦
            let away : has_place outside (record { depth = depth; name = name }) ≡ false = not-true _ passes in
            let here : has_place outside (record { depth = depth; name = name }) ≡ true =
            subst (λ (p : Place). has_place outside p ≡ true) (sym (true_place nodes name depth (sym is))) at in
            absurd (both_ways (has_place outside (record { depth = depth; name = name })) away here)
        | inr had ↦ had
      ]

  known_all : (heads deps : List Name) (outside : List Place) → IsWalked nodes heads deps outside
      → (name : Name) → IsInClosure nodes.history deps name → (o : Option ℕ) → is_some o ≡ true → known_unless nodes outside name o ≡ true
  known_all heads deps outside walked name reached None some = cc
  known_all heads deps outside walked name reached (Some depth) some =
      not_from_false (has_place outside (record { depth = depth; name = name }))
      (false_from_ne_true (has_place outside (record { depth = depth; name = name }))
      (λ has. walked.not_had (record { depth = depth; name = name }) has reached))

  -- each held change that is not outside is behind the dependencies
  pub known_closure : IsDeep nodes → (heads deps : List Name) (outside : List Place) (change : Change) → AreHeads nodes.history heads
      → IsWalked nodes heads deps outside → deps ≡ change.deps → IsClosureTest nodes.history change.deps (is_known nodes outside)
  known_closure deep heads deps outside change are walked deps_are =
      subst (λ (ds : List Name). IsClosureTest nodes.history ds (is_known nodes outside)) deps_are
      (record {
        only = λ name passes. known_only deep heads deps outside are walked name (lookup (is_name name) nodes.depths) refl passes;
        all = λ name reached.
            known_all heads deps outside walked name reached (lookup (is_name name) nodes.depths)
            (deep.paired name ∙ reached_held deep.closed (has_name deps) reached);
      })

-- ---- adding

none_lacking : (lacking : List Name) (empty : Bool) → empty ≡ (length lacking == 0) → empty ≡ true → lacking ≡ []
none_lacking [] empty is true_is = refl
none_lacking (n ∷ ns) empty is true_is =
    let none : length (n ∷ ns) ≡ 0 = eqb-true (length (n ∷ ns)) 0 (sym is ∙ true_is) in absurd (omega (arith, none))

-- the list of what is missing is empty
pub none_are_missing : (history : History) (lacking names deps : List Name) (empty : Bool) → lacking ≡ missing history names → names ≡ deps
    → empty ≡ (length lacking == 0) → empty ≡ true → missing history deps ≡ []
none_are_missing history lacking names deps empty is names_are empty_is true_is =
    ap (λ (ns : List Name). missing history ns) (sym names_are) ∙ sym is ∙ none_lacking lacking empty empty_is true_is

-- what is not outside is known, by the heads that were asked for
pub closure_known : (nodes : NodesView) (history : History) (heads asked given deps : List Name) (outside : List Place) (change : Change)
    → nodes.history ≡ history → IsKept nodes heads → IsHeads history asked → given ≡ asked → IsWalked nodes given deps outside → deps ≡ change.deps
    → IsClosureTest nodes.history change.deps (is_known nodes outside)
closure_known nodes history heads asked given deps outside change is kept asked_are given_are walked deps_are =
    let are : AreHeads nodes.history given =
    subst (λ (ns : List Name). AreHeads nodes.history ns) (sym given_are)
    (subst (λ (h : History). AreHeads h asked) (sym is) asked_are.are_heads) in
    known_closure nodes kept.deep given deps outside change are walked deps_are

-- one encoding is of one change
pub same_change : (kept given : List ℕ) (held change : Change) → IsEncoding change_format kept held → IsEncoding change_format given change
    → kept ≡ given → held ≡ change
same_change kept given held change first second same =
    encoding_is_unique change_format change_lawful kept held change first
    (subst (λ (bytes : List ℕ). IsEncoding change_format bytes change) (sym same) second)
