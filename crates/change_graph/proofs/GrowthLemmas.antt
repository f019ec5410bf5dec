-- A history with one change more.
use Rattle.std.proofs.Common.{◌≡◌, inl, inr, ℕ, ◌+◌, ◌<◌, ◌≤◌, Bool, true, false, cond, refl, sym, ap, ◌∙◌, subst, List, [], ◌∷◌, map, length, take, Option, Some, is_some, arith}
use Rattle.std.specs.Map.{lookup, keys_of}
use Rattle.std.specs.Option.{unwrap_or}
use Rattle.std.specs.List.{slice_get}
use Rattle.std.specs.List.Sorted.{IsStrictlySortedBy}
use Rattle.std.proofs.lemmas.Bool.{cases_Bool, or_left, or_right, both_ways, false_from_ne_true, cond-true, cond-false}
use Rattle.tt_base.specs.Ids.{name_cmp}
use Rattle.tt_base.specs.declared.ids.Name.{Name}
use Rattle.change_codec.specs.Change.{Change}
use Rattle.change_codec.specs.declared.ops.Op.{Op}
use Rattle.change_codec.specs.declared.ops.Ref.{Ref}
use Rattle.change_codec.specs.declared.ops.Ref.TheVariants.{Here, There}
use Rattle.change_graph.specs.History.{is_name, has_name, change_at, is_held, deps_of, deps_at, ops_of, ops_at, name_of}
use Rattle.change_graph.specs.Closure.{IsReached, Start, Step, IsAncestor, IsClosureTest}
use Rattle.change_graph.specs.Depths.{greatest}
use Rattle.change_graph.specs.Histories.{IsClosed, IsHistory}
use Rattle.change_graph.specs.Nodes.{NodesView, IsDeep, depth_in}
use Rattle.change_graph.specs.Refusals.{ops_within, things, thing_seen, fault_of, fault_at, IsAccepted}
use Rattle.change_graph.proofs.OrderLemmas.{name_same, name_itself}
use Rattle.change_graph.proofs.ReachedLemmas.{reached_held, dep_depth}

-- ---- no change is its own ancestor

below_depth : (nodes : NodesView) → IsDeep nodes → (name : Name) → {below : Name} → IsAncestor nodes.history below name
    → depth_in nodes.depths below < depth_in nodes.depths name
below_depth nodes deep name (Start below dep held) = dep_depth nodes.history (depth_in nodes.depths) deep.are_depths name below dep
below_depth nodes deep name (Step above below reached dep) =
    let less : depth_in nodes.depths above < depth_in nodes.depths name = below_depth nodes deep name reached in
    let step : depth_in nodes.depths below < depth_in nodes.depths above =
    dep_depth nodes.history (depth_in nodes.depths) deep.are_depths above below dep in
    omega (arith, less, step)

pub acyclic : (nodes : NodesView) → IsDeep nodes → (name : Name) → IsAncestor nodes.history name name → ⊥
acyclic nodes deep name reached =
    let less : depth_in nodes.depths name < depth_in nodes.depths name = below_depth nodes deep name reached in omega (arith, less)

pub greatest_le : (depth : Name → ℕ) (bound : ℕ) → ((name : Name) → depth name ≤ bound) → (names : List Name) → greatest (map depth names) ≤ bound
greatest_le depth bound each [] = omega arith
greatest_le depth bound each (n ∷ ns) =
    let one : depth n ≤ bound = each n in
    let rest : greatest (map depth ns) ≤ bound = greatest_le depth bound each ns in
    omega (arith, one, rest)

pub map_same : (f g : Name → ℕ) (names : List Name) → ((name : Name) → has_name names name ≡ true → f name ≡ g name) → map f names ≡ map g names
map_same f g [] each = refl
map_same f g (n ∷ ns) each = λ i.
    each n (or_left (is_name n n) (has_name ns n) (name_itself n)) i
    ∷ map_same f g ns (λ name has. each name (or_right (is_name name n) (has_name ns name) has)) i

pub cond_same : {X : Type 0} (b : Bool) (x y z : X) → (b ≡ true → x ≡ y) → cond b x z ≡ cond b y z
cond_same true x y z same = same refl
cond_same false x y z same = refl

-- ---- one change more

-- a change is put in whose dependencies are held, and its depth
pub record IsGrown (nodes grown : NodesView) (name : Name) (change : Change) (depth : ℕ) : Type 0 where
  pub new : is_held nodes.history name ≡ false
  pub ready : (dep : Name) → has_name change.deps dep ≡ true → is_held nodes.history dep ≡ true
  pub deeper : depth ≡ greatest (map (depth_in nodes.depths) change.deps) + 1
  pub changes : (q : Name) → change_at grown.history q ≡ cond (is_name name q) (Some change) (change_at nodes.history q)
  pub depths : (q : Name) → lookup (is_name q) grown.depths ≡ cond (is_name name q) (Some depth) (lookup (is_name q) nodes.depths)
  pub longer : length grown.history ≡ length nodes.history + 1

module _ (nodes grown : NodesView) (name : Name) (change : Change) (depth : ℕ) (is : IsGrown nodes grown name change depth) where
  -- what was held has another name
  pub held_apart : (q : Name) → is_held nodes.history q ≡ true → is_name name q ≡ false
  held_apart q held =
      false_from_ne_true (is_name name q)
      (λ same.
      both_ways (is_held nodes.history name) is.new
      (subst (λ (n : Name). is_held nodes.history n ≡ true) (sym (name_same name q same)) held))

  pub old_at : (q : Name) → is_name name q ≡ false → change_at grown.history q ≡ change_at nodes.history q
  old_at q apart = is.changes q ∙ cond-false (is_name name q) (Some change) (change_at nodes.history q) apart

  pub new_at : (q : Name) → is_name name q ≡ true → change_at grown.history q ≡ Some change
  new_at q same = is.changes q ∙ cond-true (is_name name q) (Some change) (change_at nodes.history q) same

  pub held_stays : (q : Name) → is_held nodes.history q ≡ true → is_held grown.history q ≡ true
  held_stays q held = ap (λ (o : Option Change). is_some o) (old_at q (held_apart q held)) ∙ held

  pub old_deps : (q dep : Name) → is_name name q ≡ false → has_name (deps_at grown.history q) dep ≡ has_name (deps_at nodes.history q) dep
  old_deps q dep apart = ap (λ (o : Option Change). has_name (deps_of o) dep) (old_at q apart)

  pub new_deps : (q dep : Name) → is_name name q ≡ true → has_name (deps_at grown.history q) dep ≡ has_name change.deps dep
  new_deps q dep same = ap (λ (o : Option Change). has_name (deps_of o) dep) (new_at q same)

  -- nothing depends on the new change
  pub dep_was_held : IsClosed nodes.history → (q dep : Name) → has_name (deps_at grown.history q) dep ≡ true → is_held nodes.history dep ≡ true
  dep_was_held closed q dep has =
      elim (cases_Bool (is_name name q)) [
        | inl same ↦ is.ready dep (sym (new_deps q dep same) ∙ has)
        | inr apart ↦ closed.held q dep (sym (old_deps q dep apart) ∙ has)
      ]

  reached_on : (from : Name → Bool) → IsClosed nodes.history → {q : Name} → IsReached nodes.history from q → IsReached grown.history from q
  reached_on from closed (Start q passes held) = Start q passes (held_stays q held)
  reached_on from closed (Step above below reached dep) =
      let apart = held_apart above (reached_held closed from reached) in
      Step above below (reached_on from closed reached) (old_deps above below apart ∙ dep)

  reached_back : (from : Name → Bool) → IsClosed nodes.history → ((q : Name) → from q ≡ true → is_held nodes.history q ≡ true)
      → {q : Name} → IsReached grown.history from q → IsReached nodes.history from q
  reached_back from closed each (Start q passes held) = Start q passes (each q passes)
  reached_back from closed each (Step above below reached dep) =
      let again = reached_back from closed each reached in
      let apart = held_apart above (reached_held closed from again) in
      Step above below again (sym (old_deps above below apart) ∙ dep)

  -- ---- depths

  pub old_depth : (q : Name) → is_name name q ≡ false → depth_in grown.depths q ≡ depth_in nodes.depths q
  old_depth q apart =
      ap (λ (o : Option ℕ). unwrap_or o 0) (is.depths q ∙ cond-false (is_name name q) (Some depth) (lookup (is_name q) nodes.depths) apart)

  pub new_depth : (q : Name) → is_name name q ≡ true → depth_in grown.depths q ≡ depth
  new_depth q same =
      ap (λ (o : Option ℕ). unwrap_or o 0) (is.depths q ∙ cond-true (is_name name q) (Some depth) (lookup (is_name q) nodes.depths) same)

  depths_same : (names : List Name) → ((n : Name) → has_name names n ≡ true → is_held nodes.history n ≡ true)
      → greatest (map (depth_in nodes.depths) names) ≡ greatest (map (depth_in grown.depths) names)
  depths_same names each =
      ap greatest
      (map_same (depth_in nodes.depths) (depth_in grown.depths) names (λ n has. sym (old_depth n (held_apart n (each n has)))))

  each_depth : IsDeep nodes → (q : Name) (c : Change) → change_at grown.history q ≡ Some c
      → depth_in grown.depths q ≡ greatest (map (depth_in grown.depths) c.deps) + 1
  each_depth deep q c at =
      elim (cases_Bool (is_name name q)) [
        | inl same ↦
            let one : Some change ≡ Some c = sym (new_at q same) ∙ at in
            let c_is : change ≡ c = cc in
            new_depth q same ∙ is.deeper
            ∙ ap (λ (n : ℕ). n + 1) (depths_same change.deps is.ready)
            ∙ ap (λ (x : Change). greatest (map (depth_in grown.depths) x.deps) + 1) c_is
        | inr apart ↦
            let old : change_at nodes.history q ≡ Some c = sym (old_at q apart) ∙ at in
            old_depth q apart ∙ deep.are_depths.each q c old
            ∙ ap (λ (n : ℕ). n + 1)
            (depths_same c.deps
            (λ n has. deep.closed.held q n (ap (λ (o : Option Change). has_name (deps_of o) n) old ∙ has)))
      ]

  paired : IsDeep nodes → (q : Name) → is_some (lookup (is_name q) grown.depths) ≡ is_held grown.history q
  paired deep q =
      elim (cases_Bool (is_name name q)) [
        | inl same ↦
            ap (λ (o : Option ℕ). is_some o) (is.depths q ∙ cond-true (is_name name q) (Some depth) (lookup (is_name q) nodes.depths) same)
            ∙ sym (ap (λ (o : Option Change). is_some o) (new_at q same))
        | inr apart ↦
            ap (λ (o : Option ℕ). is_some o) (is.depths q ∙ cond-false (is_name name q) (Some depth) (lookup (is_name q) nodes.depths) apart)
            ∙ deep.paired q
            ∙ sym (ap (λ (o : Option Change). is_some o) (old_at q apart))
      ]

  few : IsDeep nodes → (q : Name) → depth_in grown.depths q ≤ length grown.history
  few deep q =
      elim (cases_Bool (is_name name q)) [
        | inl same ↦
            let at : depth_in grown.depths q ≡ depth = new_depth q same in
            let most : greatest (map (depth_in nodes.depths) change.deps) ≤ length nodes.history =
            greatest_le (depth_in nodes.depths) (length nodes.history) deep.few change.deps in
            omega (arith, at, most, is.deeper, is.longer)
        | inr apart ↦
            let at : depth_in grown.depths q ≡ depth_in nodes.depths q = old_depth q apart in
            let most : depth_in nodes.depths q ≤ length nodes.history = deep.few q in
            omega (arith, at, most, is.longer)
      ]

  -- the depths are those of the history
  pub deep_grown : IsDeep nodes → IsDeep grown
  deep_grown deep = record {
    closed = record { held = λ q dep has. held_stays dep (dep_was_held deep.closed q dep has) };
    paired = paired deep;
    are_depths = record { each = each_depth deep };
    few = few deep;
  }

  -- ---- operations

  test_stays : IsClosed nodes.history → (names : List Name) → ((n : Name) → has_name names n ≡ true → is_held nodes.history n ≡ true)
      → (known : Name → Bool) → IsClosureTest nodes.history names known → IsClosureTest grown.history names known
  test_stays closed names each known knows = record {
    only = λ q passes. reached_on (has_name names) closed (knows.only q passes);
    all = λ q reached. knows.all q (reached_back (has_name names) closed each reached);
  }

  ops_same : IsClosed nodes.history → (names : List Name) (known : Name → Bool) → IsClosureTest nodes.history names known → (earlier : List Op)
      → (place : Ref) → ops_within (record { history = nodes.history; known = known; earlier = earlier }) place
      ≡ ops_within (record { history = grown.history; known = known; earlier = earlier }) place
  ops_same closed names known knows earlier (Here index) = refl
  ops_same closed names known knows earlier (There q index) =
      cond_same (known q) (ops_at nodes.history q) (ops_at grown.history q) []
      (λ passes.
      ap (λ (o : Option Change). ops_of o) (sym (old_at q (held_apart q (reached_held closed (has_name names) (knows.only q passes))))))

  fault_stays : IsClosed nodes.history → (names : List Name) (known : Name → Bool) → IsClosureTest nodes.history names known
      → (ops : List Op) (place : ℕ) → fault_at nodes.history known ops place ≡ fault_at grown.history known ops place
  fault_stays closed names known knows ops place = λ i.
      fault_of (λ at. map (thing_seen at) (things (ops_same closed names known knows (take place ops) at i))) (slice_get ops place)

  accepted_stays : IsClosed nodes.history → (c : Change) → ((n : Name) → has_name c.deps n ≡ true → is_held nodes.history n ≡ true)
      → IsAccepted nodes.history c → IsAccepted grown.history c
  accepted_stays closed c each accepted = record {
    known = accepted.known;
    knows = test_stays closed c.deps each accepted.known accepted.knows;
    none = λ place. sym (fault_stays closed c.deps accepted.known accepted.knows c.ops place) ∙ accepted.none place;
  }

  -- it is a history again
  pub history_grown : IsDeep nodes → IsHistory nodes.history → name ≡ name_of change → IsAccepted nodes.history change
      → IsStrictlySortedBy name_cmp (keys_of grown.history) → IsHistory grown.history
  history_grown deep history named accepted rising = record {
    named = λ q c at.
        elim (cases_Bool (is_name name q)) [
          | inl same ↦
              let one : Some change ≡ Some c = sym (new_at q same) ∙ at in
              let c_is : change ≡ c = cc in
              sym (name_same name q same) ∙ named ∙ ap name_of c_is
          | inr apart ↦ history.named q c (sym (old_at q apart) ∙ at)
        ];
    closed = (deep_grown deep).closed;
    rising = rising;
    acyclic = acyclic grown (deep_grown deep);
    accepted = λ q c at.
        elim (cases_Bool (is_name name q)) [
          | inl same ↦
              let one : Some change ≡ Some c = sym (new_at q same) ∙ at in
              let c_is : change ≡ c = cc in
              subst (λ (x : Change). IsAccepted grown.history x) c_is (accepted_stays history.closed change is.ready accepted)
          | inr apart ↦
              let old : change_at nodes.history q ≡ Some c = sym (old_at q apart) ∙ at in
              accepted_stays history.closed c
              (λ n has. history.closed.held q n (ap (λ (o : Option Change). has_name (deps_of o) n) old ∙ has))
              (history.accepted q c old)
        ];
  }
