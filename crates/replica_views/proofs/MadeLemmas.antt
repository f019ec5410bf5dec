-- A made change has the delta that it was made for as its effect, and no other path has one.
use Rattle.std.proofs.Common.{◌≡◌, ℕ, suc, ◌+◌, Bool, true, false, cond, refl, sym, ap, ap₂, ◌∙◌, subst, List, [], ◌∷◌, ◌++◌, map, flat_map, length, Option, Some, None, is_some, arith}
use Rattle.std.specs.List.{AllByRecursion, count_by, filter}
use Rattle.std.proofs.lemmas.List.{append-nil}
use Rattle.delta.specs.Cells.{applied, Cell, Cells, ends, base_length, inserts, deleting, normal, one_if, IsNormal, changes_nothing}
use Rattle.tt_base.specs.Elements.{is_alive}
use Rattle.tt_base.specs.declared.ids.Name.{Name}
use Rattle.tt_base.specs.declared.ids.Actor.{Actor}
use Rattle.tt_base.specs.declared.ids.ElemId.{ElemId}
use Rattle.tt_base.specs.declared.elements.Element.{Element}
use Rattle.tt_base.specs.declared.text_ops.TextOp.{TextOp}
use Rattle.change_codec.specs.Change.{Change}
use Rattle.change_codec.specs.declared.ops.Ref.TheVariants.{Here}
use Rattle.change_codec.specs.declared.ops.Op.{Op}
use Rattle.change_codec.specs.declared.ops.Op.TheVariants.{Make, Remove, Insert, Delete}
use Rattle.tt_base.specs.declared.text_ops.TextOp.TheVariants as on_text
use Rattle.change_graph.specs.Refusals.{things_of}
use Rattle.change_graph.specs.History.{History, is_held, name_of, with_change}
use Rattle.replica_dir.specs.Ids.{is_path, has_path}
use Rattle.std.specs.List.{All}
use Rattle.std.specs.List.Sorted.{IsStrictlySortedBy}
use Rattle.std.specs.Prelude.{IsTrue, ◌↔◌}
use Rattle.std.specs.Option.{option_map, unwrap_or}
use Rattle.std.proofs.lemmas.List.Elements.{All-nil, All-cons}
use Rattle.std.specs.Cmp.Lexicographic.{slice_cmp}
use Rattle.std.specs.Ordering.{nat_cmp}
use Rattle.std.proofs.Common.{◌||◌}
use Rattle.replica_dir.proofs.IdLemmas.{path_same}
use Rattle.std.specs.Ordering.{is_eq}
use Rattle.std.specs.Cmp.Lexicographic.{nat_list_cmp_total}
use Rattle.std.proofs.lemmas.Cmp.{tied_itself}
use Rattle.std.proofs.lemmas.Bool.{both_ways}
use Rattle.replica_text.specs.Placed.{run_of}
use Rattle.replica_text.specs.Ids.{same, next_id}
use Rattle.replica_text.specs.Tree.{Tree, Leaf, walk}
use Rattle.replica_text.specs.Ops.{after_ops}
use Rattle.replica_text.specs.Effect.{text_of, effect}
use Rattle.replica_text.specs.Made.{made_ops, IsAbove}
use Rattle.replica_text.proofs.OrderLemmas.{same_self, other_same}
use Rattle.replica_text.proofs.EffectLemmas.{count_more}
use Rattle.replica_text.proofs.MadeEffects.{made_effect}
use Rattle.replica_text.proofs.MadeWalks.{later, made_walk}
use Rattle.replica_views.specs.Ids.{id_at, id_of}
use Rattle.replica_views.specs.Objects.{winner_at}
use Rattle.replica_views.specs.Texts.{parent_of, text_op, text_ops, by_depth, ops_on, tree_of, elements_of}
use Rattle.replica_views.specs.Views.{elements_in, view_at, text_at}
use Rattle.replica_views.specs.Effects.{is_same_object, replaced, effect_at, PathEffect, paths_of}
use Rattle.replica_views.specs.Made.{own_change, ref_to, written_op, next_id_at, ops_for, made}
use Rattle.replica_views.specs.Growth.{MayCome, IsGrown}
use Rattle.replica_views.specs.Laws.{DoesOnly}
use Rattle.replica_views.proofs.StepLemmas.{tree_step}
use Rattle.replica_views.proofs.TreeLemmas.{IsWell}
use Rattle.replica_views.proofs.ViewLemmas.{effect_leads_at, view_stays, effect_stays, known_on, well_tree, text_read}
use Rattle.replica_views.proofs.WrittenLemmas.{same_written, read_back, read_elsewhere, none_made, none_removed, made_readable}
use Rattle.replica_views.proofs.StayLemmas.{IsEntry, HasHeldRefs, all_by_depth, grown_entries}
use Rattle.replica_views.proofs.HeldLemmas.{IsHeldId, ref_held, makes_in, removes_in, winner_held, above_elements, true_later, visible_are_true, held_apart}
use Rattle.replica_views.proofs.WinnerLemmas.{winner_stays, winner_comes, winners_apart}

-- ---- texts

text_length : (xs : List Element) → length (text_of xs) ≡ count_by is_alive xs
text_length [] = refl
text_length (x ∷ xs) = by x.alive refl (text_length xs) where
  by : (b : Bool) → x.alive ≡ b → length (text_of xs) ≡ count_by is_alive xs
      → length (map (λ (e : Element). e.ch) (cond x.alive (x ∷ filter is_alive xs) (filter is_alive xs))) ≡ count_by is_alive (x ∷ xs)
  by true is rest =
      let more = count_more x xs in
      ap (λ (b : Bool). length (map (λ (e : Element). e.ch) (cond b (x ∷ filter is_alive xs) (filter is_alive xs)))) is
      ∙ ap suc rest ∙ (let e : suc (count_by is_alive xs) ≡ one_if true + count_by is_alive xs = omega arith in e)
      ∙ sym (more ∙ ap (λ (b : Bool). one_if b + count_by is_alive xs) is)
  by false is rest =
      let more = count_more x xs in
      ap (λ (b : Bool). length (map (λ (e : Element). e.ch) (cond b (x ∷ filter is_alive xs) (filter is_alive xs)))) is
      ∙ rest ∙ (let e : count_by is_alive xs ≡ one_if false + count_by is_alive xs = omega arith in e)
      ∙ sym (more ∙ ap (λ (b : Bool). one_if b + count_by is_alive xs) is)

-- ---- a change to a file that is there

module _ (history : History) (actor : Actor) (path : List ℕ) (d : Cells) (grown : IsGrown history) where
  abbrev with_ops : Option ElemId → Change
  with_ops o = own_change history actor (ops_for history actor path d o)

  module _ (w : ElemId) (is_winner : winner_at history path ≡ Some w) (may : MayCome history (with_ops (Some w)))
      (fits : base_length d ≡ length (text_at history path)) (normal_d : IsNormal d) where
    abbrev after : History
    after = with_change history (with_ops (Some w))

    abbrev name : Name
    name = name_of (with_ops (Some w))

    abbrev old : List Element
    old = elements_of history w

    abbrev next : ElemId
    next = id_at after name 0

    well : IsWell (tree_of history w) (known_on history w)
    well = well_tree history grown w

    own_is : id_of after name (ref_to w) ≡ w
    own_is = true_later history (with_ops (Some w)) grown may w (winner_held history grown path w is_winner)

    ops_read : text_ops after name w 0 (with_ops (Some w)).ops ≡ made_ops old d next
    ops_read =
        ap (text_ops after name w 0) (same_written (ref_to w) old d (next_id_at history actor 0) next)
        ∙ read_back after name (ref_to w) w own_is (made_ops old d next) 0
        (made_readable after name old d 0 (visible_are_true history (with_ops (Some w)) grown may w))

    tree_is : tree_of after w ≡ after_ops (made_ops old d next) (tree_of history w)
    tree_is = tree_step history (with_ops (Some w)) grown may w ∙ ap (λ (ops : List TextOp). after_ops ops (tree_of history w)) ops_read

    above : IsAbove next old
    above = above_elements history (with_ops (Some w)) grown may refl w 0

    text_is : text_at history path ≡ text_of old
    text_is = text_read history (with_ops (Some w)) grown may history path ∙ ap (λ (o : Option ElemId). text_of (elements_in history o)) is_winner

    base : base_length d ≡ count_by is_alive old
    base = fits ∙ ap length text_is ∙ text_length old

    walk_is : elements_of after w ≡ later old d next
    walk_is = ap walk tree_is ∙ made_walk (tree_of history w) old d next well.is_tree refl well.distinct above base

    object_effect : effect old (elements_of after w) ≡ d
    object_effect =
        ap (effect old) walk_is
        ∙ made_effect old (later old d next) d next well.distinct normal_d base above
        (λ tree is_tree walks. made_walk tree old d next is_tree walks well.distinct above base)

    winner_still : (q : List ℕ) → winner_at after q ≡ winner_at history q
    winner_still q =
        winner_stays history (with_ops (Some w)) grown may
        (none_removed after name (ref_to w) (made_ops old d (next_id_at history actor 0))) q
        (none_made after name (ref_to w) q (made_ops old d (next_id_at history actor 0)) 0)

    pub effect_there : effect_at history after path ≡ d
    unfolding effect_at
    effect_there =
        ap₂ (λ (a b : Option ElemId). cond (is_same_object a b) (effect (elements_in history a) (elements_in after b)) (replaced (elements_in history a) (elements_in after b)))
        is_winner (winner_still path ∙ is_winner)
        ∙ ap (λ (b : Bool). cond b (effect old (elements_of after w)) (replaced old (elements_of after w))) (same_self w)
        ∙ object_effect

    -- ---- elsewhere

    tree_still : (v : ElemId) → (v ≡ w → ⊥) → tree_of after v ≡ tree_of history v
    tree_still v apart =
        tree_step history (with_ops (Some w)) grown may v
        ∙ ap (λ (ops : List TextOp). after_ops ops (tree_of history v))
        (read_elsewhere after name (ref_to w) v (ap (same v) own_is ∙ other_same v w apart) (made_ops old d (next_id_at history actor 0)) 0)

    trees_elsewhere : (q : List ℕ) → (q ≡ path → ⊥) → (v : ElemId) → winner_at history q ≡ Some v → tree_of after v ≡ tree_of history v
    trees_elsewhere q apart v is = tree_still v (λ e. winners_apart history grown q path v w is is_winner apart e)

    pub view_still : (q : List ℕ) → (q ≡ path → ⊥) → view_at after q ≡ view_at history q
    view_still q apart = view_stays history after q (winner_still q) (trees_elsewhere q apart)

    pub effect_nowhere : (q : List ℕ) → (q ≡ path → ⊥) → changes_nothing (effect_at history after q) ≡ true
    effect_nowhere q apart = effect_stays history after q grown (winner_still q) (trees_elsewhere q apart)

  -- ---- a change that makes the file

  module _ (no_winner : winner_at history path ≡ None) (may : MayCome history (with_ops None)) (fits : base_length d ≡ length (text_at history path)) where
    abbrev begun : History
    begun = with_change history (with_ops None)

    abbrev own_name : Name
    own_name = name_of (with_ops None)

    -- the new object
    abbrev object : ElemId
    object = id_at begun own_name 0

    abbrev first : ElemId
    first = id_at begun own_name 1

    abbrev written : List Op
    written = map (written_op (Here 0)) (made_ops [] d (next_id_at history actor 1))

    empty_is : text_at history path ≡ []
    empty_is = text_read history (with_ops None) grown may history path ∙ ap (λ (o : Option ElemId). text_of (elements_in history o)) no_winner

    no_cells : (cells : List Cell) → length cells ≡ 0 → cells ≡ []
    no_cells [] is = refl
    no_cells (c ∷ cs) is = absurd (omega (arith, is))

    ends_is : d ≡ ends d.last
    ends_is =
        let none : d.cells ≡ [] = no_cells d.cells (fits ∙ ap length empty_is) in
        λ i. record { cells = none i; last = d.last }

    new_read : text_ops begun own_name object 0 (with_ops None).ops ≡ made_ops [] d first
    new_read =
        ap (text_ops begun own_name object 1) (same_written (Here 0) [] d (next_id_at history actor 1) first)
        ∙ read_back begun own_name (Here 0) object refl (made_ops [] d first) 1 (made_readable begun own_name [] d 1 tt)

    none_by : (n : Name) (op : Op) (index : ℕ) → is_held history n ≡ true → HasHeldRefs history op → text_op history n object index op ≡ []
    none_by n (Make made) index held refs = refl
    none_by n (Remove removed) index held refs = refl
    none_by n (Insert own parent text) index held refs =
        ap (λ (b : Bool). cond b (on_text.Insert (id_at history n index) (parent_of history n parent) text ∷ []) [])
        (held_apart history (with_ops None) grown may (id_of history n own) (ref_held history n own held refs.0) 0)
    none_by n (Delete own from count) index held refs =
        ap (λ (b : Bool). cond b (on_text.Delete (id_of history n from) count ∷ []) [])
        (held_apart history (with_ops None) grown may (id_of history n own) (ref_held history n own held refs.0) 0)

    none_from : (n : Name) (ops : List Op) (index : ℕ) → is_held history n ≡ true → AllByRecursion (HasHeldRefs history) ops → text_ops history n object index ops ≡ []
    none_from n [] index held refs = refl
    none_from n (op ∷ ops) index held refs =
        ap₂ (λ (xs ys : List TextOp). xs ++ ys) (none_by n op index held refs.0) (none_from n ops (index + length (things_of op)) held refs.1)

    none_in : (es : History) → AllByRecursion (IsEntry history) es → flat_map (λ (e : Name × Change). text_ops history e.0 object 0 e.1.ops) es ≡ []
    none_in [] all = refl
    none_in (e ∷ es) all =
        ap₂ (λ (xs ys : List TextOp). xs ++ ys) (none_from e.0 e.1.ops 0 (ap (λ (o : Option Change). is_some o) all.0.found) all.0.refs) (none_in es all.1)

    -- nothing was known of it
    no_tree : tree_of history object ≡ Leaf
    unfolding tree_of ops_on
    no_tree = ap (λ (ops : List TextOp). after_ops ops Leaf) (none_in (by_depth history) (all_by_depth (IsEntry history) history (grown_entries history grown)))

    new_tree : tree_of begun object ≡ after_ops (made_ops [] d first) Leaf
    new_tree =
        tree_step history (with_ops None) grown may object
        ∙ ap₂ (λ (ops : List TextOp) (tree : Tree). after_ops ops tree) new_read no_tree

    run_text : (id : ElemId) (text : List ℕ) → text_of (run_of id text) ≡ text
    run_text id [] = refl
    run_text id (ch ∷ text) = ap (λ (t : List ℕ). ch ∷ t) (run_text (next_id id) text)

    later_text : text_of (later [] d first) ≡ d.last
    later_text =
        ap (λ (x : Cells). text_of (later [] x first)) ends_is
        ∙ ap text_of (append-nil (run_of first d.last))
        ∙ run_text first d.last

    new_text : text_of (elements_of begun object) ≡ d.last
    new_text =
        ap (λ (tree : Tree). text_of (walk tree)) new_tree
        ∙ ap text_of (made_walk Leaf [] d first tt refl tt tt (fits ∙ ap length empty_is))
        ∙ later_text

    path_itself : is_path path path ≡ true
    path_itself = ap is_eq (tied_itself nat_list_cmp_total path)

    keeps : removes_in begun (own_name, with_ops None) ≡ []
    keeps = none_removed begun own_name (Here 0) (made_ops [] d (next_id_at history actor 1))

    makes_own : makes_in begun path (own_name, with_ops None) ≡ object ∷ []
    makes_own =
        ap₂ (λ (b : Bool) (rest : List ElemId). cond b (object ∷ []) [] ++ rest) path_itself
        (none_made begun own_name (Here 0) path (made_ops [] d (next_id_at history actor 1)) 1)

    winner_now : winner_at begun path ≡ Some object
    winner_now = winner_comes history (with_ops None) grown may keeps path object may.next.new makes_own no_winner

    pub effect_begun : effect_at history begun path ≡ d
    unfolding effect_at
    effect_begun =
        ap₂ (λ (a b : Option ElemId). cond (is_same_object a b) (effect (elements_in history a) (elements_in begun b)) (replaced (elements_in history a) (elements_in begun b)))
        no_winner winner_now
        ∙ ap (λ (text : List ℕ). normal (inserts text (deleting 0))) new_text
        ∙ ap ends (append-nil d.last)
        ∙ sym ends_is

    -- ---- elsewhere

    path_apart : (q : List ℕ) → (q ≡ path → ⊥) → is_path q path ≡ false
    path_apart q apart = by (is_path q path) refl where
      by : (b : Bool) → is_path q path ≡ b → b ≡ false
      by true is = absurd (apart (path_same q path is))
      by false is = refl

    winner_before : (q : List ℕ) → (q ≡ path → ⊥) → winner_at begun q ≡ winner_at history q
    winner_before q apart =
        winner_stays history (with_ops None) grown may keeps q
        (ap₂ (λ (b : Bool) (rest : List ElemId). cond b (object ∷ []) [] ++ rest) (path_apart q apart)
        (none_made begun own_name (Here 0) q (made_ops [] d (next_id_at history actor 1)) 1))

    other_object : (v : ElemId) → IsHeldId history v → same v object ≡ false
    other_object v is =
        other_same v object
        (λ e.
        both_ways (same object v) (held_apart history (with_ops None) grown may v is 0)
        (subst (λ (id : ElemId). same object id ≡ true) (sym e) (same_self object)))

    tree_before : (v : ElemId) → IsHeldId history v → tree_of begun v ≡ tree_of history v
    tree_before v is =
        tree_step history (with_ops None) grown may v
        ∙ ap (λ (ops : List TextOp). after_ops ops (tree_of history v))
        (read_elsewhere begun own_name (Here 0) v (other_object v is) (made_ops [] d (next_id_at history actor 1)) 1)

    trees_before : (q : List ℕ) (v : ElemId) → winner_at history q ≡ Some v → tree_of begun v ≡ tree_of history v
    trees_before q v is = tree_before v (winner_held history grown q v is)

    pub view_before : (q : List ℕ) → (q ≡ path → ⊥) → view_at begun q ≡ view_at history q
    view_before q apart = view_stays history begun q (winner_before q apart) (trees_before q)

    pub effect_not : (q : List ℕ) → (q ≡ path → ⊥) → changes_nothing (effect_at history begun q) ≡ true
    effect_not q apart = effect_stays history begun q grown (winner_before q apart) (trees_before q)

-- ---- both

-- a file that is there is read
view_read : (g : History) (path : List ℕ) (w : ElemId) → winner_at g path ≡ Some w → view_at g path ≡ Some (text_at g path)
unfolding text_at view_at
view_read g path w is =
    ap (option_map (λ id. text_of (elements_of g id))) is
    ∙ ap (λ (o : Option ElemId). Some (unwrap_or (option_map (λ id. text_of (elements_of g id)) o) [])) (sym is)

-- what a change does that does nothing elsewhere
module _ (history : History) (change : Change) (path : List ℕ) (d : Cells) (grown : IsGrown history) (may : MayCome history change) (object : ElemId)
    (there : winner_at (with_change history change) path ≡ Some object) (here : effect_at history (with_change history change) path ≡ d)
    (elsewhere : (q : List ℕ) → (q ≡ path → ⊥) → changes_nothing (effect_at history (with_change history change) q) ≡ true)
    (views : (q : List ℕ) → (q ≡ path → ⊥) → view_at (with_change history change) q ≡ view_at history q) where
  view_now : view_at (with_change history change) path ≡ Some (applied d (text_at history path))
  view_now =
      view_read (with_change history change) path object there
      ∙ ap (λ (t : List ℕ). Some t) (sym (effect_leads_at history change grown may path))
      ∙ ap (λ (e : Cells). Some (applied e (text_at history path))) here

  exact_by : (b : Bool) → All (λ (e : PathEffect). e.delta ≡ effect_at history (with_change history change) e.path) (cond b [] (record { path = path; delta = d } ∷ []))
  exact_by true = All-nil (λ (e : PathEffect). e.delta ≡ effect_at history (with_change history change) e.path)
  exact_by false =
      All-cons (λ (e : PathEffect). e.delta ≡ effect_at history (with_change history change) e.path) (record { path = path; delta = d }) [] (sym here)
      (All-nil (λ (e : PathEffect). e.delta ≡ effect_at history (with_change history change) e.path))

  rising_by : (b : Bool) → IsStrictlySortedBy (slice_cmp nat_cmp) (paths_of (cond b [] (record { path = path; delta = d } ∷ [])))
  unfolding IsStrictlySortedBy
  rising_by true = tt
  rising_by false = (tt, tt)

  one_is : (a : Bool) → (a || false) ≡ a
  one_is true = refl
  one_is false = refl

  among_by : (q : List ℕ) (b : Bool) → changes_nothing d ≡ b → (a : Bool) → is_path q path ≡ a
      → IsTrue (has_path (paths_of (cond b [] (record { path = path; delta = d } ∷ []))) q) ↔ (changes_nothing (effect_at history (with_change history change) q) ≡ false)
  among_by q b nothing_is true same_path =
      let q_is : q ≡ path = path_same q path same_path in
      let own : changes_nothing (effect_at history (with_change history change) q) ≡ b =
      ap (λ (p : List ℕ). changes_nothing (effect_at history (with_change history change) p)) q_is ∙ ap changes_nothing here ∙ nothing_is in
      by b own where
        by : (b : Bool) → changes_nothing (effect_at history (with_change history change) q) ≡ b
            → IsTrue (has_path (paths_of (cond b [] (record { path = path; delta = d } ∷ []))) q) ↔ (changes_nothing (effect_at history (with_change history change) q) ≡ false)
        by true own = (λ never. let f : false ≡ true = never in cc, λ is. let f : true ≡ false = sym own ∙ is in cc)
        by false own = (λ is. own, λ is. one_is (is_path q path) ∙ same_path)
  among_by q b nothing_is false apart =
      let other : q ≡ path → ⊥ =
      λ e. both_ways (is_path q path) apart (subst (λ (p : List ℕ). is_path p path ≡ true) (sym e) (ap is_eq (tied_itself nat_list_cmp_total path))) in
      by b (elsewhere q other) where
        by : (b : Bool) → changes_nothing (effect_at history (with_change history change) q) ≡ true
            → IsTrue (has_path (paths_of (cond b [] (record { path = path; delta = d } ∷ []))) q) ↔ (changes_nothing (effect_at history (with_change history change) q) ≡ false)
        by true none = (λ never. let f : false ≡ true = never in cc, λ is. let f : true ≡ false = sym none ∙ is in cc)
        by false none = (λ is. let f : false ≡ true = sym (one_is (is_path q path) ∙ apart) ∙ is in cc, λ is. let f : true ≡ false = sym none ∙ is in cc)

  does_only : DoesOnly history change path d
  does_only = record {
    view = view_now;
    effects = record {
      exact = exact_by (changes_nothing d);
      all = λ q. among_by q (changes_nothing d) refl (is_path q path) refl;
      rising = rising_by (changes_nothing d);
    };
    here = here;
    elsewhere = elsewhere;
    views = views;
  }

made_does : (history : History) (actor : Actor) (path : List ℕ) (d : Cells) (grown : IsGrown history) (o : Option ElemId) → winner_at history path ≡ o
    → MayCome history (own_change history actor (ops_for history actor path d o)) → base_length d ≡ length (text_at history path) → IsNormal d
    → DoesOnly history (own_change history actor (ops_for history actor path d o)) path d
made_does history actor path d grown None is may fits normal_d =
    does_only history (own_change history actor (ops_for history actor path d None)) path d grown may
    (id_at (with_change history (own_change history actor (ops_for history actor path d None))) (name_of (own_change history actor (ops_for history actor path d None))) 0)
    (winner_now history actor path d grown is may fits) (effect_begun history actor path d grown is may fits)
    (effect_not history actor path d grown is may fits) (view_before history actor path d grown is may fits)
made_does history actor path d grown (Some w) is may fits normal_d =
    does_only history (own_change history actor (ops_for history actor path d (Some w))) path d grown may w
    (winner_still history actor path d grown w is may fits normal_d path ∙ is) (effect_there history actor path d grown w is may fits normal_d)
    (effect_nowhere history actor path d grown w is may fits normal_d) (view_still history actor path d grown w is may fits normal_d)

pub made_does_only : (history : History) (actor : Actor) (path : List ℕ) (d : Cells) → IsGrown history → MayCome history (made history actor path d)
    → base_length d ≡ length (text_at history path) → IsNormal d → DoesOnly history (made history actor path d) path d
unfolding made
made_does_only history actor path d grown may fits normal_d = made_does history actor path d grown (winner_at history path) refl may fits normal_d
