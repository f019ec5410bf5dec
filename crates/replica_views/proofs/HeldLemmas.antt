-- Ids that held changes made: those of objects, of what is removed, and of characters.
use Rattle.std.proofs.Common.{◌≡◌, ◌⊎◌, inl, inr, ℕ, zero, suc, ◌+◌, Bool, true, false, cond, not, ◌||◌, refl}
use Rattle.std.proofs.Common.{sym, ap, ◌∙◌, subst, List, [], ◌∷◌, map, flat_map, length, Option, Some, None, is_some, arith}
use Rattle.std.specs.List.{AllByRecursion, filter}
use Rattle.tt_base.specs.Elements.{is_alive}
use Rattle.tt_base.specs.declared.ids.Name.{Name}
use Rattle.tt_base.specs.declared.ids.ElemId.{ElemId}
use Rattle.tt_base.specs.declared.elements.Element.{Element}
use Rattle.tt_base.specs.declared.text_ops.TextOp.{TextOp}
use Rattle.tt_base.specs.declared.text_ops.TextOp.TheVariants as on_text
use Rattle.change_codec.specs.Change.{Change}
use Rattle.change_codec.specs.declared.ops.Ref.{Ref}
use Rattle.change_codec.specs.declared.ops.Ref.TheVariants.{Here, There}
use Rattle.change_codec.specs.declared.ops.Op.{Op}
use Rattle.change_codec.specs.declared.ops.Op.TheVariants.{Make, Remove, Insert, Delete}
use Rattle.change_graph.specs.History.{History, is_held, name_of, with_change}
use Rattle.change_graph.specs.Refusals.{things_of}
use Rattle.replica_dir.specs.Ids.{is_path, has_id}
use Rattle.replica_text.specs.Ids.{less, same, next_id, is_in_run, is_known}
use Rattle.replica_text.specs.Ops.{known_after, all_known_after}
use Rattle.replica_text.specs.Made.{visible_ids, IsAbove}
use Rattle.replica_text.proofs.OrderLemmas.{same_one}
use Rattle.replica_text.proofs.MemberLemmas.{Has, has_known}
use Rattle.replica_views.specs.Ids.{depth_at, depth_above, maker_at, id_at, id_of}
use Rattle.replica_views.specs.Objects.{makes_of, makes_from, makes_at, removes_of, removes, live_at, greater_of, greatest_id, winner_at}
use Rattle.replica_views.specs.Texts.{parent_of, text_op, text_ops, ops_on, tree_of, elements_of, by_depth}
use Rattle.replica_views.specs.Made.{heads_of}
use Rattle.replica_views.specs.Growth.{MayCome, IsGrown}
use Rattle.replica_views.proofs.DepthLemmas.{grown_depths, depth_of_new}
use Rattle.replica_views.proofs.HeadsLemmas.{less_deep}
use Rattle.replica_views.proofs.LayerLemmas.{all_more}
use Rattle.replica_views.proofs.AcceptedLemmas.{deeper_less}
use Rattle.replica_views.proofs.StayLemmas.{IsEntry, HasHeldRefs, IsHeldRef, all-append, all_filter, all_by_depth, id_stays, grown_entries}
use Rattle.replica_views.proofs.TreeLemmas.{IsWell}
use Rattle.replica_views.proofs.ViewLemmas.{known_on, well_tree}

-- the id is of a held change
pub record IsHeldId (history : History) (id : ElemId) : Type 0 where
  pub held : is_held history id.name ≡ true
  pub depth : depth_at history id.name ≡ id.depth
  pub maker : maker_at history id.name ≡ id.actor

module _ (history : History) where
  pub true_id : (id : ElemId) → IsHeldId history id → id_at history id.name id.index ≡ id
  true_id id is = λ i. record { depth = is.depth i; actor = is.maker i; name = id.name; index = id.index }

  made_held : (n : Name) (index : ℕ) → is_held history n ≡ true → IsHeldId history (id_at history n index)
  made_held n index held = record { held = held; depth = refl; maker = refl }

  pub ref_held : (n : Name) (r : Ref) → is_held history n ≡ true → IsHeldRef history r → IsHeldId history (id_of history n r)
  ref_held n (Here index) held is = made_held n index held
  ref_held n (There m index) held is = made_held m index is

  entry_held : (e : Name × Change) → IsEntry history e → is_held history e.0 ≡ true
  entry_held e is = ap (λ (o : Option Change). is_some o) is.found

  -- ---- objects

  made_of_held : (n : Name) (path : List ℕ) (index : ℕ) (op : Op) → is_held history n ≡ true → AllByRecursion (IsHeldId history) (makes_of history n path index op)
  made_of_held n path index (Make other) held = by (is_path path other) where
    by : (b : Bool) → AllByRecursion (IsHeldId history) (cond b (id_at history n index ∷ []) [])
    by true = (made_held n index held, tt)
    by false = tt
  made_of_held n path index (Remove object) held = tt
  made_of_held n path index (Insert object parent text) held = tt
  made_of_held n path index (Delete object first count) held = tt

  made_from_held : (n : Name) (path : List ℕ) (ops : List Op) (index : ℕ) → is_held history n ≡ true
      → AllByRecursion (IsHeldId history) (makes_from history n path index ops)
  made_from_held n path [] index held = tt
  made_from_held n path (op ∷ ops) index held =
      all-append (IsHeldId history) (makes_of history n path index op) (makes_from history n path (index + length (things_of op)) ops)
      (made_of_held n path index op held) (made_from_held n path ops (index + length (things_of op)) held)

  removed_held : (n : Name) (op : Op) → is_held history n ≡ true → HasHeldRefs history op → AllByRecursion (IsHeldId history) (removes_of history n op)
  removed_held n (Make path) held refs = tt
  removed_held n (Remove object) held refs = (ref_held n object held refs, tt)
  removed_held n (Insert object parent text) held refs = tt
  removed_held n (Delete object first count) held refs = tt

  removed_from_held : (n : Name) (ops : List Op) → is_held history n ≡ true → AllByRecursion (HasHeldRefs history) ops
      → AllByRecursion (IsHeldId history) (flat_map (removes_of history n) ops)
  removed_from_held n [] held refs = tt
  removed_from_held n (op ∷ ops) held refs =
      all-append (IsHeldId history) (removes_of history n op) (flat_map (removes_of history n) ops) (removed_held n op held refs.0)
      (removed_from_held n ops held refs.1)

  abbrev pub makes_in : List ℕ → Name × Change → List ElemId
  makes_in path e = makes_from history e.0 path 0 e.1.ops

  abbrev pub removes_in : Name × Change → List ElemId
  removes_in e = flat_map (removes_of history e.0) e.1.ops

  pub all_makes : (path : List ℕ) (es : History) → AllByRecursion (IsEntry history) es → AllByRecursion (IsHeldId history) (flat_map (makes_in path) es)
  all_makes path [] all = tt
  all_makes path (e ∷ es) all =
      all-append (IsHeldId history) (makes_in path e) (flat_map (makes_in path) es) (made_from_held e.0 path e.1.ops 0 (entry_held e all.0))
      (all_makes path es all.1)

  pub all_removes : (es : History) → AllByRecursion (IsEntry history) es → AllByRecursion (IsHeldId history) (flat_map removes_in es)
  all_removes [] all = tt
  all_removes (e ∷ es) all =
      all-append (IsHeldId history) (removes_in e) (flat_map removes_in es) (removed_from_held e.0 e.1.ops (entry_held e all.0) all.0.refs)
      (all_removes es all.1)

  pub greatest_all : (P : ElemId → Type 0) (ids : List ElemId) (id : ElemId) → AllByRecursion P ids → greatest_id ids ≡ Some id → P id
  greatest_all P [] id all is = cc
  greatest_all P (x ∷ xs) id all is = by (greatest_id xs) refl is (λ w e. greatest_all P xs w all.1 e) where
    by : (o : Option ElemId) → greatest_id xs ≡ o → greater_of x o ≡ Some id → ((w : ElemId) → greatest_id xs ≡ Some w → P w) → P id
    by None none is rest = let e : x ≡ id = cc in subst P e all.0
    by (Some other) found is rest = pick (less x other) is where
      pick : (b : Bool) → cond b (Some other) (Some x) ≡ Some id → P id
      pick true is = let e : other ≡ id = cc in subst P e (rest other found)
      pick false is = let e : x ≡ id = cc in subst P e all.0

-- the winner is an object that a held change made
pub winner_held : (history : History) → IsGrown history → (path : List ℕ) (id : ElemId) → winner_at history path ≡ Some id → IsHeldId history id
unfolding winner_at
winner_held history grown path id is =
    greatest_all history (IsHeldId history) (live_at history path) id
    (all_filter (IsHeldId history) (λ x. not (has_id (removes history) x)) (makes_at history path)
    (all_makes history path history (grown_entries history grown))) is

-- ---- characters

pub run_is : (first : ElemId) (count : ℕ) (id : ElemId) → is_in_run first count id ≡ true → id ≡ record first { index = id.index }
run_is first zero id is = cc
run_is first (suc count) id is = by (run_is (next_id first) count id) (same first id) refl is where
  by : (is_in_run (next_id first) count id ≡ true → id ≡ record first { index = id.index }) → (b : Bool) → same first id ≡ b
      → (b || is_in_run (next_id first) count id) ≡ true → id ≡ record first { index = id.index }
  by later true here is =
      let e : id ≡ first = sym (same_one first id here) in
      λ i. record { depth = (e i).depth; actor = (e i).actor; name = (e i).name; index = id.index }
  by later false here is = later is

module _ (history : History) where
  abbrev InsertsHeld : TextOp → Type 0
  InsertsHeld (on_text.Insert first parent text) = IsHeldId history first
  InsertsHeld (on_text.Delete first count) = Unit {0}

  known_held_op : (op : TextOp) (known : ElemId → Bool) (id : ElemId) → InsertsHeld op → known_after op known id ≡ true → IsHeldId history id ⊎ (known id ≡ true)
  known_held_op (on_text.Insert first parent text) known id is there = by (is_in_run first (length text) id) refl there where
    by : (b : Bool) → is_in_run first (length text) id ≡ b → (b || known id) ≡ true → IsHeldId history id ⊎ (known id ≡ true)
    by true in_run there =
        inl (subst (IsHeldId history) (sym (run_is first (length text) id in_run)) (record { held = is.held; depth = is.depth; maker = is.maker }))
    by false in_run there = inr there
  known_held_op (on_text.Delete first count) known id is there = inr there

  known_held : (ops : List TextOp) (known : ElemId → Bool) (id : ElemId) → AllByRecursion InsertsHeld ops → all_known_after ops known id ≡ true
      → IsHeldId history id ⊎ (known id ≡ true)
  known_held [] known id all there = inr there
  known_held (op ∷ ops) known id all there =
      elim (known_held ops (known_after op known) id all.1 there) [
        | inl is ↦ inl is
        | inr here ↦ known_held_op op known id all.0 here
      ]

  op_inserts : (n : Name) (object : ElemId) (index : ℕ) (op : Op) → is_held history n ≡ true → AllByRecursion InsertsHeld (text_op history n object index op)
  op_inserts n object index (Make path) held = tt
  op_inserts n object index (Remove removed) held = tt
  op_inserts n object index (Insert own parent text) held = by (same object (id_of history n own)) where
    by : (b : Bool) → AllByRecursion InsertsHeld (cond b (on_text.Insert (id_at history n index) (parent_of history n parent) text ∷ []) [])
    by true = (record { held = held; depth = refl; maker = refl }, tt)
    by false = tt
  op_inserts n object index (Delete own first count) held = by (same object (id_of history n own)) where
    by : (b : Bool) → AllByRecursion InsertsHeld (cond b (on_text.Delete (id_of history n first) count ∷ []) [])
    by true = (tt, tt)
    by false = tt

  ops_insert : (n : Name) (object : ElemId) (index : ℕ) (ops : List Op) → is_held history n ≡ true → AllByRecursion InsertsHeld (text_ops history n object index ops)
  ops_insert n object index [] held = tt
  ops_insert n object index (op ∷ ops) held =
      all-append InsertsHeld (text_op history n object index op) (text_ops history n object (index + length (things_of op)) ops)
      (op_inserts n object index op held) (ops_insert n object (index + length (things_of op)) ops held)

  all_insert : (object : ElemId) (es : History) → AllByRecursion (IsEntry history) es
      → AllByRecursion InsertsHeld (flat_map (λ (e : Name × Change). text_ops history e.0 object 0 e.1.ops) es)
  all_insert object [] all = tt
  all_insert object (e ∷ es) all =
      all-append InsertsHeld (text_ops history e.0 object 0 e.1.ops) (flat_map (λ (x : Name × Change). text_ops history x.0 object 0 x.1.ops) es)
      (ops_insert e.0 object 0 e.1.ops (ap (λ (o : Option Change). is_some o) all.0.found)) (all_insert object es all.1)

  module _ (grown : IsGrown history) where
    pub known_is_held : (object id : ElemId) → known_on history object id ≡ true → IsHeldId history id
    unfolding ops_on
    known_is_held object id there =
        elim (known_held (ops_on history object) (is_known []) id
        (all_insert object (by_depth history) (all_by_depth (IsEntry history) history (grown_entries history grown))) there) [
          | inl is ↦ is
          | inr never ↦ cc
        ]

    pub each_has : (xs : List Element) → AllByRecursion (λ (e : Element). Has e.id xs) xs
    each_has [] = tt
    each_has (x ∷ xs) = (inl refl, all_more (λ (e : Element). Has e.id xs) (λ (e : Element). Has e.id (x ∷ xs)) xs (λ e has. inr has) (each_has xs))

    -- the elements of a text are of held changes
    pub elements_held : (object : ElemId) → AllByRecursion (λ (e : Element). IsHeldId history e.id) (elements_of history object)
    elements_held object =
        let well : IsWell (tree_of history object) (known_on history object) = well_tree history grown object in
        all_more (λ (e : Element). Has e.id (elements_of history object)) (λ (e : Element). IsHeldId history e.id) (elements_of history object)
        (λ e has.
        known_is_held object e.id
        (sym (ap (λ (f : ElemId → Bool). f e.id) well.known_is) ∙ has_known e.id (elements_of history object) has))
        (each_has (elements_of history object))

-- ---- a change that knows the heads

module _ (history : History) (change : Change) (grown : IsGrown history) (may : MayCome history change) where
  abbrev later : History
  later = with_change history change

  -- what a held change made is less than all that the new one makes, if it knows the heads
  pub held_less : change.deps ≡ heads_of history → (id : ElemId) (index : ℕ) → IsHeldId history id → less id (id_at later (name_of change) index) ≡ true
  held_less knows id index is =
      let deep = depth_of_new history change (grown_depths history grown) may.next in
      let above : depth_above history change.deps ≡ depth_above history (heads_of history) = ap (depth_above history) knows in
      let lower = less_deep history grown id.name is.held in
      let own = is.depth in
      deeper_less id (id_at later (name_of change) index) (omega (arith, deep, above, lower, own))

  above_all : change.deps ≡ heads_of history → (index : ℕ) (xs : List Element) → AllByRecursion (λ (e : Element). IsHeldId history e.id) xs
      → IsAbove (id_at later (name_of change) index) xs
  above_all knows index [] all = tt
  above_all knows index (x ∷ xs) all = (held_less knows x.id index all.0, above_all knows index xs all.1)

  pub above_elements : change.deps ≡ heads_of history → (object : ElemId) (index : ℕ) → IsAbove (id_at later (name_of change) index) (elements_of history object)
  above_elements knows object index = above_all knows index (elements_of history object) (elements_held history grown object)

  -- the id stays true
  pub true_later : (id : ElemId) → IsHeldId history id → id_at later id.name id.index ≡ id
  true_later id is = id_stays history change grown may id.name id.index is.held ∙ true_id history id is

  visible_true : (xs : List Element) → AllByRecursion (λ (e : Element). IsHeldId history e.id) xs
      → AllByRecursion (λ (id : ElemId). id_at later id.name id.index ≡ id) (visible_ids xs)
  visible_true [] all = tt
  visible_true (x ∷ xs) all = by x.alive (visible_true xs all.1) where
    by : (b : Bool) → AllByRecursion (λ (id : ElemId). id_at later id.name id.index ≡ id) (visible_ids xs)
        → AllByRecursion (λ (id : ElemId). id_at later id.name id.index ≡ id) (map (λ (e : Element). e.id) (cond b (x ∷ filter is_alive xs) (filter is_alive xs)))
    by true rest = (true_later x.id all.0, rest)
    by false rest = rest

  pub visible_are_true : (object : ElemId) → AllByRecursion (λ (id : ElemId). id_at later id.name id.index ≡ id) (visible_ids (elements_of history object))
  visible_are_true object = visible_true (elements_of history object) (elements_held history grown object)

  -- what a held change made is not of the new one
  pub held_apart : (id : ElemId) → IsHeldId history id → (index : ℕ) → same (id_at later (name_of change) index) id ≡ false
  held_apart id is index = by (same (id_at later (name_of change) index) id) refl where
    by : (b : Bool) → same (id_at later (name_of change) index) id ≡ b → b ≡ false
    by false here = refl
    by true here =
        let e : name_of change ≡ id.name = ap (λ (x : ElemId). x.name) (same_one (id_at later (name_of change) index) id here) in
        let held : is_held history (name_of change) ≡ true = ap (is_held history) e ∙ is.held in
        let none = may.next.new in cc
