-- One change more: the tree of each object is the tree before with what the change does to it.
use Rattle.std.proofs.Common.{◌≡◌, ◌⊎◌, inl, inr, ℕ, zero, suc, ◌+◌, ◌<◌, ◌≤◌, ◌==◌, Bool, true, false, cond, refl, sym}
use Rattle.std.proofs.Common.{ap, ap₂, ◌∙◌, subst, List, [], ◌∷◌, ◌++◌, map, filter, flat_map, length, Option, Some, None, is_some, arith}
use Rattle.std.specs.List.{AllByRecursion}
use Rattle.std.proofs.lemmas.Bool.{both_ways, eq-eqb, cond-true}
use Rattle.std.proofs.lemmas.Grind.{flat_map-append}
use Rattle.std.proofs.lemmas.List.{append-nil}
use Rattle.tt_base.specs.declared.ids.Name.{Name}
use Rattle.tt_base.specs.declared.ids.ElemId.{ElemId}
use Rattle.tt_base.specs.declared.text_ops.TextOp.{TextOp}
use Rattle.tt_base.specs.declared.text_ops.TextOp.TheVariants as on_text
use Rattle.change_codec.specs.Change.{Change}
use Rattle.change_codec.specs.declared.ops.Op.{Op}
use Rattle.change_codec.specs.declared.ops.Op.TheVariants.{Make, Remove, Insert, Delete}
use Rattle.change_graph.specs.History.{History, is_name, change_at, is_held, ops_of, ops_at, name_of, with_change}
use Rattle.change_graph.specs.Depths.{greatest}
use Rattle.change_graph.specs.Refusals.{things_of, things, IsAccepted}
use Rattle.change_graph.proofs.OrderLemmas.{name_same}
use Rattle.replica_text.specs.Ids.{same, is_known}
use Rattle.replica_text.specs.Tree.{Leaf}
use Rattle.replica_text.specs.Ops.{after_ops, all_known_after, AllMayFollow}
use Rattle.replica_text.specs.Laws.{IsAmong, IsRearranged}
use Rattle.replica_text.proofs.AnyOrder.{any_order}
use Rattle.replica_text.proofs.OpsLemmas.{after_ops-append, all_known_after-append, may_front, may_back}
use Rattle.replica_views.specs.Ids.{depth_at, id_at, id_of}
use Rattle.replica_views.specs.Texts.{parent_of, text_op, text_ops, layer, up_to_depth, by_depth, ops_on, tree_of}
use Rattle.replica_views.specs.Growth.{MayCome, IsGrown, Begun, Come}
use Rattle.replica_views.proofs.DepthLemmas.{grown_depths, depth_stays, depth_of_new, are_depths}
use Rattle.replica_views.proofs.HistoryLemmas.{grown_history}
use Rattle.replica_views.proofs.LayerLemmas.{IsPutBehind, change_found, other_found, put_by_depth}
use Rattle.replica_views.proofs.KnownLemmas.{IsNotOf, IsOf, IsMore, all_known_elsewhere, all_known_stays, all_own_add, may_more, may-append}
use Rattle.replica_views.proofs.CoverLemmas.{Covers, covers_more, ops_cover}
use Rattle.replica_views.proofs.AcceptedLemmas.{KnowsDeps, change_may, known_less}
use Rattle.replica_views.proofs.StayLemmas.{IsEntry, all-append, all_front, all_back, all_by_depth, apart_from_new, ops_stay, grown_entries}

-- ---- the same operations in another order

among_front : (op : TextOp) (ops : List TextOp) (Others : List TextOp → Type 0) → Others ops → IsAmong op (op ∷ ops) Others
among_front op ops Others rest = record { front = []; behind = ops; whole = refl; rest = rest }

pub rearranged_itself : (ops : List TextOp) → IsRearranged ops ops
rearranged_itself [] = refl
rearranged_itself (op ∷ ops) = among_front op ops (λ rest. IsRearranged ops rest) (rearranged_itself ops)

rearranged_both : (xs ys : List TextOp) → IsRearranged (xs ++ ys) (ys ++ xs)
rearranged_both [] ys = subst (IsRearranged ys) (sym (append-nil ys)) (rearranged_itself ys)
rearranged_both (x ∷ xs) ys = record { front = ys; behind = xs; whole = refl; rest = rearranged_both xs ys }

-- a part of the operations comes last
pub rearranged_last : (xs ys zs : List TextOp) → IsRearranged (xs ++ (ys ++ zs)) ((xs ++ zs) ++ ys)
rearranged_last [] ys zs = rearranged_both ys zs
rearranged_last (x ∷ xs) ys zs = among_front x ((xs ++ zs) ++ ys) (λ rest. IsRearranged (xs ++ (ys ++ zs)) rest) (rearranged_last xs ys zs)

-- ---- operations of a change have its name

ops_of_name : (g : History) (n : Name) (object : ElemId) (index : ℕ) (ops : List Op) → AllByRecursion (IsOf n) (text_ops g n object index ops)
ops_of_name g n object index [] = tt
ops_of_name g n object index (op ∷ ops) =
    all-append (IsOf n) (text_op g n object index op) (text_ops g n object (index + length (things_of op)) ops) (one op)
    (ops_of_name g n object (index + length (things_of op)) ops) where
      if_own : (b : Bool) (t : TextOp) → IsOf n t → AllByRecursion (IsOf n) (cond b (t ∷ []) [])
      if_own true t of = (of, tt)
      if_own false t of = tt

      one : (op : Op) → AllByRecursion (IsOf n) (text_op g n object index op)
      one (Make path) = tt
      one (Remove removed) = tt
      one (Insert own parent text) = if_own (same object (id_of g n own)) (on_text.Insert (id_at g n index) (parent_of g n parent) text) refl
      one (Delete own first count) = if_own (same object (id_of g n own)) (on_text.Delete (id_of g n first) count) tt

not_of_other : (name n : Name) (t : TextOp) → is_name name n ≡ false → IsOf n t → IsNotOf name t
not_of_other name n (on_text.Insert first parent text) apart of = ap (is_name name) of ∙ apart
not_of_other name n (on_text.Delete first count) apart of = tt

all_not_of : (name n : Name) (ts : List TextOp) → is_name name n ≡ false → AllByRecursion (IsOf n) ts → AllByRecursion (IsNotOf name) ts
all_not_of name n [] apart of = tt
all_not_of name n (t ∷ ts) apart of = (not_of_other name n t apart of.0, all_not_of name n ts apart of.1)

-- ---- members

abbrev pub IsIn : {X : Type 0} → X → List X → Type 0
IsIn x [] = ⊥
IsIn x (y ∷ ys) = (y ≡ x) ⊎ IsIn x ys

pub in_front : {X : Type 0} (x : X) (xs ys : List X) → IsIn x xs → IsIn x (xs ++ ys)
in_front x [] ys is = absurd is
in_front x (y ∷ xs) ys (inl is) = inl is
in_front x (y ∷ xs) ys (inr is) = inr (in_front x xs ys is)

pub in_behind : {X : Type 0} (x : X) (xs ys : List X) → IsIn x ys → IsIn x (xs ++ ys)
in_behind x [] ys is = is
in_behind x (y ∷ xs) ys is = inr (in_behind x xs ys is)

in_filter : {X : Type 0} (test : X → Bool) (x : X) (xs : List X) → test x ≡ true → IsIn x xs → IsIn x (filter test xs)
in_filter test x [] passes is = absurd is
in_filter test x (y ∷ xs) passes (inl is) =
    subst (IsIn x) (sym (cond-true (test y) (y ∷ filter test xs) (filter test xs) (ap test is ∙ passes))) (inl is)
in_filter test x (y ∷ xs) passes (inr is) = by (in_filter test x xs passes is) (test y) where
  by : IsIn x (filter test xs) → (b : Bool) → IsIn x (cond b (y ∷ filter test xs) (filter test xs))
  by rest true = inr rest
  by rest false = rest

pub found_in : (es : History) (n : Name) (change : Change) → change_at es n ≡ Some change → IsIn (n, change) es
found_in [] n change is = cc
found_in (e ∷ es) n change is = by (found_in es n change) (is_name n e.0) refl is where
  by : (change_at es n ≡ Some change → IsIn (n, change) es) → (b : Bool) → is_name n e.0 ≡ b → cond b (Some e.1) (change_at es n) ≡ Some change
      → IsIn (n, change) (e ∷ es)
  by later true here is =
      let change_is : e.1 ≡ change = cc in
      inl (λ i. (sym (name_same n e.0 here) i, change_is i))
  by later false here is = inr (later is)

in_up_to : (history : History) (n : Name) (change : Change) (depth : ℕ) → change_at history n ≡ Some change → 0 < depth_at history n → depth_at history n ≤ depth
    → IsIn (n, change) (up_to_depth history depth)
in_up_to history n change zero found some few = absurd (omega (arith, some, few))
in_up_to history n change (suc depth) found some few = by (λ le. in_up_to history n change depth found some le) (depth_at history n == suc depth) refl where
  by : (depth_at history n ≤ depth → IsIn (n, change) (up_to_depth history depth)) → (b : Bool) → (depth_at history n == suc depth) ≡ b
      → IsIn (n, change) (up_to_depth history depth ++ layer history (suc depth))
  by below true is =
      in_behind (n, change) (up_to_depth history depth) (layer history (suc depth))
      (in_filter (λ (held : Name × Change). depth_at history held.0 == suc depth) (n, change) history is (found_in history n change found))
  by below false is =
      let apart : depth_at history n ≡ suc depth → ⊥ = λ e. both_ways (depth_at history n == suc depth) is (eq-eqb (depth_at history n) (suc depth) e) in
      in_front (n, change) (up_to_depth history depth) (layer history (suc depth)) (below (omega (arith, few, apart)))

-- ---- one change more, on one object

abbrev none : ElemId → Bool
none = is_known []

abbrev pub entry_ops : History → ElemId → Name × Change → List TextOp
entry_ops history object entry = text_ops history entry.0 object 0 entry.1.ops

module _ (history : History) (change : Change) (grown : IsGrown history) (may : MayCome history change) (object : ElemId) where
  abbrev later : History
  later = with_change history change

  abbrev name : Name
  name = name_of change

  abbrev own : List TextOp
  own = text_ops later name object 0 change.ops

  grown_later : IsGrown later
  grown_later = Come history change grown may

  -- the depth of the new change, but for 1
  abbrev below : ℕ
  below = greatest (map (depth_at history) change.deps)

  deep : depth_at later name ≡ suc below
  deep = let e = depth_of_new history change (grown_depths history grown) may.next in omega (arith, e)

  put : IsPutBehind (up_to_depth history below) (name, change) (by_depth history) (by_depth later)
  put = put_by_depth history change grown may below deep

  abbrev front : History
  front = put.put.front

  abbrev behind : History
  behind = put.put.behind

  parts_are : AllByRecursion (IsEntry history) (front ++ behind)
  parts_are = subst (AllByRecursion (IsEntry history)) put.put.without (all_by_depth (IsEntry history) history (grown_entries history grown))

  entry_ops_stay : (es : History) → AllByRecursion (IsEntry history) es → flat_map (entry_ops later object) es ≡ flat_map (entry_ops history object) es
  entry_ops_stay [] all = refl
  entry_ops_stay (e ∷ es) all =
      ap₂ (λ (xs ys : List TextOp). xs ++ ys)
      (ops_stay history change grown may e.0 object 0 e.1.ops (ap (λ (o : Option Change). is_some o) all.0.found) all.0.refs)
      (entry_ops_stay es all.1)

  abbrev first_ops : List TextOp
  first_ops = flat_map (entry_ops later object) front

  abbrev last_ops : List TextOp
  last_ops = flat_map (entry_ops later object) behind

  ops_before : ops_on history object ≡ first_ops ++ last_ops
  unfolding ops_on
  ops_before =
      ap (flat_map (entry_ops history object)) put.put.without
      ∙ flat_map-append (entry_ops history object) front behind
      ∙ sym (ap₂ (λ (xs ys : List TextOp). xs ++ ys) (entry_ops_stay front (all_front (IsEntry history) front behind parts_are))
      (entry_ops_stay behind (all_back (IsEntry history) front behind parts_are)))

  ops_later : ops_on later object ≡ first_ops ++ (own ++ last_ops)
  unfolding ops_on
  ops_later = ap (flat_map (entry_ops later object)) put.put.with_it ∙ flat_map-append (entry_ops later object) front ((name, change) ∷ behind)

  -- ---- what is known

  not_own : (es : History) → AllByRecursion (IsEntry history) es → AllByRecursion (IsNotOf name) (flat_map (entry_ops later object) es)
  not_own [] all = tt
  not_own (e ∷ es) all =
      all-append (IsNotOf name) (entry_ops later object e) (flat_map (entry_ops later object) es)
      (all_not_of name e.0 (entry_ops later object e)
      (apart_from_new history change grown may e.0 (ap (λ (o : Option Change). is_some o) all.0.found))
      (ops_of_name later e.0 object 0 e.1.ops))
      (not_own es all.1)

  member_covers : (n : Name) (c : Change) (es : History) (ids : ElemId → Bool) → IsIn (n, c) es
      → Covers later object (all_known_after (flat_map (entry_ops later object) es) ids) n 0 (things c.ops)
  member_covers n c [] ids is = absurd is
  member_covers n c (e ∷ es) ids (inl is) =
      subst (λ (k : ElemId → Bool). Covers later object k n 0 (things c.ops))
      (sym (all_known_after-append (entry_ops later object e) (flat_map (entry_ops later object) es) ids))
      (covers_more later object (all_known_after (entry_ops later object e) ids)
      (all_known_after (flat_map (entry_ops later object) es) (all_known_after (entry_ops later object e) ids))
      (all_known_stays (flat_map (entry_ops later object) es) (all_known_after (entry_ops later object e) ids)) n 0 (things c.ops)
      (subst (λ (x : Name × Change). Covers later object (all_known_after (entry_ops later object e) ids) x.0 0 (things x.1.ops)) is
      (ops_cover later object ids e.0 0 e.1.ops)))
  member_covers n c (e ∷ es) ids (inr is) =
      subst (λ (k : ElemId → Bool). Covers later object k n 0 (things c.ops))
      (sym (all_known_after-append (entry_ops later object e) (flat_map (entry_ops later object) es) ids))
      (member_covers n c es (all_known_after (entry_ops later object e) ids) is)

  accepted : IsAccepted later change
  accepted = (grown_history later grown_later).accepted name change (change_found history change)

  -- a change that the new one knows of stands in front of it
  dep_in_front : (n : Name) (c : Change) → accepted.known n ≡ true → change_at history n ≡ Some c → IsIn (n, c) front
  dep_in_front n c is found =
      let held : is_held history n ≡ true = ap (λ (o : Option Change). is_some o) found in
      let stays : depth_at later n ≡ depth_at history n = depth_stays history change (grown_depths history grown) may.next n held in
      let less : depth_at later n < depth_at later name =
      known_less later (grown_history later grown_later).closed (are_depths later grown_later) name change (change_found history change) accepted.known accepted.knows n is in
      let one : depth_at history n ≡ greatest (map (depth_at history) c.deps) + 1 = (are_depths history grown).each n c found in
      subst (IsIn (n, c)) (sym put.front_is)
      (in_front (n, c) (up_to_depth history below) put.between
      (in_up_to history n c below found (omega (arith, one)) (omega (arith, stays, less, deep))))

  old_or_new : (n : Name) → accepted.known n ≡ true → (b : Bool) → is_name name n ≡ b → change_at later n ≡ change_at history n
  old_or_new n is true same_name =
      let less : depth_at later n < depth_at later name =
      known_less later (grown_history later grown_later).closed (are_depths later grown_later) name change (change_found history change) accepted.known accepted.knows n is in
      let e : depth_at later name ≡ depth_at later n = ap (depth_at later) (name_same name n same_name) in
      absurd (omega (arith, less, e))
  old_or_new n is false apart = other_found history change n apart

  covers_dep : (n : Name) → accepted.known n ≡ true → (o : Option Change) → change_at history n ≡ o → change_at later n ≡ o
      → Covers later object (all_known_after first_ops none) n 0 (things (ops_of o))
  covers_dep n is None found at = tt
  covers_dep n is (Some c) found at = member_covers n c front none (dep_in_front n c is found)

  knows_deps : KnowsDeps later (grown_history later grown_later).closed (are_depths later grown_later) name change (change_found history change) accepted.known accepted.knows object
      (all_known_after first_ops none)
  knows_deps = λ n is.
      let at : change_at later n ≡ change_at history n = old_or_new n is (is_name name n) refl in
      subst (λ (o : Option Change). Covers later object (all_known_after first_ops none) n 0 (things (ops_of o))) (sym at)
      (covers_dep n is (change_at history n) refl at)

  -- the operations of the change are possible wherever those in front of it are known, and none of its own
  own_may : (ids : ElemId → Bool) → IsMore (all_known_after first_ops none) ids → ((i : ℕ) → ids (id_at later name i) ≡ false) → AllMayFollow own ids
  own_may ids more fresh =
      change_may later (grown_history later grown_later).closed (are_depths later grown_later) name change (change_found history change) accepted.known accepted.knows object
      ids accepted.none
      (λ n is. covers_more later object (all_known_after first_ops none) ids more n 0 (things (ops_at later n)) (knows_deps n is))
      (λ i le. fresh i) may.fits

  fresh_behind : (es : History) → AllByRecursion (IsEntry history) es → (i : ℕ) → all_known_after (flat_map (entry_ops later object) es) none (id_at later name i) ≡ false
  fresh_behind es all i = all_known_elsewhere name (flat_map (entry_ops later object) es) none (id_at later name i) (not_own es all) refl

  front_are : AllByRecursion (IsEntry history) front
  front_are = all_front (IsEntry history) front behind parts_are

  behind_are : AllByRecursion (IsEntry history) behind
  behind_are = all_back (IsEntry history) front behind parts_are

  -- where the operations were possible before, they are with those of the change among them
  pub may_later : AllMayFollow (ops_on history object) none → AllMayFollow (ops_on later object) none
  may_later before =
      let both : AllMayFollow (first_ops ++ last_ops) none = subst (λ (ops : List TextOp). AllMayFollow ops none) ops_before before in
      let mid : ElemId → Bool = all_known_after first_ops none in
      let one : AllMayFollow own mid = own_may mid (λ id is. is) (fresh_behind front front_are) in
      let rest : AllMayFollow last_ops (all_known_after own mid) =
      may_more name last_ops mid (all_known_after own mid) (not_own behind behind_are) (all_known_stays own mid)
      (all_own_add name own mid (ops_of_name later name object 0 change.ops)) (may_back first_ops last_ops none both) in
      subst (λ (ops : List TextOp). AllMayFollow ops none) (sym ops_later)
      (may-append first_ops (own ++ last_ops) none (may_front first_ops last_ops none both) (may-append own last_ops mid one rest))

  -- and with those of the change behind them
  pub may_arrive : AllMayFollow (ops_on history object) none → AllMayFollow (ops_on history object ++ own) none
  may_arrive before =
      let more : IsMore (all_known_after first_ops none) (all_known_after (ops_on history object) none) =
      subst (λ (ops : List TextOp). IsMore (all_known_after first_ops none) (all_known_after ops none)) (sym ops_before)
      (subst (IsMore (all_known_after first_ops none)) (sym (all_known_after-append first_ops last_ops none)) (all_known_stays last_ops (all_known_after first_ops none))) in
      let fresh : (i : ℕ) → all_known_after (ops_on history object) none (id_at later name i) ≡ false =
      λ i.
      ap (λ (ops : List TextOp). all_known_after ops none (id_at later name i)) (ops_before ∙ sym (flat_map-append (entry_ops later object) front behind))
      ∙ fresh_behind (front ++ behind) parts_are i in
      may-append (ops_on history object) own none before (own_may (all_known_after (ops_on history object) none) more fresh)

  pub tree_grows : AllMayFollow (ops_on history object) none → tree_of later object ≡ after_ops own (tree_of history object)
  unfolding tree_of
  tree_grows before =
      any_order none (ops_on later object) (ops_on history object ++ own) Leaf
      (subst (λ (ops : List TextOp). IsRearranged ops (ops_on history object ++ own)) (sym ops_later)
      (subst (λ (ops : List TextOp). IsRearranged (first_ops ++ (own ++ last_ops)) (ops ++ own)) (sym ops_before) (rearranged_last first_ops own last_ops)))
      (may_later before) (may_arrive before)
      ∙ after_ops-append (ops_on history object) own Leaf

-- the operations of a grown history are possible
pub grown_may : (history : History) → IsGrown history → (object : ElemId) → AllMayFollow (ops_on history object) (is_known [])
unfolding ops_on
grown_may history Begun object = tt
grown_may history (Come before change grown may) object = may_later before change grown may object (grown_may before grown object)

-- with one change more, the tree of each object is the tree before with what the change does to it
pub tree_step : (history : History) (change : Change) → IsGrown history → MayCome history change → (object : ElemId)
    → tree_of (with_change history change) object
    ≡ after_ops (text_ops (with_change history change) (name_of change) object 0 change.ops) (tree_of history object)
tree_step history change grown may object = tree_grows history change grown may object (grown_may history grown object)
