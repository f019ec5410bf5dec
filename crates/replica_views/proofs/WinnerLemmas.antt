-- Which object is read at each path behind a change that removes nothing.
use Rattle.std.proofs.Common.{◌≡◌, ◌⊎◌, inl, inr, ℕ, ◌+◌, ◌<◌, ◌≤◌, Bool, true, false, cond, not, ◌||◌, refl, sym}
use Rattle.std.proofs.Common.{ap, ap₂, ◌∙◌, subst, List, [], ◌∷◌, ◌++◌, flat_map, length, Option, Some, None, is_some, arith}
use Rattle.std.specs.List.{AllByRecursion, filter}
use Rattle.std.proofs.lemmas.Grind.{flat_map-append}
use Rattle.std.proofs.lemmas.List.Folds.{list_any-append}
use Rattle.std.proofs.lemmas.List.Elements.{filter-append}
use Rattle.tt_base.specs.declared.ids.Name.{Name}
use Rattle.tt_base.specs.declared.ids.ElemId.{ElemId}
use Rattle.change_codec.specs.Change.{Change}
use Rattle.change_codec.specs.declared.ops.Op.{Op}
use Rattle.change_codec.specs.declared.ops.Op.TheVariants.{Make, Remove, Insert, Delete}
use Rattle.change_graph.specs.History.{History, change_at, is_held, name_of, with_change}
use Rattle.change_graph.specs.Refusals.{things_of}
use Rattle.replica_dir.specs.Ids.{is_path, is_id, has_id}
use Rattle.replica_dir.proofs.IdLemmas.{id_same, path_same}
use Rattle.replica_text.specs.Ids.{less}
use Rattle.replica_views.specs.Ids.{id_at}
use Rattle.replica_views.specs.Objects.{makes_of, makes_from, makes_at, removes_of, removes, live_at, greater_of, greatest_id, winner_at}
use Rattle.replica_views.specs.Growth.{MayCome, IsGrown}
use Rattle.replica_views.proofs.DepthLemmas.{grown_depths}
use Rattle.replica_views.proofs.HeadsLemmas.{all_none}
use Rattle.replica_views.proofs.LayerLemmas.{IsPut, history_put, all_more}
use Rattle.replica_views.proofs.StayLemmas.{IsEntry, HasHeldRefs, all_front, all_back, all_filter, id_stays, ref_stays, grown_entries}
use Rattle.replica_views.proofs.StepLemmas.{IsIn}
use Rattle.replica_views.proofs.HeldLemmas.{IsHeldId, makes_in, removes_in, all_removes, greatest_all}

put_flat : {X Y : Type 0} (f : X → List Y) (x : X) (xs ys : List X) (put : IsPut x xs ys) → flat_map f ys ≡ flat_map f put.front ++ (f x ++ flat_map f put.behind)
put_flat f x xs ys put = ap (flat_map f) put.with_it ∙ flat_map-append f put.front (x ∷ put.behind)

put_flat_without : {X Y : Type 0} (f : X → List Y) (x : X) (xs ys : List X) (put : IsPut x xs ys) → flat_map f xs ≡ flat_map f put.front ++ flat_map f put.behind
put_flat_without f x xs ys put = ap (flat_map f) put.without ∙ flat_map-append f put.front put.behind

module _ (history : History) (change : Change) (grown : IsGrown history) (may : MayCome history change) where
  abbrev later : History
  later = with_change history change

  abbrev entry : Name × Change
  entry = (name_of change, change)

  put : IsPut entry history later
  put = history_put history change (grown_depths history grown) may.next

  entries : AllByRecursion (IsEntry history) (put.front ++ put.behind)
  entries = subst (AllByRecursion (IsEntry history)) put.without (grown_entries history grown)

  make_stays : (n : Name) (path : List ℕ) (index : ℕ) (op : Op) → is_held history n ≡ true → makes_of later n path index op ≡ makes_of history n path index op
  make_stays n path index (Make other) held =
      ap (λ (id : ElemId). cond (is_path path other) (id ∷ []) []) (id_stays history change grown may n index held)
  make_stays n path index (Remove object) held = refl
  make_stays n path index (Insert object parent text) held = refl
  make_stays n path index (Delete object first count) held = refl

  makes_from_stay : (n : Name) (path : List ℕ) (ops : List Op) (index : ℕ) → is_held history n ≡ true → makes_from later n path index ops ≡ makes_from history n path index ops
  makes_from_stay n path [] index held = refl
  makes_from_stay n path (op ∷ ops) index held =
      ap₂ (λ (xs ys : List ElemId). xs ++ ys) (make_stays n path index op held) (makes_from_stay n path ops (index + length (things_of op)) held)

  remove_stays : (n : Name) (op : Op) → is_held history n ≡ true → HasHeldRefs history op → removes_of later n op ≡ removes_of history n op
  remove_stays n (Make path) held refs = refl
  remove_stays n (Remove object) held refs = ap (λ (id : ElemId). id ∷ []) (ref_stays history change grown may n object held refs)
  remove_stays n (Insert object parent text) held refs = refl
  remove_stays n (Delete object first count) held refs = refl

  removes_from_stay : (n : Name) (ops : List Op) → is_held history n ≡ true → AllByRecursion (HasHeldRefs history) ops
      → flat_map (removes_of later n) ops ≡ flat_map (removes_of history n) ops
  removes_from_stay n [] held refs = refl
  removes_from_stay n (op ∷ ops) held refs =
      ap₂ (λ (xs ys : List ElemId). xs ++ ys) (remove_stays n op held refs.0) (removes_from_stay n ops held refs.1)

  makes_stay : (path : List ℕ) (es : History) → AllByRecursion (IsEntry history) es → flat_map (makes_in later path) es ≡ flat_map (makes_in history path) es
  makes_stay path [] all = refl
  makes_stay path (e ∷ es) all =
      ap₂ (λ (xs ys : List ElemId). xs ++ ys) (makes_from_stay e.0 path e.1.ops 0 (ap (λ (o : Option Change). is_some o) all.0.found)) (makes_stay path es all.1)

  removes_stay : (es : History) → AllByRecursion (IsEntry history) es → flat_map (removes_in later) es ≡ flat_map (removes_in history) es
  removes_stay [] all = refl
  removes_stay (e ∷ es) all =
      ap₂ (λ (xs ys : List ElemId). xs ++ ys) (removes_from_stay e.0 e.1.ops (ap (λ (o : Option Change). is_some o) all.0.found) all.0.refs) (removes_stay es all.1)

  abbrev front_makes : List ℕ → List ElemId
  front_makes path = flat_map (makes_in history path) put.front

  abbrev last_makes : List ℕ → List ElemId
  last_makes path = flat_map (makes_in history path) put.behind

  makes_later : (path : List ℕ) → makes_at later path ≡ front_makes path ++ (makes_in later path entry ++ last_makes path)
  makes_later path =
      put_flat (makes_in later path) entry history later put
      ∙ ap₂ (λ (xs ys : List ElemId). xs ++ (makes_in later path entry ++ ys))
      (makes_stay path put.front (all_front (IsEntry history) put.front put.behind entries))
      (makes_stay path put.behind (all_back (IsEntry history) put.front put.behind entries))

  makes_before : (path : List ℕ) → makes_at history path ≡ front_makes path ++ last_makes path
  makes_before path = put_flat_without (makes_in history path) entry history later put

  abbrev front_removes : List ElemId
  front_removes = flat_map (removes_in history) put.front

  abbrev last_removes : List ElemId
  last_removes = flat_map (removes_in history) put.behind

  removes_later : removes later ≡ front_removes ++ (removes_in later entry ++ last_removes)
  removes_later =
      put_flat (removes_in later) entry history later put
      ∙ ap₂ (λ (xs ys : List ElemId). xs ++ (removes_in later entry ++ ys))
      (removes_stay put.front (all_front (IsEntry history) put.front put.behind entries))
      (removes_stay put.behind (all_back (IsEntry history) put.front put.behind entries))

  removes_before : removes history ≡ front_removes ++ last_removes
  removes_before = put_flat_without (removes_in history) entry history later put

  -- where nothing is made, the same was made
  pub makes_same : (path : List ℕ) → makes_in later path entry ≡ [] → makes_at later path ≡ makes_at history path
  makes_same path none =
      makes_later path ∙ ap (λ (xs : List ElemId). front_makes path ++ (xs ++ last_makes path)) none ∙ sym (makes_before path)

  swapped : (a b c : Bool) → (a || (b || c)) ≡ ((a || c) || b)
  swapped true b c = refl
  swapped false true true = refl
  swapped false true false = refl
  swapped false false true = refl
  swapped false false false = refl

  -- what is removed now was removed before, or the change removes it
  pub removed_now : (id : ElemId) → has_id (removes later) id ≡ (has_id (removes history) id || has_id (removes_in later entry) id)
  removed_now id =
      ap (λ (xs : List ElemId). has_id xs id) removes_later
      ∙ list_any-append (is_id id) front_removes (removes_in later entry ++ last_removes)
      ∙ ap (λ (b : Bool). has_id front_removes id || b) (list_any-append (is_id id) (removes_in later entry) last_removes)
      ∙ swapped (has_id front_removes id) (has_id (removes_in later entry) id) (has_id last_removes id)
      ∙ ap (λ (b : Bool). b || has_id (removes_in later entry) id)
      (sym (ap (λ (xs : List ElemId). has_id xs id) removes_before ∙ list_any-append (is_id id) front_removes last_removes))

  module _ (keeps : removes_in later entry ≡ []) where
    pub removes_same : removes later ≡ removes history
    removes_same = removes_later ∙ ap (λ (xs : List ElemId). front_removes ++ (xs ++ last_removes)) keeps ∙ sym removes_before

    -- where nothing is made the winner stays
    pub winner_stays : (path : List ℕ) → makes_in later path entry ≡ [] → winner_at later path ≡ winner_at history path
    unfolding winner_at
    winner_stays path none =
        ap₂ (λ (rs ms : List ElemId). greatest_id (filter (λ id. not (has_id rs id)) ms)) removes_same (makes_same path none)

    both_none : (xs ys : List ElemId) → xs ++ ys ≡ [] → (xs ≡ []) × (ys ≡ [])
    both_none [] ys is = (refl, is)
    both_none (x ∷ xs) ys is = cc

    greatest_none : (ids : List ElemId) → greatest_id ids ≡ None → ids ≡ []
    greatest_none [] is = refl
    greatest_none (id ∷ ids) is = by (greatest_id ids) is where
      by : (o : Option ElemId) → greater_of id o ≡ None → (id ∷ ids) ≡ []
      by None is = cc
      by (Some other) is = pick (less id other) is where
        pick : (b : Bool) → cond b (Some other) (Some id) ≡ None → (id ∷ ids) ≡ []
        pick true is = cc
        pick false is = cc

    -- an id that no held change made is not removed
    not_removed : (new : ElemId) → (is_held history new.name ≡ false) → has_id (removes history) new ≡ false
    not_removed new none =
        all_none (is_id new) (removes history)
        (all_more (IsHeldId history) (λ (x : ElemId). is_id new x ≡ false) (removes history)
        (λ x is. apart x is (is_id new x) refl) (all_removes history history (grown_entries history grown))) where
          apart : (x : ElemId) → IsHeldId history x → (b : Bool) → is_id new x ≡ b → b ≡ false
          apart x is false here = refl
          apart x is true here =
              let e : is_held history new.name ≡ is_held history x.name = ap (λ (i : ElemId). is_held history i.name) (id_same new x here) in
              let held = is.held in cc

    -- an object that is made where there is none is read
    pub winner_comes : (path : List ℕ) (new : ElemId) → is_held history new.name ≡ false → makes_in later path entry ≡ new ∷ [] → winner_at history path ≡ None
        → winner_at later path ≡ Some new
    unfolding winner_at
    winner_comes path new none made before =
        let live : ElemId → Bool = λ id. not (has_id (removes history) id) in
        let parts : (filter live (front_makes path) ≡ []) × (filter live (last_makes path) ≡ []) =
        both_none (filter live (front_makes path)) (filter live (last_makes path))
        (sym (filter-append live (front_makes path) (last_makes path)) ∙ ap (filter live) (sym (makes_before path))
        ∙ greatest_none (live_at history path) before) in
        ap₂ (λ (rs ms : List ElemId). greatest_id (filter (λ id. not (has_id rs id)) ms)) removes_same
        (makes_later path ∙ ap (λ (xs : List ElemId). front_makes path ++ (xs ++ last_makes path)) made)
        ∙ ap greatest_id
        (filter-append live (front_makes path) (new ∷ last_makes path)
        ∙ ap₂ (λ (xs ys : List ElemId). xs ++ ys) parts.0
        (ap (λ (b : Bool). cond (not b) (new ∷ filter live (last_makes path)) (filter live (last_makes path))) (not_removed new none)
        ∙ ap (λ (xs : List ElemId). new ∷ xs) parts.1))

-- ---- an object stands at one path

abbrev pub IsMakeAt : List ℕ → Op → Type 0
IsMakeAt path (Make made) = path ≡ made
IsMakeAt path (Remove object) = ⊥
IsMakeAt path (Insert object parent text) = ⊥
IsMakeAt path (Delete object first count) = ⊥

pub each_in : {X : Type 0} (xs : List X) → AllByRecursion (λ x. IsIn x xs) xs
each_in [] = tt
each_in (x ∷ xs) = (inl refl, all_more (λ y. IsIn y xs) (λ y. IsIn y (x ∷ xs)) xs (λ y is. inr is) (each_in xs))

module _ (history : History) (n : Name) where
  pub make_in : (path : List ℕ) (index : ℕ) (op : Op) (rest : List ElemId) (v : ElemId) → IsIn v (makes_of history n path index op ++ rest)
      → ((v ≡ id_at history n index) × IsMakeAt path op) ⊎ IsIn v rest
  make_in path index (Make made) rest v is = by (is_path path made) refl is where
    by : (b : Bool) → is_path path made ≡ b → IsIn v (cond b (id_at history n index ∷ []) [] ++ rest)
        → ((v ≡ id_at history n index) × (path ≡ made)) ⊎ IsIn v rest
    by true same (inl is) = inl (sym is, path_same path made same)
    by true same (inr is) = inr is
    by false apart is = inr is
  make_in path index (Remove object) rest v is = inr is
  make_in path index (Insert object parent text) rest v is = inr is
  make_in path index (Delete object first count) rest v is = inr is

  pub at_least : (path : List ℕ) (ops : List Op) (index : ℕ) (v : ElemId) → IsIn v (makes_from history n path index ops) → index ≤ v.index
  at_least path [] index v is = absurd is
  at_least path (op ∷ ops) index v is =
      elim (make_in path index op (makes_from history n path (index + length (things_of op)) ops) v is) [
        | inl here ↦ let e : v.index ≡ index = ap (λ (id : ElemId). id.index) here.0 in omega (arith, e)
        | inr later ↦ let le = at_least path ops (index + length (things_of op)) v later in omega (arith, le)
      ]

  one_make : (q p : List ℕ) (op : Op) → IsMakeAt q op → IsMakeAt p op → q ≡ p
  one_make q p (Make made) one other = one ∙ sym other
  one_make q p (Remove object) one other = absurd one
  one_make q p (Insert object parent text) one other = absurd one
  one_make q p (Delete object first count) one other = absurd one

  make_long : (q : List ℕ) (op : Op) → IsMakeAt q op → 0 < length (things_of op)
  make_long q (Make made) is = omega arith
  make_long q (Remove object) is = absurd is
  make_long q (Insert object parent text) is = absurd is
  make_long q (Delete object first count) is = absurd is

  -- what was made before is not made behind
  not_behind : (q p : List ℕ) (op : Op) (ops : List Op) (index : ℕ) (v : ElemId) → v ≡ id_at history n index → IsMakeAt q op
      → IsIn v (makes_from history n p (index + length (things_of op)) ops) → ⊥
  not_behind q p op ops index v is make there =
      let e : v.index ≡ index = ap (λ (id : ElemId). id.index) is in
      let le = at_least p ops (index + length (things_of op)) v there in
      let some = make_long q op make in
      omega (arith, e, le, some)

  pub one_path : (q p : List ℕ) (ops : List Op) (index : ℕ) (v : ElemId) → IsIn v (makes_from history n q index ops) → IsIn v (makes_from history n p index ops) → q ≡ p
  one_path q p [] index v one other = absurd one
  one_path q p (op ∷ ops) index v one other =
      elim (make_in q index op (makes_from history n q (index + length (things_of op)) ops) v one) [
        | inl here ↦
            elim (make_in p index op (makes_from history n p (index + length (things_of op)) ops) v other) [
              | inl there ↦ one_make q p op here.1 there.1
              | inr behind ↦ absurd (not_behind q p op ops index v here.0 here.1 behind)
            ]
        | inr later ↦
            elim (make_in p index op (makes_from history n p (index + length (things_of op)) ops) v other) [
              | inl there ↦ absurd (not_behind p q op ops index v there.0 there.1 later)
              | inr behind ↦ one_path q p ops (index + length (things_of op)) v later behind
            ]
      ]

  make_name : (path : List ℕ) (ops : List Op) (index : ℕ) (v : ElemId) → IsIn v (makes_from history n path index ops) → v.name ≡ n
  make_name path [] index v is = absurd is
  make_name path (op ∷ ops) index v is =
      elim (make_in path index op (makes_from history n path (index + length (things_of op)) ops) v is) [
        | inl here ↦ ap (λ (id : ElemId). id.name) here.0
        | inr later ↦ make_name path ops (index + length (things_of op)) v later
      ]

-- the change that made the object
pub record IsMadeBy (history : History) (path : List ℕ) (v : ElemId) : Type 0 where
  pub change : Change
  pub found : change_at history v.name ≡ Some change
  pub there : IsIn v (makes_from history v.name path 0 change.ops)

pub in_parts : {X : Type 0} (x : X) (xs ys : List X) → IsIn x (xs ++ ys) → IsIn x xs ⊎ IsIn x ys
in_parts x [] ys is = inr is
in_parts x (y ∷ xs) ys (inl is) = inl (inl is)
in_parts x (y ∷ xs) ys (inr is) = elim (in_parts x xs ys is) [ inl one ↦ inl (inr one) | inr other ↦ inr other ]

pub made_in : (history : History) (path : List ℕ) (v : ElemId) (es : History) → AllByRecursion (IsEntry history) es → IsIn v (flat_map (makes_in history path) es)
    → IsMadeBy history path v
made_in history path v [] all is = absurd is
made_in history path v (e ∷ es) all is =
    elim (in_parts v (makes_in history path e) (flat_map (makes_in history path) es) is) [
      | inl here ↦
          let named : e.0 ≡ v.name = sym (make_name history e.0 path e.1.ops 0 v here) in
          record {
            change = e.1;
            found = subst (λ (n : Name). change_at history n ≡ Some e.1) named all.0.found;
            there = subst (λ (n : Name). IsIn v (makes_from history n path 0 e.1.ops)) named here;
          }
      | inr later ↦ made_in history path v es all.1 later
    ]

module _ (history : History) (grown : IsGrown history) where
  -- the winner of a path was made there
  pub winner_made : (path : List ℕ) (v : ElemId) → winner_at history path ≡ Some v → IsMadeBy history path v
  unfolding winner_at
  winner_made path v is =
      made_in history path v history (grown_entries history grown)
      (greatest_all history (λ x. IsIn x (makes_at history path)) (live_at history path) v
      (all_filter (λ x. IsIn x (makes_at history path)) (λ id. not (has_id (removes history) id)) (makes_at history path) (each_in (makes_at history path))) is)

  -- winners of two paths are two objects
  pub winners_apart : (q p : List ℕ) (v w : ElemId) → winner_at history q ≡ Some v → winner_at history p ≡ Some w → (q ≡ p → ⊥) → v ≡ w → ⊥
  winners_apart q p v w one other apart same_object =
      let a : IsMadeBy history q v = winner_made q v one in
      let b : IsMadeBy history p v = subst (IsMadeBy history p) (sym same_object) (winner_made p w other) in
      let both : Some a.change ≡ Some b.change = sym a.found ∙ b.found in
      let c : b.change ≡ a.change = cc in
      apart (one_path history v.name q p a.change.ops 0 v a.there (subst (λ (x : Change). IsIn v (makes_from history v.name p 0 x.ops)) c b.there))
