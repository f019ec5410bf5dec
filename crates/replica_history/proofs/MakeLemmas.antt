-- What a change makes, as its readings and as a list of makes.
use Rattle.std.proofs.Common.{◌≡◌, ◌⊎◌, inl, inr, ℕ, ◌+◌, Bool, true, false, cond, ◌||◌, ◌&&◌, refl, sym, ap, ap₂, ◌∙◌, subst, List, [], ◌∷◌, ◌++◌, flat_map, length, Option, Some, is_some}
use Rattle.std.specs.List.{AllByRecursion}
use Rattle.std.proofs.lemmas.Grind.{flat_map-append}
use Rattle.std.proofs.lemmas.List.Folds.{list_any-append}
use Rattle.tt_base.specs.declared.ids.Name.{Name}
use Rattle.tt_base.specs.declared.ids.ElemId.{ElemId}
use Rattle.change_codec.specs.Change.{Change}
use Rattle.change_codec.specs.declared.ops.Op.{Op}
use Rattle.change_codec.specs.declared.ops.Op.TheVariants.{Make, Remove, Insert, Delete}
use Rattle.change_graph.specs.History.{History, is_held, name_of, with_change}
use Rattle.change_graph.specs.Refusals.{things_of}
use Rattle.replica_dir.specs.Ids.{is_path, is_id, has_id}
use Rattle.replica_dir.proofs.IdLemmas.{id_same}
use Rattle.replica_views.specs.Growth.{MayCome, IsGrown}
use Rattle.replica_views.specs.Ids.{id_at}
use Rattle.replica_views.specs.Objects.{makes_of, makes_from, makes_at}
use Rattle.replica_views.proofs.DepthLemmas.{grown_depths}
use Rattle.replica_views.proofs.LayerLemmas.{IsPut, history_put}
use Rattle.replica_views.proofs.StayLemmas.{IsEntry, all_front, all_back, id_stays, grown_entries}
use Rattle.replica_views.proofs.HeldLemmas.{makes_in}
use Rattle.replica_history.specs.declared.deeds.Made.{Made}
use Rattle.replica_history.specs.declared.texts.KeptText.{KeptText}
use Rattle.replica_history.specs.Deeds.{made_of, made_from, is_make, has_make}
use Rattle.replica_history.specs.Texts.{begun, kept_of}
use Rattle.replica_history.proofs.IdTests.{id_turned, path_turned, path_itself}

and_false : (a : Bool) → (a && false) ≡ false
and_false true = refl
and_false false = refl

-- ---- makes as a list

module _ (h : History) (n : Name) (path : List ℕ) (q : ElemId) where
  one_has : (index : ℕ) (op : Op) → has_id (makes_of h n path index op) q ≡ has_make (made_of h n index op) path q
  one_has index (Make other) =
      by (is_path path other) refl where
        by : (b : Bool) → is_path path other ≡ b
            → has_id (cond b (id_at h n index ∷ []) []) q ≡ ((is_path other path && is_id (id_at h n index) q) || false)
        by true here =
            ap (λ (b : Bool). b || false) (id_turned q (id_at h n index))
            ∙ ap (λ (b : Bool). (b && is_id (id_at h n index) q) || false) (sym here ∙ path_turned path other)
        by false apart = ap (λ (b : Bool). (b && is_id (id_at h n index) q) || false) (sym apart ∙ path_turned path other)
  one_has index (Remove object) = refl
  one_has index (Insert object parent text) = refl
  one_has index (Delete object first count) = refl

  pub made_has : (index : ℕ) (ops : List Op) → has_id (makes_from h n path index ops) q ≡ has_make (made_from h n index ops) path q
  made_has index [] = refl
  made_has index (op ∷ ops) =
      list_any-append (is_id q) (makes_of h n path index op) (makes_from h n path (index + length (things_of op)) ops)
      ∙ ap₂ (λ (a b : Bool). a || b) (one_has index op) (made_has (index + length (things_of op)) ops)
      ∙ sym (list_any-append (is_make path q) (made_of h n index op) (made_from h n (index + length (things_of op)) ops))

  -- what a change makes has its name
  one_named : (index : ℕ) (op : Op) → has_make (made_of h n index op) path q ≡ true → q.name ≡ n
  one_named index (Make other) is = by (is_path other path) (is_id (id_at h n index) q) refl is where
    by : (a b : Bool) → is_id (id_at h n index) q ≡ b → ((a && b) || false) ≡ true → q.name ≡ n
    by true true here is = ap (λ (id : ElemId). id.name) (sym (id_same (id_at h n index) q here))
    by true false here is = cc
    by false b here is = cc
  one_named index (Remove object) is = cc
  one_named index (Insert object parent text) is = cc
  one_named index (Delete object first count) is = cc

  pub made_named : (index : ℕ) (ops : List Op) → has_make (made_from h n index ops) path q ≡ true → q.name ≡ n
  made_named index [] is = cc
  made_named index (op ∷ ops) is =
      by (has_make (made_of h n index op) path q) refl
      (sym (list_any-append (is_make path q) (made_of h n index op) (made_from h n (index + length (things_of op)) ops)) ∙ is)
      (made_named (index + length (things_of op)) ops) where
        by : (b : Bool) → has_make (made_of h n index op) path q ≡ b
            → (b || has_make (made_from h n (index + length (things_of op)) ops) path q) ≡ true
            → (has_make (made_from h n (index + length (things_of op)) ops) path q ≡ true → q.name ≡ n) → q.name ≡ n
        by true here is rest = one_named index op here
        by false apart is rest = rest is

-- ---- what is kept of an object once these are made

-- a make of it is the last
pub record IsBegun (makes : List Made) (q : ElemId) (kept : Option KeptText) : Type 0 where
  pub path : List ℕ
  pub is : begun makes q kept ≡ Some (kept_of path [])
  pub has : has_make makes path q ≡ true

-- none is of it
pub record IsNotBegun (makes : List Made) (q : ElemId) (kept : Option KeptText) : Type 0 where
  pub is : begun makes q kept ≡ kept
  pub none : (path : List ℕ) → has_make makes path q ≡ false

abbrev pub BegunOrNot : List Made → ElemId → Option KeptText → Type 0
BegunOrNot makes q kept = IsBegun makes q kept ⊎ IsNotBegun makes q kept

pub begun_cases : (makes : List Made) (q : ElemId) (kept : Option KeptText) → BegunOrNot makes q kept
begun_cases [] q kept = inr (record { is = refl; none = λ path. refl })
begun_cases (m ∷ ms) q kept = by (begun_cases ms q (Some (kept_of m.path []))) (begun_cases ms q kept) (is_id m.object q) refl where
  later : (a b : Bool) → b ≡ true → (a || b) ≡ true
  later true b is = refl
  later false b is = is

  at_test : {b : Bool} → is_id m.object q ≡ b → begun (m ∷ ms) q kept ≡ begun ms q (cond b (Some (kept_of m.path [])) kept)
  at_test here = ap (λ (t : Bool). begun ms q (cond t (Some (kept_of m.path [])) kept)) here

  by : BegunOrNot ms q (Some (kept_of m.path [])) → BegunOrNot ms q kept → (b : Bool) → is_id m.object q ≡ b → BegunOrNot (m ∷ ms) q kept
  by (inl x) other true here = inl (record {
    path = x.path;
    is = at_test here ∙ x.is;
    has = later (is_path m.path x.path && is_id m.object q) (has_make ms x.path q) x.has;
  })
  by (inr x) other true here = inl (record {
    path = m.path;
    is = at_test here ∙ x.is;
    has = ap₂ (λ (a b : Bool). (a && b) || has_make ms m.path q) (path_itself m.path) here;
  })
  by one (inl x) false apart = inl (record {
    path = x.path;
    is = at_test apart ∙ x.is;
    has = later (is_path m.path x.path && is_id m.object q) (has_make ms x.path q) x.has;
  })
  by one (inr x) false apart = inr (record {
    is = at_test apart ∙ x.is;
    none = λ path.
        ap (λ (b : Bool). (is_path m.path path && b) || has_make ms path q) apart
        ∙ ap (λ (b : Bool). b || has_make ms path q) (and_false (is_path m.path path))
        ∙ x.none path;
  })

-- ---- what was made once the change has come

module _ (history : History) (change : Change) (grown : IsGrown history) (may : MayCome history change) where
  abbrev later : History
  later = with_change history change

  abbrev entry : Name × Change
  entry = (name_of change, change)

  put : IsPut entry history later
  put = history_put history change (grown_depths history grown) may.next

  entries : AllByRecursion (IsEntry history) (put.front ++ put.behind)
  entries = subst (AllByRecursion (IsEntry history)) put.without (grown_entries history grown)

  make_stays : (n : Name) (path : List ℕ) (index : ℕ) (op : Op) → is_held history n ≡ true → makes_of later n path index op ≡ makes_of history n path index op
  make_stays n path index (Make other) held =
      ap (λ (id : ElemId). cond (is_path path other) (id ∷ []) []) (id_stays history change grown may n index held)
  make_stays n path index (Remove object) held = refl
  make_stays n path index (Insert object parent text) held = refl
  make_stays n path index (Delete object first count) held = refl

  makes_from_stay : (n : Name) (path : List ℕ) (ops : List Op) (index : ℕ) → is_held history n ≡ true → makes_from later n path index ops ≡ makes_from history n path index ops
  makes_from_stay n path [] index held = refl
  makes_from_stay n path (op ∷ ops) index held =
      ap₂ (λ (xs ys : List ElemId). xs ++ ys) (make_stays n path index op held) (makes_from_stay n path ops (index + length (things_of op)) held)

  makes_stay : (path : List ℕ) (es : History) → AllByRecursion (IsEntry history) es → flat_map (makes_in later path) es ≡ flat_map (makes_in history path) es
  makes_stay path [] all = refl
  makes_stay path (e ∷ es) all =
      ap₂ (λ (xs ys : List ElemId). xs ++ ys) (makes_from_stay e.0 path e.1.ops 0 (ap (λ (o : Option Change). is_some o) all.0.found)) (makes_stay path es all.1)

  swapped : (a b c : Bool) → (a || (b || c)) ≡ ((a || c) || b)
  swapped true b c = refl
  swapped false true true = refl
  swapped false true false = refl
  swapped false false true = refl
  swapped false false false = refl

  -- what was made at a path: what was before, and what the change makes
  pub made_now : (path : List ℕ) (q : ElemId) → has_id (makes_at later path) q
      ≡ (has_id (makes_at history path) q || has_id (makes_from later (name_of change) path 0 change.ops) q)
  made_now path q =
      let front : List ElemId = flat_map (makes_in history path) put.front in
      let last : List ElemId = flat_map (makes_in history path) put.behind in
      let own : List ElemId = makes_in later path entry in
      ap (λ (xs : List ElemId). has_id xs q)
      (ap (flat_map (makes_in later path)) put.with_it
      ∙ flat_map-append (makes_in later path) put.front (entry ∷ put.behind)
      ∙ ap₂ (λ (xs ys : List ElemId). xs ++ (own ++ ys))
      (makes_stay path put.front (all_front (IsEntry history) put.front put.behind entries))
      (makes_stay path put.behind (all_back (IsEntry history) put.front put.behind entries)))
      ∙ list_any-append (is_id q) front (own ++ last)
      ∙ ap (λ (b : Bool). has_id front q || b) (list_any-append (is_id q) own last)
      ∙ swapped (has_id front q) (has_id own q) (has_id last q)
      ∙ ap (λ (b : Bool). b || has_id own q)
      (sym (ap (λ (xs : List ElemId). has_id xs q) (ap (flat_map (makes_in history path)) put.without ∙ flat_map-append (makes_in history path) put.front put.behind)
      ∙ list_any-append (is_id q) front last))
