-- What one change more leaves as it was: the ids of what was held, and what held changes do.
use Rattle.std.proofs.Common.{◌≡◌, ℕ, zero, suc, ◌+◌, ◌≤◌, ◌^◌, ◌==◌, Bool, true, false, cond, refl, sym, ap, ap₂}
use Rattle.std.proofs.Common.{◌∙◌, subst, List, [], ◌∷◌, ◌++◌, filter, map, take, drop, length, Option, Some, None, is_some, arith}
use Rattle.std.specs.List.{All, AllByRecursion}
use Rattle.std.proofs.lemmas.List.Elements.{All-head, All-tail}
use Rattle.std.proofs.lemmas.Bool.{both_ways, false_from_ne_true}
use Rattle.tt_base.specs.declared.ids.Name.{Name}
use Rattle.tt_base.specs.declared.ids.ElemId.{ElemId}
use Rattle.tt_base.specs.declared.text_ops.TextOp.{TextOp}
use Rattle.tt_base.specs.declared.text_ops.TextOp.TheVariants as on_text
use Rattle.change_codec.specs.Change.{Change}
use Rattle.change_codec.specs.Encoding.{change_format}
use Rattle.change_codec.specs.WellFormed.{IsOp}
use Rattle.change_codec.specs.declared.ops.Ref.{Ref}
use Rattle.change_codec.specs.declared.ops.Ref.TheVariants.{Here, There}
use Rattle.change_codec.specs.declared.ops.Parent.{Parent}
use Rattle.change_codec.specs.declared.ops.Parent.TheVariants.{Root, After}
use Rattle.change_codec.specs.declared.ops.Op.{Op}
use Rattle.change_codec.specs.declared.ops.Op.TheVariants.{Make, Remove, Insert, Delete}
use Rattle.change_codec.proofs.WellFormedLaws.{fitting_is_well_formed}
use Rattle.change_graph.specs.History.{History, is_name, has_name, change_at, is_held, ops_at, name_of, with_change}
use Rattle.change_graph.specs.Histories.{IsHistory}
use Rattle.change_graph.specs.Refusals.{things_of, things, thing_seen, is_there, op_fault, IsAccepted}
use Rattle.change_graph.proofs.OrderLemmas.{name_same}
use Rattle.change_graph.proofs.ReachedLemmas.{reached_held}
use Rattle.replica_text.specs.Ids.{same}
use Rattle.replica_views.specs.Ids.{depth_at, maker, id_at, id_of}
use Rattle.replica_views.specs.Texts.{parent_of, text_op, text_ops, layer, up_to_depth, by_depth}
use Rattle.replica_views.specs.Growth.{MayCome, IsGrown, Begun, Come}
use Rattle.replica_views.proofs.DepthLemmas.{grown_depths, depth_stays}
use Rattle.replica_views.proofs.HistoryLemmas.{grown_history}
use Rattle.replica_views.proofs.LayerLemmas.{IsPut, history_put, change_found, other_found}
use Rattle.replica_views.proofs.AcceptedLemmas.{IsSeen, seen_by, object_seen_by, there_long, within_of, AreAccepted, accepted_from}

-- ---- refs to what is held

abbrev pub IsHeldRef : History → Ref → Type 0
IsHeldRef history (Here index) = Unit {0}
IsHeldRef history (There n index) = is_held history n ≡ true

abbrev pub IsHeldParent : History → Parent → Type 0
IsHeldParent history Root = Unit {0}
IsHeldParent history (After place) = IsHeldRef history place

-- the operation points at what is held
abbrev pub HasHeldRefs : History → Op → Type 0
HasHeldRefs history (Make path) = Unit {0}
HasHeldRefs history (Remove object) = IsHeldRef history object
HasHeldRefs history (Insert own parent text) = IsHeldRef history own × IsHeldParent history parent
HasHeldRefs history (Delete own first count) = IsHeldRef history own × IsHeldRef history first

none_long : {X Y : Type 0} (f : X → Y) (count i : ℕ) → length (take (suc count) (drop i (map f []))) ≡ suc count → ⊥
none_long f count zero long = absurd (omega (arith, long))
none_long f count (suc i) long = absurd (omega (arith, long))

module _ (g : History) (is : IsHistory g) (name : Name) (change : Change) (at : change_at g name ≡ Some change) (fits : change_format.Fits change) where
  accepted : IsAccepted g change
  accepted = is.accepted name change at

  ref_held : (earlier : List Op) (place : Ref) (count : ℕ) → is_there (within_of g accepted.known earlier) place (suc count) ≡ true → IsHeldRef g place
  ref_held earlier (Here i) count there = tt
  ref_held earlier (There n i) count there =
      by (accepted.known n) refl (there_long (within_of g accepted.known earlier) (There n i) (suc count) there) where
        by : (b : Bool) → accepted.known n ≡ b
            → length (take (suc count) (drop i (map (thing_seen (There n i)) (things (cond b (ops_at g n) []))))) ≡ suc count → is_held g n ≡ true
        by true here long = reached_held is.closed (has_name change.deps) (accepted.knows.only n here)
        by false here long = absurd (none_long (thing_seen (There n i)) count i long)

  op_held : (earlier : List Op) (op : Op) → IsOp op → op_fault (within_of g accepted.known earlier) op ≡ None → HasHeldRefs g op
  op_held earlier (Make path) well none = tt
  op_held earlier (Remove object) well none =
      ref_held earlier object 0 (object_seen_by (within_of g accepted.known earlier) object none)
  op_held earlier (Insert own Root text) well none =
      (ref_held earlier own 0 (object_seen_by (within_of g accepted.known earlier) own none), tt)
  op_held earlier (Insert own (After place) text) well none =
      let seen : IsSeen (within_of g accepted.known earlier) own place 1 = seen_by (within_of g accepted.known earlier) own place 1 none in
      (ref_held earlier own 0 seen.object_there, ref_held earlier place 0 seen.there)
  op_held earlier (Delete own first zero) well none = let some = well.some in absurd (omega (arith, some))
  op_held earlier (Delete own first (suc count)) well none =
      let seen : IsSeen (within_of g accepted.known earlier) own first (suc count) = seen_by (within_of g accepted.known earlier) own first (suc count) none in
      (ref_held earlier own 0 seen.object_there, ref_held earlier first count seen.there)

  ops_held : (earlier ops : List Op) → All IsOp ops → AreAccepted g accepted.known earlier ops → AllByRecursion (HasHeldRefs g) ops
  ops_held earlier [] well accepted_ops = tt
  ops_held earlier (op ∷ ops) well accepted_ops = (
    op_held earlier op (All-head IsOp op ops well) accepted_ops.0,
    ops_held (earlier ++ op ∷ []) ops (All-tail IsOp op ops well) accepted_ops.1,
  )

  -- a held change points at what is held
  pub change_held : AllByRecursion (HasHeldRefs g) change.ops
  change_held =
      ops_held [] change.ops (fitting_is_well_formed change fits).ops_are (accepted_from g accepted.known [] change.ops accepted.none)

-- ---- each entry

-- the entry is the one that is found under its name; it may be encoded, its indices fit, and it points at what is held
pub record IsEntry (history : History) (entry : Name × Change) : Type 0 where
  pub found : change_at history entry.0 ≡ Some entry.1
  pub encoded : change_format.Fits entry.1
  pub fits : length (things entry.1.ops) ≤ 2 ^ 64
  pub refs : AllByRecursion (HasHeldRefs history) entry.1.ops

pub all-append : {X : Type 0} (P : X → Type 0) (xs ys : List X) → AllByRecursion P xs → AllByRecursion P ys → AllByRecursion P (xs ++ ys)
all-append P [] ys one other = other
all-append P (x ∷ xs) ys one other = (one.0, all-append P xs ys one.1 other)

pub all_front : {X : Type 0} (P : X → Type 0) (xs ys : List X) → AllByRecursion P (xs ++ ys) → AllByRecursion P xs
all_front P [] ys all = tt
all_front P (x ∷ xs) ys all = (all.0, all_front P xs ys all.1)

pub all_back : {X : Type 0} (P : X → Type 0) (xs ys : List X) → AllByRecursion P (xs ++ ys) → AllByRecursion P ys
all_back P [] ys all = all
all_back P (x ∷ xs) ys all = all_back P xs ys all.1

pub all_put : {X : Type 0} (P : X → Type 0) (x : X) (xs ys : List X) → IsPut x xs ys → P x → AllByRecursion P xs → AllByRecursion P ys
all_put P x xs ys put own all =
    let parts : AllByRecursion P (put.front ++ put.behind) = subst (AllByRecursion P) put.without all in
    subst (AllByRecursion P) (sym put.with_it)
    (all-append P put.front (x ∷ put.behind) (all_front P put.front put.behind parts) (own, all_back P put.front put.behind parts))

pub all_filter : {X : Type 0} (P : X → Type 0) (test : X → Bool) (xs : List X) → AllByRecursion P xs → AllByRecursion P (filter test xs)
all_filter P test [] all = tt
all_filter P test (x ∷ xs) all = by (all_filter P test xs all.1) (test x) where
  by : AllByRecursion P (filter test xs) → (b : Bool) → AllByRecursion P (cond b (x ∷ filter test xs) (filter test xs))
  by rest true = (all.0, rest)
  by rest false = rest

all_up_to : (P : Name × Change → Type 0) (history : History) (depth : ℕ) → AllByRecursion P history → AllByRecursion P (up_to_depth history depth)
all_up_to P history zero all = tt
all_up_to P history (suc depth) all =
    all-append P (up_to_depth history depth) (layer history (suc depth)) (all_up_to P history depth all)
    (all_filter P (λ (held : Name × Change). depth_at history held.0 == suc depth) history all)

pub all_by_depth : (P : Name × Change → Type 0) (history : History) → AllByRecursion P history → AllByRecursion P (by_depth history)
all_by_depth P history all = all_up_to P history (length history) all

-- ---- one change more

module _ (history : History) (change : Change) (grown : IsGrown history) (may : MayCome history change) where
  abbrev later : History
  later = with_change history change

  -- what was held has another name
  pub apart_from_new : (q : Name) → is_held history q ≡ true → is_name (name_of change) q ≡ false
  apart_from_new q held =
      false_from_ne_true (is_name (name_of change) q)
      (λ same_name.
      both_ways (is_held history (name_of change)) may.next.new
      (subst (λ (n : Name). is_held history n ≡ true) (sym (name_same (name_of change) q same_name)) held))

  pub stays_held : (q : Name) → is_held history q ≡ true → is_held later q ≡ true
  stays_held q held = ap (λ (o : Option Change). is_some o) (other_found history change q (apart_from_new q held)) ∙ held

  ref_stays_held : (r : Ref) → IsHeldRef history r → IsHeldRef later r
  ref_stays_held (Here i) held = tt
  ref_stays_held (There n i) held = stays_held n held

  parent_stays_held : (p : Parent) → IsHeldParent history p → IsHeldParent later p
  parent_stays_held Root held = tt
  parent_stays_held (After place) held = ref_stays_held place held

  op_stays_held : (op : Op) → HasHeldRefs history op → HasHeldRefs later op
  op_stays_held (Make path) held = tt
  op_stays_held (Remove object) held = ref_stays_held object held
  op_stays_held (Insert own parent text) held = (ref_stays_held own held.0, parent_stays_held parent held.1)
  op_stays_held (Delete own first count) held = (ref_stays_held own held.0, ref_stays_held first held.1)

  ops_stay_held : (ops : List Op) → AllByRecursion (HasHeldRefs history) ops → AllByRecursion (HasHeldRefs later) ops
  ops_stay_held [] held = tt
  ops_stay_held (op ∷ ops) held = (op_stays_held op held.0, ops_stay_held ops held.1)

  entry_stays : (e : Name × Change) → IsEntry history e → IsEntry later e
  entry_stays e is =
      let held : is_held history e.0 ≡ true = ap (λ (o : Option Change). is_some o) is.found in
      record {
        found = other_found history change e.0 (apart_from_new e.0 held) ∙ is.found;
        encoded = is.encoded;
        fits = is.fits;
        refs = ops_stay_held e.1.ops is.refs;
      }

  entries_stay : (es : List (Name × Change)) → AllByRecursion (IsEntry history) es → AllByRecursion (IsEntry later) es
  entries_stay [] all = tt
  entries_stay (e ∷ es) all = (entry_stays e all.0, entries_stay es all.1)

  pub new_entry : IsEntry later (name_of change, change)
  new_entry = record {
    found = change_found history change;
    encoded = may.encoded;
    fits = may.fits;
    refs = change_held later (grown_history later (Come history change grown may)) (name_of change) change (change_found history change) may.encoded;
  }

  pub entries_grown : AllByRecursion (IsEntry history) history → AllByRecursion (IsEntry later) later
  entries_grown all =
      all_put (IsEntry later) (name_of change, change) history later (history_put history change (grown_depths history grown) may.next)
      new_entry (entries_stay history all)

  -- ---- ids and operations stay

  pub id_stays : (n : Name) (index : ℕ) → is_held history n ≡ true → id_at later n index ≡ id_at history n index
  id_stays n index held =
      let depth : depth_at later n ≡ depth_at history n = depth_stays history change (grown_depths history grown) may.next n held in
      let found : change_at later n ≡ change_at history n = other_found history change n (apart_from_new n held) in
      λ i. record { depth = depth i; actor = maker (found i); name = n; index = index }

  pub ref_stays : (n : Name) (r : Ref) → is_held history n ≡ true → IsHeldRef history r → id_of later n r ≡ id_of history n r
  ref_stays n (Here i) held ref = id_stays n i held
  ref_stays n (There m i) held ref = id_stays m i ref

  parent_stays : (n : Name) (p : Parent) → is_held history n ≡ true → IsHeldParent history p → parent_of later n p ≡ parent_of history n p
  parent_stays n Root held ref = refl
  parent_stays n (After place) held ref = ap (λ (id : ElemId). Some id) (ref_stays n place held ref)

  op_stays : (n : Name) (object : ElemId) (index : ℕ) (op : Op) → is_held history n ≡ true → HasHeldRefs history op
      → text_op later n object index op ≡ text_op history n object index op
  op_stays n object index (Make path) held refs = refl
  op_stays n object index (Remove removed) held refs = refl
  op_stays n object index (Insert own parent text) held refs =
      let own_is : id_of later n own ≡ id_of history n own = ref_stays n own held refs.0 in
      let parent_is : parent_of later n parent ≡ parent_of history n parent = parent_stays n parent held refs.1 in
      let first_is : id_at later n index ≡ id_at history n index = id_stays n index held in
      λ i. cond (same object (own_is i)) (on_text.Insert (first_is i) (parent_is i) text ∷ []) []
  op_stays n object index (Delete own first count) held refs =
      let own_is : id_of later n own ≡ id_of history n own = ref_stays n own held refs.0 in
      let first_is : id_of later n first ≡ id_of history n first = ref_stays n first held refs.1 in
      λ i. cond (same object (own_is i)) (on_text.Delete (first_is i) count ∷ []) []

  -- what a held change does to a text stays
  pub ops_stay : (n : Name) (object : ElemId) (index : ℕ) (ops : List Op) → is_held history n ≡ true → AllByRecursion (HasHeldRefs history) ops
      → text_ops later n object index ops ≡ text_ops history n object index ops
  ops_stay n object index [] held refs = refl
  ops_stay n object index (op ∷ ops) held refs =
      ap₂ (λ (xs ys : List TextOp). xs ++ ys) (op_stays n object index op held refs.0)
      (ops_stay n object (index + length (things_of op)) ops held refs.1)

pub grown_entries : (history : History) → IsGrown history → AllByRecursion (IsEntry history) history
grown_entries history Begun = tt
grown_entries history (Come before change grown may) = entries_grown before change grown may (grown_entries before grown)
