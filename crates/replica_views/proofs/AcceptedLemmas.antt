-- The operations of an accepted change on a text are possible where all that the change depends on is known.
use Rattle.std.proofs.Common.{◌≡◌, ℕ, zero, suc, ◌+◌, ◌-◌, ◌<◌, ◌≤◌, ◌^◌, ◌==◌, Bool, true, false, cond, not, ◌||◌, ◌&&◌, refl}
use Rattle.std.proofs.Common.{sym, ap, ap₂, ◌∙◌, subst, List, [], ◌∷◌, ◌++◌, map, take, drop, length, Option, Some, None, append_assoc, arith}
use Rattle.std.specs.Prelude.{nat_le, slice_get}
use Rattle.std.specs.List.{list_any}
use Rattle.std.proofs.Math.Seq.{take-append_seam}
use Rattle.std.proofs.lemmas.Bool.{eqb-true, leb-true, not-false}
use Rattle.std.proofs.lemmas.Grind.{flat_map-append}
use Rattle.std.proofs.lemmas.List.{append-nil, length-append, length-replicate}
use Rattle.tt_base.specs.declared.ids.Name.{Name}
use Rattle.tt_base.specs.declared.ids.ElemId.{ElemId}
use Rattle.tt_base.specs.declared.text_ops.TextOp.{TextOp}
use Rattle.tt_base.specs.declared.text_ops.TextOp.TheVariants as on_text
use Rattle.tt_base.specs.Ids.{actor_cmp, name_cmp}
use Rattle.std.specs.declared.cmp.Ordering.{Ordering}
use Rattle.std.specs.declared.cmp.Ordering.TheVariants.{Less}
use Rattle.std.specs.Ordering.{nat_cmp, is_lt, ordering_then}
use Rattle.std.specs.Cmp.{nat_cmp_is}
use Rattle.change_codec.specs.Change.{Change}
use Rattle.change_codec.specs.declared.ops.Ref.{Ref}
use Rattle.change_codec.specs.declared.ops.Ref.TheVariants.{Here, There}
use Rattle.change_codec.specs.declared.ops.Parent.{Parent}
use Rattle.change_codec.specs.declared.ops.Parent.TheVariants.{Root, After}
use Rattle.change_codec.specs.declared.ops.Op.{Op}
use Rattle.change_codec.specs.declared.ops.Op.TheVariants.{Make, Remove, Insert, Delete}
use Rattle.change_graph.specs.declared.causes.Cause.{Cause}
use Rattle.change_graph.specs.declared.causes.Cause.TheVariants.{OutsideRef, NotAMake, NotAnElement, OtherObject}
use Rattle.change_graph.specs.History.{History, has_name, change_at, is_held, deps_of, deps_at, ops_at}
use Rattle.change_graph.specs.Closure.{IsReached, Start, Step, IsClosureTest}
use Rattle.change_graph.specs.Depths.{IsDepths}
use Rattle.change_graph.specs.Histories.{IsClosed}
use Rattle.change_graph.specs.Refusals.{Thing, Character, things_of, things, abroad, thing_seen, things_within, run_at, is_there}
use Rattle.change_graph.specs.Refusals.{index_of, is_object, is_ref, is_elsewhere, object_fault, characters_fault, op_fault, fault_of, fault_at}
use Rattle.change_graph.proofs.ReachedLemmas.{reached_held, dep_depth}
use Rattle.replica_text.specs.Ids.{less, same, is_in_run}
use Rattle.replica_text.specs.Ops.{all_known_after, MayBeParent, IsRunKnown, AllMayFollow}
use Rattle.replica_text.proofs.OrderLemmas.{less_is, same_one, other_same}
use Rattle.replica_text.proofs.MadeWalks.{less_shifted}
use Rattle.replica_views.specs.Ids.{depth_at, id_at, id_of}
use Rattle.replica_views.specs.Texts.{parent_of, text_op, text_ops}
use Rattle.replica_views.proofs.KnownLemmas.{IsMore, all_known_stays, may-append}
use Rattle.replica_views.proofs.CoverLemmas.{ref_same, abroad_is, Covers, covers_more, covers-append, op_covers, run_behind}

-- ---- what no fault says

cond_none : (b : Bool) (cause : Cause) (o : Option Cause) → cond b (Some cause) o ≡ None → (b ≡ false) × (o ≡ None)
cond_none true cause o is = cc
cond_none false cause o is = (refl, is)

and_true : (a b : Bool) → (a && b) ≡ true → (a ≡ true) × (b ≡ true)
and_true true b is = (refl, is)
and_true false b is = cc

-- what is told of an object and of characters of it
pub record IsSeen (within : Ref → List Thing) (object first : Ref) (count : ℕ) : Type 0 where
  pub object_there : is_there within object 1 ≡ true
  pub there : is_there within first count ≡ true
  pub characters : list_any is_object (run_at within first count) ≡ false
  pub own : list_any (is_elsewhere object) (run_at within first count) ≡ false

pub seen_by : (within : Ref → List Thing) (object first : Ref) (count : ℕ) → characters_fault within object first count ≡ None → IsSeen within object first count
seen_by within object first count none =
    let one = cond_none (not (is_there within object 1 && is_there within first count)) OutsideRef _ none in
    let both = and_true (is_there within object 1) (is_there within first count) (not-false (is_there within object 1 && is_there within first count) one.0) in
    let two = cond_none (not (list_any is_object (run_at within object 1))) NotAMake _ one.1 in
    let three = cond_none (list_any is_object (run_at within first count)) NotAnElement _ two.1 in
    let four = cond_none (list_any (is_elsewhere object) (run_at within first count)) OtherObject _ three.1 in
    record { object_there = both.0; there = both.1; characters = three.0; own = four.0 }

pub object_seen_by : (within : Ref → List Thing) (object : Ref) → object_fault within object ≡ None → is_there within object 1 ≡ true
object_seen_by within object none =
    let one = cond_none (not (is_there within object 1)) OutsideRef _ none in not-false (is_there within object 1) one.0

pub there_long : (within : Ref → List Thing) (place : Ref) (count : ℕ) → is_there within place count ≡ true → length (run_at within place count) ≡ count
there_long within place count is =
    eqb-true (length (run_at within place count)) count
    (and_true (nat_le (index_of place + count) (2 ^ 64)) (length (run_at within place count) == count) is).1

pub there_fits : (within : Ref → List Thing) (place : Ref) (count : ℕ) → is_there within place count ≡ true → index_of place + count ≤ 2 ^ 64
there_fits within place count is =
    leb-true (index_of place + count) (2 ^ 64)
    (and_true (nat_le (index_of place + count) (2 ^ 64)) (length (run_at within place count) == count) is).0

none_more : (i : ℕ) → 0 + i ≡ i
none_more i = omega arith

-- something stands at the index
some_at : {X Y : Type 0} (f : X → Y) (i : ℕ) (xs : List X) → length (take 1 (drop i (map f xs))) ≡ 1 → i < length xs
some_at f zero [] long = absurd (omega (arith, long))
some_at f zero (x ∷ xs) long = omega arith
some_at f (suc i) [] long = absurd (omega (arith, long))
some_at f (suc i) (x ∷ xs) long = let e : i < length xs = some_at f i xs long in omega (arith, e)

-- an id of a change is less than a later one of it, and than each of a deeper change
later_less : (id : ElemId) (index : ℕ) → id.index < index → less id (record id { index = index }) ≡ true
later_less id index lt =
    subst (λ (i : ℕ). less id (record id { index = i }) ≡ true) (let e : id.index + suc (index - id.index - 1) ≡ index = omega (arith, lt) in e)
    (less_shifted id (index - id.index - 1))

pub deeper_less : (a b : ElemId) → a.depth < b.depth → less a b ≡ true
deeper_less a b lt =
    less_is a b
    ∙ ap (λ (r : Ordering). is_lt (ordering_then r (ordering_then (actor_cmp a.actor b.actor) (ordering_then (name_cmp a.name b.name) (nat_cmp a.index b.index)))))
    (sym (nat_cmp_is a.depth b.depth Less lt))

-- ---- operations one after another

module _ (g : History) (known : Name → Bool) where
  abbrev pub within_of : List Op → Ref → List Thing
  within_of earlier = things_within (record { history = g; known = known; earlier = earlier })

  -- none of the operations behind the earlier ones is refused
  abbrev pub AreAccepted : List Op → List Op → Type 0
  AreAccepted earlier [] = Unit {0}
  AreAccepted earlier (op ∷ ops) = (op_fault (within_of earlier) op ≡ None) × AreAccepted (earlier ++ op ∷ []) ops

  pub at_seam : {X : Type 0} (xs ys : List X) (y : X) → slice_get (xs ++ y ∷ ys) (length xs) ≡ Some y
  at_seam [] ys y = refl
  at_seam (x ∷ xs) ys y = at_seam xs ys y

  pub accepted_from : (earlier ops : List Op) → ((place : ℕ) → fault_at g known (earlier ++ ops) place ≡ None) → AreAccepted earlier ops
  accepted_from earlier [] none = tt
  accepted_from earlier (op ∷ ops) none = (
    sym (ap₂ (λ (xs : List Op) (o : Option Op). fault_of (within_of xs) o) (take-append_seam earlier (op ∷ ops)) (at_seam earlier ops op))
        ∙ none (length earlier),
    accepted_from (earlier ++ op ∷ []) ops
        (λ place. ap (λ (xs : List Op). fault_at g known xs place) (append_assoc earlier (op ∷ []) ops) ∙ none place),
  )

-- ---- a held change

module _ (g : History) (closed : IsClosed g) (depths : IsDepths g (depth_at g)) (name : Name) (change : Change) (at : change_at g name ≡ Some change)
    (known : Name → Bool) (knows : IsClosureTest g change.deps known) where
  own_dep : (n : Name) → has_name change.deps n ≡ true → has_name (deps_at g name) n ≡ true
  own_dep n has = ap (λ (o : Option Change). has_name (deps_of o) n) at ∙ has

  reached_less : {n : Name} → IsReached g (has_name change.deps) n → depth_at g n < depth_at g name
  reached_less (Start n dep held) = dep_depth g (depth_at g) depths name n (own_dep n dep)
  reached_less (Step above below reached dep) =
      let up : depth_at g above < depth_at g name = reached_less reached in
      let down : depth_at g below < depth_at g above = dep_depth g (depth_at g) depths above below dep in
      omega (arith, up, down)

  pub known_less : (n : Name) → known n ≡ true → depth_at g n < depth_at g name
  known_less n is = reached_less (knows.only n is)

  pub known_held : (n : Name) → known n ≡ true → is_held g n ≡ true
  known_held n is = reached_held closed (has_name change.deps) (knows.only n is)

  -- ---- on the text of an object

  module _ (object : ElemId) where
    -- the characters of all that the change depends on are known
    abbrev pub KnowsDeps : (ElemId → Bool) → Type 0
    KnowsDeps ids = (n : Name) → known n ≡ true → Covers g object ids n 0 (things (ops_at g n))

    -- no id of the change is known from an index on
    abbrev pub IsFresh : (ElemId → Bool) → ℕ → Type 0
    IsFresh ids index = (i : ℕ) → index ≤ i → ids (id_at g name i) ≡ false

    here_alike : (own : Ref) (i : ℕ) → id_of g name own ≡ object → (o : Ref) → is_elsewhere own (thing_seen (Here i) (Character o)) ≡ false → id_of g name o ≡ object
    here_alike own i is o else = ap (id_of g name) (sym (ref_same own o (not-false (is_ref own o) else))) ∙ is

    there_alike : (own : Ref) (n : Name) (i : ℕ) → id_of g name own ≡ object → (o : Ref) → is_elsewhere own (thing_seen (There n i) (Character o)) ≡ false → id_of g n o ≡ object
    there_alike own n i is o else =
        sym (abroad_is g name n o)
        ∙ ap (id_of g name) (sym (ref_same own (abroad n o) (not-false (is_ref own (abroad n o)) else)))
        ∙ is

    run_known : (ids : ElemId → Bool) (earlier : List Op) → KnowsDeps ids → Covers g object ids name 0 (things earlier) → (own place : Ref) (count : ℕ)
        → id_of g name own ≡ object → length (run_at (within_of g known earlier) place count) ≡ count
        → list_any is_object (run_at (within_of g known earlier) place count) ≡ false
        → list_any (is_elsewhere own) (run_at (within_of g known earlier) place count) ≡ false
        → IsRunKnown true (id_of g name place) count ids
    run_known ids earlier deps covers own (Here i) count is long characters others =
        subst (λ (j : ℕ). IsRunKnown true (id_at g name j) count ids) (none_more i)
        (run_behind g object ids name own (thing_seen (Here i)) refl (here_alike own i is) i count 0 (things earlier) covers long characters others)
    run_known ids earlier deps covers own (There n i) count is long characters others = by (known n) refl long characters others where
      by : (b : Bool) → known n ≡ b
          → length (take count (drop i (map (thing_seen (There n i)) (things (cond b (ops_at g n) []))))) ≡ count
          → list_any is_object (take count (drop i (map (thing_seen (There n i)) (things (cond b (ops_at g n) []))))) ≡ false
          → list_any (is_elsewhere own) (take count (drop i (map (thing_seen (There n i)) (things (cond b (ops_at g n) []))))) ≡ false
          → IsRunKnown true (id_at g n i) count ids
      by true here long characters others =
          subst (λ (j : ℕ). IsRunKnown true (id_at g n j) count ids) (none_more i)
          (run_behind g object ids n own (thing_seen (There n i)) refl (there_alike own n i is) i count 0 (things (ops_at g n)) (deps n here) long characters others)
      by false here long characters others =
          subst (λ (j : ℕ). IsRunKnown true (id_at g n j) count ids) (none_more i)
          (run_behind g object ids n own (thing_seen (There n i)) refl (there_alike own n i is) i count 0 [] tt long characters others)

    -- ---- new ids

    run_fresh : (ids : ElemId → Bool) (count index : ℕ) → IsFresh ids index → IsRunKnown false (id_at g name index) count ids
    run_fresh ids zero index fresh = tt
    run_fresh ids (suc count) index fresh =
        (fresh index (omega arith), run_fresh ids count (suc index) (λ i le. fresh i (omega (arith, le))))

    outside_run : (count index i : ℕ) → index + count ≤ i → is_in_run (id_at g name index) count (id_at g name i) ≡ false
    outside_run zero index i le = refl
    outside_run (suc count) index i le =
        ap₂ (λ (a b : Bool). a || b)
        (other_same (id_at g name index) (id_at g name i) (λ e. let same_index : index ≡ i = ap (λ (id : ElemId). id.index) e in omega (arith, same_index, le)))
        (outside_run count (suc index) i (omega (arith, le)))

    -- what one operation does: it is possible, and what it makes is known behind it
    record IsStep (ids : ElemId → Bool) (index count : ℕ) (ops : List TextOp) : Type 0 where
      may : AllMayFollow ops ids
      fresh : IsFresh (all_known_after ops ids) (index + count)

    later_fresh : (ids : ElemId → Bool) (index count : ℕ) → IsFresh ids index → IsFresh ids (index + count)
    later_fresh ids index count fresh = λ i le. fresh i (omega (arith, le))

    no_step : (ids : ElemId → Bool) (index count : ℕ) → IsFresh ids index → IsStep ids index count []
    no_step ids index count fresh = record { may = tt; fresh = later_fresh ids index count fresh }

    insert_step : (ids : ElemId → Bool) (index count : ℕ) (parent : Option ElemId) (text : List ℕ) → IsFresh ids index → MayBeParent parent (id_at g name index) ids
        → count ≡ length text → index + count ≤ 2 ^ 64 → IsStep ids index count (on_text.Insert (id_at g name index) parent text ∷ [])
    insert_step ids index count parent text fresh may long fits = record {
      may = (record { below = may; fresh = run_fresh ids (length text) index fresh; fits = omega (arith, long, fits) }, tt);
      fresh = λ i le.
          ap₂ (λ (a b : Bool). a || b) (outside_run (length text) index i (omega (arith, le, long))) (fresh i (omega (arith, le)));
    }

    -- an operation, whether it is on the object or not
    step_if : (ids : ElemId → Bool) (index count : ℕ) (op : TextOp) (b : Bool) → IsFresh ids index → (b ≡ true → IsStep ids index count (op ∷ []))
        → IsStep ids index count (cond b (op ∷ []) [])
    step_if ids index count op true fresh step = step refl
    step_if ids index count op false fresh step = no_step ids index count fresh

    object_is : (own : Ref) → same object (id_of g name own) ≡ true → id_of g name own ≡ object
    object_is own is = sym (same_one object (id_of g name own) is)

    -- the parent of an insertion is known, and less
    may_parent : (ids : ElemId → Bool) (earlier : List Op) (index : ℕ) → index ≡ length (things earlier) → KnowsDeps ids
        → Covers g object ids name 0 (things earlier) → (own : Ref) (parent : Parent) (text : List ℕ) → id_of g name own ≡ object
        → op_fault (within_of g known earlier) (Insert own parent text) ≡ None → MayBeParent (parent_of g name parent) (id_at g name index) ids
    may_parent ids earlier index begins deps covers own Root text is none = tt
    may_parent ids earlier index begins deps covers own (After (Here i)) text is none =
        let seen : IsSeen (within_of g known earlier) own (Here i) 1 = seen_by (within_of g known earlier) own (Here i) 1 none in
        let long = there_long (within_of g known earlier) (Here i) 1 seen.there in
        let run = run_known ids earlier deps covers own (Here i) 1 is long seen.characters seen.own in
        let lt : i < length (things earlier) = some_at (thing_seen (Here i)) i (things earlier) long in
        (run.0, later_less (id_at g name i) index (omega (arith, begins, lt)))
    may_parent ids earlier index begins deps covers own (After (There n i)) text is none =
        let seen : IsSeen (within_of g known earlier) own (There n i) 1 = seen_by (within_of g known earlier) own (There n i) 1 none in
        let long = there_long (within_of g known earlier) (There n i) 1 seen.there in
        let run = run_known ids earlier deps covers own (There n i) 1 is long seen.characters seen.own in
        (run.0, deeper_less (id_at g n i) (id_at g name index) (known_less n (dep_known n i long))) where
          dep_known : (n : Name) (i : ℕ) → length (run_at (within_of g known earlier) (There n i) 1) ≡ 1 → known n ≡ true
          dep_known n i long = by (known n) refl long where
            by : (b : Bool) → known n ≡ b → length (take 1 (drop i (map (thing_seen (There n i)) (things (cond b (ops_at g n) []))))) ≡ 1 → known n ≡ true
            by true here long = here
            by false here long = let lt : i < 0 = some_at (thing_seen (There n i)) i [] long in absurd (omega (arith, lt))

    op_step : (ids : ElemId → Bool) (earlier : List Op) (index : ℕ) → index ≡ length (things earlier) → KnowsDeps ids → Covers g object ids name 0 (things earlier)
        → IsFresh ids index → (op : Op) → op_fault (within_of g known earlier) op ≡ None → index + length (things_of op) ≤ 2 ^ 64
        → IsStep ids index (length (things_of op)) (text_op g name object index op)
    op_step ids earlier index begins deps covers fresh (Make path) none fits = no_step ids index 1 fresh
    op_step ids earlier index begins deps covers fresh (Remove removed) none fits = no_step ids index 0 fresh
    op_step ids earlier index begins deps covers fresh (Insert own parent text) none fits =
        step_if ids index (length (things_of (Insert own parent text))) (on_text.Insert (id_at g name index) (parent_of g name parent) text)
        (same object (id_of g name own)) fresh
        (λ is.
        insert_step ids index (length (things_of (Insert own parent text))) (parent_of g name parent) text fresh
        (may_parent ids earlier index begins deps covers own parent text (object_is own is) none)
        (length-replicate (length text) (Character own)) fits)
    op_step ids earlier index begins deps covers fresh (Delete own first count) none fits =
        step_if ids index 0 (on_text.Delete (id_of g name first) count) (same object (id_of g name own)) fresh
        (λ is.
        let seen : IsSeen (within_of g known earlier) own first count = seen_by (within_of g known earlier) own first count none in
        let long = there_long (within_of g known earlier) first count seen.there in
        record {
          may = (
            record {
              there = run_known ids earlier deps covers own first count (object_is own is) long seen.characters seen.own;
              fits = subst (λ (i : ℕ). i + count ≤ 2 ^ 64) (index_is first) (there_fits (within_of g known earlier) first count seen.there);
            },
            tt,
          );
          fresh = later_fresh ids index 0 fresh;
        }) where
          index_is : (r : Ref) → index_of r ≡ (id_of g name r).index
          index_is (Here i) = refl
          index_is (There n i) = refl

    things_more : (earlier : List Op) (op : Op) → things earlier ++ things_of op ≡ things (earlier ++ op ∷ [])
    things_more earlier op = sym (flat_map-append things_of earlier (op ∷ []) ∙ ap (λ (ts : List Thing). things earlier ++ ts) (append-nil (things_of op)))

    may_from : (ops earlier : List Op) (index : ℕ) (ids : ElemId → Bool) → index ≡ length (things earlier) → AreAccepted g known earlier ops
        → KnowsDeps ids → Covers g object ids name 0 (things earlier) → IsFresh ids index → index + length (things ops) ≤ 2 ^ 64
        → AllMayFollow (text_ops g name object index ops) ids
    may_from [] earlier index ids begins accepted deps covers fresh fits = tt
    may_from (op ∷ ops) earlier index ids begins accepted deps covers fresh fits =
        let count : ℕ = length (things_of op) in
        let both : length (things_of op ++ things ops) ≡ count + length (things ops) = length-append (things_of op) (things ops) in
        let front : length (things earlier ++ things_of op) ≡ length (things earlier) + count = length-append (things earlier) (things_of op) in
        let longer : length (things earlier ++ things_of op) ≡ length (things (earlier ++ op ∷ [])) = ap length (things_more earlier op) in
        let step : IsStep ids index count (text_op g name object index op) =
        op_step ids earlier index begins deps covers fresh op accepted.0 (omega (arith, fits, both)) in
        let after : ElemId → Bool = all_known_after (text_op g name object index op) ids in
        let stays : IsMore ids after = all_known_stays (text_op g name object index op) ids in
        may-append (text_op g name object index op) (text_ops g name object (index + count) ops) ids step.may
        (may_from ops (earlier ++ op ∷ []) (index + count) after (omega (arith, begins, front, longer)) accepted.1
        (λ n is. covers_more g object ids after stays n 0 (things (ops_at g n)) (deps n is))
        (subst (Covers g object after name 0) (things_more earlier op)
        (covers-append g object after name 0 index (things earlier) (things_of op) (omega (arith, begins))
        (covers_more g object ids after stays name 0 (things earlier) covers)
        (op_covers g object ids name index op)))
        step.fresh (omega (arith, fits, both)))

    -- the operations of the change on the text are possible
    pub change_may : (ids : ElemId → Bool) → ((place : ℕ) → fault_at g known change.ops place ≡ None) → KnowsDeps ids → IsFresh ids 0
        → length (things change.ops) ≤ 2 ^ 64 → AllMayFollow (text_ops g name object 0 change.ops) ids
    change_may ids none deps fresh fits =
        may_from change.ops [] 0 ids refl (accepted_from g known [] change.ops none) deps tt fresh (omega (arith, fits))
