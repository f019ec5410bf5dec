-- Which characters of an object are known behind the operations of a change, and refs that are one.
use Rattle.std.proofs.Common.{◌≡◌, ℕ, zero, suc, ◌+◌, ◌==◌, Bool, true, false, cond, ◌||◌, ◌&&◌, refl, sym, ap, ap₂, ◌∙◌, subst, List, [], ◌∷◌, ◌++◌, map, take, drop, length, arith}
use Rattle.std.specs.Prelude.{replicate}
use Rattle.std.specs.List.{list_any}
use Rattle.std.proofs.lemmas.Bool.{both_ways, eqb-true}
use Rattle.tt_base.specs.declared.ids.Name.{Name}
use Rattle.tt_base.specs.declared.ids.ElemId.{ElemId}
use Rattle.tt_base.specs.declared.text_ops.TextOp.{TextOp}
use Rattle.tt_base.specs.declared.text_ops.TextOp.TheVariants as on_text
use Rattle.change_codec.specs.declared.ops.Ref.{Ref}
use Rattle.change_codec.specs.declared.ops.Ref.TheVariants.{Here, There}
use Rattle.change_codec.specs.declared.ops.Op.{Op}
use Rattle.change_codec.specs.declared.ops.Op.TheVariants.{Make, Remove, Insert, Delete}
use Rattle.change_graph.specs.History.{History, is_name}
use Rattle.change_graph.specs.Refusals.{Thing, Object, Character, things_of, things, abroad, is_object, is_ref, is_elsewhere}
use Rattle.change_graph.proofs.OrderLemmas.{name_same}
use Rattle.replica_text.specs.Ids.{same, next_id, is_in_run}
use Rattle.replica_text.specs.Ops.{known_after, all_known_after, IsRunKnown}
use Rattle.replica_text.proofs.OrderLemmas.{same_self}
use Rattle.replica_text.proofs.MemberLemmas.{or_true}
use Rattle.replica_text.proofs.OpsLemmas.{all_known_after-append}
use Rattle.replica_views.specs.Ids.{id_at, id_of}
use Rattle.replica_views.specs.Texts.{parent_of, text_op, text_ops}
use Rattle.replica_views.proofs.KnownLemmas.{IsMore, all_known_stays}

-- ---- refs

and_cases : (a b : Bool) → (a && b) ≡ true → (a ≡ true) × (b ≡ true)
and_cases true b is = (refl, is)
and_cases false b is = cc

pub ref_same : (a b : Ref) → is_ref a b ≡ true → a ≡ b
ref_same (Here i) (Here j) is = ap (λ (n : ℕ). Here n) (eqb-true i j is)
ref_same (Here i) (There m j) is = cc
ref_same (There n i) (Here j) is = cc
ref_same (There n i) (There m j) is =
    let both = and_cases (is_name n m) (i == j) is in
    ap₂ (λ (k : Name) (l : ℕ). There k l) (name_same n m both.0) (eqb-true i j both.1)

-- a ref of a change points at the same from elsewhere
pub abroad_is : (g : History) (name n : Name) (r : Ref) → id_of g name (abroad n r) ≡ id_of g n r
abroad_is g name n (Here index) = refl
abroad_is g name n (There other index) = refl

module _ (g : History) (object : ElemId) where
  -- each character of the object among the things, which begin at an index of a change, is known
  abbrev pub Covers : (ElemId → Bool) → Name → ℕ → List Thing → Type 0
  Covers known n index [] = Unit {0}
  Covers known n index (Object ∷ ts) = Covers known n (suc index) ts
  Covers known n index (Character own ∷ ts) = (id_of g n own ≡ object → known (id_at g n index) ≡ true) × Covers known n (suc index) ts

  pub covers_more : (known more : ElemId → Bool) → IsMore known more → (n : Name) (index : ℕ) (ts : List Thing) → Covers known n index ts → Covers more n index ts
  covers_more known more is n index [] covers = tt
  covers_more known more is n index (Object ∷ ts) covers = covers_more known more is n (suc index) ts covers
  covers_more known more is n index (Character own ∷ ts) covers =
      (λ e. is (id_at g n index) (covers.0 e), covers_more known more is n (suc index) ts covers.1)

  pub covers-append : (known : ElemId → Bool) (n : Name) (index end : ℕ) (xs ys : List Thing) → end ≡ index + length xs → Covers known n index xs
      → Covers known n end ys → Covers known n index (xs ++ ys)
  covers-append known n index end [] ys is one other = subst (λ (i : ℕ). Covers known n i ys) (let e : end ≡ index = omega (arith, is) in e) other
  covers-append known n index end (Object ∷ xs) ys is one other = covers-append known n (suc index) end xs ys (omega (arith, is)) one other
  covers-append known n index end (Character own ∷ xs) ys is one other =
      (one.0, covers-append known n (suc index) end xs ys (omega (arith, is)) one.1 other)

  -- ---- what an operation makes known

  first_in : (first : ElemId) (count : ℕ) → is_in_run first (suc count) first ≡ true
  first_in first count = ap (λ (b : Bool). b || is_in_run (next_id first) count first) (same_self first)

  later_in : (first : ElemId) (count : ℕ) (id : ElemId) → is_in_run (next_id first) count id ≡ true → is_in_run first (suc count) id ≡ true
  later_in first count id is = ap (λ (b : Bool). same first id || b) is ∙ or_true (same first id)

  covers_run : (known : ElemId → Bool) (n : Name) (own : Ref) (count index : ℕ)
      → ((id : ElemId) → is_in_run (id_at g n index) count id ≡ true → known id ≡ true) → Covers known n index (replicate count (Character own))
  covers_run known n own zero index each = tt
  covers_run known n own (suc count) index each = (
    λ e. each (id_at g n index) (first_in (id_at g n index) count),
    covers_run known n own count (suc index) (λ id is. each id (later_in (id_at g n index) count id is)),
  )

  covers_elsewhere : (known : ElemId → Bool) (n : Name) (own : Ref) (count index : ℕ) → same object (id_of g n own) ≡ false
      → Covers known n index (replicate count (Character own))
  covers_elsewhere known n own zero index apart = tt
  covers_elsewhere known n own (suc count) index apart = (
    λ e. absurd (both_ways (same object (id_of g n own)) apart (subst (λ (id : ElemId). same object id ≡ true) (sym e) (same_self object))),
    covers_elsewhere known n own count (suc index) apart,
  )

  or_is : (a b : Bool) → a ≡ true → (a || b) ≡ true
  or_is true b is = refl
  or_is false b is = cc

  pub op_covers : (known : ElemId → Bool) (n : Name) (index : ℕ) (op : Op)
      → Covers (all_known_after (text_op g n object index op) known) n index (things_of op)
  op_covers known n index (Make path) = tt
  op_covers known n index (Remove removed) = tt
  op_covers known n index (Delete own first count) = tt
  op_covers known n index (Insert own parent text) = by (same object (id_of g n own)) refl where
    by : (b : Bool) → same object (id_of g n own) ≡ b
        → Covers
        (all_known_after (cond b (on_text.Insert (id_at g n index) (parent_of g n parent) text ∷ []) []) known) n index
        (replicate (length text) (Character own))
    by true is =
        covers_run (known_after (on_text.Insert (id_at g n index) (parent_of g n parent) text) known) n own (length text) index
        (λ id in_run. or_is (is_in_run (id_at g n index) (length text) id) (known id) in_run)
    by false is = covers_elsewhere known n own (length text) index is

  -- behind the operations of a change its characters are known
  pub ops_cover : (known : ElemId → Bool) (n : Name) (index : ℕ) (ops : List Op)
      → Covers (all_known_after (text_ops g n object index ops) known) n index (things ops)
  ops_cover known n index [] = tt
  ops_cover known n index (op ∷ ops) =
      let mid : ElemId → Bool = all_known_after (text_op g n object index op) known in
      let rest : List TextOp = text_ops g n object (index + length (things_of op)) ops in
      subst (λ (k : ElemId → Bool). Covers k n index (things_of op ++ things ops))
      (sym (all_known_after-append (text_op g n object index op) rest known))
      (covers-append (all_known_after rest mid) n index (index + length (things_of op)) (things_of op) (things ops) refl
      (covers_more mid (all_known_after rest mid) (all_known_stays rest mid) n index (things_of op) (op_covers known n index op))
      (ops_cover mid n (index + length (things_of op)) ops))

  -- ---- a run of characters of the object is known

  module _ (known : ElemId → Bool) (n : Name) (own : Ref) (seen : Thing → Thing) (object_seen : is_object (seen Object) ≡ true)
      (alike : (o : Ref) → is_elsewhere own (seen (Character o)) ≡ false → id_of g n o ≡ object) where
    none_first : (a b : Bool) → (a || b) ≡ false → (a ≡ false) × (b ≡ false)
    none_first true b is = cc
    none_first false b is = (refl, is)

    run_from : (count index : ℕ) (ts : List Thing) → Covers known n index ts → length (take count (map seen ts)) ≡ count
        → list_any is_object (take count (map seen ts)) ≡ false → list_any (is_elsewhere own) (take count (map seen ts)) ≡ false
        → IsRunKnown true (id_at g n index) count known
    run_from zero index ts covers long objects others = tt
    run_from (suc count) index [] covers long objects others = absurd (omega (arith, long))
    run_from (suc count) index (Object ∷ ts) covers long objects others =
        absurd (both_ways (is_object (seen Object)) (none_first (is_object (seen Object)) (list_any is_object (take count (map seen ts))) objects).0 object_seen)
    run_from (suc count) index (Character o ∷ ts) covers long objects others =
        let of = none_first (is_object (seen (Character o))) (list_any is_object (take count (map seen ts))) objects in
        let else = none_first (is_elsewhere own (seen (Character o))) (list_any (is_elsewhere own) (take count (map seen ts))) others in
        (covers.0 (alike o else.0), run_from count (suc index) ts covers.1 (omega (arith, long)) of.1 else.1)

    pub run_behind : (j count index : ℕ) (ts : List Thing) → Covers known n index ts → length (take count (drop j (map seen ts))) ≡ count
        → list_any is_object (take count (drop j (map seen ts))) ≡ false → list_any (is_elsewhere own) (take count (drop j (map seen ts))) ≡ false
        → IsRunKnown true (id_at g n (index + j)) count known
    run_behind zero count index ts covers long objects others =
        subst (λ (i : ℕ). IsRunKnown true (id_at g n i) count known) (let e : index ≡ index + 0 = omega arith in e)
        (run_from count index ts covers long objects others)
    run_behind (suc j) zero index [] covers long objects others = tt
    run_behind (suc j) (suc count) index [] covers long objects others = absurd (omega (arith, long))
    run_behind (suc j) count index (Object ∷ ts) covers long objects others =
        subst (λ (i : ℕ). IsRunKnown true (id_at g n i) count known) (let e : suc index + j ≡ index + suc j = omega arith in e)
        (run_behind j count (suc index) ts covers long objects others)
    run_behind (suc j) count index (Character o ∷ ts) covers long objects others =
        subst (λ (i : ℕ). IsRunKnown true (id_at g n i) count known) (let e : suc index + j ≡ index + suc j = omega arith in e)
        (run_behind j count (suc index) ts covers.1 long objects others)
