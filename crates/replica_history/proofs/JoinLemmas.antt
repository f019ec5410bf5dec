-- What is joined to each object, one object after another.
use Rattle.std.proofs.Common.{◌≡◌, ℕ, ◌+◌, ◌<◌, Bool, true, false, ◌||◌, refl, sym, ap, ◌∙◌, subst, List, [], ◌∷◌, length, take, get_or, Option, Some, None}
use Rattle.std.proofs.lemmas.List.Folds.{list_any-append}
use Rattle.std.proofs.lemmas.List.{take_more}
use Rattle.delta.specs.Cells.{Cells}
use Rattle.tt_base.specs.declared.ids.ElemId.{ElemId}
use Rattle.tt_base.specs.declared.text_ops.TextOp.{TextOp}
use Rattle.replica_dir.specs.Ids.{is_id, has_id}
use Rattle.replica_dir.proofs.IdLemmas.{id_same}
use Rattle.replica_history.specs.declared.texts.KeptText.{KeptText}
use Rattle.replica_history.proofs.IdTests.{id_turned}
use Rattle.replica_history.specs.Joins.{IsJoined, IsJoinedOnce, IsJoinedIfTold, MayJoin}

told_of : (first : Option KeptText) (ops : List TextOp) (later : Option KeptText) (delta : Option Cells) → IsJoined first ops later delta
    → IsJoinedIfTold first ops later delta
told_of None ops later delta is = subst (λ (d : Option Cells). IsJoinedIfTold None ops later d) (sym is.1) is.0
told_of (Some kept) ops later delta is =
    subst (λ (d : Option Cells). IsJoinedIfTold (Some kept) ops later d) (sym is.delta_is)
    (record { elements = is.elements; later_is = is.later_is; delta_is = refl; order = is.order })

-- joined once, it is joined and told
pub once_more : (first : Option KeptText) (ops : List TextOp) (kept later : Option KeptText) (before delta : Option Cells)
    → IsJoinedIfTold first ops kept before → IsJoinedOnce before kept ops later delta → IsJoinedIfTold first ops later delta
once_more first ops kept later (Some d) delta told once =
    subst (λ (x : Option Cells). IsJoinedIfTold first ops later x) (sym once.1)
    (subst (λ (k : Option KeptText). IsJoined first ops k (Some d)) (sym once.0) told)
once_more first ops kept later None delta told once =
    told_of first ops later delta (subst (λ (k : Option KeptText). IsJoined k ops later delta) told once)

none_joined : (kept : Option KeptText) (ops : List TextOp) (later : Option KeptText) (delta : Option Cells) → IsJoined kept ops later delta → delta ≡ None → kept ≡ None
none_joined None ops later delta is none = refl
none_joined (Some kept) ops later delta is none = let never = sym is.delta_is ∙ none in cc

-- where no delta is told, there was no such object
pub once_told : (first : Option KeptText) (ops : List TextOp) (kept later : Option KeptText) (before delta : Option Cells)
    → IsJoinedIfTold first ops kept before → IsJoinedOnce before kept ops later delta → delta ≡ None → first ≡ None
once_told first ops kept later (Some d) delta told once none = let never = sym once.1 ∙ none in cc
once_told first ops kept later None delta told once none = sym told ∙ none_joined kept ops later delta once none

-- operations are possible on what is kept as long as no delta is told
pub may_still : (first kept : Option KeptText) (ops : List TextOp) (before : Option Cells) → IsJoinedIfTold first ops kept before → before ≡ None → MayJoin first ops
    → MayJoin kept ops
may_still first kept ops None told none may = subst (λ (k : Option KeptText). MayJoin k ops) (sym told) may
may_still first kept ops (Some d) told none may = cc

-- ---- one object more

abbrev pub any_id : ElemId
any_id = record { depth = 0; actor = record { 0 = [] }; name = record { 0 = [] }; index = 0 }

or_false : (x : Bool) → (x || false) ≡ x
or_false true = refl
or_false false = refl

module _ (first kept later : ElemId → Option KeptText) (ops : ElemId → List TextOp) (before after : ElemId → Option Cells) (object : ElemId)
    (once : IsJoinedOnce (before object) (kept object) (ops object) (later object) (after object))
    (texts : (q : ElemId) → is_id object q ≡ false → later q ≡ kept q) (deltas : (q : ElemId) → is_id object q ≡ false → after q ≡ before q)
    (joined : (q : ElemId) → IsJoinedIfTold (first q) (ops q) (kept q) (before q)) where
  here_joined : IsJoinedIfTold (first object) (ops object) (later object) (after object)
  here_joined = once_more (first object) (ops object) (kept object) (later object) (before object) (after object) (joined object) once

  pub joined_next : (q : ElemId) → IsJoinedIfTold (first q) (ops q) (later q) (after q)
  joined_next q = by (is_id object q) refl where
    by : (x : Bool) → is_id object q ≡ x → IsJoinedIfTold (first q) (ops q) (later q) (after q)
    by true here = subst (λ (id : ElemId). IsJoinedIfTold (first id) (ops id) (later id) (after id)) (id_same object q here) here_joined
    by false apart =
        subst (λ (k : Option KeptText). IsJoinedIfTold (first q) (ops q) k (after q)) (sym (texts q apart))
        (subst (λ (d : Option Cells). IsJoinedIfTold (first q) (ops q) (kept q) d) (sym (deltas q apart)) (joined q))

  pub told_next : (objects : List ElemId) (i : ℕ) (d : ElemId) → i < length objects → object ≡ get_or objects i d
      → ((q : ElemId) → before q ≡ None → has_id (take i objects) q ≡ true → first q ≡ None)
      → (q : ElemId) → after q ≡ None → has_id (take (i + 1) objects) q ≡ true → first q ≡ None
  told_next objects i d lt at told q none has = by (is_id object q) refl where
    among : has_id (take (i + 1) objects) q ≡ (has_id (take i objects) q || is_id q object)
    among =
        ap (λ (ids : List ElemId). has_id ids q) (take_more objects i d lt)
        ∙ list_any-append (is_id q) (take i objects) (get_or objects i d ∷ [])
        ∙ ap (λ (x : Bool). has_id (take i objects) q || x) (or_false (is_id q (get_or objects i d)) ∙ ap (is_id q) (sym at))

    by : (x : Bool) → is_id object q ≡ x → first q ≡ None
    by true here =
        subst (λ (id : ElemId). first id ≡ None) (id_same object q here)
        (once_told (first object) (ops object) (kept object) (later object) (before object) (after object) (joined object) once
        (subst (λ (id : ElemId). after id ≡ None) (sym (id_same object q here)) none))
    by false apart =
        told q (sym (deltas q apart) ∙ none)
        (sym (among ∙ ap (λ (x : Bool). has_id (take i objects) q || x) (id_turned q object ∙ apart) ∙ or_false (has_id (take i objects) q)) ∙ has)
