-- The objects that a change touches: what it makes, what it removes, and whose texts it changes.
use Rattle.std.proofs.Common.{◌≡◌, ℕ, ◌+◌, Bool, true, false, cond, ◌||◌, ◌&&◌, refl, sym, ap, ap₂, ◌∙◌, List, [], ◌∷◌, ◌++◌, flat_map, length}
use Rattle.std.specs.List.{list_any}
use Rattle.std.proofs.lemmas.List.Folds.{list_any-append}
use Rattle.tt_base.specs.declared.ids.Name.{Name}
use Rattle.tt_base.specs.declared.ids.ElemId.{ElemId}
use Rattle.tt_base.specs.declared.text_ops.TextOp.{TextOp}
use Rattle.tt_base.specs.declared.text_ops.TextOp.TheVariants as on_text
use Rattle.change_codec.specs.declared.ops.Op.{Op}
use Rattle.change_codec.specs.declared.ops.Op.TheVariants.{Make, Remove, Insert, Delete}
use Rattle.change_graph.specs.History.{History}
use Rattle.change_graph.specs.Refusals.{things_of}
use Rattle.replica_dir.specs.Ids.{is_path, is_id, has_id}
use Rattle.replica_dir.proofs.IdLemmas.{id_same}
use Rattle.replica_views.specs.Ids.{id_at, id_of}
use Rattle.replica_views.specs.Objects.{removes_of}
use Rattle.replica_views.specs.Texts.{parent_of, text_op, text_ops}
use Rattle.replica_history.specs.Deeds.{made_of, made_from, object_of, objects_from, is_make, has_make}
use Rattle.replica_history.proofs.IdTests.{same_is, id_turned}

or_none : (a b : Bool) → (a || b) ≡ false → (a ≡ false) × (b ≡ false)
or_none true b is = cc
or_none false b is = (refl, is)

or_later : (a b : Bool) → b ≡ true → (a || b) ≡ true
or_later true b is = refl
or_later false b is = is

-- a test that one of the ids passes
pub any_has : (test : ElemId → Bool) (ids : List ElemId) (q : ElemId) → has_id ids q ≡ true → test q ≡ true → list_any test ids ≡ true
any_has test [] q has passes = cc
any_has test (x ∷ xs) q has passes = by (is_id q x) refl has (λ h. any_has test xs q h passes) where
  by : (b : Bool) → is_id q x ≡ b → (b || has_id xs q) ≡ true → (has_id xs q ≡ true → list_any test xs ≡ true) → (test x || list_any test xs) ≡ true
  by true here has rest = ap (λ (b : Bool). b || list_any test xs) (ap test (sym (id_same q x here)) ∙ passes)
  by false apart has rest = or_later (test x) (list_any test xs) (rest has)

module _ (h : History) (n : Name) (q : ElemId) where
  -- nothing is done to the text of an object that is not touched
  op_none : (index : ℕ) (op : Op) → is_id q (object_of h n index op) ≡ false → text_op h n q index op ≡ []
  op_none index (Make path) apart = refl
  op_none index (Remove object) apart = refl
  op_none index (Insert own parent text) apart =
      ap (λ (b : Bool). cond b (on_text.Insert (id_at h n index) (parent_of h n parent) text ∷ []) []) (same_is q (id_of h n own) ∙ apart)
  op_none index (Delete own first count) apart =
      ap (λ (b : Bool). cond b (on_text.Delete (id_of h n first) count ∷ []) []) (same_is q (id_of h n own) ∙ apart)

  pub ops_none : (index : ℕ) (ops : List Op) → has_id (objects_from h n index ops) q ≡ false → text_ops h n q index ops ≡ []
  ops_none index [] apart = refl
  ops_none index (op ∷ ops) apart =
      let both = or_none (is_id q (object_of h n index op)) (has_id (objects_from h n (index + length (things_of op)) ops) q) apart in
      ap₂ (λ (xs ys : List TextOp). xs ++ ys) (op_none index op both.0) (ops_none (index + length (things_of op)) ops both.1)

  -- what is removed is touched
  one_removed : (index : ℕ) (op : Op) → has_id (removes_of h n op) q ≡ true → is_id q (object_of h n index op) ≡ true
  one_removed index (Make path) has = cc
  one_removed index (Remove object) has = by (is_id q (id_of h n object)) has where
    by : (b : Bool) → (b || false) ≡ true → b ≡ true
    by true is = refl
    by false is = cc
  one_removed index (Insert own parent text) has = cc
  one_removed index (Delete own first count) has = cc

  pub removed_touched : (index : ℕ) (ops : List Op) → has_id (flat_map (removes_of h n) ops) q ≡ true → has_id (objects_from h n index ops) q ≡ true
  removed_touched index [] has = cc
  removed_touched index (op ∷ ops) has =
      by (has_id (removes_of h n op) q) refl
      (sym (list_any-append (is_id q) (removes_of h n op) (flat_map (removes_of h n) ops)) ∙ has)
      (removed_touched (index + length (things_of op)) ops) where
        by : (b : Bool) → has_id (removes_of h n op) q ≡ b → (b || has_id (flat_map (removes_of h n) ops) q) ≡ true
            → (has_id (flat_map (removes_of h n) ops) q ≡ true → has_id (objects_from h n (index + length (things_of op)) ops) q ≡ true)
            → has_id (objects_from h n index (op ∷ ops)) q ≡ true
        by true here is rest =
            ap (λ (b : Bool). b || has_id (objects_from h n (index + length (things_of op)) ops) q) (one_removed index op here)
        by false apart is rest =
            or_later (is_id q (object_of h n index op)) (has_id (objects_from h n (index + length (things_of op)) ops) q) (rest is)

  -- what is made is touched
  one_made : (path : List ℕ) (index : ℕ) (op : Op) → has_make (made_of h n index op) path q ≡ true → is_id q (object_of h n index op) ≡ true
  one_made path index (Make other) has = by (is_path other path) (is_id (id_at h n index) q) refl has where
    by : (a b : Bool) → is_id (id_at h n index) q ≡ b → ((a && b) || false) ≡ true → is_id q (id_at h n index) ≡ true
    by true true here is = id_turned q (id_at h n index) ∙ here
    by true false here is = cc
    by false b here is = cc
  one_made path index (Remove object) has = cc
  one_made path index (Insert own parent text) has = cc
  one_made path index (Delete own first count) has = cc

  pub made_touched : (path : List ℕ) (index : ℕ) (ops : List Op) → has_make (made_from h n index ops) path q ≡ true → has_id (objects_from h n index ops) q ≡ true
  made_touched path index [] has = cc
  made_touched path index (op ∷ ops) has =
      by (has_make (made_of h n index op) path q) refl
      (sym (list_any-append (is_make path q) (made_of h n index op) (made_from h n (index + length (things_of op)) ops)) ∙ has)
      (made_touched path (index + length (things_of op)) ops) where
        by : (b : Bool) → has_make (made_of h n index op) path q ≡ b → (b || has_make (made_from h n (index + length (things_of op)) ops) path q) ≡ true
            → (has_make (made_from h n (index + length (things_of op)) ops) path q ≡ true → has_id (objects_from h n (index + length (things_of op)) ops) q ≡ true)
            → has_id (objects_from h n index (op ∷ ops)) q ≡ true
        by true here is rest =
            ap (λ (b : Bool). b || has_id (objects_from h n (index + length (things_of op)) ops) q) (one_made path index op here)
        by false apart is rest =
            or_later (is_id q (object_of h n index op)) (has_id (objects_from h n (index + length (things_of op)) ops) q) (rest is)
