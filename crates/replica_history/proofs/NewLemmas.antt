-- Of an object whose change is not held nothing is known yet.
use Rattle.std.proofs.Common.{◌≡◌, ℕ, ◌+◌, Bool, true, false, cond, refl, sym, ap, ap₂, ◌∙◌, List, [], ◌∷◌, ◌++◌, flat_map, length, Option, is_some}
use Rattle.std.specs.List.{AllByRecursion}
use Rattle.tt_base.specs.declared.ids.Name.{Name}
use Rattle.tt_base.specs.declared.ids.ElemId.{ElemId}
use Rattle.tt_base.specs.declared.text_ops.TextOp.{TextOp}
use Rattle.tt_base.specs.declared.text_ops.TextOp.TheVariants as on_text
use Rattle.change_codec.specs.Change.{Change}
use Rattle.change_codec.specs.declared.ops.Ref.{Ref}
use Rattle.change_codec.specs.declared.ops.Op.{Op}
use Rattle.change_codec.specs.declared.ops.Op.TheVariants.{Make, Remove, Insert, Delete}
use Rattle.change_graph.specs.History.{History, is_held}
use Rattle.change_graph.specs.Refusals.{things_of}
use Rattle.replica_text.specs.Ids.{same}
use Rattle.replica_text.specs.Tree.{Leaf, walk}
use Rattle.replica_text.specs.Ops.{after_ops}
use Rattle.replica_text.proofs.OrderLemmas.{same_one}
use Rattle.replica_views.specs.Growth.{IsGrown}
use Rattle.replica_views.specs.Ids.{id_at, id_of}
use Rattle.replica_views.specs.Texts.{parent_of, text_op, text_ops, by_depth, ops_on, tree_of, elements_of}
use Rattle.replica_views.proofs.StayLemmas.{IsEntry, HasHeldRefs, IsHeldRef, all_by_depth, grown_entries}
use Rattle.replica_views.proofs.HeldLemmas.{ref_held}

module _ (history : History) (object : ElemId) (new : is_held history object.name ≡ false) where
  apart : (n : Name) (r : Ref) → is_held history n ≡ true → IsHeldRef history r → same object (id_of history n r) ≡ false
  apart n r held ref = by (same object (id_of history n r)) refl where
    by : (b : Bool) → same object (id_of history n r) ≡ b → b ≡ false
    by false is = refl
    by true is =
        let e : object ≡ id_of history n r = same_one object (id_of history n r) is in
        let never : true ≡ false =
        sym (ref_held history n r held ref).held ∙ ap (λ (id : ElemId). is_held history id.name) (sym e) ∙ new in cc

  none_by : (n : Name) (op : Op) (index : ℕ) → is_held history n ≡ true → HasHeldRefs history op → text_op history n object index op ≡ []
  none_by n (Make made) index held refs = refl
  none_by n (Remove removed) index held refs = refl
  none_by n (Insert own parent text) index held refs =
      ap (λ (b : Bool). cond b (on_text.Insert (id_at history n index) (parent_of history n parent) text ∷ []) []) (apart n own held refs.0)
  none_by n (Delete own first count) index held refs =
      ap (λ (b : Bool). cond b (on_text.Delete (id_of history n first) count ∷ []) []) (apart n own held refs.0)

  none_from : (n : Name) (ops : List Op) (index : ℕ) → is_held history n ≡ true → AllByRecursion (HasHeldRefs history) ops → text_ops history n object index ops ≡ []
  none_from n [] index held refs = refl
  none_from n (op ∷ ops) index held refs =
      ap₂ (λ (xs ys : List TextOp). xs ++ ys) (none_by n op index held refs.0) (none_from n ops (index + length (things_of op)) held refs.1)

  none_in : (es : History) → AllByRecursion (IsEntry history) es → flat_map (λ (e : Name × Change). text_ops history e.0 object 0 e.1.ops) es ≡ []
  none_in [] all = refl
  none_in (e ∷ es) all =
      ap₂ (λ (xs ys : List TextOp). xs ++ ys) (none_from e.0 e.1.ops 0 (ap (λ (o : Option Change). is_some o) all.0.found) all.0.refs) (none_in es all.1)

  pub no_elements : IsGrown history → elements_of history object ≡ []
  unfolding tree_of ops_on
  no_elements grown =
      ap (λ (ops : List TextOp). walk (after_ops ops Leaf)) (none_in (by_depth history) (all_by_depth (IsEntry history) history (grown_entries history grown)))
