-- Operations that are put behind others on their object.
use Rattle.std.proofs.Common.{◌≡◌, Bool, true, false, cond, refl, sym, ap, ◌∙◌, List, [], ◌∷◌, ◌++◌, Option, Some}
use Rattle.std.proofs.lemmas.List.{append-nil}
use Rattle.std.specs.Map.{lookup}
use Rattle.std.specs.Option.{unwrap_or}
use Rattle.tt_base.specs.declared.ids.ElemId.{ElemId}
use Rattle.tt_base.specs.declared.text_ops.TextOp.{TextOp}
use Rattle.replica_dir.specs.Ids.{is_id}
use Rattle.replica_dir.proofs.IdLemmas.{id_same}
use Rattle.replica_text.specs.Ids.{same}
use Rattle.replica_history.specs.Groups.{GroupsView, group_at}
use Rattle.replica_history.proofs.IdTests.{same_is, id_turned}

pub pushed : (old new : GroupsView) (object : ElemId) (op : TextOp) (ops : List TextOp) → ops ≡ group_at old object ++ op ∷ []
    → ((q : ElemId) → lookup (is_id q) new ≡ cond (is_id object q) (Some ops) (lookup (is_id q) old))
    → (q : ElemId) → group_at new q ≡ group_at old q ++ cond (same q object) (op ∷ []) []
pushed old new object op ops is updates q = by (is_id object q) refl where
  test : same q object ≡ is_id object q
  test = same_is q object ∙ id_turned q object

  by : (b : Bool) → is_id object q ≡ b → group_at new q ≡ group_at old q ++ cond (same q object) (op ∷ []) []
  by true here =
      ap (λ (o : Option (List TextOp)). unwrap_or o [])
      (updates q ∙ ap (λ (b : Bool). cond b (Some ops) (lookup (is_id q) old)) here)
      ∙ is
      ∙ ap (λ (id : ElemId). group_at old id ++ op ∷ []) (id_same object q here)
      ∙ ap (λ (b : Bool). group_at old q ++ cond b (op ∷ []) []) (sym (test ∙ here))
  by false apart =
      ap (λ (o : Option (List TextOp)). unwrap_or o [])
      (updates q ∙ ap (λ (b : Bool). cond b (Some ops) (lookup (is_id q) old)) apart)
      ∙ sym (append-nil (group_at old q))
      ∙ ap (λ (b : Bool). group_at old q ++ cond b (op ∷ []) []) (sym (test ∙ apart))
