use Rattle.std.proofs.Common.{◌≡◌, ℕ, ◌+◌, ◌-◌, ◌<◌, true, false, List, [], ◌∷◌, ◌++◌, take, drop, subst, sym, ap, ◌∙◌, arith, append_assoc}
use Rattle.tt_base.specs.declared.ids.ElemId.{ElemId}
use Rattle.tt_base.specs.declared.text_ops.TextOp.{TextOp}
use Rattle.tt_base.specs.declared.text_ops.TextOp.TheVariants.{Delete}
use Rattle.replica_text.specs.Ids.{same, shifted}
use Rattle.replica_text.specs.Made.{visible_ids, deletion, deletions}
use Rattle.replica_text.specs.Making.{DeletionsFit}
use Rattle.replica_text.proofs.OrderLemmas.{same_one}
use Rattle.replica_text.proofs.MadeLemmas.{deletion_on, deletion_off, taken_first, fit-append}
use Rattle.replica_text.proofs.making.push_deletions.Goals as goal
use Rattle.replica_text.proofs.making.push_deletions.Goals.{then-goes_on, else-goes_on+in_ok-push}

pub loop-place-init : goal.loop-place-init
loop-place-init g c =
    let ids : List ElemId = visible_ids (g.E.Elements.elements c.args.elements.now) in
    let start : ℕ = c.args.start in
    let end : ℕ = c.args.start + c.args.size in
    let some : start < end = omega (arith, c.requires.some) in
    let size : end - start ≡ c.args.size = omega arith in
    record {
      whole =
          ap (λ l. c.args.ops.now.items ++ deletions l) (sym (taken_first ids start end c.visible_id-first.result c.visible_id-first.ensures some))
          ∙ ap (λ n. c.args.ops.now.items ++ deletions (take n (drop start ids))) size;
      fits = omega arith;
      counted = omega arith;
      fit = λ h. h;
    }

pub loop-place-preserved : goal.loop-place-preserved
loop-place-preserved g c =
    let ids : List ElemId = visible_ids (g.E.Elements.elements c.args.elements.now) in
    let place : ℕ = c.loop-place.place in
    let end : ℕ = c.args.start + c.args.size in
    let first : ElemId = c.loop-place.first in
    let count : ℕ = c.loop-place.count in
    let id : ElemId = c.visible_id-id.result in
    let ops : List TextOp = c.loop-place.ops.items in
    let rest : List ElemId = take (end - (place + 1)) (drop (place + 1) ids) in
    let whole : ops ++ deletion first count (deletion id 1 (deletions rest)) ≡ c.args.ops.now.items ++ deletions (take c.args.size (drop c.args.start ids)) =
    ap (λ l. ops ++ deletion first count (deletions l)) (sym (taken_first ids place end id c.visible_id-id.ensures c.loop-place-test.true))
    ∙ c.loop-place.invariant.whole in
    elim c.if-goes_on.branch [
      | then-goes_on w ↦
          let on : same (shifted first count) id ≡ true = sym c.goes_on.ensures ∙ w.if-goes_on.true in
          let items : c.if-goes_on.ops.items ≡ ops = cc in
          let at : first.index + count ≡ id.index = ap (λ (i : ElemId). i.index) (same_one (shifted first count) id on) in
          let index : c.if-goes_on.first.index ≡ first.index = ap (λ (i : ElemId). i.index) w.first-is in
          record {
            whole =
                ap (λ n. c.if-goes_on.ops.items ++ deletion c.if-goes_on.first n (deletions rest)) w.count-is
                ∙ ap (λ (i : ElemId). c.if-goes_on.ops.items ++ deletion i (count + 1) (deletions rest)) w.first-is
                ∙ ap (λ l. l ++ deletion first (count + 1) (deletions rest)) items
                ∙ ap (λ l. ops ++ l) (sym (deletion_on first count id (deletions rest) on))
                ∙ whole;
            fits = omega (arith, at, index, w.count-is);
            counted = omega (arith, w.count-is, c.loop-place.invariant.counted);
            fit = λ h. subst DeletionsFit (sym items) (c.loop-place.invariant.fit h);
          }
      | else-goes_on+in_ok-push w ↦
          let off : same (shifted first count) id ≡ false = sym c.goes_on.ensures ∙ w.if-goes_on.false in
          let items : c.if-goes_on.ops.items ≡ ops ++ Delete first count ∷ [] = cc (w.in_ok-push.ensures.items) in
          let index : c.if-goes_on.first.index ≡ id.index = ap (λ (i : ElemId). i.index) w.first-is in
          record {
            whole =
                ap (λ n. c.if-goes_on.ops.items ++ deletion c.if-goes_on.first n (deletions rest)) w.count-is
                ∙ ap (λ (i : ElemId). c.if-goes_on.ops.items ++ deletion i 1 (deletions rest)) w.first-is
                ∙ ap (λ l. l ++ deletion id 1 (deletions rest)) items
                ∙ append_assoc ops (Delete first count ∷ []) (deletion id 1 (deletions rest))
                ∙ ap (λ l. ops ++ l) (sym (deletion_off first count id (deletions rest) off))
                ∙ whole;
            fits = omega (arith, index, w.count-is);
            counted = omega (arith, w.count-is);
            fit = λ h. subst DeletionsFit (sym items) (fit-append ops (Delete first count ∷ []) (c.loop-place.invariant.fit h) (c.loop-place.invariant.fits, tt));
          }
    ]

pub returns-clause-fit : goal.returns-clause-fit
returns-clause-fit g c =
    λ h. subst DeletionsFit (sym c.in_ok-push-2.ensures.items)
    (fit-append c.loop-place.ops.items (Delete c.loop-place.first c.loop-place.count ∷ []) (c.loop-place.invariant.fit h) (c.loop-place.invariant.fits, tt))
