use Rattle.std.proofs.Common.{◌≡◌, Bool, true, false, sym, ◌∙◌}
use Rattle.tt_base.proofs.ElementLemmas.{new_more, id_read}
use Rattle.replica_text.proofs.list_elements.place_in.Goals as goal

where_none : (b : Bool) → b ≡ true → b ≡ false → ⊥
where_none b h k = let no : true ≡ false = sym h ∙ k in cc

pub returns-then-equals : goal.returns-then-equals
returns-then-equals c =
    id_read c.args.id.now c.args.items.now c.loop-place.place _ c.loop-place-test.true (c.equals.ensures.0 c.if-equals.true)

pub loop-place-preserved : goal.loop-place-preserved
loop-place-preserved c =
    new_more c.args.id.now c.args.items.now c.loop-place.place _ c.loop-place-test.true c.loop-place.invariant
    (λ is. where_none c.equals.result (c.equals.ensures.1 is) c.if-equals.false)
