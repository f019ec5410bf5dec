use Rattle.std.proofs.Common.{length, subst, sym, ap, ◌∙◌, List, ◌-◌}
use Rattle.tt_base.specs.Elements.{IsNew}
use Rattle.tt_base.specs.declared.elements.Element.{Element}
use Rattle.replica_text.proofs.RunLemmas.{run_unknown}
use Rattle.replica_text.specs.Ids.{shifted}
use Rattle.replica_text.proofs.PlaceLemmas.{run_next_new, run_more}
use Rattle.replica_text.proofs.inserting.insert_run.Goals as goal

pub insert-requires-clause-new : goal.insert-requires-clause-new
insert-requires-clause-new g c =
    let old : List Element = g.E.Elements.elements c.args.elements.now in
    subst (IsNew (shifted c.args.first.now c.loop-count.count)) (sym c.loop-count.invariant)
    (run_next_new c.args.first.now c.loop-count.count c.args.chars.now old c.args.place c.loop-count-test.true
    (run_unknown c.args.first.now (length c.args.chars.now) old c.requires.new))

pub loop-count-preserved : goal.loop-count-preserved
loop-count-preserved g c =
    let old : List Element = g.E.Elements.elements c.args.elements.now in
    c.in_ok-insert.ensures.ok
    ∙ run_more c.args.first.now c.loop-count.count c.args.chars.now old (g.E.Elements.elements c.loop-count.elements) c.args.place
    (c.len.result - c.args.place) (c.len-in-loop-count.result - (c.len.result - c.args.place)) c.index-chars-count.result
    c.requires.within c.loop-count-test.true c.loop-count.invariant (ap (λ n. n - c.args.place) c.len.ensures)
    (ap (λ n. n - (c.len.result - c.args.place)) c.len-in-loop-count.ensures) c.index-chars-count.is
