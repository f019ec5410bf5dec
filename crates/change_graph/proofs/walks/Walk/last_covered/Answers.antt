use Rattle.std.proofs.Common.{refl, sym, ap, ◌∙◌, is_lt}
use Rattle.change_graph.specs.Walk.{place_cmp}
use Rattle.change_graph.proofs.OrderLemmas.{up_to_before, is_less}
use Rattle.change_graph.proofs.walks.Walk.last_covered.Goals as goal

pub returns-then-is_before : goal.returns-then-is_before
returns-then-is_before c =
    rw (← c.self.view_is)
    (λ place has.
    ap is_lt
    (up_to_before place c.in-Some.covered c.args.wanted.now (place_cmp c.in-Some.covered place) refl (c.in-Some.ensures.greatest place has)
    (is_less (place_cmp c.in-Some.covered c.args.wanted.now) (sym c.is_before.ensures ∙ c.if-is_before.true))))
