use Rattle.std.proofs.Common.{Bool, true, false, cond, List, subst, sym}
use Rattle.std.specs.List.{insert}
use Rattle.tt_base.specs.Elements.{AreDistinct}
use Rattle.tt_base.specs.declared.elements.Element.{Element}
use Rattle.tt_base.proofs.ElementLemmas.{distinct-insert}
use Rattle.replica_text.proofs.list_elements.ListElementsElements.insert.Goals as goal

either : (b : Bool) (old more : List Element) → AreDistinct old → AreDistinct more → AreDistinct (cond b more old)
either true old more d e = e
either false old more d e = d

pub invariant_of-self : goal.invariant_of-self
invariant_of-self c = record {
  distinct = subst AreDistinct (sym c.insert.ensures.items)
      (either _ c.args.self.now.items.items (insert c.args.self.now.items.items c.args.place c.args.element) c.args.self.now.distinct
      (distinct-insert c.args.self.now.items.items c.args.place c.args.element c.requires.new c.args.self.now.distinct));
}
