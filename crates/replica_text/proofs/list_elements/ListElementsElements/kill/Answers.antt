use Rattle.std.proofs.Common.{subst, sym}
use Rattle.tt_base.specs.Elements.{AreDistinct}
use Rattle.tt_base.proofs.ElementLemmas.{set_killed, distinct-killed}
use Rattle.replica_text.proofs.list_elements.ListElementsElements.kill.Goals as goal

pub returns : goal.returns
returns c = set_killed c.args.self.now.items.items c.args.place c.index_mut.result.now c.requires c.index_mut.ensures.value

pub invariant_of-self : goal.invariant_of-self
invariant_of-self c = record {
  distinct = subst AreDistinct
      (sym (set_killed c.args.self.now.items.items c.args.place c.index_mut.result.now c.requires c.index_mut.ensures.value))
      (distinct-killed c.args.self.now.items.items c.args.place c.args.self.now.distinct);
}
