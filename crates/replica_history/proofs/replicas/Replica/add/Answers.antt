use Rattle.std.proofs.Common.{◌≡◌, ◌+◌, cond, sym, subst, IsTrue}
use Rattle.std.specs.BTreeMap.{is_at}
use Rattle.tt_base.specs.Ids.{actor_cmp}
use Rattle.tt_base.specs.declared.ids.Actor.{Actor}
use Rattle.change_graph.specs.History.{History}
use Rattle.change_graph.specs.Adding.{IsNoted}
use Rattle.change_graph.specs.declared.faults.AddNote.{AddNote}
use Rattle.change_graph.specs.declared.faults.AddNote.TheVariants.{Added}
use Rattle.replica_history.specs.Counts.{count_at, AreCounts}
use Rattle.replica_history.specs.Replica.{ReplicaView}
use Rattle.replica_history.proofs.CountLemmas.{counts_more}
use Rattle.replica_history.proofs.replicas.Replica.add.Goals as goal

pub invariant_of-self-in-Ok-Added : goal.invariant_of-self-in-Ok-Added
invariant_of-self-in-Ok-Added c = λ on. record {
  readings = c.in_ok-effects-in-Ok-Added.ensures.readings;
  counts_are =
      let noted : IsNoted c.self.inside.graph c.args.change c.add.new.self Added =
      subst (λ (n : AddNote). IsNoted c.self.inside.graph c.args.change c.add.new.self n) c.in-Ok-Added.field-0-is c.in-Ok-Added.ensures.note in
      subst (λ (h : History). AreCounts h c.add-in-Ok-Added.new.self) (sym noted.1)
      (counts_more c.self.inside.graph c.args.change c.self.inside.counts c.add-in-Ok-Added.new.self noted.0.new
      (c.self.invariant (subst (λ (v : ReplicaView). IsTrue v.live) (sym c.self.view_is) c.requires.live)).counts_are
      (subst
      (λ (a : Actor). (q : Actor) → count_at c.add-in-Ok-Added.new.self q
      ≡ cond (is_at (actor_cmp a) q) (count_at c.self.inside.counts q + 1) (count_at c.self.inside.counts q))
      c.actor-actor.ensures.actor c.in_ok-add-in-Ok-Added.ensures));
}
