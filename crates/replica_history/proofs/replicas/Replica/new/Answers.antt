use Rattle.replica_history.proofs.ReplicaLemmas.{begins}
use Rattle.replica_history.proofs.CountLemmas.{none_counted}
use Rattle.replica_history.proofs.replicas.Replica.new.Goals as goal

pub invariant_of-result : goal.invariant_of-result
invariant_of-result c = λ live. record {
  readings = begins c.new.result c.in_ok-new.field-0 c.empty.result c.new.ensures c.in_ok-new.ensures.makes c.in_ok-new.ensures.removes c.empty.ensures;
  counts_are = none_counted c.new.result c.none.result c.new.ensures c.none.ensures;
}
