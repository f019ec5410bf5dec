use Rattle.std.proofs.Common.{ℕ, ◌<◌, nat_le, arith, rules, tests, get_or, leb-true, length}
use Rattle.std.proofs.lemmas.List.Sorted.{IsPartitionPoint-from_clause, IsPartitionedBy-leb}
use Rattle.change_graph.proofs.StartLemmas.{starts_rise}
use Rattle.change_graph.proofs.starts.landing_at.Goals as goal

pub returns-in-Some : goal.returns-in-Some
returns-in-Some c = λ ops are.
    let less : c.in-Some.place < c.partition_point-before.result = omega (arith, c.in-Some.ensures.0, c.in-Some.ensures.1) in
    let there : c.in-Some.place < length c.args.starts.now = omega (arith, less, c.partition_point-before.ensures.bound) in
    let point =
    IsPartitionPoint-from_clause (λ (n : ℕ). nat_le n c.args.index) c.args.starts.now c.partition_point-before.result
    c.partition_point-before.ensures.partitioned
    (IsPartitionedBy-leb (λ (n : ℕ). n) c.args.starts.now c.args.index (starts_rise ops c.args.starts.now are))
    (λ a r f called. search (rules, tests)) in
    record {
      within = omega (arith, there, are.few);
      begins = are.exact c.in-Some.place there;
      before = leb-true (get_or c.args.starts.now c.in-Some.place 0) c.args.index (point.0 c.in-Some.place 0 (omega arith) less);
    }
