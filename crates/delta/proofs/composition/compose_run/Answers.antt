use Rattle.std.proofs.Common.{◌≡◌, ◌+◌, ◌-◌, arith}
use Rattle.delta.specs.Steps.{cells_of}
use Rattle.delta.proofs.ComposingLemmas.{Composes-then}
use Rattle.delta.proofs.composition.compose_run.Goals as goal

pub loop-left-preserved : goal.loop-left-preserved
loop-left-preserved c =
    let n = c.args.count in
    let left = c.loop-left.left in
    let taken = c.in_ok-left.field-0 in
    let sum : (n - left) + taken ≡ n - (left - taken) = omega (arith, c.loop-left.invariant.most, c.in_ok-left.ensures.most) in record {
      most = omega (arith, c.loop-left.invariant.most);
      composes =
          Composes-then c.args.kept (n - left) taken _ _ _ _ (cells_of c.args.first.now) (cells_of c.loop-left.first) (cells_of c.compose_part.new.first) sum
          c.loop-left.invariant.composes c.in_ok-left.ensures.composes;
    }
