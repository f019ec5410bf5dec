use Rattle.std.proofs.Common.{[], ◌∷◌, ◌++◌, None}
use Rattle.std.proofs.lemmas.Result.{err_from_is_err_and}
use Rattle.byte_format.specs.declared.faults.ReadFault.TheVariants.{At}
use Rattle.byte_format.specs.Lists.{chain, just}
use Rattle.byte_format.specs.Values.{any_name, next_name, rising_names}
use Rattle.byte_format.proofs.Loops.{goes_on, ends, is_done}
use Rattle.byte_format.proofs.names.read_rising.Goals as goal

pub returns-in_err-name : goal.returns-in_err-name
unfolding rising_names
returns-in_err-name c =
    let kept = err_from_is_err_and c.from_residual.result c.from_residual.ensures.1 in
    rw (kept.1, kept.2)
    (ends any_name next_name just c.loop.before (At c.in_err-name.field-0.0) c.loop.invariant.front c.args.count c.loop.counter c.loop.rest.now
    ((chain any_name next_name just None c.args.count).reads c.args.bytes.now) c.loop-test.true c.in_err-name.ensures c.loop.invariant.in_front)

pub loop-preserved : goal.loop-preserved
loop-preserved c = record {
  front = c.loop.invariant.front ++ c.in_ok-name.name ∷ [];
  in_front =
      goes_on any_name next_name just c.loop.before c.loop.invariant.front c.args.count c.loop.counter c.loop.rest.now c.in_ok-name.name c.in_ok-name.behind.now
      ((chain any_name next_name just None c.args.count).reads c.args.bytes.now) c.loop-test.true c.in_ok-name.ensures c.loop.invariant.in_front;
  is_kept = c.with_name-names.ensures c.loop.invariant.front c.loop.invariant.is_kept;
}

pub returns : goal.returns
unfolding rising_names
returns c = record {
  value = c.loop.invariant.front;
  read =
      is_done any_name next_name just c.loop.before c.loop.invariant.front c.args.count c.loop.counter c.loop.rest.now
      ((chain any_name next_name just None c.args.count).reads c.args.bytes.now) c.loop-test.false c.loop.invariant.in_front;
  is_kept = c.loop.invariant.is_kept;
}
