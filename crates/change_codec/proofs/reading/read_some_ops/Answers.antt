use Rattle.std.proofs.Common.{ℕ, [], ◌∷◌, ◌++◌}
use Rattle.std.proofs.lemmas.Result.{err_from_is_err_and}
use Rattle.byte_format.specs.declared.faults.ReadFault.TheVariants.{At}
use Rattle.byte_format.specs.Lists.{many}
use Rattle.byte_format.proofs.Loops.{goes_on, ends, is_done}
use Rattle.change_codec.specs.Encoding.{any_op, op_field, some_ops}
use Rattle.change_codec.specs.Views.{op_viewed}
use Rattle.change_codec.proofs.reading.read_some_ops.Goals as goal

pub returns-in_err-view : goal.returns-in_err-view
unfolding some_ops
returns-in_err-view c =
    let kept = err_from_is_err_and c.from_residual.result c.from_residual.ensures.1 in
    rw (kept.1, kept.2)
    (ends any_op (λ (state : ℕ). op_field) (λ state op. state) 0 (At c.in_err-view.field-0.0) c.loop.invariant.front c.args.count c.loop.counter c.loop.rest.now
    ((many any_op op_field c.args.count).reads c.args.bytes.now) c.loop-test.true c.in_err-view.ensures c.loop.invariant.in_front)

pub loop-preserved : goal.loop-preserved
loop-preserved c = record {
  front = c.loop.invariant.front ++ op_viewed c.in_ok-view.view ∷ [];
  in_front =
      goes_on any_op (λ (state : ℕ). op_field) (λ state op. state) 0 c.loop.invariant.front c.args.count c.loop.counter c.loop.rest.now
      (op_viewed c.in_ok-view.view) c.in_ok-view.behind.now
      ((many any_op op_field c.args.count).reads c.args.bytes.now) c.loop-test.true c.in_ok-view.ensures c.loop.invariant.in_front;
  is_kept = c.with_op-ops.ensures c.loop.invariant.front c.loop.invariant.is_kept;
}

pub returns : goal.returns
unfolding some_ops
returns c = record {
  value = c.loop.invariant.front;
  read =
      is_done any_op (λ (state : ℕ). op_field) (λ state op. state) 0 c.loop.invariant.front c.args.count c.loop.counter c.loop.rest.now
      ((many any_op op_field c.args.count).reads c.args.bytes.now) c.loop-test.false c.loop.invariant.in_front;
  is_kept = c.loop.invariant.is_kept;
}
