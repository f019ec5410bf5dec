use Rattle.transform.proofs.ListLemmas.{chain_rest, past_list-step, list_past-step}
use Rattle.transform.proofs.lists.pass_list.Goals as goal

pub loop-q-preserved : goal.loop-q-preserved
loop-q-preserved c =
    let list = c.args.list.now in
    let i = c.loop-q.q-index in
    let p = c.loop-q.delta in
    let q = c.q-item.result in
    let carried = c.in_ok-delta.delta in record {
      chain =
          chain_rest list i p q carried c.loop-q-test.true c.q-item.is c.loop-q.invariant.chain c.in_ok-delta.ensures.cells;
      delta =
          past_list-step list i p q carried _ c.loop-q-test.true c.q-item.is c.in_ok-delta.ensures.cells c.loop-q.invariant.delta;
      list =
          list_past-step list i p q carried c.in_ok-pass_daemon.field-0 c.loop-q.passed.items c.push.new.self.items _ c.loop-q-test.true c.q-item.is c.in_ok-delta.ensures.cells
          c.in_ok-pass_daemon.ensures.cells c.in_ok-push.ensures.items c.loop-q.invariant.list;
    }
