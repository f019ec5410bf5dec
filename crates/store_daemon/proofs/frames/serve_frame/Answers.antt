use Rattle.std.proofs.Common.{Option, [], refl, ap, ◌∙◌}
use Rattle.std.specs.Option.{unwrap_or}
use Rattle.daemon_core.specs.State.{Links}
use Rattle.daemon_history.specs.Shown.{shown}
use Rattle.store_daemon.specs.Daemons.{state_on}
use Rattle.store_daemon.proofs.ConnectedLemmas.{own_connected}
use Rattle.store_daemon.proofs.ServeLemmas.{more_serving, none_linked, can_do, served_there, served_nowhere}
use Rattle.store_daemon.proofs.frames.serve_frame.Goals as goal

pub serve_heard-requires-clause-can : goal.serve_heard-requires-clause-can
serve_heard-requires-clause-can g c =
    can_do (shown c.args.store.now) c.args.base.now c.args.files.now c.fetch_asked.new.files c.args.connections.now c.take.new.self c.args.n
    c.in-Some.own c.in_ok-heard.heard.asked c.requires.room c.in_ok-fetch_asked.ensures c.requires.serving c.take.ensures.ordered
    c.take.ensures.others
    (own_connected c.args.base.now c.fetch_asked.new.files c.args.connections.now c.args.n c.in-Some.own
    (more_serving (shown c.args.store.now) c.args.base.now c.args.files.now c.fetch_asked.new.files c.args.connections.now
    c.in_ok-fetch_asked.ensures.more c.requires.serving)
    c.in-Some.ensures.links)

pub serve_heard-requires-in-None-clause-can : goal.serve_heard-requires-in-None-clause-can
serve_heard-requires-in-None-clause-can g c =
    can_do (shown c.args.store.now) c.args.base.now c.args.files.now c.fetch_asked.new.files c.args.connections.now c.take.new.self c.args.n
    c.none-own.result c.in_ok-heard.heard.asked c.requires.room c.in_ok-fetch_asked.ensures c.requires.serving c.take.ensures.ordered
    c.take.ensures.others (none_linked c.fetch_asked.new.files c.none-own.result c.none-own.ensures)

pub returns-in_ok-put-in-Some-clause-served : goal.returns-in_ok-put-in-Some-clause-served
returns-in_ok-put-in-Some-clause-served g c =
    served_there (state_on c.args.base.now c.args.store.now c.args.connections.now) c.args.n c.args.body.now c.in_ok-heard.heard
    (shown c.serve_heard.new.store) c.fetch_asked.new.files c.serve_heard.new.files c.in-Some.own c.serve_heard.new.own c.take.new.self
    c.serve_heard.new.others c.in_ok-sent-in-Some.sent
    (record {
      links_are = ap (λ (o : Option Links). unwrap_or o []) c.in-Some.ensures.links;
      rest = c.take.ensures.others;
      hears = c.in_ok-heard.ensures.read;
      is_heard = c.in_ok-sent-in-Some.ensures.heard;
      hand = c.in_ok-fetch_asked.ensures.more.at_hand;
      serving =
          more_serving (shown c.args.store.now) c.args.base.now c.args.files.now c.fetch_asked.new.files c.args.connections.now
          c.in_ok-fetch_asked.ensures.more c.requires.serving;
    })
    c.args.store.now c.serve_heard.new.store c.put.new.self refl refl c.in_ok-sent-in-Some.ensures.live
    c.take.ensures.ordered c.in-Some.ensures.links c.in_ok-put-in-Some.ensures.ok

pub returns-in_ok-sent-in-None-clause-served : goal.returns-in_ok-sent-in-None-clause-served
returns-in_ok-sent-in-None-clause-served g c =
    served_nowhere (state_on c.args.base.now c.args.store.now c.args.connections.now) c.args.n c.args.body.now c.in_ok-heard.heard
    (shown c.serve_heard-in-None.new.store) c.fetch_asked.new.files c.serve_heard-in-None.new.files c.none-own.result
    c.serve_heard-in-None.new.own c.take.new.self c.serve_heard-in-None.new.others c.in_ok-sent-in-None.sent
    (record {
      links_are = c.none-own.ensures ∙ ap (λ (o : Option Links). unwrap_or o []) c.in-None.ensures.links;
      rest = c.take.ensures.others;
      hears = c.in_ok-heard.ensures.read;
      is_heard = c.in_ok-sent-in-None.ensures.heard;
      hand = c.in_ok-fetch_asked.ensures.more.at_hand;
      serving =
          more_serving (shown c.args.store.now) c.args.base.now c.args.files.now c.fetch_asked.new.files c.args.connections.now
          c.in_ok-fetch_asked.ensures.more c.requires.serving;
    })
    c.args.store.now c.serve_heard-in-None.new.store refl refl c.in_ok-sent-in-None.ensures.live c.in-None.ensures.links
