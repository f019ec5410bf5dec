use Rattle.std.proofs.Common.{Option, [], ap, ◌∙◌}
use Rattle.std.specs.Option.{unwrap_or}
use Rattle.daemon_core.specs.State.{Links}
use Rattle.daemon_server.specs.Parts.{state_of}
use Rattle.daemon_server.proofs.ConnectedLemmas.{others_connected, own_connected}
use Rattle.daemon_server.proofs.ServingLemmas.{serves_there, serves_nowhere}
use Rattle.daemon_server.proofs.frames.serve_frame.Goals as goal

pub hear-requires-clause-linked : goal.hear-requires-clause-linked
hear-requires-clause-linked c =
    own_connected c.args.base.now c.args.files.now c.args.connections.now c.args.n c.in-Some.own c.requires.serving c.in-Some.ensures.links

pub send_heard-requires-clause-linked : goal.send_heard-requires-clause-linked
send_heard-requires-clause-linked c =
    others_connected c.args.base.now c.args.files.now c.args.connections.now c.take.new.self c.args.n c.requires.serving c.take.ensures.ordered c.take.ensures.others

pub send_heard-requires-in-None-clause-linked : goal.send_heard-requires-in-None-clause-linked
send_heard-requires-in-None-clause-linked c =
    others_connected c.args.base.now c.args.files.now c.args.connections.now c.take.new.self c.args.n c.requires.serving c.take.ensures.ordered c.take.ensures.others

pub returns-in_ok-put-in-Some : goal.returns-in_ok-put-in-Some
returns-in_ok-put-in-Some c =
    serves_there (state_of c.args.base.now c.args.files.now c.args.connections.now) c.args.n c.in-Some.own c.hear.new.own c.args.body.now c.in_ok-heard-in-Some.heard
    c.take.new.self c.send_heard.new.others c.put.new.self c.in_ok-served-in-Some.served
    (record {
      links_are = ap (λ (o : Option Links). unwrap_or o []) c.in-Some.ensures.links;
      rest = c.take.ensures.others;
      hears = record { id = c.in_ok-heard-in-Some.ensures.id; handled = c.in_ok-heard-in-Some.ensures.handled };
      sends = record { links = c.in_ok-served-in-Some.ensures.links; change = c.in_ok-served-in-Some.ensures.change; sent = c.in_ok-served-in-Some.ensures.sent };
      read = c.in_ok-served-in-Some.ensures.read;
    })
    c.take.ensures.ordered c.in-Some.ensures.links c.in_ok-put-in-Some.ensures.ok

pub returns-in_ok-served-in-None : goal.returns-in_ok-served-in-None
returns-in_ok-served-in-None c =
    serves_nowhere (state_of c.args.base.now c.args.files.now c.args.connections.now) c.args.n c.none.result c.hear-in-None.new.own c.args.body.now
    c.in_ok-heard-in-None.heard c.take.new.self c.send_heard-in-None.new.others c.in_ok-served-in-None.served
    (record {
      links_are = c.none.ensures ∙ ap (λ (o : Option Links). unwrap_or o []) c.in-None.ensures.links;
      rest = c.take.ensures.others;
      hears = record { id = c.in_ok-heard-in-None.ensures.id; handled = c.in_ok-heard-in-None.ensures.handled };
      sends = record { links = c.in_ok-served-in-None.ensures.links; change = c.in_ok-served-in-None.ensures.change; sent = c.in_ok-served-in-None.ensures.sent };
      read = c.in_ok-served-in-None.ensures.read;
    })
    c.in-None.ensures.links
