use Rattle.file_uri.specs.UriOf.{uri_of}
use Rattle.daemon_links.proofs.SendingLemmas.{written_more, item_ahead}
use Rattle.daemon_links.proofs.sending.frame_messages.Goals as goal

pub loop-frame-preserved : goal.loop-frame-preserved
loop-frame-preserved c =
    written_more (uri_of c.args.base.now c.args.path.now) c.args.text.now c.args.queue.now c.loop-frame.messages.items c.push.new.self.items
    c.loop-frame.reached c.apply_at_once.new.text c.in_ok-edit_message.field-0 c.frame-item.result _ _
    (item_ahead c.args.queue.now c.loop-frame.frame-index c.frame-item.result c.loop-frame-test.true c.frame-item.is)
    c.loop-frame.invariant c.in_ok-edit_message.ensures c.in_ok-push.ensures.items c.in_ok-apply_at_once.ensures.ok
