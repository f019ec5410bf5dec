use Rattle.daemon_core.proofs.SendingLemmas.{can_be_sent}
use Rattle.daemon_links.proofs.sending.send.Goals as goal

pub returns-clause-reads : goal.returns-clause-reads
returns-clause-reads c =
    can_be_sent c.args.message.now c.in_ok-body.body c.len-size.result c.in_ok-body.ensures.text c.in_ok-body.ensures.back c.len-size.ensures c.len-size.type_inv
