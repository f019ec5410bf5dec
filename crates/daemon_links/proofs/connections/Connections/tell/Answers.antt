use Rattle.daemon_links.proofs.TellLemmas.{no_effects, all_untold, all_unsent, none_read}
use Rattle.daemon_links.proofs.connections.Connections.tell.Goals as goal

pub returns-then-is_empty-clause-links : goal.returns-then-is_empty-clause-links
returns-then-is_empty-clause-links c =
    all_untold _ (no_effects c.args.change.now.path c.args.change.now.delta c.is_empty.result c.is_empty.ensures c.if-is_empty.true) c.args.self.now

pub returns-then-is_empty-clause-sent : goal.returns-then-is_empty-clause-sent
returns-then-is_empty-clause-sent c =
    all_unsent c.args.base.now _ c.args.self.now c.args.sent.now.items
    (no_effects c.args.change.now.path c.args.change.now.delta c.is_empty.result c.is_empty.ensures c.if-is_empty.true)

pub returns-then-is_empty-clause-read : goal.returns-then-is_empty-clause-read
returns-then-is_empty-clause-read c =
    none_read c.args.base.now _ (no_effects c.args.change.now.path c.args.change.now.delta c.is_empty.result c.is_empty.ensures c.if-is_empty.true) c.args.self.now
