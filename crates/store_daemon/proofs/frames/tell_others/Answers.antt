use Rattle.std.proofs.Common.{ap}
use Rattle.daemon_links.proofs.TellLemmas.{all_untold, all_unsent, none_read}
use Rattle.store_daemon.specs.Making.{told_of}
use Rattle.store_daemon.proofs.ConnectedLemmas.{all_may_tell}
use Rattle.store_daemon.proofs.frames.tell_others.Goals as goal

pub tell-requires-clause-told : goal.tell-requires-clause-told
tell-requires-clause-told c = all_may_tell c.args.files.now c.in-Some.change.path c.args.others.now c.requires.room c.requires.linked

pub returns-in-None-clause-links : goal.returns-in-None-clause-links
returns-in-None-clause-links c = all_untold (told_of c.args.change.now) (ap told_of c.in-None.is) c.args.others.now

pub returns-in-None-clause-sent : goal.returns-in-None-clause-sent
returns-in-None-clause-sent c =
    all_unsent c.args.base.now (told_of c.args.change.now) c.args.others.now c.args.sent.now.items (ap told_of c.in-None.is)

pub returns-in-None-clause-read : goal.returns-in-None-clause-read
returns-in-None-clause-read c = none_read c.args.base.now (told_of c.args.change.now) (ap told_of c.in-None.is) c.args.others.now
