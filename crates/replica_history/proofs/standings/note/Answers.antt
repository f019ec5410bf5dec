use Rattle.std.proofs.Common.{sym}
use Rattle.replica_history.specs.Texts.{kept_at}
use Rattle.replica_history.proofs.KeptLemmas.{noted_already, noted_now}
use Rattle.replica_history.proofs.standings.note.Goals as goal

pub returns-then-contains_key : goal.returns-then-contains_key
returns-then-contains_key c =
    noted_already c.args.texts.now c.args.directory.now c.args.standings.now.entries (kept_at c.args.texts.now c.args.object.now) c.in-Some.path.now
    c.in-Some.ensures (sym c.if-contains_key.ensures) c.requires

pub returns : goal.returns
returns c =
    noted_now c.args.texts.now c.args.directory.now c.args.standings.now.entries (kept_at c.args.texts.now c.args.object.now) c.in-Some.path.now
    c.insert.new.self.entries c.in_ok-key.key c.stands_at.result c.in-Some.ensures c.in_ok-key.ensures c.stands_at.ensures c.in_ok-insert.ensures.updates.0
