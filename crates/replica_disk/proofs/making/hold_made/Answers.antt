use Rattle.replica_disk.proofs.Makes.{made_is_own}
use Rattle.replica_disk.proofs.making.hold_made.Goals as goal

pub hold_own-requires-clause-own : goal.hold_own-requires-clause-own
hold_own-requires-clause-own c =
    made_is_own c.args.replica.now.history (c.is_live-grown.ensures.grown c.requires.live) c.args.actor c.args.path.now c.args.d.now c.in_ok-change.change
    c.in_ok-change.ensures
