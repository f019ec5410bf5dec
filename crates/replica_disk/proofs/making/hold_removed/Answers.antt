use Rattle.replica_disk.proofs.Makes.{removed_is_own}
use Rattle.replica_disk.proofs.making.hold_removed.Goals as goal

pub hold_own-requires-clause-own : goal.hold_own-requires-clause-own
hold_own-requires-clause-own c =
    removed_is_own c.args.replica.now.history (c.is_live-grown.ensures.grown c.requires) c.args.actor c.args.path.now c.in_ok-change.change
    c.in_ok-change.ensures
