use Rattle.replica_disk.proofs.Makes.{is_short}
use Rattle.replica_disk.proofs.making.too_long.Goals as goal

pub returns-then-count-le-LONGEST_TEXT : goal.returns-then-count-le-LONGEST_TEXT
returns-then-count-le-LONGEST_TEXT c =
    is_short c.args.replica.now.history c.args.path.now c.args.d.now c.result_length-count.result c.requires.base c.result_length-count.ensures
    c.if-count-le-LONGEST_TEXT.true
