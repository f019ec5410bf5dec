use Rattle.delta.specs.Cells.{base_length}
use Rattle.transform.proofs.WalkLemmas.{covers_fit, covers_none}
use Rattle.transform.proofs.transforms.cover_if.Goals as goal

pub keep-requires : goal.keep-requires
keep-requires c =
    covers_fit c.args.there c.args.kept c.args.count (base_length c.args.built.now) c.if-not-there.false c.requires

pub delete-requires : goal.delete-requires
delete-requires c =
    covers_fit c.args.there c.args.kept c.args.count (base_length c.args.built.now) c.if-not-there.false c.requires

pub returns-then-not-there : goal.returns-then-not-there
returns-then-not-there c =
    covers_none c.args.there c.args.kept c.args.count c.args.built.now c.if-not-there.true
