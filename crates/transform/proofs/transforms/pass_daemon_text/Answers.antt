use Rattle.std.proofs.Common.{arith}
use Rattle.delta.specs.Cells.{base_length}
use Rattle.transform.proofs.WalkLemmas.{daemon_text_fits}
use Rattle.transform.proofs.transforms.pass_daemon_text.Goals as goal

pub keep-requires : goal.keep-requires
keep-requires c =
    let fits = daemon_text_fits c.args.side c.args.text.now (base_length c.args.built.now) c.in-Editor.is c.requires in omega (arith, fits, c.len.ensures)
