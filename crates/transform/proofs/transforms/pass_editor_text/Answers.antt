use Rattle.std.proofs.Common.{arith}
use Rattle.delta.specs.Cells.{base_length}
use Rattle.transform.proofs.WalkLemmas.{editor_text_fits}
use Rattle.transform.proofs.transforms.pass_editor_text.Goals as goal

pub keep-requires : goal.keep-requires
keep-requires c =
    let fits = editor_text_fits c.args.side c.args.text (base_length c.args.built.now) c.in-Daemon.is c.requires in omega (arith, fits, c.len.ensures)
