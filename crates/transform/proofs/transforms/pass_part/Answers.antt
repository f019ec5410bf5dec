use Rattle.std.proofs.Common.{sym, arith}
use Rattle.delta.specs.Cells.{base_length}
use Rattle.delta.specs.Steps.{cells_of}
use Rattle.transform.proofs.WalkLemmas.{part_kept_fits, part_deleted_fits, part_text_fits, part_kept, part_deleted, part_text}
use Rattle.transform.proofs.transforms.pass_part.Goals as goal

pub pass_characters-requires : goal.pass_characters-requires
pass_characters-requires c =
    part_kept_fits c.args.side c.args.kept c.in-Keep.n c.min-taken.result c.args.most (base_length c.args.built.now) c.args.editor.now (sym c.in-Keep.ensures.next)
    (omega (arith, c.min-taken.ensures)) (omega (arith, c.min-taken.ensures)) c.requires.fits

pub pass_editor_text-requires : goal.pass_editor_text-requires
pass_editor_text-requires c =
    part_text_fits c.args.side c.args.kept c.in-Insert.n c.args.most (base_length c.args.built.now) c.in_ok-text-in-Insert.text c.args.editor.now (sym c.in-Insert.ensures.next) c.in_ok-text-in-Insert.ensures c.requires.fits

pub pass_characters-requires-in-Delete : goal.pass_characters-requires-in-Delete
pass_characters-requires-in-Delete c =
    part_deleted_fits c.args.side c.args.kept c.min-taken-in-Delete.result c.args.most (base_length c.args.built.now) (cells_of c.args.editor.now)
    (omega (arith, c.min-taken-in-Delete.ensures)) c.requires.fits

pub returns-in_ok-pass_characters-in-Keep-clause-passes :
    goal.returns-in_ok-pass_characters-in-Keep-clause-passes
returns-in_ok-pass_characters-in-Keep-clause-passes c =
    part_kept c.args.side c.args.kept c.in-Keep.n c.min-taken.result c.args.most c.args.editor.now c.advance.new.self c.args.built.now _ (sym c.in-Keep.ensures.next)
    (omega (arith, c.min-taken.ensures)) c.in_ok-pass_characters-in-Keep.ensures c.advance.ensures.cells

pub returns-in_ok-pass_editor_text-in-Insert-clause-passes :
    goal.returns-in_ok-pass_editor_text-in-Insert-clause-passes
returns-in_ok-pass_editor_text-in-Insert-clause-passes c =
    part_text c.args.side c.args.kept c.in-Insert.n c.args.most c.in_ok-text-in-Insert.text c.args.editor.now c.advance-in-Insert.new.self c.args.built.now _ (sym c.in-Insert.ensures.next)
    c.requires.some c.in_ok-text-in-Insert.ensures c.in_ok-pass_editor_text-in-Insert.ensures c.advance-in-Insert.ensures.cells

pub returns-in_ok-pass_characters-in-Delete-clause-passes :
    goal.returns-in_ok-pass_characters-in-Delete-clause-passes
returns-in_ok-pass_characters-in-Delete-clause-passes c =
    part_deleted c.args.side c.args.kept c.in-Delete.n c.min-taken-in-Delete.result c.args.most c.args.editor.now c.advance-in-Delete.new.self c.args.built.now _
    (sym c.in-Delete.ensures.next) (omega (arith, c.min-taken-in-Delete.ensures)) c.in_ok-pass_characters-in-Delete.ensures c.advance-in-Delete.ensures.cells
