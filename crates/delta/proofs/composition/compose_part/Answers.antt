use Rattle.std.proofs.Common.{sym, arith}
use Rattle.delta.proofs.ComposingLemmas.{keep_ahead, size_ahead-delete, part_kept, part_inserted, part_deleted}
use Rattle.delta.proofs.composition.compose_part.Goals as goal

pub cover-requires : goal.cover-requires
cover-requires c =
    omega (arith, c.requires.fits, c.min-taken.ensures, keep_ahead c.args.first.now c.in-Keep.n (sym c.in-Keep.ensures.next))

pub delete-requires : goal.delete-requires
delete-requires c =
    omega (arith, c.requires.fits, (size_ahead-delete c.args.first.now c.in-Delete.n (sym c.in-Delete.ensures.next) c.in-Delete.ensures.canonical).2)

pub returns-in_ok-cover-in-Keep-clause-composes :
    goal.returns-in_ok-cover-in-Keep-clause-composes
returns-in_ok-cover-in-Keep-clause-composes c =
    part_kept c.args.kept c.in-Keep.n c.min-taken.result c.args.first.now c.advance.new.self c.args.built.now _ (sym c.in-Keep.ensures.next) c.in_ok-cover-in-Keep.ensures c.advance.ensures.cells

pub returns-in_ok-insert_kept-in-Insert-clause-composes :
    goal.returns-in_ok-insert_kept-in-Insert-clause-composes
returns-in_ok-insert_kept-in-Insert-clause-composes c =
    part_inserted c.args.kept c.in-Insert.n c.min-taken-in-Insert.result c.in_ok-text-in-Insert.text c.args.first.now c.advance-in-Insert.new.self c.args.built.now _
    (sym c.in-Insert.ensures.next) (omega (arith, c.min-taken-in-Insert.ensures)) c.in_ok-text-in-Insert.ensures c.in_ok-insert_kept-in-Insert.ensures c.advance-in-Insert.ensures.cells

pub returns-in_ok-delete-in-Delete-clause-composes :
    goal.returns-in_ok-delete-in-Delete-clause-composes
returns-in_ok-delete-in-Delete-clause-composes c =
    part_deleted c.args.kept c.in-Delete.n c.args.first.now c.advance-in-Delete.new.self c.args.built.now _ (sym c.in-Delete.ensures.next) c.in_ok-delete-in-Delete.ensures.ok
    c.advance-in-Delete.ensures.cells
