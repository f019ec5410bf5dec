use Rattle.std.proofs.Common.{◌≡◌, sym, ap, ◌∙◌, arith}
use Rattle.std.proofs.lemmas.Result.{on_ok_weaker}
use Rattle.delta.specs.Cells.{joined, deleting}
use Rattle.delta.proofs.ComposingLemmas.{size_ahead-delete, nothing_left, end_deleted}
use Rattle.delta.proofs.composition.compose_end.Goals as goal

pub delete-requires : goal.delete-requires
delete-requires c =
    omega (arith, c.requires.fits, (size_ahead-delete c.args.first.now c.in-Delete.n (sym c.in-Delete.ensures.next) c.in-Delete.ensures.canonical).2)

pub returns-in-Delete : goal.returns-in-Delete
returns-in-Delete c =
    let last = end_deleted c.args.first.now c.in-Delete.n (sym c.in-Delete.ensures.next) c.in-Delete.ensures.canonical c.requires.short in
    on_ok_weaker c.delete.result (λ (built : c.delete.new.self ≡ joined c.args.built.now (deleting c.in-Delete.n)). built ∙ ap (joined c.args.built.now) (sym last)) c.delete.ensures.ok

pub returns-in_default : goal.returns-in_default
returns-in_default c =
    nothing_left c.args.first.now c.next.ensures.canonical c.requires.short (λ n is. c.in_default.not-Delete n (c.next.ensures.next ∙ is)) c.args.built.now
