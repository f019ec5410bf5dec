use Rattle.std.proofs.Common.{◌≡◌, ◌+◌, IfOk, subst, arith}
use Rattle.delta.specs.Cells.{Cells, base_length, normal}
use Rattle.replica_text.proofs.GapLemmas.{gap_deleted, base_kept, base_deleted}
use Rattle.replica_text.proofs.gap_deltas.deleted.Goals as goal

pub delete-requires : goal.delete-requires
delete-requires c =
    let length : base_length c.keep.new.self ≡ c.args.before =
    base_kept c.in_ok-built.built c.keep.new.self c.args.before c.in_ok-built.ensures c.in_ok-keep.ensures.ok in
    omega (arith, length)

pub keep-requires-2 : goal.keep-requires-2
keep-requires-2 c =
    let length : base_length c.delete.new.self ≡ c.args.before + 1 =
    base_deleted c.in_ok-built.built c.keep.new.self c.delete.new.self c.args.before c.in_ok-built.ensures c.in_ok-keep.ensures.ok c.in_ok-delete.ensures.ok in
    omega (arith, length)

pub returns : goal.returns
returns c =
    subst (λ (d : Cells). IfOk c.finish.result (λ (delta : Cells). delta ≡ normal d))
    (gap_deleted c.in_ok-built.built c.keep.new.self c.delete.new.self c.keep-2.new.self c.args.before c.args.behind
    c.in_ok-built.ensures c.in_ok-keep.ensures.ok c.in_ok-delete.ensures.ok c.in_ok-keep-2.ensures.ok)
    c.finish.ensures
