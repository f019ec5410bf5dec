use Rattle.std.proofs.Common.{◌≡◌, IfOk, subst, arith}
use Rattle.delta.specs.Cells.{Cells, base_length, normal}
use Rattle.replica_text.proofs.GapLemmas.{gap_inserted, base_inserted}
use Rattle.replica_text.proofs.gap_deltas.inserted.Goals as goal

pub keep-requires-2 : goal.keep-requires-2
keep-requires-2 c =
    let length : base_length c.insert.new.self ≡ c.args.before =
    base_inserted c.in_ok-built.built c.keep.new.self c.insert.new.self c.args.before c.args.text.now c.in_ok-built.ensures c.in_ok-keep.ensures.ok c.in_ok-insert.ensures.ok in
    omega (arith, length)

pub returns : goal.returns
returns c =
    subst (λ (d : Cells). IfOk c.finish.result (λ (delta : Cells). delta ≡ normal d))
    (gap_inserted c.in_ok-built.built c.keep.new.self c.insert.new.self c.keep-2.new.self c.args.before c.args.behind c.args.text.now
    c.in_ok-built.ensures c.in_ok-keep.ensures.ok c.in_ok-insert.ensures.ok c.in_ok-keep-2.ensures.ok)
    c.finish.ensures
