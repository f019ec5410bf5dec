use Rattle.std.proofs.Common.{◌≡◌, drop}
use Rattle.tt_base.specs.declared.ids.ElemId.{ElemId}
use Rattle.replica_history.specs.Texts.{kept_at, begun}
use Rattle.replica_history.proofs.texts.Texts.begin_all.Given as goal

abbrev pub invariant-loop-made : goal.invariant-loop-made
invariant-loop-made l = (q : ElemId) → begun (drop l.made-index l.makes) q (kept_at l.self q) ≡ begun l.makes q (kept_at l.fn.self q)
