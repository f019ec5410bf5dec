-- The stream has no other reading.
use Rattle.std.proofs.Common.{sym, subst}
use Rattle.std.proofs.lemmas.Result.{IfOk-weaker}
use Rattle.std.specs.List.{concat}
use Rattle.rpc_frame.specs.Pieces.{EndsWith}
use Rattle.rpc_frame.proofs.OneReading.{one_reading}
use Rattle.rpc_frame.proofs.pieces.read_pieces.Goals as goal

pub returns-clause-only : goal.returns-clause-only
returns-clause-only c =
    IfOk-weaker c.read_each.result _ _ (λ read h. λ bodies end other.
    let same = one_reading c.args.limit (concat c.args.pieces.now) bodies read.bodies end h.end other h.reads in
    (same.0, subst (EndsWith read.fault) (sym same.1) h.ends)) c.read_each.ensures
