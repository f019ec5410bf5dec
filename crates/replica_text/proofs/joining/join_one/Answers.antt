use Rattle.std.proofs.Common.{IfOk, subst, sym}
use Rattle.tt_base.specs.declared.text_ops.TextOp.{TextOp}
use Rattle.replica_text.specs.Ops.{after_op, known_after}
use Rattle.replica_text.specs.Joined.{Joins}
use Rattle.replica_text.proofs.joining.join_one.Goals as goal

pub returns-in-Insert : goal.returns-in-Insert
returns-in-Insert g c =
    subst (λ (op : TextOp). IfOk c.join_insert.result (Joins (after_op op) (known_after op) (g.E.Elements.elements c.args.elements.now) (g.E.Elements.elements c.join_insert.new.elements)))
    (sym c.in-Insert.is) c.join_insert.ensures

pub returns-in-Delete : goal.returns-in-Delete
returns-in-Delete g c =
    subst (λ (op : TextOp). IfOk c.join_delete.result (Joins (after_op op) (known_after op) (g.E.Elements.elements c.args.elements.now) (g.E.Elements.elements c.join_delete.new.elements)))
    (sym c.in-Delete.is) c.join_delete.ensures
