use Rattle.std.proofs.Common.{◌≡◌, ◌+◌, ◌^◌, ◌<◌, ◌++◌, drop}
use Rattle.std.specs.List.{count_by}
use Rattle.delta.specs.Cells.{base_length}
use Rattle.delta.specs.Steps.{cells_of, IsCanonical}
use Rattle.tt_base.specs.Elements.{is_alive}
use Rattle.replica_text.specs.Made.{visible_ids, made_ops, inserted_length}
use Rattle.replica_text.specs.Making.{DeletionsFit}
use Rattle.replica_text.proofs.MadeLemmas.{made_at}
use Rattle.replica_text.proofs.making.ops_of_steps.Given as goal

-- what is made, and then what the rest of the steps is made to, is the whole
abbrev pub invariant-loop-step : goal.invariant-loop-step
invariant-loop-step g l = record {
  whole : l.ops.items ++ made_at (cells_of (drop l.step-index l.steps)) (visible_ids (g.E.Elements.elements l.elements)) l.at.place l.at.next
      ≡ made_ops (g.E.Elements.elements l.elements) (cells_of l.steps) l.fn.next;
  canonical : IsCanonical (drop l.step-index l.steps);
  base : l.at.place + base_length (cells_of (drop l.step-index l.steps)) ≡ count_by is_alive (g.E.Elements.elements l.elements);
  fits : l.at.next.index + inserted_length (cells_of (drop l.step-index l.steps)) < 2 ^ 64;
  fit : DeletionsFit l.ops.items;
}
