use Rattle.std.proofs.Common.{◌≡◌, ◌+◌, ◌-◌, ◌^◌, ◌≤◌, ◌++◌, take, drop}
use Rattle.replica_text.specs.Made.{visible_ids, deletion, deletions}
use Rattle.replica_text.specs.Making.{DeletionsFit}
use Rattle.replica_text.proofs.making.push_deletions.Given as goal

-- what is written, and then the deletion that is open and goes on over the rest, is the whole
abbrev pub invariant-loop-place : goal.invariant-loop-place
invariant-loop-place g l = record {
  whole : l.ops.items ++ deletion l.first l.count (deletions (take (l.start + l.size - l.place) (drop l.place (visible_ids (g.E.Elements.elements l.elements)))))
      ≡ l.fn.ops.items ++ deletions (take l.size (drop l.start (visible_ids (g.E.Elements.elements l.elements))));
  fits : l.first.index + l.count ≤ 2 ^ 64;
  counted : l.start + l.count ≤ l.place;
  fit : DeletionsFit l.fn.ops.items → DeletionsFit l.ops.items;
}
