use Rattle.std.proofs.Common.{◌≡◌, ◌+◌, ◌-◌, ◌≤◌, ◌++◌, length, take, drop, vec_len, vec_capacity}
use Rattle.paged.proofs.runs.Runs.copy_to.Given as goal

-- what was copied, and what is left
abbrev pub invariant-loop-left : goal.invariant-loop-left
invariant-loop-left g l = record {
  copied : l.items.items ≡ l.initial.items.items ++ take (l.count - l.left) l.fn.self;
  rest : l.self ≡ drop (l.count - l.left) l.fn.self;
  within : l.left ≤ length l.self;
  most : l.left ≤ l.count;
  room : vec_len l.items + l.left ≤ vec_capacity l.items;
}

abbrev pub decreases-loop-left : goal.decreases-loop-left
decreases-loop-left g l = l.left
