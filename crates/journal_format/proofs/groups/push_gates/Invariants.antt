use Rattle.std.proofs.Common.{◌≡◌, ◌++◌, replicate}
use Rattle.journal_format.proofs.groups.push_gates.Given as goal

-- the gate so many times
abbrev pub invariant-loop : goal.invariant-loop
invariant-loop l = l.gates.items ≡ l.fn.gates.items ++ replicate l.counter l.gate
