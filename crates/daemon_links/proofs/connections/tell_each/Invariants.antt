use Rattle.daemon_links.proofs.TellLemmas.{Tells}
use Rattle.daemon_links.proofs.connections.tell_each.Given as goal

abbrev pub invariant-loop-number : goal.invariant-loop-number
invariant-loop-number l =
    (goal.iterator-loop-number).can_next l.number-iterator ×
    (goal.iterator-loop-number).is_finite l.number-iterator ×
    Tells l.base l.change l.text l.fn.connections.entries l.told.entries l.number-iterator l.fn.sent.items l.sent.items
