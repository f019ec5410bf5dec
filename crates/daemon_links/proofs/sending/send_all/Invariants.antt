use Rattle.std.proofs.Common.{◌≡◌, ◌++◌, map, drop}
use Rattle.daemon_core.specs.Outputs.{send}
use Rattle.daemon_core.specs.Sending.{EachCanBeSent}
use Rattle.daemon_links.proofs.sending.send_all.Given as goal

abbrev pub invariant-loop-message : goal.invariant-loop-message
invariant-loop-message l =
    (l.sent.items ++ map (send l.n) (drop l.message-index l.messages) ≡ l.fn.sent.items ++ map (send l.n) l.messages)
    × (EachCanBeSent (drop l.message-index l.messages) → EachCanBeSent l.messages)
