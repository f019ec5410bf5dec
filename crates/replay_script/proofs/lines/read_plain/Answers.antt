-- Each word by its row.
use Rattle.std.proofs.Common.{refl, ◌∙◌}
use Rattle.replay_script.proofs.lines.read_plain.Goals as goal

pub returns-in_err-read_number-in-Daemon : goal.returns-in_err-read_number-in-Daemon
returns-in_err-read_number-in-Daemon c = λ _. c.from_residual.ensures ∙ rw (c.in-Daemon.is, ← c.in_err-read_number-in-Daemon.ensures) refl

pub returns-in_ok-read_number-in-Daemon : goal.returns-in_ok-read_number-in-Daemon
returns-in_ok-read_number-in-Daemon c = λ _. rw (c.in-Daemon.is, ← c.in_ok-read_number-in-Daemon.ensures) refl

pub returns-in_err-read_number-in-Up : goal.returns-in_err-read_number-in-Up
returns-in_err-read_number-in-Up c = λ _. c.from_residual-in_err-read_number-in-Up.ensures ∙ rw (c.in-Up.is, ← c.in_err-read_number-in-Up.ensures) refl

pub returns-in_ok-read_number-in-Up : goal.returns-in_ok-read_number-in-Up
returns-in_ok-read_number-in-Up c = λ _. rw (c.in-Up.is, ← c.in_ok-read_number-in-Up.ensures) refl

pub returns-in_err-read_number-in-Down : goal.returns-in_err-read_number-in-Down
returns-in_err-read_number-in-Down c = λ _. c.from_residual-in_err-read_number-in-Down.ensures ∙ rw (c.in-Down.is, ← c.in_err-read_number-in-Down.ensures) refl

pub returns-in_ok-read_number-in-Down : goal.returns-in_ok-read_number-in-Down
returns-in_ok-read_number-in-Down c = λ _. rw (c.in-Down.is, ← c.in_ok-read_number-in-Down.ensures) refl

pub returns-in_err-read_number-in-Settle : goal.returns-in_err-read_number-in-Settle
returns-in_err-read_number-in-Settle c = λ _. c.from_residual-in_err-read_number-in-Settle.ensures ∙ rw (c.in-Settle.is, ← c.in_err-read_number-in-Settle.ensures) refl

pub returns-in_ok-read_number-in-Settle : goal.returns-in_ok-read_number-in-Settle
returns-in_ok-read_number-in-Settle c = λ _. rw (c.in-Settle.is, ← c.in_ok-read_number-in-Settle.ensures) refl

pub returns-in_err-read_number-in-Close : goal.returns-in_err-read_number-in-Close
returns-in_err-read_number-in-Close c = λ _. c.from_residual-in_err-read_number-in-Close.ensures ∙ rw (c.in-Close.is, ← c.in_err-read_number-in-Close.ensures) refl

pub returns-in_ok-read_number-in-Close : goal.returns-in_ok-read_number-in-Close
returns-in_ok-read_number-in-Close c = λ _. rw (c.in-Close.is, ← c.in_ok-read_number-in-Close.ensures) refl

pub returns-in_err-read_number-in-Open : goal.returns-in_err-read_number-in-Open
returns-in_err-read_number-in-Open c = λ _. c.from_residual-in_err-read_number-in-Open.ensures ∙ rw (c.in-Open.is, ← c.in_err-read_number-in-Open.ensures) refl

pub returns-in_ok-read_number-in-Open : goal.returns-in_ok-read_number-in-Open
returns-in_ok-read_number-in-Open c = λ _. rw (c.in-Open.is, ← c.in_ok-read_number-in-Open.ensures) refl

pub returns-in_err-read_number-in-Cut : goal.returns-in_err-read_number-in-Cut
returns-in_err-read_number-in-Cut c = λ _. c.from_residual-in_err-read_number-in-Cut.ensures ∙ rw (c.in-Cut.is, ← c.in_err-read_number-in-Cut.ensures) refl

pub returns-in_ok-read_number-in-Cut : goal.returns-in_ok-read_number-in-Cut
returns-in_ok-read_number-in-Cut c = λ _. rw (c.in-Cut.is, ← c.in_ok-read_number-in-Cut.ensures) refl

pub returns-in_err-read_number-in-Show : goal.returns-in_err-read_number-in-Show
returns-in_err-read_number-in-Show c = λ _. c.from_residual-in_err-read_number-in-Show.ensures ∙ rw (c.in-Show.is, ← c.in_err-read_number-in-Show.ensures) refl

pub returns-in_ok-read_number-in-Show : goal.returns-in_ok-read_number-in-Show
returns-in_ok-read_number-in-Show c = λ _. rw (c.in-Show.is, ← c.in_ok-read_number-in-Show.ensures) refl

pub returns-in_err-read_number-in-Held : goal.returns-in_err-read_number-in-Held
returns-in_err-read_number-in-Held c = λ _. c.from_residual-in_err-read_number-in-Held.ensures ∙ rw (c.in-Held.is, ← c.in_err-read_number-in-Held.ensures) refl

pub returns-in_ok-read_number-in-Held : goal.returns-in_ok-read_number-in-Held
returns-in_ok-read_number-in-Held c = λ _. rw (c.in-Held.is, ← c.in_ok-read_number-in-Held.ensures) refl

pub returns-in_err-read_number-in-Sweep : goal.returns-in_err-read_number-in-Sweep
returns-in_err-read_number-in-Sweep c = λ _. c.from_residual-in_err-read_number-in-Sweep.ensures ∙ rw (c.in-Sweep.is, ← c.in_err-read_number-in-Sweep.ensures) refl

pub returns-in_ok-read_number-in-Sweep : goal.returns-in_ok-read_number-in-Sweep
returns-in_ok-read_number-in-Sweep c = λ _. rw (c.in-Sweep.is, ← c.in_ok-read_number-in-Sweep.ensures) refl

pub returns-in_err-read_number-in-Crash : goal.returns-in_err-read_number-in-Crash
returns-in_err-read_number-in-Crash c = λ _. c.from_residual-in_err-read_number-in-Crash.ensures ∙ rw (c.in-Crash.is, ← c.in_err-read_number-in-Crash.ensures) refl

pub returns-in_ok-read_number-in-Crash : goal.returns-in_ok-read_number-in-Crash
returns-in_ok-read_number-in-Crash c = λ _. rw (c.in-Crash.is, ← c.in_ok-read_number-in-Crash.ensures) refl

pub returns-in_err-read_number-in-Restart : goal.returns-in_err-read_number-in-Restart
returns-in_err-read_number-in-Restart c = λ _. c.from_residual-in_err-read_number-in-Restart.ensures ∙ rw (c.in-Restart.is, ← c.in_err-read_number-in-Restart.ensures) refl

pub returns-in_ok-read_number-in-Restart : goal.returns-in_ok-read_number-in-Restart
returns-in_ok-read_number-in-Restart c = λ _. rw (c.in-Restart.is, ← c.in_ok-read_number-in-Restart.ensures) refl

pub returns-in-Link : goal.returns-in-Link
returns-in-Link c = λ _. rw c.in-Link.is c.read_link.ensures

pub returns-in-Pass : goal.returns-in-Pass
returns-in-Pass c = λ _. rw c.in-Pass.is c.read_pass.ensures

pub returns-in-Copy : goal.returns-in-Copy
returns-in-Copy c = λ _. rw c.in-Copy.is c.read_copy.ensures

pub returns-in-Sync : goal.returns-in-Sync
returns-in-Sync c = λ _. rw c.in-Sync.is c.read_sync.ensures

pub returns-in-Unlink : goal.returns-in-Unlink
returns-in-Unlink c = λ _. rw c.in-Unlink.is c.read_unlink.ensures

pub returns-in-Stop : goal.returns-in-Stop
returns-in-Stop c = λ _. rw c.in-Stop.is c.read_stop.ensures

pub returns-in-Begin : goal.returns-in-Begin
returns-in-Begin c = λ _. rw c.in-Begin.is c.read_begin.ensures

pub returns-in-End : goal.returns-in-End
returns-in-End c = λ _. rw c.in-End.is c.read_end.ensures
