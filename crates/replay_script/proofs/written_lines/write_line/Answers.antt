-- Each move by its row.
use Rattle.std.proofs.Common.{◌≡◌, IfOk, string_bytes, sym, subst}
use Rattle.replay_script.specs.Grammar.{line_of}
use Rattle.replay_script.specs.declared.moves.Move.{Move}
use Rattle.replay_script.proofs.written_lines.write_line.Goals as goal

pub returns-in-Daemon : goal.returns-in-Daemon
returns-in-Daemon c = subst (λ (m : Move). IfOk c.with_number.result (λ line. string_bytes line ≡ line_of m)) (sym c.in-Daemon.is) c.with_number.ensures

pub returns-in-Load : goal.returns-in-Load
returns-in-Load c = subst (λ (m : Move). IfOk c.load_line.result (λ line. string_bytes line ≡ line_of m)) (sym c.in-Load.is) c.load_line.ensures

pub returns-in-Editor : goal.returns-in-Editor
returns-in-Editor c = subst (λ (m : Move). IfOk c.editor_line.result (λ line. string_bytes line ≡ line_of m)) (sym c.in-Editor.is) c.editor_line.ensures

pub returns-in-Typed : goal.returns-in-Typed
returns-in-Typed c = subst (λ (m : Move). IfOk c.typed_line.result (λ line. string_bytes line ≡ line_of m)) (sym c.in-Typed.is) c.typed_line.ensures

pub returns-in-Up : goal.returns-in-Up
returns-in-Up c = subst (λ (m : Move). IfOk c.with_number-in-Up.result (λ line. string_bytes line ≡ line_of m)) (sym c.in-Up.is) c.with_number-in-Up.ensures

pub returns-in-Down : goal.returns-in-Down
returns-in-Down c = subst (λ (m : Move). IfOk c.with_number-in-Down.result (λ line. string_bytes line ≡ line_of m)) (sym c.in-Down.is) c.with_number-in-Down.ensures

pub returns-in-Settle : goal.returns-in-Settle
returns-in-Settle c = subst (λ (m : Move). IfOk c.with_number-in-Settle.result (λ line. string_bytes line ≡ line_of m)) (sym c.in-Settle.is) c.with_number-in-Settle.ensures

pub returns-in-Close : goal.returns-in-Close
returns-in-Close c = subst (λ (m : Move). IfOk c.with_number-in-Close.result (λ line. string_bytes line ≡ line_of m)) (sym c.in-Close.is) c.with_number-in-Close.ensures

pub returns-in-Open : goal.returns-in-Open
returns-in-Open c = subst (λ (m : Move). IfOk c.with_number-in-Open.result (λ line. string_bytes line ≡ line_of m)) (sym c.in-Open.is) c.with_number-in-Open.ensures

pub returns-in-Cut : goal.returns-in-Cut
returns-in-Cut c = subst (λ (m : Move). IfOk c.with_number-in-Cut.result (λ line. string_bytes line ≡ line_of m)) (sym c.in-Cut.is) c.with_number-in-Cut.ensures

pub returns-in-Show : goal.returns-in-Show
returns-in-Show c = subst (λ (m : Move). IfOk c.with_number-in-Show.result (λ line. string_bytes line ≡ line_of m)) (sym c.in-Show.is) c.with_number-in-Show.ensures

pub returns-in-File : goal.returns-in-File
returns-in-File c = subst (λ (m : Move). IfOk c.with_path.result (λ line. string_bytes line ≡ line_of m)) (sym c.in-File.is) c.with_path.ensures

pub returns-in-Held : goal.returns-in-Held
returns-in-Held c = subst (λ (m : Move). IfOk c.with_number-in-Held.result (λ line. string_bytes line ≡ line_of m)) (sym c.in-Held.is) c.with_number-in-Held.ensures

pub returns-in-Link : goal.returns-in-Link
returns-in-Link c = subst (λ (m : Move). IfOk c.with_two.result (λ line. string_bytes line ≡ line_of m)) (sym c.in-Link.is) c.with_two.ensures

pub returns-in-Pass : goal.returns-in-Pass
returns-in-Pass c = subst (λ (m : Move). IfOk c.with_three.result (λ line. string_bytes line ≡ line_of m)) (sym c.in-Pass.is) c.with_three.ensures

pub returns-in-Copy : goal.returns-in-Copy
returns-in-Copy c = subst (λ (m : Move). IfOk c.with_three-in-Copy.result (λ line. string_bytes line ≡ line_of m)) (sym c.in-Copy.is) c.with_three-in-Copy.ensures

pub returns-in-Sync : goal.returns-in-Sync
returns-in-Sync c = subst (λ (m : Move). IfOk c.with_three-in-Sync.result (λ line. string_bytes line ≡ line_of m)) (sym c.in-Sync.is) c.with_three-in-Sync.ensures

pub returns-in-Unlink : goal.returns-in-Unlink
returns-in-Unlink c = subst (λ (m : Move). IfOk c.with_two-in-Unlink.result (λ line. string_bytes line ≡ line_of m)) (sym c.in-Unlink.is) c.with_two-in-Unlink.ensures

pub returns-in-Outside : goal.returns-in-Outside
returns-in-Outside c = subst (λ (m : Move). IfOk c.outside_line.result (λ line. string_bytes line ≡ line_of m)) (sym c.in-Outside.is) c.outside_line.ensures

pub returns-in-Sweep : goal.returns-in-Sweep
returns-in-Sweep c = subst (λ (m : Move). IfOk c.with_number-in-Sweep.result (λ line. string_bytes line ≡ line_of m)) (sym c.in-Sweep.is) c.with_number-in-Sweep.ensures

pub returns-in-Report : goal.returns-in-Report
returns-in-Report c = subst (λ (m : Move). IfOk c.report_line.result (λ line. string_bytes line ≡ line_of m)) (sym c.in-Report.is) c.report_line.ensures

pub returns-in-Disk : goal.returns-in-Disk
returns-in-Disk c = subst (λ (m : Move). IfOk c.with_path-in-Disk.result (λ line. string_bytes line ≡ line_of m)) (sym c.in-Disk.is) c.with_path-in-Disk.ensures

pub returns-in-Crash : goal.returns-in-Crash
returns-in-Crash c = subst (λ (m : Move). IfOk c.with_number-in-Crash.result (λ line. string_bytes line ≡ line_of m)) (sym c.in-Crash.is) c.with_number-in-Crash.ensures

pub returns-in-Restart : goal.returns-in-Restart
returns-in-Restart c = subst (λ (m : Move). IfOk c.with_number-in-Restart.result (λ line. string_bytes line ≡ line_of m)) (sym c.in-Restart.is) c.with_number-in-Restart.ensures

pub returns-in-Stop : goal.returns-in-Stop
returns-in-Stop c = subst (λ (m : Move). IfOk c.stop_line.result (λ line. string_bytes line ≡ line_of m)) (sym c.in-Stop.is) c.stop_line.ensures

pub returns-in-BeginEditor : goal.returns-in-BeginEditor
returns-in-BeginEditor c = subst (λ (m : Move). IfOk c.begin_line.result (λ line. string_bytes line ≡ line_of m)) (sym c.in-BeginEditor.is) c.begin_line.ensures

pub returns-in-BeginPeer : goal.returns-in-BeginPeer
returns-in-BeginPeer c = subst (λ (m : Move). IfOk c.begin_line-in-BeginPeer.result (λ line. string_bytes line ≡ line_of m)) (sym c.in-BeginPeer.is) c.begin_line-in-BeginPeer.ensures

pub returns-in-Hear : goal.returns-in-Hear
returns-in-Hear c = subst (λ (m : Move). IfOk c.hear_line.result (λ line. string_bytes line ≡ line_of m)) (sym c.in-Hear.is) c.hear_line.ensures

pub returns-in-End : goal.returns-in-End
returns-in-End c = subst (λ (m : Move). IfOk c.with_two-in-End.result (λ line. string_bytes line ≡ line_of m)) (sym c.in-End.is) c.with_two-in-End.ensures
