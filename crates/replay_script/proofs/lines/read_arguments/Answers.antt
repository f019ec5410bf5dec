-- The words whose moves have a path, a text or bytes are read by their rows; the others take no memory.
use Rattle.std.proofs.Common.{refl}
use Rattle.replay_script.specs.Lines.{asked_with}
use Rattle.replay_script.specs.declared.words.Word.TheVariants.{Load, Editor, Typed, File, Outside, Report, Disk, Hear}
use Rattle.replay_script.proofs.Answering.{kept_read, plain_read, plain_word}
use Rattle.replay_script.proofs.lines.read_arguments.Goals as goal

pub returns-in-Load : goal.returns-in-Load
returns-in-Load c = rw c.in-Load.is (kept_read Load c.args.text.now c.read_load.result refl c.read_load.ensures)

pub returns-in-Editor : goal.returns-in-Editor
returns-in-Editor c = rw c.in-Editor.is (kept_read Editor c.args.text.now c.read_editor.result refl c.read_editor.ensures)

pub returns-in-Typed : goal.returns-in-Typed
returns-in-Typed c = rw c.in-Typed.is (kept_read Typed c.args.text.now c.read_typed.result refl c.read_typed.ensures)

pub returns-in-File : goal.returns-in-File
returns-in-File c = rw c.in-File.is (kept_read File c.args.text.now c.read_file.result refl c.read_file.ensures)

pub returns-in-Outside : goal.returns-in-Outside
returns-in-Outside c = rw c.in-Outside.is (kept_read Outside c.args.text.now c.read_outside.result refl c.read_outside.ensures)

pub returns-in-Report : goal.returns-in-Report
returns-in-Report c = rw c.in-Report.is (kept_read Report c.args.text.now c.read_report.result refl c.read_report.ensures)

pub returns-in-Disk : goal.returns-in-Disk
returns-in-Disk c = rw c.in-Disk.is (kept_read Disk c.args.text.now c.read_disk.result refl c.read_disk.ensures)

pub returns-in-Hear : goal.returns-in-Hear
returns-in-Hear c = rw c.in-Hear.is (kept_read Hear c.args.text.now c.read_hear.result refl c.read_hear.ensures)

pub returns-in_default : goal.returns-in_default
returns-in_default c =
    let d = c.in_default in
    plain_read c.read_plain.result (asked_with c.args.text.now c.args.word) c.ok_or.result c.ok_or.ensures.value
    (c.read_plain.ensures (plain_word c.args.word d.not-Load d.not-Editor d.not-Typed d.not-File d.not-Outside d.not-Report d.not-Disk d.not-Hear))
