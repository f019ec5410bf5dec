use Rattle.std.proofs.Common.{sym}
use Rattle.std.proofs.Common.{arith}
use Rattle.std.proofs.lemmas.List.{take_rest}
use Rattle.file_uri.proofs.ByteLemmas.{BeginsWith-escape, BeginsWith-kept}
use Rattle.file_uri.proofs.plain.split_plain.Goals as goal

pub returns-in_ok-escaped_byte-in-37 : goal.returns-in_ok-escaped_byte-in-37
returns-in_ok-escaped_byte-in-37 c =
    let split = c.in_ok-escaped_byte-in-37.ensures in
    rw (take_rest c.args.text.now 3) (BeginsWith-escape c.args.text.now _ (omega arith) (omega arith) split.0 split.1)

pub returns-in-len1-up : goal.returns-in-len1-up
returns-in-len1-up c =
    rw (take_rest c.args.text.now 1) (BeginsWith-kept c.args.text.now (sym c.if-is_kept.ensures))
