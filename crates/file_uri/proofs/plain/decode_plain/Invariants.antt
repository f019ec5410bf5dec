use Rattle.std.proofs.Common.{◌≡◌, ◌++◌, length}
use Rattle.percent_encoding.specs.Percent.{percent_decode}
use Rattle.file_uri.specs.PlainUri.{is_plain_text}
use Rattle.file_uri.proofs.plain.decode_plain.Given as goal

-- What is read so far, with what the rest stands for, is what the text stands for.
abbrev pub invariant-loop-byte : goal.invariant-loop-byte
invariant-loop-byte l =
    (l.bytes.items ++ percent_decode l.rest ≡ percent_decode l.text) × (is_plain_text l.rest ≡ is_plain_text l.text)

abbrev pub decreases-loop-byte : goal.decreases-loop-byte
decreases-loop-byte l = length l.rest
