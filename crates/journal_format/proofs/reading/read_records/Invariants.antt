use Rattle.std.proofs.Common.{◌≡◌, ◌+◌, ◌-◌, ◌≤◌, length}
use Rattle.byte_format.specs.Format.{IsBytes}
use Rattle.byte_format.specs.Lists.{up_to, to_end}
use Rattle.journal_format.specs.Encoding.{record_field}
use Rattle.journal_format.proofs.Loops.{behind_all}
use Rattle.journal_format.proofs.reading.read_records.Given as goal

-- the records read, in front of those still to be read, are all; each has a byte at least
abbrev pub invariant-loop-rest : goal.invariant-loop-rest
invariant-loop-rest l =
    (behind_all l.records.items (up_to record_field (length l.bytes - length l.records.items) l.rest) ≡ to_end record_field l.bytes)
    × (length l.records.items + length l.rest ≤ length l.bytes) × IsBytes l.rest

abbrev pub decreases-loop-rest : goal.decreases-loop-rest
decreases-loop-rest l = length l.rest
