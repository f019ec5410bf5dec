use Rattle.std.proofs.Common.{◌≡◌, ◌++◌, take}
use Rattle.std.specs.List.{flat_map, AllByRecursion}
use Rattle.journal_format.specs.Encoding.{record_field}
use Rattle.journal_format.proofs.writing.put_records.Given as goal

-- the records so far are written
abbrev pub invariant-loop-entry : goal.invariant-loop-entry
invariant-loop-entry l =
    (l.out.items ≡ l.fn.out.items ++ flat_map record_field.spelled (take l.entry-index l.entries)) × AllByRecursion record_field.Fits (take l.entry-index l.entries)
