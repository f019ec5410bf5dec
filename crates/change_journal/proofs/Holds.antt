-- What an open journal holds, behind one group more.
use Rattle.std.proofs.Common.{ℕ, ◌+◌, ◌^◌, ◌<◌, List, ◌++◌, length, replicate, IsTrue, arith, length-append}
use Rattle.std.proofs.lemmas.List.{length-replicate}
use Rattle.outside.specs.DiskMeaning.{DiskMeaning}
use Rattle.journal_format.specs.declared.records.Record.{Record}
use Rattle.journal_format.specs.Image.{actor_is_first}
use Rattle.change_journal.specs.Journal.{Rests}
use Rattle.change_journal.specs.Held.{IsHeld}
use Rattle.change_journal.proofs.Contents.{gate_inside}

pub held_more : (old new : DiskMeaning) (recorded : List Record) (gates : List ℕ) (gate : ℕ) (added : List Record) (end : ℕ) → IsHeld old recorded gates gate
    → IsTrue (actor_is_first (recorded ++ added)) → Rests new (recorded ++ added) (gates ++ replicate (length added) gate) end → end + 1 < 2 ^ 64
    → IsHeld new (recorded ++ added) (gates ++ replicate (length added) gate) end
held_more old new recorded gates gate added end held actor rests room = record {
  rests = rests;
  gate_of_each =
      omega (arith, held.gate_of_each, length-append gates (replicate (length added) gate), length-append recorded added, length-replicate (length added) gate);
  actor = actor;
  room = room;
}

-- the closed gate is a byte of the disk
pub gate_of_held : (disk : DiskMeaning) (recorded : List Record) (gates : List ℕ) (end : ℕ) → IsHeld disk recorded gates end → disk.told → end < length disk.seen
gate_of_held disk recorded gates end held told = gate_inside disk.seen recorded gates end (held.rests.placed told)
