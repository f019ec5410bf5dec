-- How the code keeps the history of a disk: what it began with, and its writes, each with whether a sync came right before it.
use Rattle.std.specs.Prelude.{◌≡◌, ◌≤◌, ℕ, Bool, List, length, drop, map, fold, if◌then◌else◌}
use Rattle.outside.specs.Images.{Write}
use Rattle.outside_mem.specs.DiskHistory.{Tried, DiskHistory, begun, with_write, with_sync}
use Rattle.outside_mem.specs.declared.histories.Entry.{Entry}

abbrev pub write_of : Entry → Write
write_of entry = record { place = entry.place; bytes = entry.bytes }

abbrev pub tried_of : Entry → Tried
tried_of entry = record { write = write_of entry; made = entry.made }

abbrev pub with_entry : DiskHistory → Entry → DiskHistory
with_entry history entry = with_write (if entry.behind_sync then with_sync history else history) (tried_of entry)

abbrev pub history_of : List ℕ → List Entry → DiskHistory
history_of began entries = fold with_entry (begun began) entries

abbrev pub replayed : List ℕ → List Entry → Bool → DiskHistory
replayed began entries unsynced = if unsynced then history_of began entries else with_sync (history_of began entries)

-- the entries leave this content at the last sync, and those from `begin` on came after it
pub record HasReplayed (began : List ℕ) (entries : List Entry) (content : List ℕ) (begin : ℕ) : Type 0 where
  pub within : begin ≤ length entries
  pub state : (history_of began entries).present ≡ record { synced = content; tried = map tried_of (drop begin entries) }
