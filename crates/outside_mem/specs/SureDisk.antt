use Rattle.std.specs.Prelude.{◌≡◌, ℕ, true, false, Result, Ok, Err, None}
use Rattle.outside.specs.Calls.{counted}
use Rattle.outside.specs.DiskMeaning.{DiskMeaning, IsSound}
use Rattle.outside.specs.Images.{Write}
use Rattle.outside.specs.declared.disks.DiskFault.{DiskFault}
use Rattle.outside.specs.declared.disks.DiskFault.TheVariants.{Failed, Memory}
use Rattle.outside_mem.specs.DiskHistory.{DiskHistory, with_write, with_sync}
use Rattle.outside_mem.specs.DiskTold.{disk_meaning, disk_is_sound}

-- what contracts see of a disk over memory that never fails: its history, and the calls counted since it was made
pub record SureDiskView : Type 0 where
  pub history : DiskHistory
  pub calls : ℕ

abbrev pub sure_disk : SureDiskView → DiskMeaning
sure_disk disk = disk_meaning disk.history (record { stop = None; calls = disk.calls }) false 0

pub sure_disk_is_sound : (disk : SureDiskView) → IsSound (sure_disk disk)
sure_disk_is_sound disk = disk_is_sound disk.history (record { stop = None; calls = disk.calls }) false 0

-- after a write, after a sync
abbrev pub sure_written : SureDiskView → Write → SureDiskView
sure_written disk write = record { history = with_write disk.history (record { write = write; made = true }); calls = counted disk.calls }

abbrev pub sure_synced : SureDiskView → SureDiskView
sure_synced disk = record { history = with_sync disk.history; calls = counted disk.calls }

-- a write is made, unless memory runs out, and then nothing is changed
abbrev pub IsSureWrite : SureDiskView → SureDiskView → Write → Result (Unit {0}) DiskFault → Type 0
IsSureWrite old new write (Ok done) = new ≡ sure_written old write
IsSureWrite old new write (Err Failed) = ⊥
IsSureWrite old new write (Err Memory) = new ≡ old
