use Rattle.std.specs.Prelude.{◌≡◌, ℕ, ◌||◌, Bool, true, false, not, nat_lt, List, [], length, Option, Some, None, Result, Ok, Err}
use Rattle.outside.specs.Calls.{counted}
use Rattle.std.proofs.Common.{refl, sym, subst}
use Rattle.outside.specs.DiskCalls.{IsRearmed}
use Rattle.outside.specs.DiskMeaning.{DiskMeaning, IsSound, arming_of}
use Rattle.outside.specs.declared.modes.Mode.{Mode}
use Rattle.outside_mem.specs.declared.mem_disks.Stop.{Stop as RustStop}
use Rattle.outside.specs.Images.{Write, left_by}
use Rattle.outside.specs.Plan.{Stop, Arming, has_come}
use Rattle.outside.specs.declared.disks.DiskFault.{DiskFault}
use Rattle.outside.specs.declared.disks.DiskFault.TheVariants.{Failed, Memory}
use Rattle.outside_mem.specs.Calls.{is_to_fail, faults_with}
use Rattle.outside_mem.specs.DiskHistory.{DiskState, DiskHistory, begun, seen_of, writes_of, with_write, with_sync}
use Rattle.outside_mem.specs.DiskTold.{disk_meaning, disk_is_sound}

-- what contracts see of a disk over memory that may fail: its history, the numbers of the calls that are to fail, how many calls
-- of any kind and faults there were, and its arming
pub record MemDiskView : Type 0 where
  pub history : DiskHistory
  pub failing : List ℕ
  pub tries : ℕ
  pub faults : ℕ
  pub arming : Arming

-- the stop of a plan, by its call and its mode
abbrev pub planned : Option RustStop → Option Stop
planned None = None
planned (Some stop) = Some (record { call = stop.call; mode = stop.mode })

-- no stop is armed, and no call counted
abbrev pub unarmed : Arming
unarmed = record { stop = None; calls = 0 }

abbrev pub mem_disk : MemDiskView → DiskMeaning
mem_disk disk = disk_meaning disk.history disk.arming (nat_lt 0 (length disk.failing)) disk.faults

pub mem_disk_is_sound : (disk : MemDiskView) → IsSound (mem_disk disk)
mem_disk_is_sound disk = disk_is_sound disk.history disk.arming (nat_lt 0 (length disk.failing)) disk.faults

-- the next call fails: when so many calls are counted its stop has come, or it is one of those that are to fail
abbrev pub fails_at : MemDiskView → ℕ → Bool
fails_at disk calls = has_come disk.arming.stop calls || is_to_fail disk.failing disk.tries

-- after a call that is not counted, and after one that is, which leaves this history
abbrev pub tried_once : MemDiskView → Bool → MemDiskView
tried_once disk failed = record disk { tries = counted disk.tries; faults = faults_with failed disk.faults }

abbrev pub counted_once : MemDiskView → Bool → DiskHistory → MemDiskView
counted_once disk failed history = record {
  history = history;
  failing = disk.failing;
  tries = counted disk.tries;
  faults = faults_with failed disk.faults;
  arming = record { stop = disk.arming.stop; calls = counted disk.arming.calls };
}

-- a counted call fails
abbrev pub counted_fails : MemDiskView → Bool
counted_fails disk = fails_at disk (counted disk.arming.calls)

-- after a write that was made or failed
abbrev pub mem_written : MemDiskView → Write → Bool → MemDiskView
mem_written disk write failed = counted_once disk failed (with_write disk.history (record { write = write; made = not failed }))

-- after a sync: one that failed leaves the history as it was
abbrev pub history_synced : DiskHistory → Bool → DiskHistory
history_synced history true = history
history_synced history false = with_sync history

abbrev pub mem_synced : MemDiskView → Bool → MemDiskView
mem_synced disk failed = counted_once disk failed (history_synced disk.history failed)

-- a write fails where its call is to fail, and else is made, unless memory runs out, and then nothing is changed
abbrev pub IsMemWrittenAt : MemDiskView → MemDiskView → Write → Result (Unit {0}) DiskFault → Type 0
IsMemWrittenAt old new write (Ok done) = (counted_fails old ≡ false) × (new ≡ mem_written old write false)
IsMemWrittenAt old new write (Err Failed) = (counted_fails old ≡ true) × (new ≡ mem_written old write true)
IsMemWrittenAt old new write (Err Memory) = new ≡ old

-- the content that a restart leaves: by its mode where a stop is armed, whether it has come or not, and else what a read gives
abbrev pub left_behind : Option Stop → DiskState → List ℕ
left_behind None state = seen_of state
left_behind (Some stop) state = left_by stop.mode state.synced (writes_of state)

-- after a restart the disk begins anew with that content
abbrev pub restarted : MemDiskView → MemDiskView
restarted disk = record disk { history = begun (left_behind disk.arming.stop disk.history.present); arming = unarmed }

-- after an arming: its stop comes at the k-th counted call from here
abbrev pub armed : MemDiskView → ℕ → Mode → MemDiskView
armed disk k mode = record disk { arming = record { stop = Some (record { call = k; mode = mode }); calls = 0 } }

pub told_arming : (disk : MemDiskView) → disk.arming ≡ arming_of (mem_disk disk)
told_arming disk = refl

-- disks that differ in the arming alone tell the same but for their plans and calls
rearmed_so : (old : MemDiskView) (arming : Arming) → IsRearmed (mem_disk old) (mem_disk (record old { arming = arming }))
rearmed_so old arming = record {
  holds = record { told = λ told. told; was_told = λ told. told; seen = refl; synced = refl; writes = refl; moment = refl; since = λ t image. (λ left. left, λ left. left) };
  may_fail = refl;
  faults = refl;
}

pub rearmed : (old new : MemDiskView) → new ≡ record old { arming = new.arming } → IsRearmed (mem_disk old) (mem_disk new)
rearmed old new same = subst (λ disk. IsRearmed (mem_disk old) (mem_disk disk)) (sym same) (rearmed_so old new.arming)
