-- What the calls of a disk do to it (POSIX: fstat, pread, pwrite, fsync).
use Rattle.std.specs.Prelude.{◌≡◌, ◌⊎◌, ◌↔◌, ◌≤◌, ℕ, true, false, List, [], ◌∷◌, ◌++◌, length, take, drop, Result, Ok, Err}
use Rattle.outside.specs.Calls.{counted}
use Rattle.outside.specs.DiskMeaning.{DiskMeaning, MayLeave}
use Rattle.outside.specs.Faults.{Rose}
use Rattle.outside.specs.Images.{Write, IsImage, overwritten}
use Rattle.outside.specs.Plan.{has_come}
use Rattle.outside.specs.declared.disks.Fault.{Fault}
use Rattle.outside.specs.declared.disks.DiskFault.{DiskFault}
use Rattle.outside.specs.declared.disks.DiskFault.TheVariants.{Failed, Memory}

-- Of every call: what it tells it goes on to tell, its clock and its count of faults do not fall, a crash since an
-- earlier moment might have left what it might have left before, or what it may leave now, and the plan stays.
pub record Elapses (old new : DiskMeaning) : Type 0 where
  pub told : old.told → new.told
  pub was_told : new.told → old.told
  pub later : old.moment ≤ new.moment
  pub nothing_else : (t : ℕ) (image : List ℕ) → t ≤ old.moment → new.since t image → old.since t image ⊎ MayLeave new image
  pub keeps : (t : ℕ) (image : List ℕ) → t ≤ old.moment → old.since t image → new.since t image
  pub plan : new.plan ≡ old.plan
  pub faults : old.faults ≤ new.faults

-- content, clock and images are as before
pub record HoldsTheSame (old new : DiskMeaning) : Type 0 where
  pub told : old.told → new.told
  pub was_told : new.told → old.told
  pub seen : new.seen ≡ old.seen
  pub synced : new.synced ≡ old.synced
  pub writes : new.writes ≡ old.writes
  pub moment : new.moment ≡ old.moment
  pub since : (t : ℕ) (image : List ℕ) → old.since t image ↔ new.since t image

-- and no call is counted
pub record IsUnchanged (old new : DiskMeaning) : Type 0 where
  pub holds : HoldsTheSame old new
  pub calls : new.calls ≡ old.calls

-- a call succeeded: no stop has come, and no fault is counted
pub record Succeeded (old new : DiskMeaning) : Type 0 where
  pub goes_on : has_come new.plan.stop new.calls ≡ false
  pub faults : new.faults ≡ old.faults

-- a call failed: the count of faults rose, and where the disk may fail for no other cause its stop has come
pub record HasFailed (old new : DiskMeaning) : Type 0 where
  pub cause : new.plan.may_fail ≡ false → has_come new.plan.stop new.calls ≡ true
  pub faults : Rose old.faults new.faults

-- `len`
pub record MeasuresLength (old new : DiskMeaning) (len : ℕ) : Type 0 where
  pub length : old.told → len ≡ length old.seen
  pub succeeded : Succeeded old new

abbrev pub MeasuresSo : DiskMeaning → DiskMeaning → Result ℕ Fault → Type 0
MeasuresSo old new (Ok len) = MeasuresLength old new len
MeasuresSo old new (Err fault) = HasFailed old new

pub record Measures (old new : DiskMeaning) (answer : Result ℕ Fault) : Type 0 where
  pub elapses : Elapses old new
  pub unchanged : IsUnchanged old new
  pub so : MeasuresSo old new answer

-- `read_at`
pub record ReadsBytes (old new : DiskMeaning) (place : ℕ) (buf : List ℕ) : Type 0 where
  pub bytes : old.told → buf ≡ take (length buf) (drop place old.seen)
  pub succeeded : Succeeded old new

abbrev pub ReadsSo : DiskMeaning → DiskMeaning → ℕ → List ℕ → Result (Unit {0}) Fault → Type 0
ReadsSo old new place buf (Ok done) = ReadsBytes old new place buf
ReadsSo old new place buf (Err fault) = HasFailed old new

pub record Reads (old new : DiskMeaning) (place : ℕ) (buf : List ℕ) (answer : Result (Unit {0}) Fault) : Type 0 where
  pub elapses : Elapses old new
  pub unchanged : IsUnchanged old new
  pub so : ReadsSo old new place buf answer

-- a write was made, or failed: it counts, and stands among the writes since the last sync
pub record AddsWrite (old new : DiskMeaning) (write : Write) : Type 0 where
  pub synced : old.told → new.synced ≡ old.synced
  pub writes : old.told → new.writes ≡ old.writes ++ write ∷ []
  pub calls : old.told → new.calls ≡ counted old.calls

-- `write_at`: a failed write may have changed what a read gives where it was to write and past the old end, and nowhere else
pub record WritesBytes (old new : DiskMeaning) (write : Write) : Type 0 where
  pub seen : old.told → new.seen ≡ overwritten old.seen write
  pub added : AddsWrite old new write
  pub succeeded : Succeeded old new

pub record FailsToWrite (old new : DiskMeaning) (write : Write) : Type 0 where
  pub seen : old.told → IsImage old.seen (write ∷ []) new.seen
  pub added : AddsWrite old new write
  pub failed : HasFailed old new

pub record LacksMemory (old new : DiskMeaning) : Type 0 where
  pub unchanged : IsUnchanged old new
  pub faults : new.faults ≡ old.faults

abbrev pub WritesSo : DiskMeaning → DiskMeaning → Write → Result (Unit {0}) DiskFault → Type 0
WritesSo old new write (Ok done) = WritesBytes old new write
WritesSo old new write (Err Failed) = FailsToWrite old new write
WritesSo old new write (Err Memory) = LacksMemory old new

pub record Writes (old new : DiskMeaning) (write : Write) (answer : Result (Unit {0}) DiskFault) : Type 0 where
  pub elapses : Elapses old new
  pub so : WritesSo old new write answer

-- `sync`: from now on a crash leaves what a read gives
pub record SyncsBytes (old new : DiskMeaning) : Type 0 where
  pub synced : old.told → new.synced ≡ old.seen
  pub writes : old.told → new.writes ≡ []
  pub succeeded : Succeeded old new

pub record FailsToSync (old new : DiskMeaning) : Type 0 where
  pub synced : old.told → new.synced ≡ old.synced
  pub writes : old.told → new.writes ≡ old.writes
  pub failed : HasFailed old new

abbrev pub SyncsSo : DiskMeaning → DiskMeaning → Result (Unit {0}) Fault → Type 0
SyncsSo old new (Ok done) = SyncsBytes old new
SyncsSo old new (Err fault) = FailsToSync old new

pub record Syncs (old new : DiskMeaning) (answer : Result (Unit {0}) Fault) : Type 0 where
  pub elapses : Elapses old new
  pub seen : old.told → new.seen ≡ old.seen
  pub calls : old.told → new.calls ≡ counted old.calls
  pub so : SyncsSo old new answer

-- arming: another stop and a count that begins anew; everything else is as before
pub record IsRearmed (old new : DiskMeaning) : Type 0 where
  pub holds : HoldsTheSame old new
  pub may_fail : new.plan.may_fail ≡ old.plan.may_fail
  pub faults : new.faults ≡ old.faults
