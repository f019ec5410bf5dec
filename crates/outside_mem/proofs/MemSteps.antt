-- The same for a disk that may fail: why a call fails, and why it does not.
use Rattle.std.proofs.Common.{◌≡◌, ℕ, ◌≤◌, ◌||◌, Bool, true, false, List, [], ◌∷◌, length, Option, Some, None, Ok, Err, refl, sym, subst, arith}
use Rattle.std.specs.Prelude.{nat_lt}
use Rattle.std.proofs.lemmas.Bool.Decides.{nat_tests}
use Rattle.outside.specs.Calls.{counted}
use Rattle.outside.specs.DiskCalls.{Measures, Reads, Writes, Syncs}
use Rattle.outside.specs.Faults.{Rose}
use Rattle.outside.specs.DiskMeaning.{MayLeave}
use Rattle.outside.specs.Images.{Write, IsImage}
use Rattle.outside.specs.Plan.{Stop, has_come}
use Rattle.outside.proofs.MadeImages.{left_is_image}
use Rattle.outside.specs.declared.disks.Fault.{Fault}
use Rattle.outside.specs.declared.disks.DiskFault.TheVariants.{Failed}
use Rattle.outside_mem.specs.Calls.{is_to_fail, faults_with}
use Rattle.outside_mem.specs.DiskHistory.{DiskHistory, begun, seen_of, writes_of}
use Rattle.outside_mem.specs.MemDisk.{MemDiskView, mem_disk, mem_disk_is_sound, fails_at, counted_fails, tried_once, mem_written, mem_synced, left_behind}
use Rattle.outside_mem.proofs.DiskSteps.{write_made, write_failed, sync_made, sync_failed, measure_failed, read_failed}

cause_by : (come : Bool) (failing : List ℕ) (tries : ℕ) → (come || is_to_fail failing tries) ≡ true → nat_lt 0 (length failing) ≡ false → come ≡ true
cause_by true failing tries fails none = refl
cause_by false [] tries fails none = fails
cause_by false (number ∷ failing) tries fails none = grind (arith, nat_tests)

-- where no call is to fail, one fails since its stop has come
cause_of : (disk : MemDiskView) (calls : ℕ) → fails_at disk calls ≡ true → nat_lt 0 (length disk.failing) ≡ false → has_come disk.arming.stop calls ≡ true
cause_of disk calls fails none = cause_by (has_come disk.arming.stop calls) disk.failing disk.tries fails none

first_of_two : (come other : Bool) → (come || other) ≡ false → come ≡ false
first_of_two false other none = refl
first_of_two true other none = none

goes_on_of : (disk : MemDiskView) (calls : ℕ) → fails_at disk calls ≡ false → has_come disk.arming.stop calls ≡ false
goes_on_of disk calls goes_on = first_of_two (has_come disk.arming.stop calls) (is_to_fail disk.failing disk.tries) goes_on

pub mem_write_made : (disk : MemDiskView) (write : Write) → counted_fails disk ≡ false → Writes (mem_disk disk) (mem_disk (mem_written disk write false)) write (Ok tt)
mem_write_made disk write goes_on = write_made disk.history write disk.arming (nat_lt 0 (length disk.failing)) disk.faults (goes_on_of disk (counted disk.arming.calls) goes_on)

pub mem_write_failed : (disk : MemDiskView) (write : Write) → counted_fails disk ≡ true → disk.faults ≤ faults_with true disk.faults → Writes (mem_disk disk) (mem_disk (mem_written disk write true)) write (Err Failed)
mem_write_failed disk write fails more = write_failed disk.history write disk.arming (nat_lt 0 (length disk.failing)) disk.faults (faults_with true disk.faults) (cause_of disk (counted disk.arming.calls) fails) more (omega arith)

pub mem_sync_made : (disk : MemDiskView) → counted_fails disk ≡ false → Syncs (mem_disk disk) (mem_disk (mem_synced disk false)) (Ok tt)
mem_sync_made disk goes_on = sync_made disk.history disk.arming (nat_lt 0 (length disk.failing)) disk.faults (goes_on_of disk (counted disk.arming.calls) goes_on)

pub mem_sync_failed : (disk : MemDiskView) (fault : Fault) → counted_fails disk ≡ true → disk.faults ≤ faults_with true disk.faults → Syncs (mem_disk disk) (mem_disk (mem_synced disk true)) (Err fault)
mem_sync_failed disk fault fails more = sync_failed disk.history disk.arming (nat_lt 0 (length disk.failing)) disk.faults (faults_with true disk.faults) fault (cause_of disk (counted disk.arming.calls) fails) more (omega arith)

pub mem_measure_failed : (disk : MemDiskView) (fault : Fault) → fails_at disk disk.arming.calls ≡ true → disk.faults ≤ faults_with true disk.faults → Measures (mem_disk disk) (mem_disk (tried_once disk true)) (Err fault)
mem_measure_failed disk fault fails more = measure_failed disk.history disk.arming (nat_lt 0 (length disk.failing)) disk.faults (faults_with true disk.faults) fault (cause_of disk disk.arming.calls fails) more (omega arith)

pub mem_read_failed : (disk : MemDiskView) (place : ℕ) (buf : List ℕ) (fault : Fault) → fails_at disk disk.arming.calls ≡ true → disk.faults ≤ faults_with true disk.faults → Reads (mem_disk disk) (mem_disk (tried_once disk true)) place buf (Err fault)
mem_read_failed disk place buf fault fails more = read_failed disk.history disk.arming (nat_lt 0 (length disk.failing)) disk.faults (faults_with true disk.faults) place buf fault (cause_of disk disk.arming.calls fails) more (omega arith)

-- what a restart leaves is an image
left_image : (disk : MemDiskView) (stop : Option Stop) → IsImage disk.history.present.synced (writes_of disk.history.present) (left_behind stop disk.history.present)
left_image disk None = (mem_disk_is_sound disk).reads_an_image tt
left_image disk (Some stop) = left_is_image stop.mode disk.history.present.synced (writes_of disk.history.present)

pub restarted_may : (old : MemDiskView) (history : DiskHistory) → history ≡ begun (left_behind old.arming.stop old.history.present)
    → MayLeave (mem_disk old) (seen_of history.present)
restarted_may old history is =
    subst (λ (h : DiskHistory). MayLeave (mem_disk old) (seen_of h.present)) (sym is) (record { told = tt; image = left_image old old.arming.stop })
