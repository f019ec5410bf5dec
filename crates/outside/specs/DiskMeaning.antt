-- What a disk tells.
use Rattle.std.specs.Prelude.{ℕ, ◌≤◌, List}
use Rattle.outside.specs.Images.{Write, IsImage}
use Rattle.outside.specs.Plan.{Plan, Arming}

-- what a disk tells of itself between two calls
pub record DiskMeaning : Type 1 where
  pub told : Type 0  -- whether it tells its content: the bytes, the writes and the calls
  pub seen : List ℕ  -- what a read gives
  pub synced : List ℕ  -- what a read gave after the last sync that succeeded, at first what it began with
  pub writes : List Write  -- the writes since then in order, a failed one included
  pub moment : ℕ  -- its clock
  pub since : ℕ → List ℕ → Type 0  -- what a crash at some moment from that one on might have left
  pub calls : ℕ  -- the calls counted since it was made or last armed: writes and syncs
  pub plan : Plan  -- where it is to stop, and whether it may fail besides
  pub faults : ℕ  -- how many of its calls have failed

-- what a crash may leave now; a disk that tells nothing has no images
pub record MayLeave (disk : DiskMeaning) (content : List ℕ) : Type 0 where
  pub told : disk.told
  pub image : IsImage disk.synced disk.writes content

-- this moment is one of those since an earlier one, and since this moment there is no other; what a read gives is an image
pub record IsSound (disk : DiskMeaning) : Type 0 where
  pub counts_now : (t : ℕ) (image : List ℕ) → t ≤ disk.moment → MayLeave disk image → disk.since t image
  pub only_now : (image : List ℕ) → disk.since disk.moment image → MayLeave disk image
  pub reads_an_image : disk.told → IsImage disk.synced disk.writes disk.seen

abbrev pub arming_of : DiskMeaning → Arming
arming_of disk = record { stop = disk.plan.stop; calls = disk.calls }
