-- What a disk over a file tells: its faults, and nothing of its content.
use Rattle.std.specs.Prelude.{◌≡◌, ◌≤◌, ℕ, true, [], None, Result, Ok, Err}
use Rattle.outside.specs.DiskMeaning.{DiskMeaning, IsSound}
use Rattle.outside.specs.Faults.{Rose}
use Rattle.outside.specs.declared.disks.Fault.{Fault}

-- a disk of which so many calls have failed
abbrev pub file_disk : ℕ → DiskMeaning
file_disk faults = record {
  told = ⊥;
  seen = [];
  synced = [];
  writes = [];
  moment = 0;
  since = λ t image. ⊥;
  calls = 0;
  plan = record { stop = None; may_fail = true };
  faults = faults;
}

pub file_disk_is_sound : (faults : ℕ) → IsSound (file_disk faults)
file_disk_is_sound faults = record {
  counts_now = λ t image now left. absurd left.told;
  only_now = λ image left. absurd left;
  reads_an_image = λ told. absurd told;
}

-- the count of faults rose where the call failed, and stood still where it did not
abbrev pub IsCounted : {A : Type 0} → ℕ → ℕ → Result A Fault → Type 0
IsCounted before now (Ok given) = now ≡ before
IsCounted before now (Err fault) = (before ≤ now) × Rose before now
