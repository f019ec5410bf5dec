-- A disk that tells nothing but its faults keeps the rules of a disk.
use Rattle.std.proofs.Common.{◌≡◌, ◌≤◌, ℕ, List, Result, Ok, Err, refl, arith}
use Rattle.outside.specs.DiskCalls.{Elapses, IsUnchanged, Succeeded, HasFailed, Measures, Reads, Writes, Syncs}
use Rattle.outside.specs.Faults.{Rose}
use Rattle.outside.specs.Images.{Write}
use Rattle.outside.specs.declared.disks.Fault.{Fault}
use Rattle.outside.specs.declared.disks.DiskFault.TheVariants.{Failed}
use Rattle.journal_bench.specs.FileDisk.{file_disk, IsCounted}

elapses : (before now : ℕ) → before ≤ now → Elapses (file_disk before) (file_disk now)
elapses before now h = record {
  told = λ told. told;
  was_told = λ told. told;
  later = omega arith;
  nothing_else = λ t image was left. absurd left;
  keeps = λ t image was left. left;
  plan = refl;
  faults = h;
}

unchanged : (before now : ℕ) → IsUnchanged (file_disk before) (file_disk now)
unchanged before now = record {
  holds = record {
    told = λ told. told;
    was_told = λ told. told;
    seen = refl;
    synced = refl;
    writes = refl;
    moment = refl;
    since = λ t image. (λ left. left, λ left. left);
  };
  calls = refl;
}

succeeded : (before now : ℕ) → now ≡ before → Succeeded (file_disk before) (file_disk now)
succeeded before now is = record { goes_on = refl; faults = is }

failed : (before now : ℕ) → Rose before now → HasFailed (file_disk before) (file_disk now)
failed before now rose = record { cause = λ no. cc; faults = rose }

pub measures : (before now : ℕ) (answer : Result ℕ Fault) → IsCounted before now answer → Measures (file_disk before) (file_disk now) answer
measures before now (Ok len) h = record {
  elapses = elapses before now (omega (arith, h));
  unchanged = unchanged before now;
  so = record { length = λ told. absurd told; succeeded = succeeded before now h };
}
measures before now (Err fault) h = record { elapses = elapses before now h.0; unchanged = unchanged before now; so = failed before now h.1 }

pub reads : (before now place : ℕ) (buf : List ℕ) (answer : Result (Unit {0}) Fault) → IsCounted before now answer
    → Reads (file_disk before) (file_disk now) place buf answer
reads before now place buf (Ok done) h = record {
  elapses = elapses before now (omega (arith, h));
  unchanged = unchanged before now;
  so = record { bytes = λ told. absurd told; succeeded = succeeded before now h };
}
reads before now place buf (Err fault) h = record { elapses = elapses before now h.0; unchanged = unchanged before now; so = failed before now h.1 }

pub syncs : (before now : ℕ) (answer : Result (Unit {0}) Fault) → IsCounted before now answer → Syncs (file_disk before) (file_disk now) answer
syncs before now (Ok done) h = record {
  elapses = elapses before now (omega (arith, h));
  seen = λ told. absurd told;
  calls = λ told. absurd told;
  so = record { synced = λ told. absurd told; writes = λ told. absurd told; succeeded = succeeded before now h };
}
syncs before now (Err fault) h = record {
  elapses = elapses before now h.0;
  seen = λ told. absurd told;
  calls = λ told. absurd told;
  so = record { synced = λ told. absurd told; writes = λ told. absurd told; failed = failed before now h.1 };
}

pub wrote : (before now : ℕ) (write : Write) → now ≡ before → Writes (file_disk before) (file_disk now) write (Ok tt)
wrote before now write h = record {
  elapses = elapses before now (omega (arith, h));
  so = record {
    seen = λ told. absurd told;
    added = record { synced = λ told. absurd told; writes = λ told. absurd told; calls = λ told. absurd told };
    succeeded = succeeded before now h;
  };
}

pub failed_to_write : (before now : ℕ) (write : Write) → before ≤ now → Rose before now → Writes (file_disk before) (file_disk now) write (Err Failed)
failed_to_write before now write later rose = record {
  elapses = elapses before now later;
  so = record {
    seen = λ told. absurd told;
    added = record { synced = λ told. absurd told; writes = λ told. absurd told; calls = λ told. absurd told };
    failed = failed before now rose;
  };
}
