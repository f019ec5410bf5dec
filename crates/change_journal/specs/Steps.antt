-- The counted calls of a run, one behind the other: which writes were made and synced, and where a run ended.
use Rattle.std.specs.Prelude.{◌≡◌, ℕ, List, [], ◌∷◌, ◌++◌}
use Rattle.outside.specs.Calls.{counted}
use Rattle.outside.specs.Images.{Write, overwritten}
use Rattle.outside.specs.DiskMeaning.{DiskMeaning}

-- a counted call of a disk
pub data Step : Type 0 where
  ToWrite : Write → Step
  ToSync : Step

-- what counted calls change: their number, what a read gives, what it gave after the last sync, and the writes since
pub record Trail : Type 0 where
  pub calls : ℕ
  pub seen : List ℕ
  pub synced : List ℕ
  pub writes : List Write

abbrev pub trail_of : DiskMeaning → Trail
trail_of disk = record { calls = disk.calls; seen = disk.seen; synced = disk.synced; writes = disk.writes }

-- a call that succeeded
abbrev pub made : Step → Trail → Trail
made (ToWrite write) t = record { calls = counted t.calls; seen = overwritten t.seen write; synced = t.synced; writes = t.writes ++ write ∷ [] }
made ToSync t = record { calls = counted t.calls; seen = t.seen; synced = t.seen; writes = [] }

-- a call that failed: it counts, and its write stands among those since the last sync
abbrev pub failed : Step → Trail → Trail
failed (ToWrite write) t = record { calls = counted t.calls; seen = t.seen; synced = t.synced; writes = t.writes ++ write ∷ [] }
failed ToSync t = record { calls = counted t.calls; seen = t.seen; synced = t.synced; writes = t.writes }

abbrev pub all_made : List Step → Trail → Trail
all_made [] t = t
all_made (step ∷ steps) t = all_made steps (made step t)

-- the disk has counted, synced and been written as the trail says
pub record IsBehind (disk : DiskMeaning) (trail : Trail) : Type 0 where
  pub calls : disk.calls ≡ trail.calls
  pub synced : disk.synced ≡ trail.synced
  pub writes : disk.writes ≡ trail.writes

-- all of the steps were made
pub record MadeAll (old new : DiskMeaning) (steps : List Step) : Type 0 where
  pub behind : IsBehind new (all_made steps (trail_of old))
  pub seen : new.seen ≡ (all_made steps (trail_of old)).seen

-- the steps were made up to and with the first that failed
pub record MadeUntil (old new : DiskMeaning) (steps : List Step) : Type 0 where
  pub before : List Step
  pub step : Step
  pub left : List Step
  pub steps_are : steps ≡ before ++ step ∷ left
  pub behind : IsBehind new (failed step (all_made before (trail_of old)))

-- steps from the front on were made, and then none
pub record MadeFront (old new : DiskMeaning) (steps : List Step) : Type 0 where
  pub before : List Step
  pub left : List Step
  pub steps_are : steps ≡ before ++ left
  pub behind : IsBehind new (all_made before (trail_of old))
  pub seen : new.seen ≡ (all_made before (trail_of old)).seen
