-- A disk in memory at each of its moments.
use Rattle.std.specs.Prelude.{◌⊎◌, ℕ, Bool, List, [], ◌∷◌, ◌++◌, map, fold, if◌then◌else◌}
use Rattle.outside.specs.Images.{Write, IsImage, overwritten}

-- a write that was tried: it was made, or it failed
pub record Tried : Type 0 where
  pub write : Write
  pub made : Bool

-- a disk at one moment: what a read gave after the last sync that succeeded, and the writes tried since, in order
pub record DiskState : Type 0 where
  pub synced : List ℕ
  pub tried : List Tried

-- the content after a write that was tried
abbrev pub content_after : List ℕ → Tried → List ℕ
content_after content tried = if tried.made then overwritten content tried.write else content

-- what a read gives
abbrev pub seen_of : DiskState → List ℕ
seen_of state = fold content_after state.synced state.tried

abbrev pub writes_of : DiskState → List Write
writes_of state = map (λ tried. tried.write) state.tried

-- a disk as it is, and all that it was before, in order: its clock is the number of those
pub record DiskHistory : Type 0 where
  pub present : DiskState
  pub past : List DiskState

-- a disk that begins with this content
abbrev pub begun : List ℕ → DiskHistory
begun content = record { present = record { synced = content; tried = [] }; past = [] }

-- after a write
abbrev pub with_write : DiskHistory → Tried → DiskHistory
with_write history tried = record {
  present = record { synced = history.present.synced; tried = history.present.tried ++ tried ∷ [] };
  past = history.past ++ history.present ∷ [];
}

-- after a sync that succeeded; where no write was tried since the last, nothing changes
abbrev pub synced_behind : DiskState → List DiskState → List Tried → DiskHistory
synced_behind present past [] = record { present = present; past = past }
synced_behind present past (tried ∷ more) = record { present = record { synced = seen_of present; tried = [] }; past = past ++ present ∷ [] }

abbrev pub with_sync : DiskHistory → DiskHistory
with_sync history = synced_behind history.present history.past history.present.tried

-- what a crash may leave of a state, and of one of these states
abbrev pub IsImageOf : DiskState → List ℕ → Type 0
IsImageOf state image = IsImage state.synced (writes_of state) image

abbrev pub IsImageOfAny : List DiskState → List ℕ → Type 0
IsImageOfAny [] image = ⊥
IsImageOfAny (state ∷ states) image = IsImageOf state image ⊎ IsImageOfAny states image
