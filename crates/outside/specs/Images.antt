-- What a crash may leave on a disk (write-ahead logging: Mohan and others, ARIES, 1992; torn writes).
use Rattle.std.specs.Prelude.{◌≡◌, ◌<◌, ◌≤◌, ℕ, ◌+◌, ◌-◌, ◌/◌, ◌&&◌, Bool, false, nat_lt, nat_le, List, ◌++◌, length, take, drop, max, fold, map, replicate, slice_index}
use Rattle.std.specs.List.{list_any}
use Rattle.outside.specs.declared.modes.Mode.{Mode}
use Rattle.outside.specs.declared.modes.Mode.TheVariants.{Lost, Kept, Torn}

-- bytes that were written from a place on
pub record Write : Type 0 where
  pub place : ℕ
  pub bytes : List ℕ

-- the place behind a write
abbrev pub end_of : Write → ℕ
end_of write = write.place + length write.bytes

-- the content of a disk after a write, over what was there and past the end
abbrev pub overwritten : List ℕ → Write → List ℕ
overwritten content write = take write.place content ++ write.bytes ++ drop (end_of write) content

-- one of the writes reaches over this place
abbrev pub is_written : List Write → ℕ → Bool
is_written writes place = list_any (λ write. nat_le write.place place && nat_lt place (end_of write)) writes

-- the end of the longest content that these writes make of one with this length
abbrev pub reach : ℕ → List Write → ℕ
reach len writes = fold (λ longest write. max longest (end_of write)) len writes

-- what a crash may leave where the disk held `synced` after its last sync and these writes were made since: any bytes
-- where one was written and past the old end, the old ones elsewhere
pub record IsImage (synced : List ℕ) (writes : List Write) (image : List ℕ) : Type 0 where
  pub no_shorter : length synced ≤ length image
  pub no_longer : length image ≤ reach (length synced) writes
  pub elsewhere : (place : ℕ) → place < length synced → is_written writes place ≡ false → slice_index image place ≡ slice_index synced place

-- a write of which the first half, rounded down, was made: each other byte is a5
abbrev pub torn : Write → Write
torn write =
    let half = length write.bytes / 2 in
    record write { bytes = take half write.bytes ++ replicate (length write.bytes - half) 0xa5 }

-- the image that a stopped disk leaves: none of the writes was made, all were, or each was torn
abbrev pub left_by : Mode → List ℕ → List Write → List ℕ
left_by Lost synced writes = synced
left_by Kept synced writes = fold overwritten synced writes
left_by Torn synced writes = fold overwritten synced (map torn writes)
