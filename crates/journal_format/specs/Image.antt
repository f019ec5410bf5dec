-- Which records a list of bytes stands for: a write-ahead journal whose groups count as soon as the gate before them is open, as
-- what a log holds counts from its commit mark on (Gray and Reuter, Transaction Processing, 1992). The layout is the project's own.
use Rattle.std.specs.Prelude.{◌≡◌, ◌≢◌, ◌&&◌, ◌+◌, ℕ, Bool, true, false, not, List, [], ◌∷◌, ◌++◌, length, replicate, IsTrue, codes}
use Rattle.std.specs.List.{flat_map, list_any, AllByRecursion}
use Rattle.byte_format.specs.Format.{Format}
use Rattle.byte_format.specs.Values.{u64_field}
use Rattle.journal_format.specs.Parts.{filled}
use Rattle.journal_format.specs.Encoding.{record_field}
use Rattle.journal_format.specs.declared.records.Record.{Record}
use Rattle.journal_format.specs.declared.records.Record.TheVariants as records

-- the first bytes of a journal
abbrev pub mark : List ℕ
mark = codes "TTJ1"

-- what stands in a group behind its gate: the length of its records, and then they, at least one
unfoldable pub group_field : Format (List Record)
group_field = filled u64_field record_field

-- a group behind its open gate, the byte 1
abbrev pub open_group : List Record → List ℕ
open_group group = 1 ∷ group_field.spelled group

-- groups, one behind the other
abbrev pub open_groups : List (List Record) → List ℕ
open_groups groups = flat_map open_group groups

-- the records of groups, in order
abbrev pub all_records : List (List Record) → List Record
all_records groups = flat_map (λ group. group) groups

-- the offset of the gate before each record, for groups of which the first begins at this offset
abbrev pub gates_from : ℕ → List (List Record) → List ℕ
gates_from place [] = []
gates_from place (group ∷ groups) = replicate (length group) place ++ gates_from (place + length (open_group group)) groups

abbrev pub is_actor : Record → Bool
is_actor (records.Actor actor) = true
is_actor (records.Change encoding) = false
is_actor (records.Note path note) = false

-- the first record is the actor's, and no other is
abbrev pub actor_is_first : List Record → Bool
actor_is_first [] = true
actor_is_first (first ∷ others) = is_actor first && not (list_any is_actor others)

-- groups that may stand in a journal
pub record AreGroups (groups : List (List Record)) : Type 0 where
  pub each : AllByRecursion group_field.Fits groups
  pub actor : IsTrue (actor_is_first (all_records groups))

-- the bytes are the mark, these groups, a closed gate, which is any byte other than 1, and any bytes
pub record IsImage (bytes : List ℕ) (groups : List (List Record)) : Type 0 where
  pub gate : ℕ
  pub rest : List ℕ
  pub spelling : bytes ≡ mark ++ (open_groups groups ++ gate ∷ rest)
  pub closed : gate ≢ 1
  pub good : AreGroups groups

-- the bytes stand for these records
abbrev pub StandsFor : List ℕ → List Record → Type 0
StandsFor bytes recorded = (groups : List (List Record)) × IsImage bytes groups × (recorded ≡ all_records groups)

-- the bytes stand for these records, each of whose groups has its gate at the offset beside it, and the closed gate is at the end
pub record IsPlaced (bytes : List ℕ) (recorded : List Record) (gates : List ℕ) (end : ℕ) : Type 0 where
  pub groups : List (List Record)
  pub image : IsImage bytes groups
  pub records_are : recorded ≡ all_records groups
  pub gates_are : gates ≡ gates_from (length mark) groups
  pub end_is : end ≡ length (mark ++ open_groups groups)

-- Behind good groups there is an open gate at this offset, and no group that may stand behind it begins these bytes with a byte
-- of another gate behind it.
pub record IsFirstBad (bytes : List ℕ) (place : ℕ) : Type 0 where
  pub groups : List (List Record)
  pub behind : List ℕ
  pub spelling : bytes ≡ mark ++ (open_groups groups ++ 1 ∷ behind)
  pub place_is : place ≡ length (mark ++ open_groups groups)
  pub good : AreGroups groups
  pub bad : (group : List Record) (next : ℕ) (rest : List ℕ) → behind ≡ group_field.spelled group ++ next ∷ rest → AreGroups (groups ++ group ∷ []) → ⊥
