-- What is left of the places of the base, and composition by it.
use Rattle.std.specs.Prelude.{ℕ, zero, suc, Bool, true, false, ◌==◌, List, [], ◌∷◌, ◌++◌, map, slice_index}
use Rattle.delta.specs.Cells.{Cell, Cells, ends, with_cell, keeps, base_length}

-- an item of a list of places that deltas were applied to: a new character, or a place of the base
pub data Mark : Type 0 where
  New : ℕ → Mark
  Place : ℕ → Mark

-- the n places from i on
abbrev pub places : ℕ → ℕ → List Mark
places i zero = []
places i (suc n) = Place i ∷ places (suc i) n

abbrev pub applied_marks_of : List Cell → List ℕ → List Mark → List Mark
applied_marks_of [] last marks = map New last
applied_marks_of (c ∷ cs) last [] = map New c.inserted ++ applied_marks_of cs last []
applied_marks_of (c ∷ cs) last (m ∷ marks) =
    map New c.inserted ++ keeps c.kept m (applied_marks_of cs last marks)

-- a list of marks after a delta, whose inserted characters are new ones
abbrev pub applied_marks : Cells → List Mark → List Mark
applied_marks d marks = applied_marks_of d.cells d.last marks

-- the places that the delta keeps and the new characters between them, where its first place is i
abbrev pub marks_from : ℕ → Cells → List Mark
marks_from i d = applied_marks d (places i (base_length d))

abbrev pub marks_of : Cells → List Mark
marks_of d = marks_from 0 d

-- the new characters that stand in front
abbrev pub run : List Mark → List ℕ
run [] = []
run (New c ∷ marks) = c ∷ run marks
run (Place j ∷ marks) = []

-- whether the first place is i
abbrev pub is_next : ℕ → List Mark → Bool
is_next i [] = false
is_next i (New c ∷ marks) = is_next i marks
is_next i (Place j ∷ marks) = j == i

abbrev pub behind_place : Bool → Mark → List Mark → List Mark
behind_place true m marks = marks
behind_place false m marks = m ∷ marks

-- what stands behind the new characters in front, and behind place i if it comes next
abbrev pub behind : ℕ → List Mark → List Mark
behind i [] = []
behind i (New c ∷ marks) = behind i marks
behind i (Place j ∷ marks) = behind_place (j == i) (Place j) marks

-- the delta on the n places from i on that leaves these marks: the places among them are kept, the
-- others are deleted, and each run of new characters stands in the gap behind the place before it
abbrev pub delta_from : ℕ → ℕ → List Mark → Cells
delta_from i zero marks = ends (run marks)
delta_from i (suc n) marks =
    with_cell (run marks) (is_next i marks) (delta_from (suc i) n (behind i marks))

-- the composition: first one delta and then the other are applied to the places of the base, with
-- new characters told apart from places, and what is left is read as a delta
abbrev pub composed : Cells → Cells → Cells
composed first second = delta_from 0 (base_length first) (applied_marks second (marks_of first))

-- the character that a mark stands for, where the base is this text
abbrev pub char_of : List ℕ → Mark → ℕ
char_of text (New c) = c
char_of text (Place i) = slice_index text i
