-- A delta as contracts see it, place by place, and what it does to a text.
-- A gap is a place between two characters of the base, before the first or behind the last; gap i
-- has i characters on its left.
use Rattle.std.specs.Prelude.{◌≡◌, ℕ, zero, suc, ◌+◌, Bool, true, false, ◌&&◌, ◌==◌, List, [], ◌∷◌, ◌++◌, length}

-- a character of the base: the text inserted at the gap before it, and whether it is kept
pub record Cell : Type 0 where
  pub inserted : List ℕ
  pub kept : Bool

-- a delta: a cell for each character of the base, in order, and the text inserted at the last gap
pub record Cells : Type 0 where
  pub cells : List Cell
  pub last : List ℕ

-- the delta of an empty base that inserts a text
abbrev pub ends : List ℕ → Cells
ends text = record { cells = []; last = text }

-- a delta with one more character in front of its base
abbrev pub with_cell : List ℕ → Bool → Cells → Cells
with_cell text kept d =
    record { cells = record { inserted = text; kept = kept } ∷ d.cells; last = d.last }

-- the number of characters of the base
abbrev pub base_length : Cells → ℕ
base_length d = length d.cells

abbrev pub one_if : Bool → ℕ
one_if true = 1
one_if false = 0

abbrev pub result_length_of : List Cell → List ℕ → ℕ
result_length_of [] last = length last
result_length_of (c ∷ cs) last =
    length c.inserted + (one_if c.kept + result_length_of cs last)

-- the number of characters after the delta: those inserted and those kept
abbrev pub result_length : Cells → ℕ
result_length d = result_length_of d.cells d.last

-- a list with one more item in front, where that is kept
abbrev pub keeps : {A : Type 0} → Bool → A → List A → List A
keeps true x xs = x ∷ xs
keeps false x xs = xs

abbrev pub applied_cells : List Cell → List ℕ → List ℕ → List ℕ
applied_cells [] last text = last
applied_cells (c ∷ cs) last [] = c.inserted ++ applied_cells cs last []
applied_cells (c ∷ cs) last (x ∷ text) = c.inserted ++ keeps c.kept x (applied_cells cs last text)

-- the text after the delta: gap by gap the text at the gap, and then the character unless it is deleted
abbrev pub applied : Cells → List ℕ → List ℕ
applied d text = applied_cells d.cells d.last text

-- the text at gap 0
abbrev pub front_of : List Cell → List ℕ → List ℕ
front_of [] last = last
front_of (c ∷ cs) last = c.inserted

abbrev pub front : Cells → List ℕ
front d = front_of d.cells d.last

-- the delta with another text at gap 0
abbrev pub with_front_text_of : List ℕ → List Cell → List ℕ → Cells
with_front_text_of text [] last = ends text
with_front_text_of text (c ∷ cs) last = with_cell text c.kept (record { cells = cs; last = last })

abbrev pub with_front_text : List ℕ → Cells → Cells
with_front_text text d = with_front_text_of text d.cells d.last

-- the delta that also inserts a text at gap 0, before the text there
abbrev pub inserts : List ℕ → Cells → Cells
inserts text d = with_front_text (text ++ front d) d

-- the delta with a run of characters in front of its base, which are all kept or all deleted
abbrev pub covers : Bool → ℕ → Cells → Cells
covers kept zero d = d
covers kept (suc n) d = with_cell [] kept (covers kept n d)

abbrev pub joined_cells : List Cell → List ℕ → Cells → Cells
joined_cells [] last e = inserts last e
joined_cells (c ∷ cs) last e = with_cell c.inserted c.kept (joined_cells cs last e)

-- two deltas side by side: the base of the first, and behind it that of the second
abbrev pub joined : Cells → Cells → Cells
joined d e = joined_cells d.cells d.last e

-- the delta with neither a base nor a text
abbrev pub nothing : Cells
nothing = ends []

abbrev pub keeping : ℕ → Cells
keeping n = covers true n nothing

abbrev pub inserting : List ℕ → Cells
inserting text = ends text

abbrev pub deleting : ℕ → Cells
deleting n = covers false n nothing

-- the cell before a normal delta: where it is deleted, the text behind it moves to the gap before it
abbrev pub normal_with_cell : List ℕ → Bool → Cells → Cells
normal_with_cell text true d = with_cell text true d
normal_with_cell text false d = with_cell (text ++ front d) false (with_front_text [] d)

abbrev pub normal_cells : List Cell → List ℕ → Cells
normal_cells [] last = ends last
normal_cells (c ∷ cs) last = normal_with_cell c.inserted c.kept (normal_cells cs last)

-- the normal form, the project's own: each text moves to the next gap on the left whose left character is kept, or to
-- gap 0, and texts that meet are joined in the order of their gaps
abbrev pub normal : Cells → Cells
normal d = normal_cells d.cells d.last

abbrev pub no_text_behind : Bool → List ℕ → Type 0
no_text_behind true text = Unit {0}
no_text_behind false text = text ≡ []

abbrev pub IsNormalOf : List Cell → List ℕ → Type 0
IsNormalOf [] last = Unit {0}
IsNormalOf (c ∷ cs) last = no_text_behind c.kept (front_of cs last) × IsNormalOf cs last

-- no text stands at a gap whose left character is deleted
abbrev pub IsNormal : Cells → Type 0
IsNormal d = IsNormalOf d.cells d.last

abbrev pub is_nothing : List ℕ → Bool
is_nothing text = length text == 0

abbrev pub changes_nothing_of : List Cell → List ℕ → Bool
changes_nothing_of [] last = is_nothing last
changes_nothing_of (c ∷ cs) last = is_nothing c.inserted && (c.kept && changes_nothing_of cs last)

-- nothing is inserted and nothing is deleted
abbrev pub changes_nothing : Cells → Bool
changes_nothing d = changes_nothing_of d.cells d.last
