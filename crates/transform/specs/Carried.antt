-- What an editor and a daemon changed in one text at the same time, and what is left of each change
-- once the other was applied (the inclusion transformation of operational transformation, Sun,
-- Jia, Zhang, Yang and Chen, 1998). That at one gap the daemon's text stands before the editor's is
-- this project's own, as is the normal form of what is carried.
use Rattle.std.specs.Prelude.{◌≡◌, ℕ, Bool, true, false, ◌&&◌, List, [], ◌∷◌, ◌++◌, length}
use Rattle.delta.specs.Cells.{Cell, Cells, base_length, result_length, keeps, covers, inserts, nothing, normal, applied}
use Rattle.transform.specs.declared.sides.Side.{Side}
use Rattle.transform.specs.declared.sides.Side.TheVariants.{Editor, Daemon}

abbrev pub merged_cells : List Cell → List ℕ → List Cell → List ℕ → List ℕ → List ℕ
merged_cells [] q_last [] p_last text = q_last ++ p_last
merged_cells [] q_last (p ∷ ps) p_last text = []
merged_cells (q ∷ qs) q_last [] p_last text = []
merged_cells (q ∷ qs) q_last (p ∷ ps) p_last [] = []
merged_cells (q ∷ qs) q_last (p ∷ ps) p_last (c ∷ text) =
    q.inserted ++ (p.inserted ++ keeps (q.kept && p.kept) c (merged_cells qs q_last ps p_last text))

-- the text after both changes, gap by gap: the daemon's text, then the editor's, and then the
-- character unless either deletes it
abbrev pub merged : List ℕ → Cells → Cells → List ℕ
merged text q p = merged_cells q.cells q.last p.cells p.last text

-- so many characters of the base in front, kept or deleted, where they are there at all
abbrev pub covers_if : Bool → Bool → ℕ → Cells → Cells
covers_if true kept n d = covers kept n d
covers_if false kept n d = d

-- a text that the daemon inserts: the editor's change keeps it, and the daemon's inserts it
abbrev pub daemon_text : Side → List ℕ → Cells → Cells
daemon_text Editor text d = covers true (length text) d
daemon_text Daemon text d = inserts text d

-- a text that the editor inserts
abbrev pub editor_text : Side → List ℕ → Cells → Cells
editor_text Editor text d = inserts text d
editor_text Daemon text d = covers true (length text) d

-- characters of the base: what the other side deletes is dropped
abbrev pub characters : Side → Bool → Bool → ℕ → Cells → Cells
characters Editor q_kept p_kept n d = covers_if q_kept p_kept n d
characters Daemon q_kept p_kept n d = covers_if p_kept q_kept n d

abbrev pub carried_cells : Side → List Cell → List ℕ → List Cell → List ℕ → Cells
carried_cells side [] q_last [] p_last = daemon_text side q_last (editor_text side p_last nothing)
carried_cells side [] q_last (p ∷ ps) p_last = daemon_text side q_last (editor_text side p.inserted nothing)
carried_cells side (q ∷ qs) q_last [] p_last = daemon_text side q.inserted (editor_text side p_last nothing)
carried_cells side (q ∷ qs) q_last (p ∷ ps) p_last =
    daemon_text side q.inserted
    (editor_text side p.inserted (characters side q.kept p.kept 1 (carried_cells side qs q_last ps p_last)))

-- the change of one side, carried past that of the other: the daemon's is q, and the editor's is p
abbrev pub carried : Side → Cells → Cells → Cells
carried side q p = carried_cells side q.cells q.last p.cells p.last

-- the editor's p past the daemon's q
abbrev pub after_editor : Cells → Cells → Cells
after_editor p q = normal (carried Editor q p)

-- the daemon's q past the editor's p
abbrev pub after_daemon : Cells → Cells → Cells
after_daemon q p = normal (carried Daemon q p)

-- each delta applies to the result of the one before it, and the first to a text of this length
abbrev pub IsChain : ℕ → List Cells → Type 0
IsChain base [] = Unit {0}
IsChain base (q ∷ list) = (base_length q ≡ base) × IsChain (result_length q) list

-- the text after each of the deltas in turn
abbrev pub applied_all : List Cells → List ℕ → List ℕ
applied_all [] text = text
applied_all (q ∷ list) text = applied_all list (applied q text)

-- the editor's p past each delta of the daemon's list in turn
abbrev pub past_list : Cells → List Cells → Cells
past_list p [] = p
past_list p (q ∷ list) = past_list (after_editor p q) list

-- each delta of the daemon's list past p as it is by then
abbrev pub list_past : Cells → List Cells → List Cells
list_past p [] = []
list_past p (q ∷ list) = after_daemon q p ∷ list_past (after_editor p q) list

-- the length of a text of the given length after each of the deltas in turn
abbrev pub chain_end : ℕ → List Cells → ℕ
chain_end base [] = base
chain_end base (q ∷ list) = chain_end (result_length q) list
