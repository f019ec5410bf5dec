-- Composition applies one delta after the other, to texts and to marks.
use Rattle.std.proofs.Common.{◌≡◌, ℕ, zero, suc, ◌+◌, ◌<◌, ◌≤◌, Bool, true, false, List, [], ◌∷◌, ◌++◌, length, map, get_or, inl, inr, ◌==◌, refl, sym, ap, ◌∙◌, subst, arith, zero-add}
use Rattle.std.proofs.lemmas.List.{append-nil, map-append, map-id}
use Rattle.std.proofs.lemmas.Bool.{eqb-true, eqb-false, cases_Bool}
use Rattle.delta.specs.Cells.{Cell, Cells, keeps, base_length, applied, nothing, keeping, normal, IsNormal}
use Rattle.delta.specs.Marks.{Mark, New, Place, places, applied_marks, marks_from, marks_of, run, is_next, behind, behind_place, delta_from, composed}
use Rattle.delta.proofs.CellsLemmas.{base_length-covers}
use Rattle.delta.proofs.MarksLemmas.{marks_from-kept}
use Rattle.delta.proofs.NormalLemmas.{IsNormal-delta_from, delta_from-marks_from}

-- the places among the marks rise, from i on and below e
abbrev AreRising : ℕ → ℕ → List Mark → Type 0
AreRising i e [] = Unit {0}
AreRising i e (New c ∷ marks) = AreRising i e marks
AreRising i e (Place j ∷ marks) = (i ≤ j) × (j < e) × AreRising (suc j) e marks

AreRising-earlier : (i j e : ℕ) (marks : List Mark) → i ≤ j → AreRising j e marks → AreRising i e marks
AreRising-earlier i j e [] le h = tt
AreRising-earlier i j e (New c ∷ marks) le h = AreRising-earlier i j e marks le h
AreRising-earlier i j e (Place k ∷ marks) le h = (omega (arith, h.0), h.1, h.2)

AreRising-new : (i e : ℕ) (t : List ℕ) (marks : List Mark) → AreRising i e marks → AreRising i e (map New t ++ marks)
AreRising-new i e [] marks h = h
AreRising-new i e (c ∷ t) marks h = AreRising-new i e t marks h

AreRising-places : (i n : ℕ) → AreRising i (i + n) (places i n)
AreRising-places i zero = tt
AreRising-places i (suc n) =
    let same : suc i + n ≡ i + suc n = omega arith in
    (omega arith, omega arith, subst (λ e. AreRising (suc i) e (places (suc i) n)) same (AreRising-places (suc i) n))

AreRising-keeps : (i e : ℕ) (k : Bool) (m : Mark) (marks rest : List Mark) → ((j : ℕ) → AreRising j e marks → AreRising j e rest) → AreRising i e (m ∷ marks) → AreRising i e (keeps k m rest)
AreRising-keeps i e true (New a) marks rest after h = after i h
AreRising-keeps i e false (New a) marks rest after h = after i h
AreRising-keeps i e true (Place j) marks rest after h = (h.0, h.1, after (suc j) h.2)
AreRising-keeps i e false (Place j) marks rest after h = AreRising-earlier i (suc j) e rest (omega (arith, h.0)) (after (suc j) h.2)

AreRising-applied : (i e : ℕ) (cs : List Cell) (last : List ℕ) (marks : List Mark) → AreRising i e marks → AreRising i e (applied_marks (record { cells = cs; last = last }) marks)
AreRising-applied i e [] last marks h = subst (AreRising i e) (append-nil (map New last)) (AreRising-new i e last [] tt)
AreRising-applied i e (c ∷ cs) last [] h = AreRising-new i e c.inserted _ (AreRising-applied i e cs last [] tt)
AreRising-applied i e (c ∷ cs) last (m ∷ marks) h =
    AreRising-new i e c.inserted _ (AreRising-keeps i e c.kept m marks _ (λ j. AreRising-applied j e cs last marks) h)

-- reading the front of the marks and writing it again
front_again : (i : ℕ) (marks : List Mark) → map New (run marks) ++ keeps (is_next i marks) (Place i) (behind i marks) ≡ marks
front_again i [] = refl
front_again i (New c ∷ marks) = ap (λ l. New c ∷ l) (front_again i marks)
front_again i (Place j ∷ marks) = elim (cases_Bool (j == i)) [
  | inl same ↦
      ap (λ b. keeps b (Place i) (behind_place b (Place j) marks)) same ∙ ap (λ k. Place k ∷ marks) (sym (eqb-true j i same))
  | inr other ↦ ap (λ b. keeps b (Place i) (behind_place b (Place j) marks)) other
]

AreRising-behind : (i e : ℕ) (marks : List Mark) → AreRising i e marks → AreRising (suc i) e (behind i marks)
AreRising-behind i e [] h = tt
AreRising-behind i e (New c ∷ marks) h = AreRising-behind i e marks h
AreRising-behind i e (Place j ∷ marks) h = by_place (j == i) refl where
  by_place : (b : Bool) → (j == i) ≡ b → AreRising (suc i) e (behind_place b (Place j) marks)
  by_place true same = AreRising-earlier (suc i) (suc j) e marks (omega (arith, h.0)) h.2
  by_place false other =
      let ne : j ≡ i → ⊥ = eqb-false j i other in
      (omega (arith, h.0, ne), h.1, h.2)

all_run : (i : ℕ) (marks : List Mark) → AreRising i i marks → map New (run marks) ≡ marks
all_run i [] h = refl
all_run i (New c ∷ marks) h = ap (λ l. New c ∷ l) (all_run i marks h)
all_run i (Place j ∷ marks) h = absurd (omega (arith, h.0, h.1))

base_length-delta_from : (i n : ℕ) (marks : List Mark) → base_length (delta_from i n marks) ≡ n
base_length-delta_from i zero marks = refl
base_length-delta_from i (suc n) marks = ap suc (base_length-delta_from (suc i) n (behind i marks))

marks_from-delta_from : (i n : ℕ) (marks : List Mark) → AreRising i (i + n) marks → marks_from i (delta_from i n marks) ≡ marks
marks_from-delta_from i zero marks h =
    let same : i + 0 ≡ i = omega arith in all_run i marks (subst (λ e. AreRising i e marks) same h)
marks_from-delta_from i (suc n) marks h =
    let same : i + suc n ≡ suc i + n = omega arith in
    ap (λ l. map New (run marks) ++ keeps (is_next i marks) (Place i) l)
    (marks_from-delta_from (suc i) n (behind i marks) (subst (λ e. AreRising (suc i) e (behind i marks)) same (AreRising-behind i (i + suc n) marks h)))
    ∙ front_again i marks

pub base_length-composed : (a b : Cells) → base_length (composed a b) ≡ base_length a
base_length-composed a b = base_length-delta_from 0 (base_length a) (applied_marks b (marks_of a))

pub marks_of-composed : (a b : Cells) → marks_of (composed a b) ≡ applied_marks b (marks_of a)
marks_of-composed a b =
    let n : ℕ = base_length a in
    let same : 0 + n ≡ n = omega arith in
    marks_from-delta_from 0 n (applied_marks b (marks_of a))
    (AreRising-applied 0 (0 + n) b.cells b.last (marks_of a) (AreRising-applied 0 (0 + n) a.cells a.last (places 0 n) (AreRising-places 0 n)))

-- a delta after one that keeps all
pub composed-keeping : (d : Cells) → composed (keeping (base_length d)) d ≡ normal d
composed-keeping d =
    let n : ℕ = base_length d in
    let size : base_length (keeping n) ≡ n = omega (arith, base_length-covers true n nothing) in
    ap (λ m. delta_from 0 m (applied_marks d (marks_of (keeping n)))) size
    ∙ ap (λ l. delta_from 0 n (applied_marks d l)) (marks_from-kept 0 n nothing ∙ append-nil (places 0 n))
    ∙ delta_from-marks_from 0 d

pub IsNormal-composed : (a b : Cells) → IsNormal (composed a b)
IsNormal-composed a b = IsNormal-delta_from 0 (base_length a) (applied_marks b (marks_of a))

-- application to a list of any items, where a new character is made an item
abbrev applied_by : {A : Type 0} → (ℕ → A) → List Cell → List ℕ → List A → List A
applied_by new [] last xs = map new last
applied_by new (c ∷ cs) last [] = map new c.inserted ++ applied_by new cs last []
applied_by new (c ∷ cs) last (x ∷ xs) = map new c.inserted ++ keeps c.kept x (applied_by new cs last xs)

-- an item for each mark, by its place
abbrev pub item_at : {A : Type 0} → (ℕ → A) → (ℕ → A) → Mark → A
item_at new at (New c) = new c
item_at new at (Place i) = at i

map-keeps : {A B : Type 0} (f : A → B) (k : Bool) (x : A) (xs : List A) → map f (keeps k x xs) ≡ keeps k (f x) (map f xs)
map-keeps f true x xs = refl
map-keeps f false x xs = refl

map-new : {A : Type 0} (new at : ℕ → A) (t : List ℕ) → map (item_at new at) (map New t) ≡ map new t
map-new new at [] = refl
map-new new at (c ∷ t) = ap (λ l. new c ∷ l) (map-new new at t)

map-applied_marks : {A : Type 0} (new at : ℕ → A) (cs : List Cell) (last : List ℕ) (marks : List Mark)
    → map (item_at new at) (applied_marks (record { cells = cs; last = last }) marks) ≡ applied_by new cs last (map (item_at new at) marks)
map-applied_marks new at [] last marks = map-new new at last
map-applied_marks new at (c ∷ cs) last [] =
    map-append (item_at new at) (map New c.inserted) (applied_marks (record { cells = cs; last = last }) [])
    ∙ ap (λ l. l ++ map (item_at new at) (applied_marks (record { cells = cs; last = last }) [])) (map-new new at c.inserted)
    ∙ ap (λ l. map new c.inserted ++ l) (map-applied_marks new at cs last [])
map-applied_marks new at (c ∷ cs) last (m ∷ marks) =
    let rest : List Mark = applied_marks (record { cells = cs; last = last }) marks in
    map-append (item_at new at) (map New c.inserted) (keeps c.kept m rest)
    ∙ ap (λ l. l ++ map (item_at new at) (keeps c.kept m rest)) (map-new new at c.inserted)
    ∙ ap (λ l. map new c.inserted ++ l) (map-keeps (item_at new at) c.kept m rest)
    ∙ ap (λ l. map new c.inserted ++ keeps c.kept (item_at new at m) l) (map-applied_marks new at cs last marks)

map-places : {A : Type 0} (new at : ℕ → A) (d : A) (i : ℕ) (xs : List A) → ((j : ℕ) → at (i + j) ≡ get_or xs j d) → map (item_at new at) (places i (length xs)) ≡ xs
map-places new at d i [] h = refl
map-places new at d i (x ∷ xs) h =
    let here : i + 0 ≡ i = omega arith in
    let later : (j : ℕ) → suc i + j ≡ i + suc j = λ j. omega arith in
    ap (λ y. y ∷ map (item_at new at) (places (suc i) (length xs))) (ap at (sym here) ∙ h 0)
    ∙ ap (λ l. x ∷ l) (map-places new at d (suc i) xs (λ j. ap at (later j) ∙ h (suc j)))

-- a delta on a list of items, by the marks of the delta
by_marks : {A : Type 0} (new : ℕ → A) (d : A) (xs : List A) (e : Cells) → base_length e ≡ length xs
    → map (item_at new (λ i. get_or xs i d)) (marks_of e) ≡ applied_by new e.cells e.last xs
by_marks new d xs e lengths =
    map-applied_marks new (λ i. get_or xs i d) e.cells e.last (places 0 (base_length e))
    ∙ ap (λ n. applied_by new e.cells e.last (map (item_at new (λ i. get_or xs i d)) (places 0 n))) lengths
    ∙ ap (applied_by new e.cells e.last) (map-places new (λ i. get_or xs i d) d 0 xs (λ j. ap (λ i. get_or xs i d) (zero-add j)))

applied_by-composed : {A : Type 0} (new : ℕ → A) (d : A) (xs : List A) (a b : Cells) → base_length a ≡ length xs
    → applied_by new (composed a b).cells (composed a b).last xs ≡ applied_by new b.cells b.last (applied_by new a.cells a.last xs)
applied_by-composed new d xs a b lengths =
    sym (by_marks new d xs (composed a b) (base_length-composed a b ∙ lengths))
    ∙ ap (map (item_at new (λ i. get_or xs i d))) (marks_of-composed a b)
    ∙ map-applied_marks new (λ i. get_or xs i d) b.cells b.last (marks_of a)
    ∙ ap (applied_by new b.cells b.last) (by_marks new d xs a lengths)

applied_by-marks : (cs : List Cell) (last : List ℕ) (marks : List Mark) → applied_by New cs last marks ≡ applied_marks (record { cells = cs; last = last }) marks
applied_by-marks [] last marks = refl
applied_by-marks (c ∷ cs) last [] = ap (λ l. map New c.inserted ++ l) (applied_by-marks cs last [])
applied_by-marks (c ∷ cs) last (m ∷ marks) = ap (λ l. map New c.inserted ++ keeps c.kept m l) (applied_by-marks cs last marks)

applied_by-text : (cs : List Cell) (last text : List ℕ) → applied_by (λ c. c) cs last text ≡ applied (record { cells = cs; last = last }) text
applied_by-text [] last text = map-id last
applied_by-text (c ∷ cs) last [] =
    ap (λ l. l ++ applied_by (λ c. c) cs last []) (map-id c.inserted)
    ∙ ap (λ l. c.inserted ++ l) (applied_by-text cs last [])
applied_by-text (c ∷ cs) last (x ∷ text) =
    ap (λ l. l ++ keeps c.kept x (applied_by (λ c. c) cs last text)) (map-id c.inserted)
    ∙ ap (λ l. c.inserted ++ keeps c.kept x l) (applied_by-text cs last text)

pub applied-composed : (a b : Cells) (text : List ℕ) → base_length a ≡ length text → applied (composed a b) text ≡ applied b (applied a text)
applied-composed a b text lengths =
    sym (applied_by-text (composed a b).cells (composed a b).last text)
    ∙ applied_by-composed (λ c. c) 0 text a b lengths
    ∙ applied_by-text b.cells b.last (applied_by (λ c. c) a.cells a.last text)
    ∙ ap (applied b) (applied_by-text a.cells a.last text)

pub applied_marks-composed : (a b : Cells) (marks : List Mark) → base_length a ≡ length marks → applied_marks (composed a b) marks ≡ applied_marks b (applied_marks a marks)
applied_marks-composed a b marks lengths =
    sym (applied_by-marks (composed a b).cells (composed a b).last marks)
    ∙ applied_by-composed New (New 0) marks a b lengths
    ∙ applied_by-marks b.cells b.last (applied_by New a.cells a.last marks)
    ∙ ap (applied_marks b) (applied_by-marks a.cells a.last marks)

-- a delta gives the same text by its marks
pub text_by_marks : (text : List ℕ) (d : Cells) → base_length d ≡ length text → map (item_at (λ c. c) (λ i. get_or text i 0)) (marks_of d) ≡ applied d text
text_by_marks text d lengths = by_marks (λ c. c) 0 text d lengths ∙ applied_by-text d.cells d.last text
