-- What a delta makes of a text, step by step.
use Rattle.std.proofs.Common.{◌≡◌, ℕ, zero, suc, ◌+◌, ◌-◌, ◌≤◌, ◌<◌, Bool, true, false, List, [], ◌∷◌, ◌++◌, length, get_or, take, drop, refl, sym, ap, ◌∙◌, arith, append_assoc}
use Rattle.std.specs.List.{splice}
use Rattle.std.proofs.lemmas.List.{append-nil, drop_more, take_all, drop_at, drop-drop, length-append, length-drop, length-take-le}
use Rattle.delta.specs.Cells.{Cell, Cells, applied, base_length, inserts, covers, joined, keeps, nothing, keeping, deleting}
use Rattle.delta.specs.Steps.{after_step, cells_of, step_base, said_by}
use Rattle.delta.specs.declared.steps.DeltaStep.{DeltaStep}
use Rattle.delta.specs.declared.steps.DeltaStep.TheVariants.{Keep, Insert, Delete}
use Rattle.delta.proofs.CellsLemmas.{base_length-covers, base_length-joined}
use Rattle.delta.proofs.WriterLemmas.{base_length-after_step}

pub applied-inserts : (t : List ℕ) (d : Cells) (text : List ℕ) → applied (inserts t d) text ≡ t ++ applied d text
applied-inserts t d text = by_cells d.cells d.last text where
  by_cells : (cs : List Cell) (last text : List ℕ) → applied (inserts t (record { cells = cs; last = last })) text ≡ t ++ applied (record { cells = cs; last = last }) text
  by_cells [] last text = refl
  by_cells (c ∷ cs) last [] = append_assoc t c.inserted _
  by_cells (c ∷ cs) last (x ∷ text) = append_assoc t c.inserted _

pub applied-kept : (n : ℕ) (d : Cells) (text : List ℕ) → n ≤ length text → applied (covers true n d) text ≡ take n text ++ applied d (drop n text)
applied-kept zero d text h = refl
applied-kept (suc n) d [] h = absurd (omega (arith, h))
applied-kept (suc n) d (x ∷ text) h = ap (λ l. x ∷ l) (applied-kept n d text (omega (arith, h)))

pub applied-deleted : (n : ℕ) (d : Cells) (text : List ℕ) → n ≤ length text → applied (covers false n d) text ≡ applied d (drop n text)
applied-deleted zero d text h = refl
applied-deleted (suc n) d [] h = absurd (omega (arith, h))
applied-deleted (suc n) d (x ∷ text) h = applied-deleted n d text (omega (arith, h))

-- keeping all of a text gives the text, and replacing all of it the text that is inserted
pub applied-keeping : (n : ℕ) (text : List ℕ) → length text ≡ n → applied (keeping n) text ≡ text
applied-keeping n text long =
    applied-kept n nothing text (omega (arith, long)) ∙ append-nil (take n text) ∙ take_all n text (omega (arith, long))

pub applied-replacing_all : (new : List ℕ) (n : ℕ) (text : List ℕ) → length text ≡ n → applied (inserts new (deleting n)) text ≡ new
applied-replacing_all new n text long =
    applied-inserts new (deleting n) text
    ∙ ap (λ l. new ++ l) (applied-deleted n nothing text (omega (arith, long)))
    ∙ append-nil new

applied-after_step : (s : DeltaStep) (d : Cells) (text : List ℕ) → step_base s ≤ length text → applied (after_step s d) text ≡ said_by s text ++ applied d (drop (step_base s) text)
applied-after_step (Keep n) d text h = applied-kept n d text h
applied-after_step (Insert t) d text h = applied-inserts t d text
applied-after_step (Delete n) d text h = applied-deleted n d text h

pub cells_of-drop : (ss : List DeltaStep) (i : ℕ) (s : DeltaStep) → i < length ss → s ≡ get_or ss i s → cells_of (drop i ss) ≡ after_step s (cells_of (drop (i + 1) ss))
cells_of-drop ss i s lt is =
    ap cells_of (drop_more ss i s lt) ∙ ap (λ r. after_step r (cells_of (drop (i + 1) ss))) (sym is)

-- the next step of a list, on what is left of a text
pub base_length-step : (ss : List DeltaStep) (i : ℕ) (s : DeltaStep) → i < length ss → s ≡ get_or ss i s → base_length (cells_of (drop i ss)) ≡ step_base s + base_length (cells_of (drop (i + 1) ss))
base_length-step ss i s lt is =
    ap base_length (cells_of-drop ss i s lt is) ∙ base_length-after_step s (cells_of (drop (i + 1) ss))

pub applied-step : (ss : List DeltaStep) (i : ℕ) (s : DeltaStep) (was now left behind whole : List ℕ) → i < length ss → s ≡ get_or ss i s → base_length (cells_of (drop i ss)) ≤ length left
    → now ≡ was ++ said_by s left → behind ≡ drop (step_base s) left → was ++ applied (cells_of (drop i ss)) left ≡ whole → now ++ applied (cells_of (drop (i + 1) ss)) behind ≡ whole
applied-step ss i s was now left behind whole lt is long said rest all =
    ap (λ l. l ++ applied (cells_of (drop (i + 1) ss)) behind) said
    ∙ ap (λ l. (was ++ said_by s left) ++ applied (cells_of (drop (i + 1) ss)) l) rest
    ∙ append_assoc was (said_by s left) _
    ∙ ap (λ l. was ++ l) (sym (applied-after_step s (cells_of (drop (i + 1) ss)) left (omega (arith, long, base_length-step ss i s lt is))))
    ∙ ap (λ d. was ++ applied d left) (sym (cells_of-drop ss i s lt is))
    ∙ all

-- behind a text that was inserted stands what stood behind its place
pub drop-inserted : (old run new : List ℕ) (place at : ℕ) → place ≤ length old → new ≡ splice old place place run → at ≡ place + length run → drop at new ≡ drop place old
drop-inserted old run new place at within is at_is =
    ap (drop at) (is ∙ sym (append_assoc (take place old) run (drop place old)))
    ∙ drop_at (take place old ++ run) (drop place old) at
    (length-append (take place old) run ∙ ap (λ n. n + length run) (length-take-le place old within) ∙ sym at_is)

behind_cell : (inserted : List ℕ) (kept : Bool) (x : ℕ) (all after behind : List ℕ) → all ≡ after ++ behind → inserted ++ keeps kept x all ≡ (inserted ++ keeps kept x after) ++ behind
behind_cell inserted true x all after behind rest = ap (λ l. inserted ++ (x ∷ l)) rest ∙ sym (append_assoc inserted (x ∷ after) behind)
behind_cell inserted false x all after behind rest = ap (λ l. inserted ++ l) rest ∙ sym (append_assoc inserted after behind)

-- what is kept behind all changes is what is left of the text
pub applied-kept_behind : (d : Cells) (n : ℕ) (text : List ℕ) → length text ≡ base_length d + n → applied (joined d (keeping n)) text ≡ applied d text ++ drop (base_length d) text
applied-kept_behind d n text long = by_cells d.cells d.last text long where
  by_cells : (cs : List Cell) (last text : List ℕ) → length text ≡ length cs + n
      → applied (joined (record { cells = cs; last = last }) (keeping n)) text ≡ applied (record { cells = cs; last = last }) text ++ drop (length cs) text
  by_cells [] last text long =
      applied-inserts last (keeping n) text ∙ ap (λ l. last ++ l) (applied-keeping n text (omega (arith, long)))
  by_cells (c ∷ cs) last [] long = absurd (omega (arith, long))
  by_cells (c ∷ cs) last (x ∷ text) long = behind_cell c.inserted c.kept x _ _ _ (by_cells cs last text (omega (arith, long)))

-- the lengths of the parts
pub length-between : (d inner : Cells) (front behind : ℕ) (text : List ℕ) → d ≡ covers true front (joined inner (keeping behind)) → length text ≡ base_length d
    → length text ≡ front + (base_length inner + behind)
length-between d inner front behind text is long =
    omega (arith, long, ap base_length is, base_length-covers true front (joined inner (keeping behind)), base_length-joined inner (keeping behind), base_length-covers true behind nothing)

-- all from the first change to the last is replaced by what the changes make of it
pub applied-between : (d inner : Cells) (front behind : ℕ) (text : List ℕ) → d ≡ covers true front (joined inner (keeping behind)) → length text ≡ base_length d
    → splice text front (length text - behind) (applied inner (drop front text)) ≡ applied d text
applied-between d inner front behind text is long =
    let sizes : length text ≡ front + (base_length inner + behind) = length-between d inner front behind text is long in
    let left : length (drop front text) ≡ base_length inner + behind = omega (arith, sizes, length-drop front text) in
    let end : length text - behind ≡ front + base_length inner = omega (arith, sizes) in
    ap (λ l. take front text ++ (applied inner (drop front text) ++ l)) (ap (λ m. drop m text) end ∙ sym (drop-drop (base_length inner) front text))
    ∙ ap (λ l. take front text ++ l) (sym (applied-kept_behind inner behind (drop front text) left))
    ∙ sym (applied-kept front (joined inner (keeping behind)) text (omega (arith, sizes)))
    ∙ ap (λ e. applied e text) (sym is)

-- a delta whose steps keep some characters in front of their changes and some behind them
pub between : (d : Cells) (whole steps changes inner : List DeltaStep) (front behind : ℕ) → cells_of whole ≡ d → steps ≡ whole → cells_of steps ≡ covers true front (cells_of changes)
    → cells_of changes ≡ joined (cells_of inner) (keeping behind) → d ≡ covers true front (joined (cells_of inner) (keeping behind))
between d whole steps changes inner front behind is all in_front at_end =
    sym is ∙ ap cells_of (sym all) ∙ in_front ∙ ap (covers true front) at_end
