-- The operations of a made change, step by step of its delta.
use Rattle.std.proofs.Common.{◌≡◌, ℕ, zero, suc, ◌+◌, ◌-◌, ◌<◌, ◌≤◌, Bool, true, false, cond, List, [], ◌∷◌, ◌++◌, Option, Some, length, map, take, drop, refl, sym, ap, ap₂, ◌∙◌, subst, arith, inl, inr, add-zero, append_assoc, length-drop, length-append}
use Rattle.std.specs.Prelude.{slice_get}
use Rattle.std.specs.List.{filter, count_by}
use Rattle.std.proofs.lemmas.Bool.{cases_Bool}
use Rattle.std.proofs.lemmas.List.{append-nil, length-take-le}
use Rattle.delta.specs.Cells.{Cell, Cells, one_if, covers, with_cell, with_front_text_of, front_of, base_length}
use Rattle.delta.specs.Steps.{after_step, cells_of, step_base, MayLead, IsCanonical}
use Rattle.delta.specs.declared.steps.DeltaStep.{DeltaStep}
use Rattle.delta.specs.declared.steps.DeltaStep.TheVariants.{Keep, Insert as InsertStep, Delete as DeleteStep}
use Rattle.delta.proofs.CellsLemmas.{base_length-covers, base_length-inserts}
use Rattle.delta.proofs.StepsLemmas.{no_front}
use Rattle.tt_base.specs.Elements.{is_alive}
use Rattle.tt_base.specs.declared.ids.ElemId.{ElemId}
use Rattle.tt_base.specs.declared.elements.Element.{Element}
use Rattle.tt_base.specs.declared.text_ops.TextOp.{TextOp}
use Rattle.tt_base.specs.declared.text_ops.TextOp.TheVariants.{Insert, Delete}
use Rattle.replica_text.specs.Ids.{same, shifted}
use Rattle.replica_text.specs.Made.{visible_ids, insertion, deletion, deletions, begins_deleted, at_place, made_from, inserted_length_of, inserted_length}
use Rattle.replica_text.specs.Making.{left_at, step_ops, step_inserted, DeletionsFit}
use Rattle.replica_text.proofs.OrderLemmas.{same_one, same_self, other_same}
use Rattle.replica_text.proofs.EffectLemmas.{count_more}
use Rattle.replica_text.proofs.PlaceLemmas.{shifted_none, shifted_more}

-- the ids of visible elements
abbrev pub id_if : Bool → ElemId → List ElemId
id_if b id = cond b (id ∷ []) []

pub ids_cons : (x : Element) (xs : List Element) → visible_ids (x ∷ xs) ≡ id_if x.alive x.id ++ visible_ids xs
ids_cons x xs = by_answer x.alive where
  by_answer : (b : Bool) → map (λ (e : Element). e.id) (cond b (x ∷ filter is_alive xs) (filter is_alive xs)) ≡ id_if b x.id ++ visible_ids xs
  by_answer true = refl
  by_answer false = refl

count_if : (b : Bool) (id : ElemId) (ids : List ElemId) → length (id_if b id ++ ids) ≡ one_if b + length ids
count_if true id ids = omega arith
count_if false id ids = omega arith

pub ids_count : (elements : List Element) → length (visible_ids elements) ≡ count_by is_alive elements
ids_count [] = refl
ids_count (x ∷ xs) =
    ap length (ids_cons x xs) ∙ count_if x.alive x.id (visible_ids xs) ∙ ap (λ n. one_if x.alive + n) (ids_count xs) ∙ sym (count_more x xs)

at_if : (b : Bool) (id i : ElemId) (ids : List ElemId) (n place : ℕ) → one_if b + n ≡ place → slice_get ids n ≡ Some i → slice_get (id_if b id ++ ids) place ≡ Some i
at_if true id i ids n place e h = let is : suc n ≡ place = omega arith in subst (λ k. slice_get (id ∷ ids) k ≡ Some i) is h
at_if false id i ids n place e h = let is : n ≡ place = omega arith in subst (λ k. slice_get ids k ≡ Some i) is h

pub visible_at : (elements : List Element) (at place : ℕ) (e : Element) → slice_get elements at ≡ Some e → e.alive ≡ true → count_by is_alive (take at elements) ≡ place
    → slice_get (visible_ids elements) place ≡ Some e.id
visible_at [] at place e h a n = cc
visible_at (x ∷ xs) zero place e h a n =
    let is : x ≡ e = cc in
    let none : 0 ≡ place = n in
    ap (λ l. slice_get l place) (ids_cons x xs)
    ∙ ap (λ b. slice_get (id_if b x.id ++ visible_ids xs) place) (ap (λ (y : Element). y.alive) is ∙ a)
    ∙ ap (λ k. slice_get (x.id ∷ visible_ids xs) k) (sym none)
    ∙ ap (λ (y : Element). Some y.id) is
visible_at (x ∷ xs) (suc at) place e h a n =
    ap (λ l. slice_get l place) (ids_cons x xs)
    ∙ at_if x.alive x.id e.id (visible_ids xs) (count_by is_alive (take at xs)) place (sym (count_more x (take at xs)) ∙ n)
    (visible_at xs at (count_by is_alive (take at xs)) e h a refl)

-- a deletion goes on or not, and others stand behind it
pub deletion_on : (first : ElemId) (count : ℕ) (id : ElemId) (ops : List TextOp) → same (shifted first count) id ≡ true
    → deletion first count (deletion id 1 ops) ≡ deletion first (count + 1) ops
deletion_on first count id [] h = ap (λ b. cond b (Delete first (count + 1) ∷ []) (Delete first count ∷ (Delete id 1 ∷ []))) h
deletion_on first count id (Insert next parent text ∷ ops) h =
    ap (λ b. cond b (Delete first (count + 1) ∷ (Insert next parent text ∷ ops)) (Delete first count ∷ (Delete id 1 ∷ (Insert next parent text ∷ ops)))) h
deletion_on first count id (Delete next more ∷ ops) h =
    let on : shifted first (count + 1) ≡ shifted id 1 = sym (shifted_more first count 1) ∙ ap (λ (i : ElemId). shifted i 1) (same_one (shifted first count) id h) in
    let sum : count + (1 + more) ≡ count + 1 + more = omega arith in
    elim (cases_Bool (same (shifted id 1) next)) [
      | inl k ↦
          ap (λ b. deletion first count (cond b (Delete id (1 + more) ∷ ops) (Delete id 1 ∷ (Delete next more ∷ ops)))) k
          ∙ ap (λ b. cond b (Delete first (count + (1 + more)) ∷ ops) (Delete first count ∷ (Delete id (1 + more) ∷ ops))) h
          ∙ ap (λ n. Delete first n ∷ ops) sum
          ∙ sym (ap (λ b. cond b (Delete first (count + 1 + more) ∷ ops) (Delete first (count + 1) ∷ (Delete next more ∷ ops))) (ap (λ (i : ElemId). same i next) on ∙ k))
      | inr k ↦
          ap (λ b. deletion first count (cond b (Delete id (1 + more) ∷ ops) (Delete id 1 ∷ (Delete next more ∷ ops)))) k
          ∙ ap (λ b. cond b (Delete first (count + 1) ∷ (Delete next more ∷ ops)) (Delete first count ∷ (Delete id 1 ∷ (Delete next more ∷ ops)))) h
          ∙ sym (ap (λ b. cond b (Delete first (count + 1 + more) ∷ ops) (Delete first (count + 1) ∷ (Delete next more ∷ ops))) (ap (λ (i : ElemId). same i next) on ∙ k))
    ]

pub deletion_off : (first : ElemId) (count : ℕ) (id : ElemId) (ops : List TextOp) → same (shifted first count) id ≡ false
    → deletion first count (deletion id 1 ops) ≡ Delete first count ∷ deletion id 1 ops
deletion_off first count id [] h = ap (λ b. cond b (Delete first (count + 1) ∷ []) (Delete first count ∷ (Delete id 1 ∷ []))) h
deletion_off first count id (Insert next parent text ∷ ops) h =
    ap (λ b. cond b (Delete first (count + 1) ∷ (Insert next parent text ∷ ops)) (Delete first count ∷ (Delete id 1 ∷ (Insert next parent text ∷ ops)))) h
deletion_off first count id (Delete next more ∷ ops) h = elim (cases_Bool (same (shifted id 1) next)) [
  | inl k ↦
      ap (λ b. deletion first count (cond b (Delete id (1 + more) ∷ ops) (Delete id 1 ∷ (Delete next more ∷ ops)))) k
      ∙ ap (λ b. cond b (Delete first (count + (1 + more)) ∷ ops) (Delete first count ∷ (Delete id (1 + more) ∷ ops))) h
      ∙ sym (ap (λ b. Delete first count ∷ cond b (Delete id (1 + more) ∷ ops) (Delete id 1 ∷ (Delete next more ∷ ops))) k)
  | inr k ↦
      ap (λ b. deletion first count (cond b (Delete id (1 + more) ∷ ops) (Delete id 1 ∷ (Delete next more ∷ ops)))) k
      ∙ ap (λ b. cond b (Delete first (count + 1) ∷ (Delete next more ∷ ops)) (Delete first count ∷ (Delete id 1 ∷ (Delete next more ∷ ops)))) h
      ∙ sym (ap (λ b. Delete first count ∷ cond b (Delete id (1 + more) ∷ ops) (Delete id 1 ∷ (Delete next more ∷ ops))) k)
]

either_behind : (b : Bool) (first : ElemId) (count : ℕ) (id : ElemId) (n : ℕ) (ops rest : List TextOp)
    → cond b (Delete first (count + n) ∷ (ops ++ rest)) (Delete first count ∷ (Delete id n ∷ (ops ++ rest)))
    ≡ cond b (Delete first (count + n) ∷ ops) (Delete first count ∷ (Delete id n ∷ ops)) ++ rest
either_behind true first count id n ops rest = refl
either_behind false first count id n ops rest = refl

deletion_behind : (first : ElemId) (count : ℕ) (id : ElemId) (n : ℕ) (ops rest : List TextOp)
    → deletion first count (deletion id n ops ++ rest) ≡ deletion first count (deletion id n ops) ++ rest
deletion_behind first count id n [] rest = either_behind (same (shifted first count) id) first count id n [] rest
deletion_behind first count id n (Insert next parent text ∷ ops) rest =
    either_behind (same (shifted first count) id) first count id n (Insert next parent text ∷ ops) rest
deletion_behind first count id n (Delete next more ∷ ops) rest = elim (cases_Bool (same (shifted id n) next)) [
  | inl k ↦
      ap (λ b. deletion first count (cond b (Delete id (n + more) ∷ ops) (Delete id n ∷ (Delete next more ∷ ops)) ++ rest)) k
      ∙ either_behind (same (shifted first count) id) first count id (n + more) ops rest
      ∙ sym (ap (λ b. deletion first count (cond b (Delete id (n + more) ∷ ops) (Delete id n ∷ (Delete next more ∷ ops))) ++ rest) k)
  | inr k ↦
      ap (λ b. deletion first count (cond b (Delete id (n + more) ∷ ops) (Delete id n ∷ (Delete next more ∷ ops)) ++ rest)) k
      ∙ either_behind (same (shifted first count) id) first count id n (Delete next more ∷ ops) rest
      ∙ sym (ap (λ b. deletion first count (cond b (Delete id (n + more) ∷ ops) (Delete id n ∷ (Delete next more ∷ ops))) ++ rest) k)
]

deletions_behind : (id : ElemId) (ids : List ElemId) (rest : List TextOp) → 0 < length ids → deletion id 1 (deletions ids ++ rest) ≡ deletions (id ∷ ids) ++ rest
deletions_behind id [] rest h = absurd (omega (arith, h))
deletions_behind id (i ∷ ids) rest h = deletion_behind id 1 i 1 (deletions ids) rest

-- what the places from one on are made to
abbrev pub made_at : Cells → List ElemId → ℕ → ElemId → List TextOp
made_at d ids place next = made_from d.cells d.last (drop place ids) (left_at ids place) next

pub read_front : (ids : List ElemId) (place : ℕ) (id : ElemId) → slice_get ids place ≡ Some id → drop place ids ≡ id ∷ drop (suc place) ids
read_front [] place id h = cc
read_front (i ∷ ids) zero id h = let is : i ≡ id = cc in ap (λ (x : ElemId). x ∷ ids) is
read_front (i ∷ ids) (suc place) id h = read_front ids place id h

-- what stands at a place
record IsThere (ids : List ElemId) (place : ℕ) : Type 0 where
  pub id : ElemId
  pub is : slice_get ids place ≡ Some id

there : (ids : List ElemId) (place : ℕ) → place < length ids → IsThere ids place
there [] place h = absurd (omega (arith, h))
there (i ∷ ids) zero h = record { id = i; is = refl }
there (i ∷ ids) (suc place) h = let rest : IsThere ids place = there ids place (omega (arith, h)) in record { id = rest.id; is = rest.is }

one_place : (text : List ℕ) (kept : Bool) (d : Cells) (ids : List ElemId) (place : ℕ) (id next : ElemId) → slice_get ids place ≡ Some id
    → made_at (with_cell text kept d) ids place next
    ≡ insertion next (left_at ids place) text ++ at_place kept (begins_deleted d.cells) id (made_at d ids (suc place) (shifted next (length text)))
one_place text kept d ids place id next h =
    ap (λ l. made_from (record { inserted = text; kept = kept } ∷ d.cells) d.last l (left_at ids place) next) (read_front ids place id h)
    ∙ ap (λ o. insertion next (left_at ids place) text ++ at_place kept (begins_deleted d.cells) id (made_from d.cells d.last (drop (suc place) ids) o (shifted next (length text)))) (sym h)

kept_places : (n : ℕ) (d : Cells) (ids : List ElemId) (place : ℕ) (next : ElemId) → place + n ≤ length ids → made_at (covers true n d) ids place next ≡ made_at d ids (place + n) next
kept_places zero d ids place next h = ap (λ k. made_at d ids k next) (sym (add-zero place))
kept_places (suc n) d ids place next h =
    let at : IsThere ids place = there ids place (omega arith) in
    let sum : suc place + n ≡ place + suc n = omega arith in
    one_place [] true (covers true n d) ids place at.id next at.is
    ∙ ap (made_at (covers true n d) ids (suc place)) (shifted_none next)
    ∙ kept_places n d ids (suc place) next (omega arith)
    ∙ ap (λ k. made_at d ids k next) sum

deleted_places : (n : ℕ) (d : Cells) (ids : List ElemId) (place : ℕ) (next : ElemId) → begins_deleted d.cells ≡ false → place + suc n ≤ length ids
    → made_at (covers false (suc n) d) ids place next ≡ deletions (take (suc n) (drop place ids)) ++ made_at d ids (place + suc n) next
deleted_places zero d ids place next e h =
    let at : IsThere ids place = there ids place (omega arith) in
    let sum : suc place ≡ place + 1 = omega arith in
    one_place [] false d ids place at.id next at.is
    ∙ ap (λ b. at_place false b at.id (made_at d ids (suc place) (shifted next 0))) e
    ∙ ap (λ i. Delete at.id 1 ∷ made_at d ids (suc place) i) (shifted_none next)
    ∙ ap (λ k. Delete at.id 1 ∷ made_at d ids k next) sum
    ∙ sym (ap (λ l. deletions (take 1 l) ++ made_at d ids (place + 1) next) (read_front ids place at.id at.is))
deleted_places (suc n) d ids place next e h =
    let at : IsThere ids place = there ids place (omega arith) in
    let sum : suc place + suc n ≡ place + suc (suc n) = omega arith in
    let run : List ElemId = take (suc n) (drop (suc place) ids) in
    let fits : suc n ≤ length (drop (suc place) ids) = omega (arith, length-drop (suc place) ids) in
    let some : 0 < length run = omega (arith, length-take-le (suc n) (drop (suc place) ids) fits) in
    one_place [] false (covers false (suc n) d) ids place at.id next at.is
    ∙ ap (λ i. deletion at.id 1 (made_at (covers false (suc n) d) ids (suc place) i)) (shifted_none next)
    ∙ ap (deletion at.id 1) (deleted_places n d ids (suc place) next e (omega arith))
    ∙ deletions_behind at.id run (made_at d ids (suc place + suc n) next) some
    ∙ ap (λ k. deletions (at.id ∷ run) ++ made_at d ids k next) sum
    ∙ sym (ap (λ l. deletions (take (suc (suc n)) l) ++ made_at d ids (place + suc (suc n)) next) (read_front ids place at.id at.is))

inserted_text : (ch : ℕ) (text : List ℕ) (cs : List Cell) (last : List ℕ) (ids : List ElemId) (left : Option ElemId) (next : ElemId) → front_of cs last ≡ [] → length cs ≤ length ids
    → (let d : Cells = with_front_text_of (ch ∷ (text ++ front_of cs last)) cs last in made_from d.cells d.last ids left next)
    ≡ Insert next left (ch ∷ text) ∷ made_from cs last ids left (shifted next (length (ch ∷ text)))
inserted_text ch text [] last ids left next e h =
    subst (λ l. insertion next left (ch ∷ (text ++ l)) ≡ Insert next left (ch ∷ text) ∷ insertion (shifted next (length (ch ∷ text))) left l) (sym e)
    (ap (λ t. Insert next left (ch ∷ t) ∷ []) (append-nil text))
inserted_text ch text (c ∷ cs) last [] left next e h = absurd (omega (arith, h))
inserted_text ch text (c ∷ cs) last (id ∷ ids) left next e h =
    let later : ElemId = shifted next (length (ch ∷ text)) in
    let rest : ElemId → List TextOp = λ (i : ElemId). at_place c.kept (begins_deleted cs) id (made_from cs last ids (Some id) i) in
    subst (λ l. insertion next left (ch ∷ (text ++ l)) ++ rest (shifted next (length (ch ∷ (text ++ l))))
    ≡ Insert next left (ch ∷ text) ∷ (insertion later left l ++ rest (shifted later (length l)))) (sym e)
    (ap (λ t. Insert next left (ch ∷ t) ∷ rest (shifted next (length (ch ∷ t)))) (append-nil text)
    ∙ ap (λ i. Insert next left (ch ∷ text) ∷ rest i) (sym (shifted_none later)))

kept_next : (n : ℕ) (ss : List DeltaStep) → MayLead (DeleteStep n) ss → IsCanonical ss → begins_deleted (cells_of ss).cells ≡ false
kept_next n [] l h = refl
kept_next n (Keep zero ∷ ss) l h = absurd (omega (arith, h.0.content))
kept_next n (Keep (suc k) ∷ ss) l h = refl
kept_next n (InsertStep text ∷ ss) l h = absurd l
kept_next n (DeleteStep k ∷ ss) l h = absurd l

pub step_made : (s : DeltaStep) (ss : List DeltaStep) (ids : List ElemId) (place : ℕ) (next : ElemId) → IsCanonical (s ∷ ss) → place + base_length (after_step s (cells_of ss)) ≤ length ids
    → place + step_base s ≤ length ids
    → made_at (after_step s (cells_of ss)) ids place next ≡ step_ops s ids place next ++ made_at (cells_of ss) ids (place + step_base s) (shifted next (step_inserted s))
step_made (Keep n) ss ids place next c all h =
    kept_places n (cells_of ss) ids place next h ∙ ap (made_at (cells_of ss) ids (place + n)) (sym (shifted_none next))
step_made (InsertStep []) ss ids place next c all h = absurd (omega (arith, c.0.content))
step_made (InsertStep (ch ∷ text)) ss ids place next c all h =
    let d : Cells = cells_of ss in
    let fits : length d.cells ≤ length (drop place ids) = omega (arith, length-drop place ids, base_length-inserts (ch ∷ text) d) in
    inserted_text ch text d.cells d.last (drop place ids) (left_at ids place) next (no_front (InsertStep (ch ∷ text)) ss c.1 (λ t k. k) c.0.leads) fits
    ∙ ap (λ k. Insert next (left_at ids place) (ch ∷ text) ∷ made_at d ids k (shifted next (length (ch ∷ text)))) (sym (add-zero place))
step_made (DeleteStep zero) ss ids place next c all h = absurd (omega (arith, c.0.content))
step_made (DeleteStep (suc n)) ss ids place next c all h =
    deleted_places n (cells_of ss) ids place next (kept_next (suc n) ss c.0.leads c.1) h
    ∙ ap (λ i. deletions (take (suc n) (drop place ids)) ++ made_at (cells_of ss) ids (place + suc n) i) (sym (shifted_none next))

-- the lengths of a step and of what follows
inserted_covers : (kept : Bool) (n : ℕ) (d : Cells) → inserted_length (covers kept n d) ≡ inserted_length d
inserted_covers kept zero d = refl
inserted_covers kept (suc n) d = omega (arith, inserted_covers kept n d)

inserted_inserts : (text : List ℕ) (cs : List Cell) (last : List ℕ)
    → (let d : Cells = with_front_text_of (text ++ front_of cs last) cs last in inserted_length d) ≡ length text + inserted_length_of cs last
inserted_inserts text [] last = length-append text last
inserted_inserts text (c ∷ cs) last = omega (arith, length-append text c.inserted)

pub inserted_step : (s : DeltaStep) (d : Cells) → inserted_length (after_step s d) ≡ step_inserted s + inserted_length d
inserted_step (Keep n) d = omega (arith, inserted_covers true n d)
inserted_step (InsertStep text) d = inserted_inserts text d.cells d.last
inserted_step (DeleteStep n) d = omega (arith, inserted_covers false n d)

pub base_of_step : (s : DeltaStep) (d : Cells) → base_length (after_step s d) ≡ step_base s + base_length d
base_of_step (Keep n) d = base_length-covers true n d
base_of_step (InsertStep text) d = omega (arith, base_length-inserts text d)
base_of_step (DeleteStep n) d = base_length-covers false n d

-- indexes of deletions fit
pub fit-append : (xs ys : List TextOp) → DeletionsFit xs → DeletionsFit ys → DeletionsFit (xs ++ ys)
fit-append [] ys h k = k
fit-append (Insert first parent text ∷ xs) ys h k = fit-append xs ys h k
fit-append (Delete first count ∷ xs) ys h k = (h.0, fit-append xs ys h.1 k)

-- the ids of a run from one place on
pub taken_first : (ids : List ElemId) (place end : ℕ) (id : ElemId) → slice_get ids place ≡ Some id → place < end
    → take (end - place) (drop place ids) ≡ id ∷ take (end - (place + 1)) (drop (place + 1) ids)
taken_first ids place end id h l =
    let more : end - place ≡ suc (end - (place + 1)) = omega (arith, l) in
    let next : suc place ≡ place + 1 = omega arith in
    ap₂ take more (read_front ids place id h) ∙ ap (λ k. id ∷ take (end - (place + 1)) (drop k ids)) next

-- whether an id goes on is seen from the first of its run
pub seen_from_first : (first id : ElemId) (count index : ℕ) (b : Bool) → index + count ≡ id.index → (b ≡ true → first ≡ record id { index = index })
    → (first ≡ record id { index = index } → b ≡ true) → b ≡ same (shifted first count) id
seen_from_first first id count index true sum h k =
    sym (ap (λ (i : ElemId). same i id) (ap (λ (i : ElemId). shifted i count) (h refl) ∙ ap (λ n. record id { index = n }) sum) ∙ same_self id)
seen_from_first first id count index false sum h k =
    let back : first.index + count ≡ id.index → first.index ≡ index = λ e. omega (arith, e, sum) in
    sym (other_same (shifted first count) id (λ is. true_not_false (sym (k (
    ap (λ n. record first { index = n }) (back (ap (λ (i : ElemId). i.index) is)) ∙ ap (λ (i : ElemId). record i { index = index }) is)))))
  where
    true_not_false : true ≡ false → ⊥
    true_not_false e = cc

pub goes_on_none : (first id : ElemId) (count : ℕ) → id.index < count → false ≡ same (shifted first count) id
goes_on_none first id count l =
    sym (other_same (shifted first count) id (λ is. absurd (let at : first.index + count ≡ id.index = ap (λ (i : ElemId). i.index) is in omega (arith, at, l))))

-- one step more of a delta is made
pub step_more : (s : DeltaStep) (rest all : List DeltaStep) (ids : List ElemId) (place place' : ℕ) (next next' : ElemId) (was now whole : List TextOp) → all ≡ s ∷ rest → IsCanonical all
    → place + base_length (cells_of all) ≡ length ids → now ≡ was ++ step_ops s ids place next → place' ≡ place + step_base s → next' ≡ shifted next (step_inserted s)
    → was ++ made_at (cells_of all) ids place next ≡ whole → now ++ made_at (cells_of rest) ids place' next' ≡ whole
step_more s rest all ids place place' next next' was now whole split c base done pl nx is =
    let here : IsCanonical (s ∷ rest) = subst (λ (ss : List DeltaStep). IsCanonical ss) split c in
    let long : place + base_length (cells_of (s ∷ rest)) ≡ length ids = ap (λ (ss : List DeltaStep). place + base_length (cells_of ss)) (sym split) ∙ base in
    ap (λ l. l ++ made_at (cells_of rest) ids place' next') done
    ∙ ap₂ (λ (k : ℕ) (i : ElemId). (was ++ step_ops s ids place next) ++ made_at (cells_of rest) ids k i) pl nx
    ∙ append_assoc was (step_ops s ids place next) (made_at (cells_of rest) ids (place + step_base s) (shifted next (step_inserted s)))
    ∙ ap (λ l. was ++ l) (sym (step_made s rest ids place next here (omega (arith, long)) (omega (arith, long, base_of_step s (cells_of rest)))))
    ∙ ap (λ (ss : List DeltaStep). was ++ made_at (cells_of ss) ids place next) (sym split)
    ∙ is

pub base_of_first : (s : DeltaStep) (rest all : List DeltaStep) → all ≡ s ∷ rest → base_length (cells_of all) ≡ step_base s + base_length (cells_of rest)
base_of_first s rest all split = ap (λ (ss : List DeltaStep). base_length (cells_of ss)) split ∙ base_of_step s (cells_of rest)

pub inserted_of_first : (s : DeltaStep) (rest all : List DeltaStep) → all ≡ s ∷ rest → inserted_length (cells_of all) ≡ step_inserted s + inserted_length (cells_of rest)
inserted_of_first s rest all split = ap (λ (ss : List DeltaStep). inserted_length (cells_of ss)) split ∙ inserted_step s (cells_of rest)
