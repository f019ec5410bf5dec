-- The gap formulas and the recursion over the cells are one.
use Rattle.std.proofs.Common.{◌≡◌, ℕ, zero, suc, ◌+◌, ◌≤◌, ◌<◌, Bool, true, false, ◌&&◌, ◌||◌, ◌==◌, not, cond, List, [], ◌∷◌, ◌++◌, length, map, refl, sym, ap, ◌∙◌, subst, arith}
use Rattle.std.proofs.lemmas.Bool.{eq-eqb, ne_eqb}
use Rattle.std.specs.List.{list_any}
use Rattle.delta.specs.Cells.{Cell, Cells, ends, with_cell, one_if, base_length, result_length, inserts, covers, normal}
use Rattle.transform.specs.Carried.{covers_if, carried, after_editor, after_daemon}
use Rattle.transform.specs.Gaps.{text_at, keeps_place, kept_below, inserted_below, inserted_to, numbers, Moved, with_if, moved_if, moved_places, texts_at, delta_with, editor_by_gaps, daemon_by_gaps}
use Rattle.transform.specs.declared.sides.Side.{Side}
use Rattle.transform.specs.declared.sides.Side.TheVariants.{Editor, Daemon}

abbrev text_gap : Side → ℕ → ℕ → ℕ
text_gap Editor o n = o + n
text_gap Daemon o n = o

-- the texts of a delta with their gaps, cell by cell, where o characters stand before
abbrev texts_from : Side → ℕ → List Cell → List ℕ → List Cell → List ℕ → List Moved
texts_from s o [] last os o_last = record { gap = text_gap s o (length o_last); text = last } ∷ []
texts_from s o (c ∷ cs) last [] o_last = []
texts_from s o (c ∷ cs) last (x ∷ os) o_last =
    record { gap = text_gap s o (length x.inserted); text = c.inserted } ∷ texts_from s ((o + length x.inserted) + one_if x.kept) cs last os o_last

abbrev places_from : ℕ → List Cell → List Cell → List ℕ
places_from o [] os = []
places_from o (c ∷ cs) [] = []
places_from o (c ∷ cs) (x ∷ os) =
    with_if (x.kept && not c.kept) (o + length x.inserted) (places_from ((o + length x.inserted) + one_if x.kept) cs os)

map-numbers : {A : Type 0} (f : ℕ → A) (i n : ℕ) → map f (numbers (suc i) n) ≡ map (λ j. f (suc j)) (numbers i n)
map-numbers f i zero = refl
map-numbers f i (suc n) = ap (λ l. f (suc i) ∷ l) (map-numbers f (suc i) n)

moved_if-numbers : (test : ℕ → Bool) (to : ℕ → ℕ) (i n : ℕ) → moved_if test to (numbers (suc i) n) ≡ moved_if (λ j. test (suc j)) (λ j. to (suc j)) (numbers i n)
moved_if-numbers test to i zero = refl
moved_if-numbers test to i (suc n) = ap (with_if (test (suc i)) (to (suc i))) (moved_if-numbers test to (suc i) n)

abbrev gap_to : Side → Cells → ℕ → ℕ
gap_to Editor other i = kept_below other i + inserted_to other i
gap_to Daemon other i = kept_below other i + inserted_below other i

gap_to-zero : (s : Side) (o : ℕ) (x : Cell) (os : List Cell) (o_last : List ℕ) → o + gap_to s (record { cells = x ∷ os; last = o_last }) 0 ≡ text_gap s o (length x.inserted)
gap_to-zero Editor o x os o_last = omega arith
gap_to-zero Daemon o x os o_last = omega arith

gap_to-end : (s : Side) (o : ℕ) (o_last : List ℕ) → o + gap_to s (ends o_last) 0 ≡ text_gap s o (length o_last)
gap_to-end Editor o o_last = omega arith
gap_to-end Daemon o o_last = omega arith

gap_to-more : (s : Side) (o : ℕ) (x : Cell) (os : List Cell) (o_last : List ℕ) (i : ℕ)
    → o + gap_to s (record { cells = x ∷ os; last = o_last }) (suc i) ≡ ((o + length x.inserted) + one_if x.kept) + gap_to s (record { cells = os; last = o_last }) i
gap_to-more Editor o x os o_last i = omega arith
gap_to-more Daemon o x os o_last i = omega arith

moved_texts_from : (s : Side) (o : ℕ) (f : ℕ → ℕ) (cs : List Cell) (last : List ℕ) (os : List Cell) (o_last : List ℕ) → length cs ≡ length os
    → ((i : ℕ) → f i ≡ o + gap_to s (record { cells = os; last = o_last }) i)
    → map (λ i. record { gap = f i; text = text_at (record { cells = cs; last = last }) i }) (numbers 0 (suc (length cs))) ≡ texts_from s o cs last os o_last
moved_texts_from s o f [] last [] o_last h is =
    ap (λ g. record { gap = g; text = last } ∷ []) (is 0 ∙ gap_to-end s o o_last)
moved_texts_from s o f [] last (x ∷ os) o_last h is = absurd (omega (arith, h))
moved_texts_from s o f (c ∷ cs) last [] o_last h is = absurd (omega (arith, h))
moved_texts_from s o f (c ∷ cs) last (x ∷ os) o_last h is =
    let own : Cells = record { cells = c ∷ cs; last = last } in
    ap (λ l. record { gap = f 0; text = c.inserted } ∷ l) (map-numbers (λ i. record { gap = f i; text = text_at own i }) 0 (suc (length cs)))
    ∙ ap (λ g. record { gap = g; text = c.inserted } ∷ map (λ j. record { gap = f (suc j); text = text_at (record { cells = cs; last = last }) j }) (numbers 0 (suc (length cs))))
    (is 0 ∙ gap_to-zero s o x os o_last)
    ∙ ap (λ l. record { gap = text_gap s o (length x.inserted); text = c.inserted } ∷ l)
    (moved_texts_from s ((o + length x.inserted) + one_if x.kept) (λ i. f (suc i)) cs last os o_last (omega (arith, h)) (λ i. is (suc i) ∙ gap_to-more s o x os o_last i))

moved_places_from : (o : ℕ) (f : ℕ → ℕ) (cs : List Cell) (last : List ℕ) (os : List Cell) (o_last : List ℕ) → length cs ≡ length os
    → ((i : ℕ) → f i ≡ o + gap_to Editor (record { cells = os; last = o_last }) i)
    → moved_if (λ i. keeps_place (record { cells = os; last = o_last }) i && not (keeps_place (record { cells = cs; last = last }) i)) f (numbers 0 (length cs)) ≡ places_from o cs os
moved_places_from o f [] last os o_last h is = refl
moved_places_from o f (c ∷ cs) last [] o_last h is = absurd (omega (arith, h))
moved_places_from o f (c ∷ cs) last (x ∷ os) o_last h is =
    let test : ℕ → Bool = λ i. keeps_place (record { cells = x ∷ os; last = o_last }) i && not (keeps_place (record { cells = c ∷ cs; last = last }) i) in
    ap (with_if (x.kept && not c.kept) (f 0)) (moved_if-numbers test f 0 (length cs))
    ∙ ap (with_if (x.kept && not c.kept) (f 0))
    (moved_places_from ((o + length x.inserted) + one_if x.kept) (λ i. f (suc i)) cs last os o_last (omega (arith, h)) (λ i. is (suc i) ∙ gap_to-more Editor o x os o_last i))
    ∙ ap (λ g. with_if (x.kept && not c.kept) g (places_from ((o + length x.inserted) + one_if x.kept) cs os)) (is 0 ∙ gap_to-zero Editor o x os o_last)

-- all gaps, and all places, are g or later
abbrev AreFromGap : ℕ → List Moved → Type 0
AreFromGap g [] = Unit {0}
AreFromGap g (m ∷ moved) = (g ≤ m.gap) × AreFromGap g moved

abbrev AreFromPlace : ℕ → List ℕ → Type 0
AreFromPlace g [] = Unit {0}
AreFromPlace g (j ∷ places) = (g ≤ j) × AreFromPlace g places

AreFromGap-earlier : (g h : ℕ) (moved : List Moved) → g ≤ h → AreFromGap h moved → AreFromGap g moved
AreFromGap-earlier g h [] le a = tt
AreFromGap-earlier g h (m ∷ moved) le a = (omega (arith, le, a.0), AreFromGap-earlier g h moved le a.1)

AreFromPlace-earlier : (g h : ℕ) (places : List ℕ) → g ≤ h → AreFromPlace h places → AreFromPlace g places
AreFromPlace-earlier g h [] le a = tt
AreFromPlace-earlier g h (j ∷ places) le a = (omega (arith, le, a.0), AreFromPlace-earlier g h places le a.1)

texts_from-late : (s : Side) (o : ℕ) (cs : List Cell) (last : List ℕ) (os : List Cell) (o_last : List ℕ) → AreFromGap o (texts_from s o cs last os o_last)
texts_from-late Editor o [] last os o_last = (omega arith, tt)
texts_from-late Daemon o [] last os o_last = (omega arith, tt)
texts_from-late s o (c ∷ cs) last [] o_last = tt
texts_from-late Editor o (c ∷ cs) last (x ∷ os) o_last =
    (omega arith, AreFromGap-earlier o _ _ (omega arith) (texts_from-late Editor ((o + length x.inserted) + one_if x.kept) cs last os o_last))
texts_from-late Daemon o (c ∷ cs) last (x ∷ os) o_last =
    (omega arith, AreFromGap-earlier o _ _ (omega arith) (texts_from-late Daemon ((o + length x.inserted) + one_if x.kept) cs last os o_last))

AreFromPlace-with_if : (b : Bool) (g j : ℕ) (places : List ℕ) → g ≤ j → AreFromPlace g places → AreFromPlace g (with_if b j places)
AreFromPlace-with_if true g j places le a = (le, a)
AreFromPlace-with_if false g j places le a = a

places_from-late : (o : ℕ) (cs os : List Cell) → AreFromPlace o (places_from o cs os)
places_from-late o [] os = tt
places_from-late o (c ∷ cs) [] = tt
places_from-late o (c ∷ cs) (x ∷ os) =
    AreFromPlace-with_if (x.kept && not c.kept) o (o + length x.inserted) _ (omega arith)
    (AreFromPlace-earlier o _ _ (omega arith) (places_from-late ((o + length x.inserted) + one_if x.kept) cs os))

no_texts : (g : ℕ) (moved : List Moved) → AreFromGap (suc g) moved → texts_at g moved ≡ []
no_texts g [] a = refl
no_texts g (m ∷ moved) a =
    ap (λ b. cond b m.text [] ++ texts_at g moved) (ne_eqb m.gap g (λ e. absurd (omega (arith, e, a.0)))) ∙ no_texts g moved a.1

no_places : (g : ℕ) (places : List ℕ) → AreFromPlace (suc g) places → list_any (λ j. j == g) places ≡ false
no_places g [] a = refl
no_places g (j ∷ places) a =
    ap (λ b. b || list_any (λ k. k == g) places) (ne_eqb j g (λ e. absurd (omega (arith, e, a.0)))) ∙ no_places g places a.1

-- a run of places before all that is changed
delta_with-run : (l g n : ℕ) (moved : List Moved) (places : List ℕ) → AreFromGap (g + l) moved → AreFromPlace (g + l) places
    → delta_with g (l + n) moved places ≡ covers true l (delta_with (g + l) n moved places)
delta_with-run zero g n moved places a b =
    let m : zero + n ≡ n = omega arith in
    let same : g ≡ g + zero = omega arith in
    ap (λ k. delta_with g k moved places) m ∙ ap (λ k. delta_with k n moved places) same
delta_with-run (suc l) g n moved places a b =
    let m : suc l + n ≡ suc (l + n) = omega arith in
    let same : suc g + l ≡ g + suc l = omega arith in
    let later : suc g ≤ g + suc l = omega arith in
    ap (λ k. delta_with g k moved places) m
    ∙ ap (λ t. with_cell t (not (list_any (λ j. j == g) places)) (delta_with (suc g) (l + n) moved places)) (no_texts g moved (AreFromGap-earlier (suc g) (g + suc l) moved later a))
    ∙ ap (λ k. with_cell [] (not k) (delta_with (suc g) (l + n) moved places)) (no_places g places (AreFromPlace-earlier (suc g) (g + suc l) places later b))
    ∙ ap (with_cell [] true) (delta_with-run l (suc g) n moved places (subst (λ k. AreFromGap k moved) (sym same) a) (subst (λ k. AreFromPlace k places) (sym same) b))
    ∙ ap (λ k. with_cell [] true (covers true l (delta_with k n moved places))) same

skip_text : (g n : ℕ) (m : Moved) (moved : List Moved) (places : List ℕ) → m.gap < g → delta_with g n (m ∷ moved) places ≡ delta_with g n moved places
skip_text g zero m moved places h =
    ap (λ b. ends (cond b m.text [] ++ texts_at g moved)) (ne_eqb m.gap g (λ e. absurd (omega (arith, e, h))))
skip_text g (suc n) m moved places h =
    ap (λ b. with_cell (cond b m.text [] ++ texts_at g moved) (not (list_any (λ j. j == g) places)) (delta_with (suc g) n (m ∷ moved) places)) (ne_eqb m.gap g (λ e. absurd (omega (arith, e, h))))
    ∙ ap (with_cell (texts_at g moved) (not (list_any (λ j. j == g) places))) (skip_text (suc g) n m moved places (omega (arith, h)))

skip_place : (g n j : ℕ) (moved : List Moved) (places : List ℕ) → j < g → delta_with g n moved (j ∷ places) ≡ delta_with g n moved places
skip_place g zero j moved places h = refl
skip_place g (suc n) j moved places h =
    ap (λ b. with_cell (texts_at g moved) (not (b || list_any (λ k. k == g) places)) (delta_with (suc g) n moved (j ∷ places))) (ne_eqb j g (λ e. absurd (omega (arith, e, h))))
    ∙ ap (with_cell (texts_at g moved) (not (list_any (λ k. k == g) places))) (skip_place (suc g) n j moved places (omega (arith, h)))

-- a text at the first gap
delta_with-text : (g n : ℕ) (t : List ℕ) (moved : List Moved) (places : List ℕ) → delta_with g n (record { gap = g; text = t } ∷ moved) places ≡ inserts t (delta_with g n moved places)
delta_with-text g zero t moved places = ap (λ b. ends (cond b t [] ++ texts_at g moved)) (eq-eqb g g refl)
delta_with-text g (suc n) t moved places =
    let m : Moved = record { gap = g; text = t } in
    ap (λ b. with_cell (cond b t [] ++ texts_at g moved) (not (list_any (λ j. j == g) places)) (delta_with (suc g) n (m ∷ moved) places)) (eq-eqb g g refl)
    ∙ ap (with_cell (t ++ texts_at g moved) (not (list_any (λ j. j == g) places))) (skip_text (suc g) n m moved places (omega arith))

-- the first place, where the other delta keeps it
delta_with-place : (j k : Bool) (g n : ℕ) (moved : List Moved) (places : List ℕ) → AreFromGap (g + one_if j) moved → AreFromPlace (g + one_if j) places
    → delta_with g (one_if j + n) moved (with_if (j && not k) g places) ≡ covers_if j k 1 (delta_with (g + one_if j) n moved places)
delta_with-place false k g n moved places a b =
    let m : 0 + n ≡ n = omega arith in
    let same : g ≡ g + 0 = omega arith in
    ap (λ i. delta_with g i moved places) m ∙ ap (λ i. delta_with i n moved places) same
delta_with-place true k g n moved places a b = by_kept k where
  more : 1 + n ≡ suc n
  more = omega arith

  next : suc g ≡ g + 1
  next = omega arith

  by_kept : (k : Bool) → delta_with g (1 + n) moved (with_if (not k) g places) ≡ with_cell [] k (delta_with (g + 1) n moved places)
  by_kept true =
      ap (λ i. delta_with g i moved places) more
      ∙ ap (λ t. with_cell t (not (list_any (λ j. j == g) places)) (delta_with (suc g) n moved places)) (no_texts g moved (subst (λ i. AreFromGap i moved) (sym next) a))
      ∙ ap (λ i. with_cell [] (not i) (delta_with (suc g) n moved places)) (no_places g places (subst (λ i. AreFromPlace i places) (sym next) b))
      ∙ ap (λ i. with_cell [] true (delta_with i n moved places)) next
  by_kept false =
      ap (λ i. delta_with g i moved (g ∷ places)) more
      ∙ ap (λ t. with_cell t (not (list_any (λ j. j == g) (g ∷ places))) (delta_with (suc g) n moved (g ∷ places))) (no_texts g moved (subst (λ i. AreFromGap i moved) (sym next) a))
      ∙ ap (λ i. with_cell [] (not (i || list_any (λ j. j == g) places)) (delta_with (suc g) n moved (g ∷ places))) (eq-eqb g g refl)
      ∙ ap (with_cell [] false) (skip_place (suc g) n g moved places (omega arith))
      ∙ ap (λ i. with_cell [] false (delta_with i n moved places)) next

editor_from : (o : ℕ) (qs : List Cell) (q_last : List ℕ) (ps : List Cell) (p_last : List ℕ) → length ps ≡ length qs
    → delta_with o (result_length (record { cells = qs; last = q_last })) (texts_from Editor o ps p_last qs q_last) (places_from o ps qs) ≡ carried Editor
    (record { cells = qs; last = q_last }) (record { cells = ps; last = p_last })
editor_from o [] q_last [] p_last h =
    let n : length q_last ≡ length q_last + 0 = omega arith in
    let here : Moved = record { gap = o + length q_last; text = p_last } in
    ap (λ i. delta_with o i (here ∷ []) []) n
    ∙ delta_with-run (length q_last) o 0 (here ∷ []) [] (omega arith, tt) tt
    ∙ ap (covers true (length q_last)) (delta_with-text (o + length q_last) 0 p_last [] [])
editor_from o (x ∷ qs) q_last [] p_last h = absurd (omega (arith, h))
editor_from o [] q_last (c ∷ ps) p_last h = absurd (omega (arith, h))
editor_from o (x ∷ qs) q_last (c ∷ ps) p_last h =
    let l : ℕ = length x.inserted in
    let n : ℕ = result_length (record { cells = qs; last = q_last }) in
    let o' : ℕ = (o + l) + one_if x.kept in
    let here : Moved = record { gap = o + l; text = c.inserted } in
    let moved : List Moved = texts_from Editor o' ps p_last qs q_last in
    let places : List ℕ = places_from o' ps qs in
    let late : AreFromGap o' moved = texts_from-late Editor o' ps p_last qs q_last in
    let late_places : AreFromPlace o' places = places_from-late o' ps qs in
    let deleted : List ℕ = with_if (x.kept && not c.kept) (o + l) places in
    delta_with-run l o (one_if x.kept + n) (here ∷ moved) deleted (omega arith, AreFromGap-earlier (o + l) o' moved (omega arith) late)
    (AreFromPlace-with_if (x.kept && not c.kept) (o + l) (o + l) places (omega arith) (AreFromPlace-earlier (o + l) o' places (omega arith) late_places))
    ∙ ap (covers true l) (delta_with-text (o + l) (one_if x.kept + n) c.inserted moved deleted)
    ∙ ap (λ d. covers true l (inserts c.inserted d)) (delta_with-place x.kept c.kept (o + l) n moved places late late_places)
    ∙ ap (λ d. covers true l (inserts c.inserted (covers_if x.kept c.kept 1 d))) (editor_from o' qs q_last ps p_last (omega (arith, h)))

daemon_from : (o : ℕ) (qs : List Cell) (q_last : List ℕ) (ps : List Cell) (p_last : List ℕ) → length qs ≡ length ps
    → delta_with o (result_length (record { cells = ps; last = p_last })) (texts_from Daemon o qs q_last ps p_last) (places_from o qs ps) ≡ carried Daemon
    (record { cells = qs; last = q_last }) (record { cells = ps; last = p_last })
daemon_from o [] q_last [] p_last h =
    let n : length p_last ≡ length p_last + 0 = omega arith in
    delta_with-text o (length p_last) q_last [] []
    ∙ ap (λ i. inserts q_last (delta_with o i [] [])) n
    ∙ ap (inserts q_last) (delta_with-run (length p_last) o 0 [] [] tt tt)
daemon_from o [] q_last (x ∷ ps) p_last h = absurd (omega (arith, h))
daemon_from o (c ∷ qs) q_last [] p_last h = absurd (omega (arith, h))
daemon_from o (c ∷ qs) q_last (x ∷ ps) p_last h =
    let l : ℕ = length x.inserted in
    let n : ℕ = result_length (record { cells = ps; last = p_last }) in
    let o' : ℕ = (o + l) + one_if x.kept in
    let moved : List Moved = texts_from Daemon o' qs q_last ps p_last in
    let places : List ℕ = places_from o' qs ps in
    let late : AreFromGap o' moved = texts_from-late Daemon o' qs q_last ps p_last in
    let late_places : AreFromPlace o' places = places_from-late o' qs ps in
    let deleted : List ℕ = with_if (x.kept && not c.kept) (o + l) places in
    delta_with-text o (l + (one_if x.kept + n)) c.inserted moved deleted
    ∙ ap (inserts c.inserted)
    (delta_with-run l o (one_if x.kept + n) moved deleted (AreFromGap-earlier (o + l) o' moved (omega arith) late)
    (AreFromPlace-with_if (x.kept && not c.kept) (o + l) (o + l) places (omega arith) (AreFromPlace-earlier (o + l) o' places (omega arith) late_places)))
    ∙ ap (λ d. inserts c.inserted (covers true l d)) (delta_with-place x.kept c.kept (o + l) n moved places late late_places)
    ∙ ap (λ d. inserts c.inserted (covers true l (covers_if x.kept c.kept 1 d))) (daemon_from o' qs q_last ps p_last (omega (arith, h)))

pub editor_by_gaps_is : (p q : Cells) → base_length p ≡ base_length q → editor_by_gaps p q ≡ after_editor p q
editor_by_gaps_is p q h =
    let to : ℕ → ℕ = λ i. kept_below q i + inserted_to q i in
    let start : (i : ℕ) → to i ≡ 0 + to i = λ i. omega arith in
    ap normal
    (ap (λ l. delta_with 0 (result_length q) l (moved_places to p q)) (moved_texts_from Editor 0 to p.cells p.last q.cells q.last h start)
    ∙ ap (delta_with 0 (result_length q) (texts_from Editor 0 p.cells p.last q.cells q.last)) (moved_places_from 0 to p.cells p.last q.cells q.last h start)
    ∙ editor_from 0 q.cells q.last p.cells p.last h)

pub daemon_by_gaps_is : (q p : Cells) → base_length q ≡ base_length p → daemon_by_gaps q p ≡ after_daemon q p
daemon_by_gaps_is q p h =
    let gap : ℕ → ℕ = λ i. kept_below p i + inserted_below p i in
    let place : ℕ → ℕ = λ i. kept_below p i + inserted_to p i in
    ap normal
    (ap (λ l. delta_with 0 (result_length p) l (moved_places place q p)) (moved_texts_from Daemon 0 gap q.cells q.last p.cells p.last h (λ i. omega arith))
    ∙ ap (delta_with 0 (result_length p) (texts_from Daemon 0 q.cells q.last p.cells p.last)) (moved_places_from 0 place q.cells q.last p.cells p.last h (λ i. omega arith))
    ∙ daemon_from 0 q.cells q.last p.cells p.last h)
