-- A delta that is carried past another, piece by piece.
use Rattle.std.proofs.Common.{◌≡◌, ℕ, zero, suc, ◌+◌, Bool, true, false, List, [], ◌∷◌, ◌++◌, length, refl, sym, ap, ◌∙◌, arith, length-append}
use Rattle.delta.specs.Cells.{Cell, Cells, one_if, base_length, result_length, front, inserts, covers, joined, nothing}
use Rattle.delta.proofs.CellsLemmas.{inserts_none, inserts-inserts, joined_assoc, joined_nothing, joined-inserts, joined-covers, covers-covers, base_length-inserts, base_length-covers}
use Rattle.transform.specs.Carried.{covers_if, daemon_text, editor_text, characters, carried}
use Rattle.transform.specs.Walk.{number_if}
use Rattle.transform.specs.declared.sides.Side.{Side}
use Rattle.transform.specs.declared.sides.Side.TheVariants.{Editor, Daemon}

covers_texts : (t u : List ℕ) (d : Cells) → covers true (length t) (covers true (length u) d) ≡ covers true (length (t ++ u)) d
covers_texts t u d =
    covers-covers true (length t) (length u) d ∙ ap (λ n. covers true n d) (sym (length-append t u))

pub daemon_text_none : (s : Side) (d : Cells) → daemon_text s [] d ≡ d
daemon_text_none Editor d = refl
daemon_text_none Daemon d = inserts_none d

pub editor_text_none : (s : Side) (d : Cells) → editor_text s [] d ≡ d
editor_text_none Editor d = inserts_none d
editor_text_none Daemon d = refl

daemon_text-daemon_text : (s : Side) (t u : List ℕ) (d : Cells) → daemon_text s t (daemon_text s u d) ≡ daemon_text s (t ++ u) d
daemon_text-daemon_text Editor t u d = covers_texts t u d
daemon_text-daemon_text Daemon t u d = inserts-inserts t u d

editor_text-editor_text : (s : Side) (t u : List ℕ) (d : Cells) → editor_text s t (editor_text s u d) ≡ editor_text s (t ++ u) d
editor_text-editor_text Editor t u d = inserts-inserts t u d
editor_text-editor_text Daemon t u d = covers_texts t u d

-- the daemon's text comes first
pub carried-daemon_text : (s : Side) (t : List ℕ) (q p : Cells) → carried s (inserts t q) p ≡ daemon_text s t (carried s q p)
carried-daemon_text s t q p = by_cells q.cells q.last p.cells p.last where
  by_cells : (qs : List Cell) (q_last : List ℕ) (ps : List Cell) (p_last : List ℕ)
      → carried s (inserts t (record { cells = qs; last = q_last })) (record { cells = ps; last = p_last }) ≡ daemon_text s t
      (carried s (record { cells = qs; last = q_last }) (record { cells = ps; last = p_last }))
  by_cells [] q_last [] p_last = sym (daemon_text-daemon_text s t q_last _)
  by_cells [] q_last (c ∷ ps) p_last = sym (daemon_text-daemon_text s t q_last _)
  by_cells (c ∷ qs) q_last [] p_last = sym (daemon_text-daemon_text s t c.inserted _)
  by_cells (c ∷ qs) q_last (e ∷ ps) p_last = sym (daemon_text-daemon_text s t c.inserted _)

past_none : (s : Side) (t u v : List ℕ) (d : Cells) → u ≡ [] → daemon_text s u (editor_text s (t ++ v) d) ≡ editor_text s t (daemon_text s u (editor_text s v d))
past_none s t u v d none =
    ap (λ w. daemon_text s w (editor_text s (t ++ v) d)) none
    ∙ daemon_text_none s (editor_text s (t ++ v) d)
    ∙ sym (editor_text-editor_text s t v d)
    ∙ ap (editor_text s t) (sym (daemon_text_none s (editor_text s v d)) ∙ ap (λ w. daemon_text s w (editor_text s v d)) (sym none))

-- where the daemon inserts nothing at the gap, the editor's text comes first
pub carried-editor_text : (s : Side) (t : List ℕ) (q p : Cells) → front q ≡ [] → carried s q (inserts t p) ≡ editor_text s t (carried s q p)
carried-editor_text s t q p none = by_cells q.cells q.last p.cells p.last none where
  by_cells : (qs : List Cell) (q_last : List ℕ) (ps : List Cell) (p_last : List ℕ) → front (record { cells = qs; last = q_last }) ≡ []
      → carried s (record { cells = qs; last = q_last }) (inserts t (record { cells = ps; last = p_last })) ≡ editor_text s t
      (carried s (record { cells = qs; last = q_last }) (record { cells = ps; last = p_last }))
  by_cells [] q_last [] p_last none = past_none s t q_last p_last _ none
  by_cells [] q_last (c ∷ ps) p_last none = past_none s t q_last c.inserted _ none
  by_cells (c ∷ qs) q_last [] p_last none = past_none s t c.inserted p_last _ none
  by_cells (c ∷ qs) q_last (e ∷ ps) p_last none = past_none s t c.inserted e.inserted _ none

characters_none : (s : Side) (j k : Bool) (d : Cells) → characters s j k 0 d ≡ d
characters_none Editor true k d = refl
characters_none Editor false k d = refl
characters_none Daemon j true d = refl
characters_none Daemon j false d = refl

characters_more : (s : Side) (j k : Bool) (n : ℕ) (d : Cells) → characters s j k 1 (characters s j k n d) ≡ characters s j k (suc n) d
characters_more Editor true k n d = refl
characters_more Editor false k n d = refl
characters_more Daemon j true n d = refl
characters_more Daemon j false n d = refl

-- a run of characters that both deltas cover
pub carried-characters : (s : Side) (j k : Bool) (n : ℕ) (q p : Cells) → carried s (covers j n q) (covers k n p) ≡ characters s j k n (carried s q p)
carried-characters s j k zero q p = sym (characters_none s j k (carried s q p))
carried-characters s j k (suc n) q p =
    daemon_text_none s _
    ∙ editor_text_none s _
    ∙ ap (characters s j k 1) (carried-characters s j k n q p)
    ∙ characters_more s j k n (carried s q p)

-- what stands behind a piece
pub joined-editor_text : (s : Side) (t : List ℕ) (b d : Cells) → joined (joined b (editor_text s t nothing)) d ≡ joined b (editor_text s t d)
joined-editor_text Editor t b d =
    joined_assoc b (inserts t nothing) d ∙ ap (joined b) (joined-inserts t nothing d ∙ ap (inserts t) (inserts_none d))
joined-editor_text Daemon t b d =
    joined_assoc b (covers true (length t) nothing) d ∙ ap (joined b) (joined-covers true (length t) nothing d ∙ ap (covers true (length t)) (inserts_none d))

pub joined-daemon_text : (s : Side) (t : List ℕ) (b d : Cells) → joined (joined b (daemon_text s t nothing)) d ≡ joined b (daemon_text s t d)
joined-daemon_text Editor t b d = joined-editor_text Daemon t b d
joined-daemon_text Daemon t b d = joined-editor_text Editor t b d

joined-covers_if : (j k : Bool) (n : ℕ) (b d : Cells) → joined (joined b (covers_if j k n nothing)) d ≡ joined b (covers_if j k n d)
joined-covers_if true k n b d =
    joined_assoc b (covers k n nothing) d ∙ ap (joined b) (joined-covers k n nothing d ∙ ap (covers k n) (inserts_none d))
joined-covers_if false k n b d = ap (λ e. joined e d) (joined_nothing b)

pub joined-characters : (s : Side) (j k : Bool) (n : ℕ) (b d : Cells) → joined (joined b (characters s j k n nothing)) d ≡ joined b (characters s j k n d)
joined-characters Editor j k n b d = joined-covers_if j k n b d
joined-characters Daemon j k n b d = joined-covers_if k j n b d

pub base_length-covers_if : (j k : Bool) (n : ℕ) (d : Cells) → base_length (covers_if j k n d) ≡ number_if j n + base_length d
base_length-covers_if true k n d = base_length-covers k n d
base_length-covers_if false k n d = omega arith

-- the base of what is carried is the result of the other
abbrev pub other_length : Side → Cells → Cells → ℕ
other_length Editor q p = result_length q
other_length Daemon q p = result_length p

one_is : (k : Bool) → number_if k 1 ≡ one_if k
one_is true = refl
one_is false = refl

pub base_length-carried : (s : Side) (q p : Cells) → base_length q ≡ base_length p → base_length (carried s q p) ≡ other_length s q p
base_length-carried Editor q p lengths = by_cells q.cells q.last p.cells p.last lengths where
  by_cells : (qs : List Cell) (q_last : List ℕ) (ps : List Cell) (p_last : List ℕ) → length qs ≡ length ps
      → base_length (carried Editor (record { cells = qs; last = q_last }) (record { cells = ps; last = p_last })) ≡ result_length (record { cells = qs; last = q_last })
  by_cells [] q_last [] p_last h = omega (arith, base_length-covers true (length q_last) (inserts p_last nothing))
  by_cells [] q_last (e ∷ ps) p_last h = absurd (omega (arith, h))
  by_cells (c ∷ qs) q_last [] p_last h = absurd (omega (arith, h))
  by_cells (c ∷ qs) q_last (e ∷ ps) p_last h =
      let rest : Cells = carried Editor (record { cells = qs; last = q_last }) (record { cells = ps; last = p_last }) in
      let one : Cells = covers_if c.kept e.kept 1 rest in
      omega (
        arith,
        base_length-covers true (length c.inserted) (inserts e.inserted one),
        base_length-inserts e.inserted one,
        base_length-covers_if c.kept e.kept 1 rest,
        one_is c.kept,
        by_cells qs q_last ps p_last (omega (arith, h)),
      )
base_length-carried Daemon q p lengths = by_cells q.cells q.last p.cells p.last lengths where
  by_cells : (qs : List Cell) (q_last : List ℕ) (ps : List Cell) (p_last : List ℕ) → length qs ≡ length ps
      → base_length (carried Daemon (record { cells = qs; last = q_last }) (record { cells = ps; last = p_last })) ≡ result_length (record { cells = ps; last = p_last })
  by_cells [] q_last [] p_last h =
      omega (arith, base_length-inserts q_last (covers true (length p_last) nothing), base_length-covers true (length p_last) nothing)
  by_cells [] q_last (e ∷ ps) p_last h = absurd (omega (arith, h))
  by_cells (c ∷ qs) q_last [] p_last h = absurd (omega (arith, h))
  by_cells (c ∷ qs) q_last (e ∷ ps) p_last h =
      let rest : Cells = carried Daemon (record { cells = qs; last = q_last }) (record { cells = ps; last = p_last }) in
      let one : Cells = covers_if e.kept c.kept 1 rest in
      omega (
        arith,
        base_length-inserts c.inserted (covers true (length e.inserted) one),
        base_length-covers true (length e.inserted) one,
        base_length-covers_if e.kept c.kept 1 rest,
        one_is e.kept,
        by_cells qs q_last ps p_last (omega (arith, h)),
      )
