-- Both ways round give the merge.
use Rattle.std.proofs.Common.{◌≡◌, ℕ, Bool, true, false, ◌&&◌, List, [], ◌∷◌, ◌++◌, length, replicate, refl, sym, ap, ◌∙◌, subst, arith}
use Rattle.std.proofs.lemmas.List.{append-nil, length-replicate}
use Rattle.std.proofs.lemmas.Bool.{and_parts}
use Rattle.delta.specs.Cells.{Cell, Cells, ends, with_cell, base_length, result_length, keeps, covers, inserts, nothing, normal, applied, is_nothing, changes_nothing, IsNormal}
use Rattle.delta.proofs.NormalLemmas.{base_length-normal, normal_is_fixed}
use Rattle.delta.proofs.ApplyLemmas.{applied-inserts}
use Rattle.delta.proofs.LawLemmas.{applied-normal, length-applied, empty_text}
use Rattle.transform.specs.Carried.{merged, covers_if, carried, after_editor, after_daemon, IsChain, applied_all, past_list, list_past, chain_end}
use Rattle.transform.specs.declared.sides.Side.TheVariants.{Editor, Daemon}
use Rattle.transform.proofs.CarriedLemmas.{base_length-carried}

applied_text : (t : List ℕ) (d : Cells) (text : List ℕ) → applied (covers true (length t) d) (t ++ text) ≡ t ++ applied d text
applied_text [] d text = refl
applied_text (c ∷ t) d text = ap (λ l. c ∷ l) (applied_text t d text)

character_editor : (j k : Bool) (c : ℕ) (d : Cells) (text : List ℕ) → applied (covers_if j k 1 d) (keeps j c text) ≡ keeps (j && k) c (applied d text)
character_editor true k c d text = refl
character_editor false k c d text = refl

character_daemon : (j k : Bool) (c : ℕ) (d : Cells) (text : List ℕ) → applied (covers_if k j 1 d) (keeps k c text) ≡ keeps (j && k) c (applied d text)
character_daemon true true c d text = refl
character_daemon true false c d text = refl
character_daemon false true c d text = refl
character_daemon false false c d text = refl

-- the daemon's change, and then the editor's past it
pub applied-carried_editor : (q p : Cells) (text : List ℕ) → base_length q ≡ base_length p → base_length q ≡ length text → applied (carried Editor q p) (applied q text) ≡ merged text q p
applied-carried_editor q p text h k = by_cells q.cells q.last p.cells p.last text h k where
  by_cells : (qs : List Cell) (q_last : List ℕ) (ps : List Cell) (p_last text : List ℕ) → length qs ≡ length ps → length qs ≡ length text
      → applied (carried Editor (record { cells = qs; last = q_last }) (record { cells = ps; last = p_last })) (applied (record { cells = qs; last = q_last }) text) ≡ merged text
      (record { cells = qs; last = q_last }) (record { cells = ps; last = p_last })
  by_cells [] q_last [] p_last text h k =
      ap (applied (covers true (length q_last) (inserts p_last nothing))) (sym (append-nil q_last))
      ∙ applied_text q_last (inserts p_last nothing) []
      ∙ ap (λ l. q_last ++ l) (append-nil p_last)
  by_cells [] q_last (e ∷ ps) p_last text h k = absurd (omega (arith, h))
  by_cells (c ∷ qs) q_last [] p_last text h k = absurd (omega (arith, h))
  by_cells (c ∷ qs) q_last (e ∷ ps) p_last [] h k = absurd (omega (arith, k))
  by_cells (c ∷ qs) q_last (e ∷ ps) p_last (x ∷ text) h k =
      let q' : Cells = record { cells = qs; last = q_last } in
      let rest : Cells = carried Editor q' (record { cells = ps; last = p_last }) in
      let one : Cells = covers_if c.kept e.kept 1 rest in
      applied_text c.inserted (inserts e.inserted one) (keeps c.kept x (applied q' text))
      ∙ ap (λ l. c.inserted ++ l) (applied-inserts e.inserted one (keeps c.kept x (applied q' text)))
      ∙ ap (λ l. c.inserted ++ (e.inserted ++ l)) (character_editor c.kept e.kept x rest (applied q' text))
      ∙ ap (λ l. c.inserted ++ (e.inserted ++ keeps (c.kept && e.kept) x l)) (by_cells qs q_last ps p_last text (omega (arith, h)) (omega (arith, k)))

-- the editor's change, and then the daemon's past it
pub applied-carried_daemon : (q p : Cells) (text : List ℕ) → base_length q ≡ base_length p → base_length q ≡ length text → applied (carried Daemon q p) (applied p text) ≡ merged text q p
applied-carried_daemon q p text h k = by_cells q.cells q.last p.cells p.last text h k where
  by_cells : (qs : List Cell) (q_last : List ℕ) (ps : List Cell) (p_last text : List ℕ) → length qs ≡ length ps → length qs ≡ length text
      → applied (carried Daemon (record { cells = qs; last = q_last }) (record { cells = ps; last = p_last })) (applied (record { cells = ps; last = p_last }) text) ≡ merged text
      (record { cells = qs; last = q_last }) (record { cells = ps; last = p_last })
  by_cells [] q_last [] p_last text h k =
      applied-inserts q_last (covers true (length p_last) nothing) p_last
      ∙ ap (λ l. q_last ++ applied (covers true (length p_last) nothing) l) (sym (append-nil p_last))
      ∙ ap (λ l. q_last ++ l) (applied_text p_last nothing [] ∙ append-nil p_last)
  by_cells [] q_last (e ∷ ps) p_last text h k = absurd (omega (arith, h))
  by_cells (c ∷ qs) q_last [] p_last text h k = absurd (omega (arith, h))
  by_cells (c ∷ qs) q_last (e ∷ ps) p_last [] h k = absurd (omega (arith, k))
  by_cells (c ∷ qs) q_last (e ∷ ps) p_last (x ∷ text) h k =
      let p' : Cells = record { cells = ps; last = p_last } in
      let rest : Cells = carried Daemon (record { cells = qs; last = q_last }) p' in
      let one : Cells = covers_if e.kept c.kept 1 rest in
      applied-inserts c.inserted (covers true (length e.inserted) one) (e.inserted ++ keeps e.kept x (applied p' text))
      ∙ ap (λ l. c.inserted ++ l) (applied_text e.inserted one (keeps e.kept x (applied p' text)))
      ∙ ap (λ l. c.inserted ++ (e.inserted ++ l)) (character_daemon c.kept e.kept x rest (applied p' text))
      ∙ ap (λ l. c.inserted ++ (e.inserted ++ keeps (c.kept && e.kept) x l)) (by_cells qs q_last ps p_last text (omega (arith, h)) (omega (arith, k)))

pub daemon_then_editor : (q p : Cells) (text : List ℕ) → base_length q ≡ base_length p → base_length q ≡ length text → applied (after_editor p q) (applied q text) ≡ merged text q p
daemon_then_editor q p text h k = applied-normal (carried Editor q p) (applied q text) ∙ applied-carried_editor q p text h k

pub editor_then_daemon : (q p : Cells) (text : List ℕ) → base_length q ≡ base_length p → base_length q ≡ length text → applied (after_daemon q p) (applied p text) ≡ merged text q p
editor_then_daemon q p text h k = applied-normal (carried Daemon q p) (applied p text) ∙ applied-carried_daemon q p text h k

pub base_length-after_editor : (q p : Cells) → base_length q ≡ base_length p → base_length (after_editor p q) ≡ result_length q
base_length-after_editor q p h = base_length-normal (carried Editor q p) ∙ base_length-carried Editor q p h

pub base_length-after_daemon : (q p : Cells) → base_length q ≡ base_length p → base_length (after_daemon q p) ≡ result_length p
base_length-after_daemon q p h = base_length-normal (carried Daemon q p) ∙ base_length-carried Daemon q p h

-- both ways round end in texts of one length
pub results_meet : (q p : Cells) → base_length q ≡ base_length p → result_length (after_editor p q) ≡ result_length (after_daemon q p)
results_meet q p h =
    let text : List ℕ = replicate (base_length q) 0 in
    let k : base_length q ≡ length text = sym (length-replicate (base_length q) 0) in
    sym (length-applied (after_editor p q) (applied q text) (base_length-after_editor q p h ∙ sym (length-applied q text k)))
    ∙ ap length (daemon_then_editor q p text h k ∙ sym (editor_then_daemon q p text h k))
    ∙ length-applied (after_daemon q p) (applied p text) (base_length-after_daemon q p h ∙ sym (length-applied p text (sym h ∙ k)))

pub list_both_ways : (p : Cells) (list : List Cells) (text : List ℕ) → IsChain (base_length p) list → base_length p ≡ length text
    → applied (past_list p list) (applied_all list text) ≡ applied_all (list_past p list) (applied p text)
list_both_ways p [] text h k = refl
list_both_ways p (q ∷ list) text h k =
    list_both_ways (after_editor p q) list (applied q text)
    (subst (λ n. IsChain n list) (sym (base_length-after_editor q p h.0)) h.1)
    (base_length-after_editor q p h.0 ∙ sym (length-applied q text (h.0 ∙ k)))
    ∙ ap (applied_all (list_past (after_editor p q) list)) (daemon_then_editor q p text h.0 (h.0 ∙ k) ∙ sym (editor_then_daemon q p text h.0 (h.0 ∙ k)))

pub list_stays_chain : (p : Cells) (list : List Cells) → IsChain (base_length p) list → IsChain (result_length p) (list_past p list)
list_stays_chain p [] h = tt
list_stays_chain p (q ∷ list) h = (
  base_length-after_daemon q p h.0,
  subst (λ n. IsChain n (list_past (after_editor p q) list)) (results_meet q p h.0)
      (list_stays_chain (after_editor p q) list (subst (λ n. IsChain n list) (sym (base_length-after_editor q p h.0)) h.1)),
)

pub base_length-past_list : (p : Cells) (list : List Cells) → IsChain (base_length p) list → base_length (past_list p list) ≡ chain_end (base_length p) list
base_length-past_list p [] h = refl
base_length-past_list p (q ∷ list) h =
    let base : base_length (after_editor p q) ≡ result_length q = base_length-after_editor q p h.0 in
    base_length-past_list (after_editor p q) list (subst (λ n. IsChain n list) (sym base) h.1)
    ∙ ap (λ n. chain_end n list) base

pub result_length-past_list : (p : Cells) (list : List Cells) → IsChain (base_length p) list → result_length (past_list p list) ≡ chain_end (result_length p) (list_past p list)
result_length-past_list p [] h = refl
result_length-past_list p (q ∷ list) h =
    result_length-past_list (after_editor p q) list (subst (λ n. IsChain n list) (sym (base_length-after_editor q p h.0)) h.1)
    ∙ ap (λ n. chain_end n (list_past (after_editor p q) list)) (results_meet q p h.0)

carried_past_nothing : (q p : Cells) → changes_nothing q ≡ true → base_length q ≡ base_length p → carried Editor q p ≡ p
carried_past_nothing q p h k = by_cells q.cells q.last p.cells p.last h k where
  by_cells : (qs : List Cell) (q_last : List ℕ) (ps : List Cell) (p_last : List ℕ) → changes_nothing (record { cells = qs; last = q_last }) ≡ true → length qs ≡ length ps
      → carried Editor (record { cells = qs; last = q_last }) (record { cells = ps; last = p_last }) ≡ record { cells = ps; last = p_last }
  by_cells [] q_last [] p_last h k =
      ap (λ t. covers true (length t) (inserts p_last nothing)) (empty_text q_last h) ∙ ap ends (append-nil p_last)
  by_cells [] q_last (e ∷ ps) p_last h k = absurd (omega (arith, k))
  by_cells (c ∷ qs) q_last [] p_last h k = absurd (omega (arith, k))
  by_cells (c ∷ qs) q_last (e ∷ ps) p_last h k =
      let both = and_parts (is_nothing c.inserted) _ h in
      let others = and_parts c.kept _ both.1 in
      let rest : Cells = carried Editor (record { cells = qs; last = q_last }) (record { cells = ps; last = p_last }) in
      ap (λ t. covers true (length t) (inserts e.inserted (covers_if c.kept e.kept 1 rest))) (empty_text c.inserted both.0)
      ∙ ap (λ b. inserts e.inserted (covers_if b e.kept 1 rest)) others.0
      ∙ ap (λ t. with_cell t e.kept rest) (append-nil e.inserted)
      ∙ ap (with_cell e.inserted e.kept) (by_cells qs q_last ps p_last others.1 (omega (arith, k)))

carried_past_no_edit : (q p : Cells) → changes_nothing p ≡ true → base_length q ≡ base_length p → carried Daemon q p ≡ q
carried_past_no_edit q p h k = by_cells q.cells q.last p.cells p.last h k where
  by_cells : (qs : List Cell) (q_last : List ℕ) (ps : List Cell) (p_last : List ℕ) → changes_nothing (record { cells = ps; last = p_last }) ≡ true → length qs ≡ length ps
      → carried Daemon (record { cells = qs; last = q_last }) (record { cells = ps; last = p_last }) ≡ record { cells = qs; last = q_last }
  by_cells [] q_last [] p_last h k =
      ap (λ t. inserts q_last (covers true (length t) nothing)) (empty_text p_last h) ∙ ap ends (append-nil q_last)
  by_cells [] q_last (e ∷ ps) p_last h k = absurd (omega (arith, k))
  by_cells (c ∷ qs) q_last [] p_last h k = absurd (omega (arith, k))
  by_cells (c ∷ qs) q_last (e ∷ ps) p_last h k =
      let both = and_parts (is_nothing e.inserted) _ h in
      let others = and_parts e.kept _ both.1 in
      let rest : Cells = carried Daemon (record { cells = qs; last = q_last }) (record { cells = ps; last = p_last }) in
      ap (λ t. inserts c.inserted (covers true (length t) (covers_if e.kept c.kept 1 rest))) (empty_text e.inserted both.0)
      ∙ ap (λ b. inserts c.inserted (covers_if b c.kept 1 rest)) others.0
      ∙ ap (λ t. with_cell t c.kept rest) (append-nil c.inserted)
      ∙ ap (with_cell c.inserted c.kept) (by_cells qs q_last ps p_last others.1 (omega (arith, k)))

pub editor_past_nothing : (q p : Cells) → changes_nothing q ≡ true → base_length q ≡ base_length p → IsNormal p → after_editor p q ≡ p
editor_past_nothing q p h k n = ap normal (carried_past_nothing q p h k) ∙ normal_is_fixed p n

pub daemon_past_nothing : (q p : Cells) → changes_nothing p ≡ true → base_length q ≡ base_length p → IsNormal q → after_daemon q p ≡ q
daemon_past_nothing q p h k n = ap normal (carried_past_no_edit q p h k) ∙ normal_is_fixed q n
