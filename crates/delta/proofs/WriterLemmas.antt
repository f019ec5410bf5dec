-- Groups of steps: what they tell, and that they are canonical.
use Rattle.std.proofs.Common.{◌≡◌, ℕ, zero, suc, true, false, ◌+◌, ◌^◌, ◌≤◌, ◌<◌, ◌⊎◌, inl, inr, List, [], ◌∷◌, ◌++◌, length, get_or, take, drop, refl, sym, ap, ◌∙◌, subst, arith, append_assoc}
use Rattle.std.proofs.lemmas.List.{take_more, take-append-drop}
use Rattle.delta.specs.Cells.{Cells, base_length, result_length, inserts, inserting, deleting, keeping, covers, joined, nothing}
use Rattle.delta.specs.Steps.{after_step, step_base, step_result, cells_of, IsCanonical, MayLead, keep_step, insert_step, delete_step, group, IsWriting, IsWritten}
use Rattle.delta.specs.Alike.{IsAlike}
use Rattle.delta.specs.declared.steps.DeltaStep.{DeltaStep}
use Rattle.delta.specs.declared.steps.DeltaStep.TheVariants.{Keep, Insert, Delete}
use Rattle.delta.proofs.CellsLemmas.{inserts_none, inserts-inserts, joined_assoc, joined-covers, joined-inserts, covers-covers}
use Rattle.delta.proofs.CellsLemmas.{base_length-joined, base_length-covers, base_length-inserts, result_length-joined, result_length-kept, result_length-inserts, result_length-deleted}
use Rattle.delta.proofs.StepsLemmas.{cells_of-append}
use Rattle.delta.proofs.AlikeLemmas.{IsAlike-same, IsAlike-trans, IsAlike-joined_right, IsAlike-moved}

-- what a group tells, with its empty parts
abbrev told : ℕ → List ℕ → ℕ → Cells
told kept text deleted = covers true kept (inserts text (deleting deleted))

cells_of-deletion : (n : ℕ) → cells_of (delete_step n) ≡ deleting n
cells_of-deletion zero = refl
cells_of-deletion (suc n) = refl

cells_of-insertion : (text : List ℕ) (ss : List DeltaStep) → cells_of (insert_step text ++ ss) ≡ inserts text (cells_of ss)
cells_of-insertion [] ss = sym (inserts_none (cells_of ss))
cells_of-insertion (c ∷ text) ss = refl

cells_of-kept : (n : ℕ) (ss : List DeltaStep) → cells_of (keep_step n ++ ss) ≡ covers true n (cells_of ss)
cells_of-kept zero ss = refl
cells_of-kept (suc n) ss = refl

cells_of-group : (k : ℕ) (t : List ℕ) (n : ℕ) → cells_of (group k t n) ≡ told k t n
cells_of-group k t n =
    cells_of-kept k (insert_step t ++ delete_step n)
    ∙ ap (covers true k) (cells_of-insertion t (delete_step n) ∙ ap (inserts t) (cells_of-deletion n))

pub cells_of-with_group : (ss : List DeltaStep) (k : ℕ) (t : List ℕ) (n : ℕ) → cells_of (ss ++ group k t n) ≡ joined (cells_of ss) (told k t n)
cells_of-with_group ss k t n = cells_of-append ss (group k t n) ∙ ap (joined (cells_of ss)) (cells_of-group k t n)

joined-told : (k : ℕ) (t : List ℕ) (n : ℕ) (e : Cells) → joined (told k t n) e ≡ covers true k (inserts t (covers false n (inserts [] e)))
joined-told k t n e =
    joined-covers true k (inserts t (deleting n)) e
    ∙ ap (covers true k) (joined-inserts t (deleting n) e ∙ ap (inserts t) (joined-covers false n nothing e))

behind_group : (ss : List DeltaStep) (k : ℕ) (t : List ℕ) (n : ℕ) (e : Cells)
    → joined (cells_of (ss ++ group k t n)) e ≡ joined (cells_of ss) (covers true k (inserts t (covers false n e)))
behind_group ss k t n e =
    ap (λ d. joined d e) (cells_of-with_group ss k t n)
    ∙ joined_assoc (cells_of ss) (told k t n) e
    ∙ ap (joined (cells_of ss)) (joined-told k t n e ∙ ap (λ d. covers true k (inserts t (covers false n d))) (inserts_none e))

-- a longer deleted run
pub group_deletes : (ss : List DeltaStep) (k : ℕ) (t : List ℕ) (n m : ℕ) → cells_of (ss ++ group k t (n + m)) ≡ joined (cells_of (ss ++ group k t n)) (deleting m)
group_deletes ss k t n m =
    cells_of-with_group ss k t (n + m)
    ∙ ap (λ d. joined (cells_of ss) (covers true k (inserts t d))) (sym (covers-covers false n m nothing))
    ∙ sym (behind_group ss k t n (deleting m))

-- a longer kept run, where nothing is changed behind it yet
pub group_keeps : (ss : List DeltaStep) (k n : ℕ) → cells_of (ss ++ group (k + n) [] 0) ≡ joined (cells_of (ss ++ group k [] 0)) (keeping n)
group_keeps ss k n =
    cells_of-with_group ss (k + n) [] 0
    ∙ ap (joined (cells_of ss)) (sym (covers-covers true k n nothing) ∙ ap (covers true k) (sym (inserts_none (keeping n))))
    ∙ sym (behind_group ss k [] 0 (keeping n))

-- a kept run behind whole groups
pub group_begins : (ss : List DeltaStep) (n : ℕ) → cells_of (ss ++ group n [] 0) ≡ joined (cells_of ss) (keeping n)
group_begins ss n = cells_of-with_group ss n [] 0

-- a text that is added to the group
pub group_inserts : (ss : List DeltaStep) (k : ℕ) (t u : List ℕ) (n : ℕ) → IsAlike (cells_of (ss ++ group k (t ++ u) n)) (joined (cells_of (ss ++ group k t n)) (inserting u))
group_inserts ss k t u n =
    let kept : Cells = keeping k in
    let front : Cells = inserting t in
    let moved : IsAlike (inserts u (deleting n)) (joined (deleting n) (inserting u)) = IsAlike-moved u n in
    IsAlike-trans _ _ _
    (IsAlike-same _ _
    (cells_of-with_group ss k (t ++ u) n
    ∙ ap (λ d. joined (cells_of ss) (covers true k d)) (sym (inserts-inserts t u (deleting n)))
    ∙ ap (joined (cells_of ss)) (as_joined (inserts u (deleting n)))))
    (IsAlike-trans _ _ _
    (IsAlike-joined_right (cells_of ss) _ _ (IsAlike-joined_right kept _ _ (IsAlike-joined_right front _ _ moved)))
    (IsAlike-same _ _
    (ap (joined (cells_of ss)) (sym (as_joined (joined (deleting n) (inserting u))))
    ∙ ap (λ d. joined (cells_of ss) (covers true k (inserts t d))) (joined-covers false n nothing (inserting u) ∙ ap (covers false n) (inserts_none (inserting u)))
    ∙ sym (behind_group ss k t n (inserting u))))) where
      as_joined : (d : Cells) → covers true k (inserts t d) ≡ joined (keeping k) (joined (inserting t) d)
      as_joined d = ap (covers true k) (sym (inserts_none (inserts t d))) ∙ sym (joined-covers true k nothing (inserts t d))

base_length-group : (k : ℕ) (t : List ℕ) (n : ℕ) → base_length (told k t n) ≡ k + n
base_length-group k t n =
    omega (arith, base_length-covers true k (inserts t (deleting n)), base_length-inserts t (deleting n), base_length-covers false n nothing)

pub base_length-with_group : (ss : List DeltaStep) (k : ℕ) (t : List ℕ) (n : ℕ) → base_length (cells_of (ss ++ group k t n)) ≡ base_length (cells_of ss) + (k + n)
base_length-with_group ss k t n =
    omega (arith, ap base_length (cells_of-with_group ss k t n), base_length-joined (cells_of ss) (told k t n), base_length-group k t n)

pub IsCanonical-group : (k : ℕ) (t : List ℕ) (n : ℕ) → IsCanonical (group k t n)
IsCanonical-group zero [] zero = tt
IsCanonical-group zero [] (suc n) = (record { content = omega arith; leads = tt }, tt)
IsCanonical-group zero (c ∷ t) zero = (record { content = omega arith; leads = tt }, tt)
IsCanonical-group zero (c ∷ t) (suc n) = (record { content = omega arith; leads = tt }, (record { content = omega arith; leads = tt }, tt))
IsCanonical-group (suc k) [] zero = (record { content = omega arith; leads = tt }, tt)
IsCanonical-group (suc k) [] (suc n) = (record { content = omega arith; leads = tt }, (record { content = omega arith; leads = tt }, tt))
IsCanonical-group (suc k) (c ∷ t) zero = (record { content = omega arith; leads = tt }, (record { content = omega arith; leads = tt }, tt))
IsCanonical-group (suc k) (c ∷ t) (suc n) = (record { content = omega arith; leads = tt }, (record { content = omega arith; leads = tt }, (record { content = omega arith; leads = tt }, tt)))

-- a list may stand before another
abbrev MayMeet : List DeltaStep → List DeltaStep → Type 0
MayMeet [] ys = Unit {0}
MayMeet (x ∷ []) ys = MayLead x ys
MayMeet (x ∷ (y ∷ xs)) ys = MayMeet (y ∷ xs) ys

IsCanonical-append : (xs ys : List DeltaStep) → IsCanonical xs → IsCanonical ys → MayMeet xs ys → IsCanonical (xs ++ ys)
IsCanonical-append [] ys h k m = k
IsCanonical-append (x ∷ []) ys h k m = (record { content = h.0.content; leads = m }, k)
IsCanonical-append (x ∷ (y ∷ xs)) ys h k m =
    (record { content = h.0.content; leads = h.0.leads }, IsCanonical-append (y ∷ xs) ys h.1 k m)

MayMeet-last : (xs : List DeltaStep) (s : DeltaStep) (ys : List DeltaStep) → MayLead s ys → MayMeet (xs ++ s ∷ []) ys
MayMeet-last [] s ys h = h
MayMeet-last (x ∷ []) s ys h = h
MayMeet-last (x ∷ (y ∷ xs)) s ys h = MayMeet-last (y ∷ xs) s ys h

-- behind a group that changes something a kept run may follow
MayMeet-group : (ss : List DeltaStep) (k : ℕ) (t : List ℕ) (n m : ℕ) (ys : List DeltaStep) → (0 < length t) ⊎ (0 < n) → MayMeet (ss ++ group k t n) (Keep m ∷ ys)
MayMeet-group ss k t (suc n) m ys h =
    let same : (ss ++ keep_step k ++ insert_step t) ++ Delete (suc n) ∷ [] ≡ ss ++ group k t (suc n) =
    append_assoc (ss ++ keep_step k) (insert_step t) (Delete (suc n) ∷ []) ∙ append_assoc ss (keep_step k) (insert_step t ++ Delete (suc n) ∷ []) in
    subst (λ xs. MayMeet xs (Keep m ∷ ys)) same (MayMeet-last (ss ++ keep_step k ++ insert_step t) (Delete (suc n)) (Keep m ∷ ys) tt)
MayMeet-group ss k (c ∷ t) zero m ys h =
    subst (λ xs. MayMeet xs (Keep m ∷ ys)) (append_assoc ss (keep_step k) (Insert (c ∷ t) ∷ [])) (MayMeet-last (ss ++ keep_step k) (Insert (c ∷ t)) (Keep m ∷ ys) tt)
MayMeet-group ss k [] zero m ys h = elim h [ inl p ↦ absurd (omega (arith, p)) | inr p ↦ absurd (omega (arith, p)) ]

-- however the next group grows, it may stand behind a group that changes something
pub group_follows : (ss : List DeltaStep) (kept : ℕ) (text : List ℕ) (deleted count : ℕ) → IsCanonical (ss ++ group kept text deleted) → (0 < length text) ⊎ (0 < deleted) → 0 < count
    → (k : ℕ) (t : List ℕ) (n : ℕ) → IsCanonical ((ss ++ group kept text deleted) ++ group (count + k) t n)
group_follows ss kept text deleted zero h change some k t n = absurd (omega (arith, some))
group_follows ss kept text deleted (suc count) h change some k t n =
    let same : suc (count + k) ≡ suc count + k = omega arith in
    subst (λ l. IsCanonical ((ss ++ group kept text deleted) ++ group l t n)) same
    (IsCanonical-append (ss ++ group kept text deleted) (group (suc (count + k)) t n) h (IsCanonical-group (suc (count + k)) t n)
    (MayMeet-group ss kept text deleted (suc (count + k)) (insert_step t ++ delete_step n) change))

-- a longer kept run may grow as the shorter one may
pub group_grows : (ss : List DeltaStep) (kept count : ℕ) → ((k : ℕ) (t : List ℕ) (n : ℕ) → IsCanonical (ss ++ group (kept + k) t n))
    → (k : ℕ) (t : List ℕ) (n : ℕ) → IsCanonical (ss ++ group ((kept + count) + k) t n)
group_grows ss kept count h k t n =
    let same : kept + (count + k) ≡ (kept + count) + k = omega arith in
    subst (λ l. IsCanonical (ss ++ group l t n)) same (h (count + k) t n)

pub group_stands : (ss : List DeltaStep) (kept : ℕ) (text : List ℕ) (deleted : ℕ) → ((k : ℕ) (t : List ℕ) (n : ℕ) → IsCanonical (ss ++ group (kept + k) t n))
    → IsCanonical (ss ++ group kept text deleted)
group_stands ss kept text deleted h =
    let same : kept + 0 ≡ kept = omega arith in subst (λ l. IsCanonical (ss ++ group l text deleted)) same (h 0 text deleted)

-- the next step of a list
pub cells_of-take_more : (ss : List DeltaStep) (i : ℕ) (s : DeltaStep) → i < length ss → s ≡ get_or ss i s → cells_of (take (i + 1) ss) ≡ joined (cells_of (take i ss)) (after_step s nothing)
cells_of-take_more ss i s lt is =
    ap cells_of (take_more ss i s lt) ∙ cells_of-append (take i ss) (get_or ss i s ∷ []) ∙ ap (λ r. joined (cells_of (take i ss)) (after_step r nothing)) (sym is)

pub base_length-after_step : (s : DeltaStep) (d : Cells) → base_length (after_step s d) ≡ step_base s + base_length d
base_length-after_step (Keep n) d = base_length-covers true n d
base_length-after_step (Insert t) d = omega (arith, base_length-inserts t d)
base_length-after_step (Delete n) d = base_length-covers false n d

pub result_length-after_step : (s : DeltaStep) (d : Cells) → result_length (after_step s d) ≡ step_result s + result_length d
result_length-after_step (Keep n) d = result_length-kept n d
result_length-after_step (Insert t) d = result_length-inserts t d
result_length-after_step (Delete n) d = omega (arith, result_length-deleted n d)

-- the bases of the steps so far are within the whole base
pub base_length-take_more : (ss : List DeltaStep) (i : ℕ) (s : DeltaStep) → i < length ss → s ≡ get_or ss i s → base_length (cells_of (take i ss)) + step_base s ≤ base_length (cells_of ss)
base_length-take_more ss i s lt is =
    let all : cells_of (take (i + 1) ss ++ drop (i + 1) ss) ≡ cells_of ss = ap cells_of (take-append-drop (i + 1) ss) in
    omega (
      arith,
      ap base_length all,
      ap base_length (cells_of-append (take (i + 1) ss) (drop (i + 1) ss)),
      base_length-joined (cells_of (take (i + 1) ss)) (cells_of (drop (i + 1) ss)),
      ap base_length (cells_of-take_more ss i s lt is),
      base_length-joined (cells_of (take i ss))
          (after_step s nothing),
      base_length-after_step s nothing,
    )

one_more : (l m n : ℕ) (d e : Cells) → IsAlike d (joined e (keeping n)) → l ≡ result_length e → m ≡ l + n → m ≡ result_length d
one_more l m n d e alike is more =
    omega (arith, alike.result, result_length-joined e (keeping n), result_length-kept n nothing, is, more)

-- a group grows by a deleted run
pub IsWriting-deletes : (ss : List DeltaStep) (k : ℕ) (t : List ℕ) (n l m : ℕ) → IsWriting ss k t n l → IsWriting ss k t (n + m) l
IsWriting-deletes ss k t n l m w = record {
  grows = w.grows;
  length_is =
      omega (arith, w.length_is, ap result_length (group_deletes ss k t n m), result_length-joined (cells_of (ss ++ group k t n)) (deleting m), result_length-deleted m nothing);
  fits = w.fits;
}

pub IsAlike-deletes : (ss : List DeltaStep) (k : ℕ) (t : List ℕ) (n m : ℕ) (d : Cells) → cells_of (ss ++ group k t n) ≡ d → IsAlike (cells_of (ss ++ group k t (n + m))) (joined d (deleting m))
IsAlike-deletes ss k t n m d is = IsAlike-same _ _ (group_deletes ss k t n m ∙ ap (λ e. joined e (deleting m)) is)

-- a group in which nothing is changed yet grows by a kept run
pub IsAlike-keeps : (ss : List DeltaStep) (k : ℕ) (t : List ℕ) (n m : ℕ) (d : Cells) → t ≡ [] → n ≡ 0 → cells_of (ss ++ group k t n) ≡ d
    → IsAlike (cells_of (ss ++ group (k + m) t n)) (joined d (keeping m))
IsAlike-keeps ss k t n m d empty none is =
    IsAlike-same _ _
    (ap (λ u. cells_of (ss ++ group (k + m) u n)) empty
    ∙ ap (λ j. cells_of (ss ++ group (k + m) [] j)) none
    ∙ group_keeps ss k m
    ∙ ap (λ j. joined (cells_of (ss ++ group k [] j)) (keeping m)) (sym none)
    ∙ ap (λ u. joined (cells_of (ss ++ group k u n)) (keeping m)) (sym empty)
    ∙ ap (λ e. joined e (keeping m)) is)

pub IsWriting-keeps : (ss : List DeltaStep) (k : ℕ) (t : List ℕ) (n l m l' : ℕ) → t ≡ [] → n ≡ 0 → IsWriting ss k t n l → l' ≡ l + m → l' < 2 ^ 64 → IsWriting ss (k + m) t n l'
IsWriting-keeps ss k t n l m l' empty none w more fits = record {
  grows = group_grows ss k m w.grows;
  length_is =
      one_more l l' m (cells_of (ss ++ group (k + m) t n)) (cells_of (ss ++ group k t n)) (IsAlike-keeps ss k t n m _ empty none refl) w.length_is more;
  fits = fits;
}

-- a kept run begins a new group
pub IsAlike-begins : (ss ts : List DeltaStep) (k : ℕ) (t u : List ℕ) (n m : ℕ) (d : Cells) → ts ≡ ss ++ group k t n → u ≡ [] → cells_of (ss ++ group k t n) ≡ d
    → IsAlike (cells_of (ts ++ group m u 0)) (joined d (keeping m))
IsAlike-begins ss ts k t u n m d written empty is =
    IsAlike-same _ _
    (ap (λ xs. cells_of (xs ++ group m u 0)) written
    ∙ ap (λ v. cells_of ((ss ++ group k t n) ++ group m v 0)) empty
    ∙ group_begins (ss ++ group k t n) m
    ∙ ap (λ e. joined e (keeping m)) is)

pub IsWriting-begins : (ss ts : List DeltaStep) (k : ℕ) (t u : List ℕ) (n l m l' : ℕ) → ts ≡ ss ++ group k t n → u ≡ [] → (0 < length t) ⊎ (0 < n) → 0 < m
    → IsWriting ss k t n l → l' ≡ l + m → l' < 2 ^ 64 → IsWriting ts m u 0 l'
IsWriting-begins ss ts k t u n l m l' written empty change some w more fits = record {
  grows = λ j v i.
      subst (λ xs. IsCanonical (xs ++ group (m + j) v i)) (sym written) (group_follows ss k t n m (group_stands ss k t n w.grows) change some j v i);
  length_is =
      one_more l l' m (cells_of (ts ++ group m u 0)) (cells_of (ss ++ group k t n)) (IsAlike-begins ss ts k t u n m _ written empty refl) w.length_is more;
  fits = fits;
}

-- a text is added to a group
pub IsAlike-inserts : (ss : List DeltaStep) (k : ℕ) (t u v : List ℕ) (n : ℕ) (d : Cells) → v ≡ t ++ u → cells_of (ss ++ group k t n) ≡ d
    → IsAlike (cells_of (ss ++ group k v n)) (joined d (inserting u))
IsAlike-inserts ss k t u v n d more is =
    subst (λ e. IsAlike (cells_of (ss ++ group k v n)) (joined e (inserting u))) is
    (subst (λ x. IsAlike (cells_of (ss ++ group k x n)) (joined (cells_of (ss ++ group k t n)) (inserting u))) (sym more) (group_inserts ss k t u n))

pub IsWriting-inserts : (ss : List DeltaStep) (k : ℕ) (t u v : List ℕ) (n l l' : ℕ) → v ≡ t ++ u → IsWriting ss k t n l → l' ≡ l + length u → l' < 2 ^ 64 → IsWriting ss k v n l'
IsWriting-inserts ss k t u v n l l' more w longer fits = record {
  grows = w.grows;
  length_is =
      omega (arith, longer, w.length_is, (IsAlike-inserts ss k t u v n _ more refl).result, result_length-joined (cells_of (ss ++ group k t n)) (inserting u));
  fits = fits;
}

-- what was written is a list of steps in canonical form
pub IsWritten-from_writing : (ss ts : List DeltaStep) (k : ℕ) (t : List ℕ) (n l b : ℕ) (d : Cells) → IsWriting ss k t n l → ts ≡ ss ++ group k t n
    → cells_of (ss ++ group k t n) ≡ d → b ≡ base_length d → b < 2 ^ 64 → IsWritten b ts
IsWritten-from_writing ss ts k t n l b d w written is base base_fits = record {
  base_fits = base_fits;
  base_is = base ∙ ap base_length (sym is) ∙ ap (λ xs. base_length (cells_of xs)) (sym written);
  canonical = subst IsCanonical (sym written) (group_stands ss k t n w.grows);
  result_fits =
      omega (arith, w.fits, w.length_is, ap (λ xs. result_length (cells_of xs)) written);
}

pub result_length-take_more : (ss : List DeltaStep) (i : ℕ) (s : DeltaStep) → i < length ss → s ≡ get_or ss i s
    → result_length (cells_of (take (i + 1) ss)) ≡ result_length (cells_of (take i ss)) + step_result s
result_length-take_more ss i s lt is =
    omega (arith, ap result_length (cells_of-take_more ss i s lt is), result_length-joined (cells_of (take i ss)) (after_step s nothing), result_length-after_step s nothing)

pub result_length-take_le : (ss : List DeltaStep) (i : ℕ) → result_length (cells_of (take i ss)) ≤ result_length (cells_of ss)
result_length-take_le ss i =
    let all : cells_of (take i ss ++ drop i ss) ≡ cells_of ss = ap cells_of (take-append-drop i ss) in
    omega (arith, ap result_length all, ap result_length (cells_of-append (take i ss) (drop i ss)), result_length-joined (cells_of (take i ss)) (cells_of (drop i ss)))
