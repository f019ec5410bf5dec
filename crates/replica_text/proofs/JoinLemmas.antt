-- Joins of nothing, of a run, of a tombstone, and of two joins in turn.
use Rattle.std.proofs.Common.{◌≡◌, ℕ, Bool, true, false, ◌||◌, List, [], ◌∷◌, ◌++◌, Option, length, refl, sym, ap, ap₂, ◌∙◌, subst, inl}
use Rattle.std.specs.List.{count_by, list_any}
use Rattle.std.proofs.lemmas.List.{append-nil}
use Rattle.std.proofs.lemmas.List.Folds.{list_any-append}
use Rattle.delta.specs.Cells.{Cells, nothing, covers, inserts, normal, base_length, result_length, one_if}
use Rattle.delta.specs.Marks.{composed}
use Rattle.delta.proofs.CellsLemmas.{inserts_none, inserts-inserts, covers-covers}
use Rattle.tt_base.specs.Elements.{is_alive, IsNew, AreDistinct, dead}
use Rattle.tt_base.specs.declared.ids.ElemId.{ElemId}
use Rattle.tt_base.specs.declared.elements.Element.{Element}
use Rattle.replica_text.specs.Ids.{same, next_id, is_in_run, is_known}
use Rattle.replica_text.specs.Tree.{Tree, walk, IsTree, without}
use Rattle.replica_text.specs.Ops.{with_run}
use Rattle.replica_text.specs.Effect.{is_visible, step_of, change_of, compared}
use Rattle.replica_text.specs.Placed.{placed, Stops, run_of}
use Rattle.replica_text.specs.Joined.{Grows, Joins}
use Rattle.replica_text.proofs.MemberLemmas.{not_before, back_distinct}
use Rattle.replica_text.proofs.SkipLemmas.{IsParent}
use Rattle.replica_text.proofs.GrowsLemmas.{grows_itself, grows_trans, grows_behind, grows_between, new_before, AllNew}
use Rattle.replica_text.proofs.EffectLemmas.{AllSeen, all_seen, new_invisible, effects_compose, effect_base, effect_result, count_more}
use Rattle.replica_text.proofs.RunLemmas.{IsRunNew, WalksTo, run_walk, tombstone_walk, dead_already}

-- both joins in turn
pub joins_both : (grow one two : Tree → Tree) (know first second : (ElemId → Bool) → ElemId → Bool) (old mid new : List Element) (d e : Cells)
    → ((tree : Tree) → grow tree ≡ two (one tree)) → ((known : ElemId → Bool) → know known ≡ second (first known)) → AreDistinct mid
    → Joins one first old mid d → Joins two second mid new e → Joins grow know old new (composed d e)
joins_both grow one two know first second old mid new d e same_trees same_known distinct h k = record {
  order = λ tree t w.
      let a = h.order tree t w in
      let b = k.order (one tree) a.1 a.0 in
      (ap walk (same_trees tree) ∙ b.0, subst IsTree (sym (same_trees tree)) b.1);
  grows = grows_trans old mid old mid new (λ id n. new_before id old old mid h.grows n) h.grows k.grows;
  known = k.known ∙ ap second h.known ∙ sym (same_known (is_known old));
  is_effect = ap₂ composed h.is_effect k.is_effect ∙ effects_compose old mid new distinct h.grows k.grows;
}

-- what the first leaves visible is what the second begins with
pub joins_fit : (one two : Tree → Tree) (first second : (ElemId → Bool) → ElemId → Bool) (old mid new : List Element) (d e : Cells) → AreDistinct mid
    → Joins one first old mid d → Joins two second mid new e → result_length d ≡ base_length e
joins_fit one two first second old mid new d e distinct h k =
    ap result_length h.is_effect ∙ effect_result old mid ∙ sym (effect_base mid new distinct k.grows) ∙ ap base_length (sym k.is_effect)

-- parts of a list of which each element is seen
seen_front : (v : ElemId → Bool) (xs ys : List Element) → AllSeen v (xs ++ ys) → AllSeen v xs
seen_front v [] ys h = tt
seen_front v (x ∷ xs) ys h = (h.0, seen_front v xs ys h.1)

seen_back : (v : ElemId → Bool) (xs ys : List Element) → AllSeen v (xs ++ ys) → AllSeen v ys
seen_back v [] ys h = h
seen_back v (x ∷ xs) ys h = seen_back v xs ys h.1

-- what stays is kept
step_same : (b : Bool) (c : ℕ) (d : Cells) → step_of b b c d ≡ covers true (one_if b) d
step_same true c d = refl
step_same false c d = refl

change_same : (v : ElemId → Bool) (xs zs : List Element) → AllSeen v xs → change_of (compared v (xs ++ zs)) ≡ covers true (count_by is_alive xs) (change_of (compared v zs))
change_same v [] zs h = refl
change_same v (x ∷ xs) zs h =
    let rest : Cells = change_of (compared v zs) in
    ap (λ b. step_of b x.alive x.ch (change_of (compared v (xs ++ zs)))) h.0
    ∙ step_same x.alive x.ch (change_of (compared v (xs ++ zs)))
    ∙ ap (covers true (one_if x.alive)) (change_same v xs zs h.1)
    ∙ covers-covers true (one_if x.alive) (count_by is_alive xs) rest
    ∙ ap (λ n. covers true n rest) (sym (count_more x xs))

change_all : (v : ElemId → Bool) (xs : List Element) → AllSeen v xs → change_of (compared v xs) ≡ covers true (count_by is_alive xs) nothing
change_all v xs h = ap (λ l. change_of (compared v l)) (sym (append-nil xs)) ∙ change_same v xs [] h

-- a run that comes is inserted
pub change_run : (v : ElemId → Bool) (whole : List Element) (first : ElemId) (text : List ℕ) (zs : List Element) → IsRunNew first (length text) whole
    → ((id : ElemId) → IsNew id whole → v id ≡ false) → change_of (compared v (run_of first text ++ zs)) ≡ inserts text (change_of (compared v zs))
change_run v whole first [] zs n u = sym (inserts_none (change_of (compared v zs)))
change_run v whole first (ch ∷ text) zs n u =
    ap (λ b. step_of b true ch (change_of (compared v (run_of (next_id first) text ++ zs)))) (u first n.0)
    ∙ ap (inserts (ch ∷ [])) (change_run v whole (next_id first) text zs n.1 u)
    ∙ inserts-inserts (ch ∷ []) text (change_of (compared v zs))

-- nothing changes
pub joins_nothing : (old : List Element) → AreDistinct old → Joins (λ tree. tree) (λ known. known) old old (normal (covers true (count_by is_alive old) nothing))
joins_nothing old d = record {
  order = λ tree t w. (w, t);
  grows = grows_itself old old;
  known = refl;
  is_effect = ap normal (sym (change_all (is_visible old) old (all_seen old d)));
}

all_run_new : (whole : List Element) (first : ElemId) (text : List ℕ) → IsRunNew first (length text) whole → AllNew whole (run_of first text)
all_run_new whole first [] n = tt
all_run_new whole first (ch ∷ text) n = (n.0, all_run_new whole (next_id first) text n.1)

or_swap : (a b c : Bool) → (a || (b || c)) ≡ (b || (a || c))
or_swap true true c = refl
or_swap true false c = refl
or_swap false b c = refl

run_known : (first : ElemId) (text : List ℕ) (id : ElemId) → is_known (run_of first text) id ≡ is_in_run first (length text) id
run_known first [] id = refl
run_known first (ch ∷ text) id = ap (λ b. same first id || b) (run_known (next_id first) text id)

with_run_known : (xs ys : List Element) (first : ElemId) (text : List ℕ) (id : ElemId)
    → is_known (xs ++ (run_of first text ++ ys)) id ≡ (is_in_run first (length text) id || is_known (xs ++ ys) id)
with_run_known xs ys first text id =
    let p : Element → Bool = λ e. same e.id id in
    list_any-append p xs (run_of first text ++ ys)
    ∙ ap (λ b. list_any p xs || b) (list_any-append p (run_of first text) ys)
    ∙ or_swap (list_any p xs) (list_any p (run_of first text)) (list_any p ys)
    ∙ ap₂ (λ a b. a || b) (run_known first text id) (sym (list_any-append p xs ys))

-- a run of characters comes
pub joins_run : (first : ElemId) (parent : Option ElemId) (text : List ℕ) (old xs ys : List Element) → AreDistinct old → IsParent parent first old
    → IsRunNew first (length text) old → old ≡ xs ++ ys → ((new : Element) → new.id ≡ first → placed parent new old ≡ xs ++ (new ∷ ys)) → Stops first ys
    → Joins (with_run first parent text) (λ known id. is_in_run first (length text) id || known id) old (xs ++ (run_of first text ++ ys))
    (normal (covers true (count_by is_alive xs) (inserts text (covers true (count_by is_alive ys) nothing))))
joins_run first parent text old xs ys d p n w f s =
    let seen : AllSeen (is_visible old) (xs ++ ys) = subst (AllSeen (is_visible old)) w (all_seen old d) in
    record {
      order = λ tree t is.
          let walked : WalksTo (with_run first parent text tree) (xs ++ (run_of first text ++ ys)) =
          run_walk first parent text tree xs ys t (subst AreDistinct (sym is) d) (subst (IsParent parent first) (sym is) p)
          (subst (IsRunNew first (length text)) (sym is) n) (is ∙ w) (λ new e. ap (placed parent new) is ∙ f new e) s in
          (walked.walks, walked.is_tree);
      grows = subst (λ (l : List Element). Grows old l (xs ++ (run_of first text ++ ys))) (sym w)
          (grows_behind old xs ys (run_of first text ++ ys) (grows_between old (run_of first text) ys (all_run_new old first text n)));
      known = λ i id. (with_run_known xs ys first text id ∙ ap (λ l. is_in_run first (length text) id || is_known l id) (sym w)) i;
      is_effect = ap normal (sym (
          change_same (is_visible old) xs (run_of first text ++ ys) (seen_front (is_visible old) xs ys seen)
          ∙ ap (covers true (count_by is_alive xs)) (
          change_run (is_visible old) old first text ys n (λ id m. new_invisible id old m)
          ∙ ap (inserts text) (change_all (is_visible old) ys (seen_back (is_visible old) xs ys seen)))));
    }

dead_known : (xs ys : List Element) (e : Element) (id : ElemId) → is_known (xs ++ dead e ∷ ys) id ≡ is_known (xs ++ e ∷ ys) id
dead_known [] ys e id = refl
dead_known (x ∷ xs) ys e id = ap (λ b. same x.id id || b) (dead_known xs ys e id)

-- a visible element becomes a tombstone
pub joins_tombstone : (id : ElemId) (old xs ys : List Element) (e : Element) → AreDistinct old → old ≡ xs ++ e ∷ ys → e.id ≡ id → e.alive ≡ true
    → Joins (without id) (λ known. known) old (xs ++ dead e ∷ ys)
    (normal (covers true (count_by is_alive xs) (covers false 1 (covers true (count_by is_alive ys) nothing))))
joins_tombstone id old xs ys e d w is alive =
    let whole : AreDistinct (xs ++ e ∷ ys) = subst AreDistinct w d in
    let seen : AllSeen (is_visible old) (xs ++ e ∷ ys) = subst (AllSeen (is_visible old)) w (all_seen old d) in
    let at : AllSeen (is_visible old) (e ∷ ys) = seen_back (is_visible old) xs (e ∷ ys) seen in
    record {
      order = λ tree t v.
          let walked : WalksTo (without id tree) (xs ++ dead e ∷ ys) =
          tombstone_walk id tree xs ys e t (v ∙ w) is
          (subst (λ (i : ElemId). IsNew i xs) is (not_before e.id xs (e ∷ ys) whole (inl refl)))
          (subst (λ (i : ElemId). IsNew i ys) is (back_distinct xs (e ∷ ys) whole).0) in
          (walked.walks, walked.is_tree);
      grows = subst (λ (l : List Element). Grows old l (xs ++ dead e ∷ ys)) (sym w)
          (grows_behind old xs (e ∷ ys) (dead e ∷ ys) (inl (record { id = refl; ch = refl; gone = λ h. refl }, grows_itself old ys)));
      known = λ i q. (dead_known xs ys e q ∙ ap (λ l. is_known l q) (sym w)) i;
      is_effect = ap normal (sym (
          change_same (is_visible old) xs (dead e ∷ ys) (seen_front (is_visible old) xs (e ∷ ys) seen)
          ∙ ap (covers true (count_by is_alive xs)) (
          ap (λ b. step_of b false e.ch (change_of (compared (is_visible old) ys))) (at.0 ∙ alive)
          ∙ ap (covers false 1) (change_all (is_visible old) ys at.1))));
    }

-- a tombstone stays one
pub joins_tombstone_again : (id : ElemId) (old xs ys : List Element) (e : Element) → AreDistinct old → old ≡ xs ++ e ∷ ys → e.id ≡ id → e.alive ≡ false
    → Joins (without id) (λ known. known) old old (normal (covers true (count_by is_alive old) nothing))
joins_tombstone_again id old xs ys e d w is gone =
    let whole : AreDistinct (xs ++ e ∷ ys) = subst AreDistinct w d in
    let nothing_else : Joins (λ tree. tree) (λ known. known) old old (normal (covers true (count_by is_alive old) nothing)) = joins_nothing old d in
    record {
      order = λ tree t v.
          let walked : WalksTo (without id tree) (xs ++ dead e ∷ ys) =
          tombstone_walk id tree xs ys e t (v ∙ w) is
          (subst (λ (i : ElemId). IsNew i xs) is (not_before e.id xs (e ∷ ys) whole (inl refl)))
          (subst (λ (i : ElemId). IsNew i ys) is (back_distinct xs (e ∷ ys) whole).0) in
          (walked.walks ∙ ap (λ (x : Element). xs ++ x ∷ ys) (dead_already e gone) ∙ sym w, walked.is_tree);
      grows = nothing_else.grows;
      known = nothing_else.known;
      is_effect = nothing_else.is_effect;
    }
