-- Where the operations of a made change leave the full order.
use Rattle.std.proofs.Common.{◌≡◌, ℕ, zero, suc, ◌+◌, Bool, true, false, cond, List, [], ◌∷◌, ◌++◌, Option, Some, None, length, refl, sym, ap, ap₂, ◌∙◌, subst, arith, inl, inr, append_assoc}
use Rattle.std.specs.List.{count_by}
use Rattle.std.proofs.lemmas.Bool.{cases_Bool}
use Rattle.std.proofs.lemmas.List.{append-nil}
use Rattle.delta.specs.Cells.{Cell, Cells, front_of, front, base_length, one_if}
use Rattle.tt_base.specs.Elements.{is_alive, IsNew, AreDistinct, dead}
use Rattle.tt_base.specs.declared.ids.ElemId.{ElemId}
use Rattle.tt_base.specs.declared.elements.Element.{Element}
use Rattle.tt_base.specs.declared.text_ops.TextOp.{TextOp}
use Rattle.tt_base.specs.declared.text_ops.TextOp.TheVariants.{Insert, Delete}
use Rattle.tt_base.proofs.ElementLemmas.{distinct_with}
use Rattle.replica_text.specs.Ids.{less, same, next_id, shifted}
use Rattle.replica_text.specs.Tree.{Tree, walk, IsTree, without}
use Rattle.replica_text.specs.Ops.{with_run, without_run, after_ops}
use Rattle.replica_text.specs.Placed.{passing, behind, placed, Stops, run_of}
use Rattle.replica_text.specs.Made.{visible_ids, insertion, deletion, begins_deleted, at_place, made_from, made_ops, IsAbove}
use Rattle.replica_text.proofs.OrderLemmas.{less_trans, less_other, less_next, not_back, same_one, same_self}
use Rattle.replica_text.proofs.MemberLemmas.{Has, has_here, not_before, back_distinct}
use Rattle.replica_text.proofs.SkipLemmas.{IsParent, absent_list, passing_stops}
use Rattle.replica_text.proofs.RunLemmas.{IsRunNew, WalksTo, run_walk, run_new_with, tombstone_walk}
use Rattle.replica_text.proofs.EffectLemmas.{count_more}
use Rattle.replica_text.proofs.PlaceLemmas.{shifted_none, shifted_next}
use Rattle.replica_text.proofs.OpsLemmas.{without_run-add}
use Rattle.replica_text.proofs.MadeLemmas.{id_if, ids_cons, ids_count}

-- an id above all
pub above_new : (id : ElemId) (xs : List Element) → IsAbove id xs → IsNew id xs
above_new id [] h = tt
above_new id (x ∷ xs) h = (less_other x.id id h.0, above_new id xs h.1)

above_greater : (a b : ElemId) (xs : List Element) → less a b ≡ true → IsAbove a xs → IsAbove b xs
above_greater a b [] l h = tt
above_greater a b (x ∷ xs) l h = (less_trans x.id a b h.0 l, above_greater a b xs l h.1)

pub above_shifted : (id : ElemId) (n : ℕ) (xs : List Element) → IsAbove id xs → IsAbove (shifted id n) xs
above_shifted id zero xs h = subst (λ (i : ElemId). IsAbove i xs) (sym (shifted_none id)) h
above_shifted id (suc n) xs h =
    subst (λ (i : ElemId). IsAbove i xs) (shifted_next id n) (above_shifted (next_id id) n xs (above_greater id (next_id id) xs (less_next id) h))

above-append : (id : ElemId) (xs ys : List Element) → IsAbove id xs → IsAbove id ys → IsAbove id (xs ++ ys)
above-append id [] ys h k = k
above-append id (x ∷ xs) ys h k = (h.0, above-append id xs ys h.1 k)

above_front : (id : ElemId) (xs ys : List Element) → IsAbove id (xs ++ ys) → IsAbove id xs
above_front id [] ys h = tt
above_front id (x ∷ xs) ys h = (h.0, above_front id xs ys h.1)

above_back : (id : ElemId) (xs ys : List Element) → IsAbove id (xs ++ ys) → IsAbove id ys
above_back id [] ys h = h
above_back id (x ∷ xs) ys h = above_back id xs ys h.1

pub above_run : (first : ElemId) (count : ℕ) (xs : List Element) → IsAbove first xs → IsRunNew first count xs
above_run first zero xs h = tt
above_run first (suc count) xs h =
    (above_new first xs h, above_run (next_id first) count xs (above_greater first (next_id first) xs (less_next first) h))

pub less_shifted : (id : ElemId) (n : ℕ) → less id (shifted id (suc n)) ≡ true
less_shifted id zero = subst (λ (i : ElemId). less id i ≡ true) (sym (shifted_none (next_id id)) ∙ shifted_next id 0) (less_next id)
less_shifted id (suc n) =
    subst (λ (i : ElemId). less id i ≡ true) (shifted_next id (suc n)) (less_trans id (next_id id) (shifted (next_id id) (suc n)) (less_next id) (less_shifted (next_id id) n))

run_below : (first : ElemId) (text : List ℕ) → IsAbove (shifted first (length text)) (run_of first text)
run_below first [] = tt
run_below first (ch ∷ text) = (
  less_shifted first (length text),
  subst (λ (i : ElemId). IsAbove i (run_of (next_id first) text)) (shifted_next first (length text)) (run_below (next_id first) text),
)

stops_above : (id : ElemId) (xs : List Element) → IsAbove id xs → Stops id xs
stops_above id [] h = tt
stops_above id (x ∷ xs) h = not_back x.id id h.0

run_distinct : (first : ElemId) (text : List ℕ) (xs ys : List Element) → AreDistinct (xs ++ ys) → IsRunNew first (length text) (xs ++ ys)
    → AreDistinct (xs ++ (run_of first text ++ ys))
run_distinct first [] xs ys d n = d
run_distinct first (ch ∷ text) xs ys d n =
    let new : Element = record { id = first; ch = ch; alive = true } in
    let regroup : (zs : List Element) → (xs ++ new ∷ []) ++ zs ≡ xs ++ new ∷ zs = λ zs. append_assoc xs (new ∷ []) zs in
    subst AreDistinct (regroup (run_of (next_id first) text ++ ys))
    (run_distinct (next_id first) text (xs ++ new ∷ []) ys
    (subst AreDistinct (sym (regroup ys)) (distinct_with new xs ys n.0 d))
    (subst (IsRunNew (next_id first) (length text)) (sym (regroup ys)) (run_new_with new xs ys (next_id first) (length text) (less_next first) n.1)))

-- a tree, its walk, and an id above all of it
record IsRoom (tree : Tree) (elements : List Element) (next : ElemId) : Type 0 where
  pub walks : walk tree ≡ elements
  pub is_tree : IsTree tree
  pub distinct : AreDistinct elements
  pub above : IsAbove next elements

-- a run that stands directly behind what is on its left
run_room : (tree : Tree) (xs ys : List Element) (next : ElemId) (parent : Option ElemId) (text : List ℕ) → IsRoom tree (xs ++ ys) next → IsParent parent next (xs ++ ys)
    → ((new : Element) → new.id ≡ next → placed parent new (xs ++ ys) ≡ xs ++ (new ∷ ys))
    → IsRoom (with_run next parent text tree) (xs ++ (run_of next text ++ ys)) (shifted next (length text))
run_room tree xs ys next parent text r p f =
    let walked : WalksTo (with_run next parent text tree) (xs ++ (run_of next text ++ ys)) =
    run_walk next parent text tree xs ys r.is_tree (subst AreDistinct (sym r.walks) r.distinct) (subst (IsParent parent next) (sym r.walks) p)
    (subst (IsRunNew next (length text)) (sym r.walks) (above_run next (length text) (xs ++ ys) r.above)) r.walks
    (λ new is. ap (placed parent new) r.walks ∙ f new is) (stops_above next ys (above_back next xs ys r.above)) in
    record {
      walks = walked.walks;
      is_tree = walked.is_tree;
      distinct = run_distinct next text xs ys r.distinct (above_run next (length text) (xs ++ ys) r.above);
      above = above-append (shifted next (length text)) xs (run_of next text ++ ys) (above_shifted next (length text) xs (above_front next xs ys r.above))
          (above-append (shifted next (length text)) (run_of next text) ys (run_below next text)
          (above_shifted next (length text) ys (above_back next xs ys r.above)));
    }

-- the element of a place, and the tree, after the change
abbrev pub kept_if : Bool → Element → Element
kept_if true e = e
kept_if false e = dead e

pub kept_id : (kept : Bool) (e : Element) → (kept_if kept e).id ≡ e.id
kept_id true e = refl
kept_id false e = refl

abbrev tree_at : Bool → ElemId → Tree → Tree
tree_at true id tree = tree
tree_at false id tree = without id tree

after_deletion : (first : ElemId) (count : ℕ) (ops : List TextOp) (tree : Tree) → after_ops (deletion first count ops) tree ≡ after_ops ops (without_run first count tree)
after_deletion first count [] tree = refl
after_deletion first count (Insert next parent text ∷ ops) tree = refl
after_deletion first count (Delete next more ∷ ops) tree = elim (cases_Bool (same (shifted first count) next)) [
  | inl k ↦
      ap (λ b. after_ops (cond b (Delete first (count + more) ∷ ops) (Delete first count ∷ (Delete next more ∷ ops))) tree) k
      ∙ ap (after_ops ops) (without_run-add first count more tree
      ∙ ap (λ (i : ElemId). without_run i more (without_run first count tree)) (same_one (shifted first count) next k))
  | inr k ↦ ap (λ b. after_ops (cond b (Delete first (count + more) ∷ ops) (Delete first count ∷ (Delete next more ∷ ops))) tree) k
]

after_place : (kept shares : Bool) (id : ElemId) (ops : List TextOp) (tree : Tree) → after_ops (at_place kept shares id ops) tree ≡ after_ops ops (tree_at kept id tree)
after_place true shares id ops tree = refl
after_place false true id ops tree = after_deletion id 1 ops tree
after_place false false id ops tree = refl

after_insertion : (next : ElemId) (left : Option ElemId) (text : List ℕ) (ops : List TextOp) (tree : Tree)
    → after_ops (insertion next left text ++ ops) tree ≡ after_ops ops (with_run next left text tree)
after_insertion next left [] ops tree = refl
after_insertion next left (ch ∷ text) ops tree = refl

same_above : (id : ElemId) (xs ys : List Element) (e : Element) → IsAbove id (xs ++ e ∷ ys) → IsAbove id (xs ++ dead e ∷ ys)
same_above id [] ys e h = h
same_above id (x ∷ xs) ys e h = (h.0, same_above id xs ys e h.1)

same_new : (id : ElemId) (xs ys : List Element) (e : Element) → IsNew id (xs ++ e ∷ ys) → IsNew id (xs ++ dead e ∷ ys)
same_new id [] ys e h = h
same_new id (x ∷ xs) ys e h = (h.0, same_new id xs ys e h.1)

same_distinct : (xs ys : List Element) (e : Element) → AreDistinct (xs ++ e ∷ ys) → AreDistinct (xs ++ dead e ∷ ys)
same_distinct [] ys e h = h
same_distinct (x ∷ xs) ys e h = (same_new x.id xs ys e h.0, same_distinct xs ys e h.1)

place_room : (kept : Bool) (tree : Tree) (xs ys : List Element) (e : Element) (next : ElemId) → IsRoom tree (xs ++ e ∷ ys) next
    → IsRoom (tree_at kept e.id tree) (xs ++ kept_if kept e ∷ ys) next
place_room true tree xs ys e next r = r
place_room false tree xs ys e next r =
    let walked : WalksTo (without e.id tree) (xs ++ dead e ∷ ys) =
    tombstone_walk e.id tree xs ys e r.is_tree r.walks refl (not_before e.id xs (e ∷ ys) r.distinct (inl refl)) (back_distinct xs (e ∷ ys) r.distinct).0 in
    record {
      walks = walked.walks;
      is_tree = walked.is_tree;
      distinct = same_distinct xs ys e r.distinct;
      above = same_above next xs ys e r.above;
    }

-- what becomes of the elements behind a gap whose text stands already
abbrev pub later_from : List Element → List Cell → List ℕ → ElemId → List Element
later_from [] cs last next = []
later_from (e ∷ es) [] last next = e ∷ es
later_from (e ∷ es) (c ∷ cs) last next =
    cond e.alive
    (kept_if c.kept e ∷ (run_of next (front_of cs last) ++ later_from es cs last (shifted next (length (front_of cs last)))))
    (e ∷ later_from es (c ∷ cs) last next)

-- the full order after a made change
abbrev pub later : List Element → Cells → ElemId → List Element
later elements d next = run_of next (front d) ++ later_from elements d.cells d.last (shifted next (length (front d)))

-- the operations behind a gap whose text stands already
abbrev rest_from : List Cell → List ℕ → List ElemId → ElemId → List TextOp
rest_from [] last ids next = []
rest_from (c ∷ cs) last [] next = []
rest_from (c ∷ cs) last (id ∷ ids) next =
    at_place c.kept (begins_deleted cs) id (insertion next (Some id) (front_of cs last) ++ rest_from cs last ids (shifted next (length (front_of cs last))))

front_first : (cs : List Cell) (last : List ℕ) (ids : List ElemId) (left : Option ElemId) (next : ElemId) → length cs ≡ length ids
    → made_from cs last ids left next ≡ insertion next left (front_of cs last) ++ rest_from cs last ids (shifted next (length (front_of cs last)))
front_first [] last ids left next e = sym (append-nil (insertion next left last))
front_first (c ∷ cs) last [] left next e = absurd (omega (arith, e))
front_first (c ∷ cs) last (id ∷ ids) left next e =
    ap (λ l. insertion next left c.inserted ++ at_place c.kept (begins_deleted cs) id l)
    (front_first cs last ids (Some id) (shifted next (length c.inserted)) (omega (arith, e)))

pub some_first : (e : Element) (elements : List Element) (n : ℕ) → e.alive ≡ true → n ≡ count_by is_alive (e ∷ elements) → n ≡ suc (count_by is_alive elements)
some_first e elements n a h =
    let sum : suc (count_by is_alive elements) ≡ 1 + count_by is_alive elements = omega arith in
    h ∙ count_more e elements ∙ ap (λ b. one_if b + count_by is_alive elements) a ∙ sym sum

pub none_first : (e : Element) (elements : List Element) (n : ℕ) → e.alive ≡ false → n ≡ count_by is_alive (e ∷ elements) → n ≡ count_by is_alive elements
none_first e elements n a h =
    let sum : count_by is_alive elements ≡ 0 + count_by is_alive elements = omega arith in
    h ∙ count_more e elements ∙ ap (λ b. one_if b + count_by is_alive elements) a ∙ sym sum

-- an element and the text directly behind it
behind_here : (xs ys : List Element) (e new : Element) → AreDistinct (xs ++ e ∷ ys) → Stops new.id ys → behind e.id new (xs ++ e ∷ ys) ≡ (xs ++ e ∷ []) ++ (new ∷ ys)
behind_here xs ys e new d s =
    absent_list e.id new xs (e ∷ ys) (not_before e.id xs (e ∷ ys) d (inl refl))
    ∙ ap (λ l. xs ++ l) (
    ap (λ b. cond b (e ∷ passing new ys) (e ∷ behind e.id new ys)) (same_self e.id)
    ∙ ap (λ l. e ∷ l) (passing_stops new ys s))
    ∙ sym (append_assoc xs (e ∷ []) (new ∷ ys))

text_room : (kept : Bool) (tree : Tree) (xs ys : List Element) (e : Element) (next : ElemId) (text : List ℕ) → IsRoom tree (xs ++ e ∷ ys) next
    → IsRoom (with_run next (Some e.id) text (tree_at kept e.id tree)) ((xs ++ kept_if kept e ∷ []) ++ (run_of next text ++ ys)) (shifted next (length text))
text_room kept tree xs ys e next text r =
    let k : Element = kept_if kept e in
    let place : IsRoom (tree_at kept e.id tree) (xs ++ k ∷ ys) next = place_room kept tree xs ys e next r in
    let regroup : xs ++ k ∷ ys ≡ (xs ++ k ∷ []) ++ ys = sym (append_assoc xs (k ∷ []) ys) in
    let below : less e.id next ≡ true = (above_back next xs (e ∷ ys) r.above).0 in
    run_room (tree_at kept e.id tree) (xs ++ k ∷ []) ys next (Some e.id) text
    (subst (λ l. IsRoom (tree_at kept e.id tree) l next) regroup place)
    (subst (Has e.id) regroup (has_here e.id xs ys k (kept_id kept e)), below)
    (λ new is.
    ap₂ (λ (i : ElemId) l. behind i new l) (sym (kept_id kept e)) (sym regroup)
    ∙ behind_here xs ys k new place.distinct
    (subst (λ (i : ElemId). Stops i ys) (sym is) (stops_above next ys (above_back next xs (e ∷ ys) r.above).1)))

rest_walk : (elements : List Element) (cs : List Cell) (last : List ℕ) (tree : Tree) (xs : List Element) (next : ElemId) → IsRoom tree (xs ++ elements) next
    → length cs ≡ count_by is_alive elements
    → walk (after_ops (rest_from cs last (visible_ids elements) next) tree) ≡ xs ++ later_from elements cs last next
rest_walk [] [] last tree xs next r e = r.walks
rest_walk [] (c ∷ cs) last tree xs next r e = absurd (omega (arith, e))
rest_walk (x ∷ elements) [] last tree xs next r e = r.walks
rest_walk (x ∷ elements) (c ∷ cs) last tree xs next r e = elim (cases_Bool x.alive) [
  | inl a ↦
      let text : List ℕ = front_of cs last in
      let n : ElemId = shifted next (length text) in
      let k : Element = kept_if c.kept x in
      let ids : List ElemId = visible_ids elements in
      let front : List Element = (xs ++ k ∷ []) ++ run_of next text in
      let grown : Tree = with_run next (Some x.id) text (tree_at c.kept x.id tree) in
      let room : IsRoom grown ((xs ++ k ∷ []) ++ (run_of next text ++ elements)) n = text_room c.kept tree xs elements x next text r in
      let left : suc (length cs) ≡ suc (count_by is_alive elements) = some_first x elements (suc (length cs)) a e in
      ap (λ l. walk (after_ops (rest_from (c ∷ cs) last l next) tree)) (ids_cons x elements)
      ∙ ap (λ b. walk (after_ops (rest_from (c ∷ cs) last (id_if b x.id ++ ids) next) tree)) a
      ∙ ap walk (after_place c.kept (begins_deleted cs) x.id (insertion next (Some x.id) text ++ rest_from cs last ids n) tree)
      ∙ ap walk (after_insertion next (Some x.id) text (rest_from cs last ids n) (tree_at c.kept x.id tree))
      ∙ rest_walk elements cs last grown front n
      (subst (λ l. IsRoom grown l n) (sym (append_assoc (xs ++ k ∷ []) (run_of next text) elements)) room) (omega (arith, left))
      ∙ append_assoc (xs ++ k ∷ []) (run_of next text) (later_from elements cs last n)
      ∙ append_assoc xs (k ∷ []) (run_of next text ++ later_from elements cs last n)
      ∙ ap (λ b. xs ++ cond b (k ∷ (run_of next text ++ later_from elements cs last n)) (x ∷ later_from elements (c ∷ cs) last next)) (sym a)
  | inr a ↦
      let text : List ℕ = front_of cs last in
      let n : ElemId = shifted next (length text) in
      let k : Element = kept_if c.kept x in
      ap (λ l. walk (after_ops (rest_from (c ∷ cs) last l next) tree)) (ids_cons x elements)
      ∙ ap (λ b. walk (after_ops (rest_from (c ∷ cs) last (id_if b x.id ++ visible_ids elements) next) tree)) a
      ∙ rest_walk elements (c ∷ cs) last tree (xs ++ x ∷ []) next
      (subst (λ l. IsRoom tree l next) (sym (append_assoc xs (x ∷ []) elements)) r) (none_first x elements (suc (length cs)) a e)
      ∙ append_assoc xs (x ∷ []) (later_from elements (c ∷ cs) last next)
      ∙ ap (λ b. xs ++ cond b (k ∷ (run_of next text ++ later_from elements cs last n)) (x ∷ later_from elements (c ∷ cs) last next)) (sym a)
]

-- the operations of a made change lead to that order
pub made_walk : (tree : Tree) (elements : List Element) (d : Cells) (next : ElemId) → IsTree tree → walk tree ≡ elements → AreDistinct elements → IsAbove next elements
    → base_length d ≡ count_by is_alive elements → walk (after_ops (made_ops elements d next) tree) ≡ later elements d next
made_walk tree elements d next t w distinct above e =
    let text : List ℕ = front d in
    let n : ElemId = shifted next (length text) in
    let ids : List ElemId = visible_ids elements in
    let room : IsRoom (with_run next None text tree) (run_of next text ++ elements) n =
    run_room tree [] elements next None text (record { walks = w; is_tree = t; distinct = distinct; above = above }) tt
    (λ new is. passing_stops new elements (subst (λ (i : ElemId). Stops i elements) (sym is) (stops_above next elements above))) in
    ap (λ l. walk (after_ops l tree)) (front_first d.cells d.last ids None next (e ∙ sym (ids_count elements)))
    ∙ ap walk (after_insertion next None text (rest_from d.cells d.last ids n) tree)
    ∙ rest_walk elements d.cells d.last (with_run next None text tree) (run_of next text) n room e
