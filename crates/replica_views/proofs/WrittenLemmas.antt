-- The operations of a made change, as they are written and as they are read back.
use Rattle.std.proofs.Common.{◌≡◌, ℕ, ◌+◌, Bool, true, false, cond, refl, sym, ap, ap₂, ◌∙◌, subst, List, [], ◌∷◌, ◌++◌, map, flat_map, length, Option, Some, None, arith}
use Rattle.std.specs.Prelude.{replicate}
use Rattle.std.specs.List.{AllByRecursion}
use Rattle.std.proofs.lemmas.List.{length-replicate}
use Rattle.delta.specs.Cells.{Cell, Cells}
use Rattle.tt_base.specs.declared.ids.Name.{Name}
use Rattle.tt_base.specs.declared.ids.ElemId.{ElemId}
use Rattle.tt_base.specs.declared.elements.Element.{Element}
use Rattle.tt_base.specs.declared.text_ops.TextOp.{TextOp}
use Rattle.tt_base.specs.declared.text_ops.TextOp.TheVariants.{Insert, Delete}
use Rattle.change_codec.specs.declared.ops.Ref.{Ref}
use Rattle.change_codec.specs.declared.ops.Op.{Op}
use Rattle.change_graph.specs.History.{History}
use Rattle.change_graph.specs.Refusals.{Character, things_of}
use Rattle.replica_text.specs.Ids.{same, shifted}
use Rattle.replica_text.specs.Made.{visible_ids, insertion, deletion, begins_deleted, at_place, made_from, made_ops}
use Rattle.replica_text.proofs.OrderLemmas.{same_self}
use Rattle.replica_views.specs.Ids.{id_at, id_of}
use Rattle.replica_views.specs.Objects.{makes_from, removes_of}
use Rattle.replica_views.specs.Texts.{parent_of, text_ops}
use Rattle.replica_views.specs.Made.{ref_to, parent_to, written_op}

-- ---- new ids do not show in what is written

-- the same operations, but for the ids of what they insert
abbrev pub AreAlike : List TextOp → List TextOp → Type 0
AreAlike [] [] = Unit {0}
AreAlike [] (y ∷ ys) = ⊥
AreAlike (x ∷ xs) [] = ⊥
AreAlike (Insert first parent text ∷ xs) (Insert other parent' text' ∷ ys) = ((parent ≡ parent') × (text ≡ text')) × AreAlike xs ys
AreAlike (Insert first parent text ∷ xs) (Delete other count' ∷ ys) = ⊥
AreAlike (Delete first count ∷ xs) (Insert other parent' text' ∷ ys) = ⊥
AreAlike (Delete first count ∷ xs) (Delete other count' ∷ ys) = ((first ≡ other) × (count ≡ count')) × AreAlike xs ys

written_alike : (own : Ref) (xs ys : List TextOp) → AreAlike xs ys → map (written_op own) xs ≡ map (written_op own) ys
written_alike own [] [] alike = refl
written_alike own [] (y ∷ ys) alike = absurd alike
written_alike own (x ∷ xs) [] alike = absurd alike
written_alike own (Insert first parent text ∷ xs) (Insert other parent' text' ∷ ys) alike =
    let p : parent ≡ parent' = alike.0.0 in
    let t : text ≡ text' = alike.0.1 in
    ap₂ (λ (o : Op) (os : List Op). o ∷ os) (λ i. written_op own (Insert first (p i) (t i))) (written_alike own xs ys alike.1)
written_alike own (Insert first parent text ∷ xs) (Delete other count' ∷ ys) alike = absurd alike
written_alike own (Delete first count ∷ xs) (Insert other parent' text' ∷ ys) alike = absurd alike
written_alike own (Delete first count ∷ xs) (Delete other count' ∷ ys) alike =
    let f : first ≡ other = alike.0.0 in
    let c : count ≡ count' = alike.0.1 in
    ap₂ (λ (o : Op) (os : List Op). o ∷ os) (λ i. written_op own (Delete (f i) (c i))) (written_alike own xs ys alike.1)

alike_deletion : (id : ElemId) (count : ℕ) (xs ys : List TextOp) → AreAlike xs ys → AreAlike (deletion id count xs) (deletion id count ys)
alike_deletion id count [] [] alike = ((refl, refl), tt)
alike_deletion id count [] (y ∷ ys) alike = absurd alike
alike_deletion id count (x ∷ xs) [] alike = absurd alike
alike_deletion id count (Insert first parent text ∷ xs) (Insert other parent' text' ∷ ys) alike = ((refl, refl), alike)
alike_deletion id count (Insert first parent text ∷ xs) (Delete other count' ∷ ys) alike = absurd alike
alike_deletion id count (Delete first more ∷ xs) (Insert other parent' text' ∷ ys) alike = absurd alike
alike_deletion id count (Delete first more ∷ xs) (Delete other more' ∷ ys) alike =
    subst (λ (x : ElemId). AreAlike (cond (same (shifted id count) first) (Delete id (count + more) ∷ xs) (Delete id count ∷ (Delete first more ∷ xs)))
    (cond (same (shifted id count) x) (Delete id (count + more') ∷ ys) (Delete id count ∷ (Delete x more' ∷ ys)))) alike.0.0
    (by (same (shifted id count) first)) where
      by : (b : Bool)
          → AreAlike (cond b (Delete id (count + more) ∷ xs) (Delete id count ∷ (Delete first more ∷ xs)))
          (cond b (Delete id (count + more') ∷ ys) (Delete id count ∷ (Delete first more' ∷ ys)))
      by true = ((refl, ap (λ (n : ℕ). count + n) alike.0.1), alike.1)
      by false = ((refl, refl), ((refl, alike.0.1), alike.1))

alike_place : (kept shares : Bool) (id : ElemId) (xs ys : List TextOp) → AreAlike xs ys → AreAlike (at_place kept shares id xs) (at_place kept shares id ys)
alike_place true shares id xs ys alike = alike
alike_place false true id xs ys alike = alike_deletion id 1 xs ys alike
alike_place false false id xs ys alike = ((refl, refl), alike)

alike_insertion : (text : List ℕ) (left : Option ElemId) (next next' : ElemId) (xs ys : List TextOp) → AreAlike xs ys
    → AreAlike (insertion next left text ++ xs) (insertion next' left text ++ ys)
alike_insertion [] left next next' xs ys alike = alike
alike_insertion (ch ∷ text) left next next' xs ys alike = ((refl, refl), alike)

alike_last : (text : List ℕ) (left : Option ElemId) (next next' : ElemId) → AreAlike (insertion next left text) (insertion next' left text)
alike_last [] left next next' = tt
alike_last (ch ∷ text) left next next' = ((refl, refl), tt)

made_alike : (cells : List Cell) (last : List ℕ) (ids : List ElemId) (left : Option ElemId) (next next' : ElemId)
    → AreAlike (made_from cells last ids left next) (made_from cells last ids left next')
made_alike [] last ids left next next' = alike_last last left next next'
made_alike (c ∷ cs) last [] left next next' = tt
made_alike (c ∷ cs) last (id ∷ ids) left next next' =
    let n : ElemId = shifted next (length c.inserted) in
    let n' : ElemId = shifted next' (length c.inserted) in
    alike_insertion c.inserted left next next' (at_place c.kept (begins_deleted cs) id (made_from cs last ids (Some id) n))
    (at_place c.kept (begins_deleted cs) id (made_from cs last ids (Some id) n'))
    (alike_place c.kept (begins_deleted cs) id (made_from cs last ids (Some id) n) (made_from cs last ids (Some id) n')
    (made_alike cs last ids (Some id) n n'))

-- whatever the new ids are, the same is written
pub same_written : (own : Ref) (elements : List Element) (d : Cells) (next next' : ElemId)
    → map (written_op own) (made_ops elements d next) ≡ map (written_op own) (made_ops elements d next')
same_written own elements d next next' =
    written_alike own (made_ops elements d next) (made_ops elements d next') (made_alike d.cells d.last (visible_ids elements) None next next')

-- ---- read back

module _ (g : History) (n : Name) where
  -- the id is that of what its change made at its index
  abbrev pub IsTrueId : ElemId → Type 0
  IsTrueId id = id_at g id.name id.index ≡ id

  abbrev IsTrueParent : Option ElemId → Type 0
  IsTrueParent None = Unit {0}
  IsTrueParent (Some id) = IsTrueId id

  -- what is inserted has the next ids of the change, from an index on, and all else has true ids
  abbrev pub AreReadable : ℕ → List TextOp → Type 0
  AreReadable index [] = Unit {0}
  AreReadable index (Insert first parent text ∷ ops) = ((first ≡ id_at g n index) × IsTrueParent parent) × AreReadable (index + length text) ops
  AreReadable index (Delete first count ∷ ops) = IsTrueId first × AreReadable index ops

  parent_back : (parent : Option ElemId) → IsTrueParent parent → parent_of g n (parent_to parent) ≡ parent
  parent_back None is = refl
  parent_back (Some id) is = ap (λ (x : ElemId). Some x) is

  pub read_back : (own : Ref) (object : ElemId) → id_of g n own ≡ object → (ops : List TextOp) (index : ℕ) → AreReadable index ops
      → text_ops g n object index (map (written_op own) ops) ≡ ops
  read_back own object is [] index readable = refl
  read_back own object is (Insert first parent text ∷ ops) index readable =
      let here : same object (id_of g n own) ≡ true = subst (λ (x : ElemId). same object x ≡ true) (sym is) (same_self object) in
      let f : id_at g n index ≡ first = sym readable.0.0 in
      let p : parent_of g n (parent_to parent) ≡ parent = parent_back parent readable.0.1 in
      let long : index + length (replicate (length text) (Character own)) ≡ index + length text = ap (λ (k : ℕ). index + k) (length-replicate (length text) (Character own)) in
      ap₂ (λ (xs ys : List TextOp). xs ++ ys) (λ i. cond (here i) (Insert (f i) (p i) text ∷ []) [])
      (ap (λ (k : ℕ). text_ops g n object k (map (written_op own) ops)) long
      ∙ read_back own object is ops (index + length text) readable.1)
  read_back own object is (Delete first count ∷ ops) index readable =
      let here : same object (id_of g n own) ≡ true = subst (λ (x : ElemId). same object x ≡ true) (sym is) (same_self object) in
      let f : id_at g first.name first.index ≡ first = readable.0 in
      ap₂ (λ (xs ys : List TextOp). xs ++ ys) (λ i. cond (here i) (Delete (f i) count ∷ []) [])
      (ap (λ (k : ℕ). text_ops g n object k (map (written_op own) ops)) (let e : index + 0 ≡ index = omega arith in e)
      ∙ read_back own object is ops index readable.1)

  -- on another object nothing is read
  pub read_elsewhere : (own : Ref) (object : ElemId) → same object (id_of g n own) ≡ false → (ops : List TextOp) (index : ℕ)
      → text_ops g n object index (map (written_op own) ops) ≡ []
  read_elsewhere own object apart [] index = refl
  read_elsewhere own object apart (Insert first parent text ∷ ops) index =
      ap₂ (λ (xs ys : List TextOp). xs ++ ys)
      (ap (λ (b : Bool). cond b (Insert (id_at g n index) (parent_of g n (parent_to parent)) text ∷ []) []) apart)
      (read_elsewhere own object apart ops (index + length (things_of (written_op own (Insert first parent text)))))
  read_elsewhere own object apart (Delete first count ∷ ops) index =
      ap₂ (λ (xs ys : List TextOp). xs ++ ys)
      (ap (λ (b : Bool). cond b (Delete (id_of g n (ref_to first)) count ∷ []) []) apart)
      (read_elsewhere own object apart ops (index + length (things_of (written_op own (Delete first count)))))

  -- nothing is made and nothing is removed
  pub none_made : (own : Ref) (path : List ℕ) (ops : List TextOp) (index : ℕ) → makes_from g n path index (map (written_op own) ops) ≡ []
  none_made own path [] index = refl
  none_made own path (Insert first parent text ∷ ops) index = none_made own path ops (index + length (things_of (written_op own (Insert first parent text))))
  none_made own path (Delete first count ∷ ops) index = none_made own path ops (index + length (things_of (written_op own (Delete first count))))

  pub none_removed : (own : Ref) (ops : List TextOp) → flat_map (removes_of g n) (map (written_op own) ops) ≡ []
  none_removed own [] = refl
  none_removed own (Insert first parent text ∷ ops) = none_removed own ops
  none_removed own (Delete first count ∷ ops) = none_removed own ops

  -- ---- the operations of a made change are readable

  readable_deletion : (id : ElemId) (count index : ℕ) (ops : List TextOp) → IsTrueId id → AreReadable index ops → AreReadable index (deletion id count ops)
  readable_deletion id count index [] is readable = (is, tt)
  readable_deletion id count index (Insert first parent text ∷ ops) is readable = (is, readable)
  readable_deletion id count index (Delete first more ∷ ops) is readable = by (same (shifted id count) first) where
    by : (b : Bool) → AreReadable index (cond b (Delete id (count + more) ∷ ops) (Delete id count ∷ (Delete first more ∷ ops)))
    by true = (is, readable.1)
    by false = (is, readable)

  readable_place : (kept shares : Bool) (id : ElemId) (index : ℕ) (ops : List TextOp) → IsTrueId id → AreReadable index ops
      → AreReadable index (at_place kept shares id ops)
  readable_place true shares id index ops is readable = readable
  readable_place false true id index ops is readable = readable_deletion id 1 index ops is readable
  readable_place false false id index ops is readable = (is, readable)

  readable_insertion : (text : List ℕ) (left : Option ElemId) (next : ElemId) (index : ℕ) (ops : List TextOp) → next ≡ id_at g n index → IsTrueParent left
      → AreReadable (index + length text) ops → AreReadable index (insertion next left text ++ ops)
  readable_insertion [] left next index ops is parent readable =
      subst (λ (k : ℕ). AreReadable k ops) (let e : index + 0 ≡ index = omega arith in e) readable
  readable_insertion (ch ∷ text) left next index ops is parent readable = ((is, parent), readable)

  readable_last : (text : List ℕ) (left : Option ElemId) (next : ElemId) (index : ℕ) → next ≡ id_at g n index → IsTrueParent left
      → AreReadable index (insertion next left text)
  readable_last [] left next index is parent = tt
  readable_last (ch ∷ text) left next index is parent = ((is, parent), tt)

  readable_made : (cells : List Cell) (last : List ℕ) (ids : List ElemId) (left : Option ElemId) (next : ElemId) (index : ℕ) → AllByRecursion IsTrueId ids
      → IsTrueParent left → next ≡ id_at g n index → AreReadable index (made_from cells last ids left next)
  readable_made [] last ids left next index all parent is = readable_last last left next index is parent
  readable_made (c ∷ cs) last [] left next index all parent is = tt
  readable_made (c ∷ cs) last (id ∷ ids) left next index all parent is =
      readable_insertion c.inserted left next index
      (at_place c.kept (begins_deleted cs) id (made_from cs last ids (Some id) (shifted next (length c.inserted)))) is parent
      (readable_place c.kept (begins_deleted cs) id (index + length c.inserted)
      (made_from cs last ids (Some id) (shifted next (length c.inserted))) all.0
      (readable_made cs last ids (Some id) (shifted next (length c.inserted)) (index + length c.inserted) all.1 all.0
      (ap (λ (x : ElemId). shifted x (length c.inserted)) is)))

  pub made_readable : (elements : List Element) (d : Cells) (index : ℕ) → AllByRecursion IsTrueId (visible_ids elements)
      → AreReadable index (made_ops elements d (id_at g n index))
  made_readable elements d index all = readable_made d.cells d.last (visible_ids elements) None (id_at g n index) index all tt refl
