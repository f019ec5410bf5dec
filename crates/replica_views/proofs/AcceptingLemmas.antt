-- No operation of a made change is refused.
use Rattle.std.proofs.Common.{◌≡◌, inl, inr, ℕ, zero, suc, ◌+◌, ◌<◌, ◌≤◌, ◌^◌, Bool, true, false, cond, not, ◌&&◌, refl, sym, ap, ap₂, ◌∙◌, subst, List, [], ◌∷◌, ◌++◌}
use Rattle.std.proofs.Common.{map, take, drop, filter, length, Option, Some, None, is_some, append_assoc, arith}
use Rattle.std.specs.List.{AllByRecursion, list_any}
use Rattle.std.specs.Map.{keys_of}
use Rattle.std.proofs.Math.Seq.{take-append_seam}
use Rattle.std.proofs.lemmas.Bool.{eq-eqb, le-leb}
use Rattle.std.proofs.lemmas.List.{append-nil, drop-map, length-append}
use Rattle.std.proofs.lemmas.Option.{slice_get_past}
use Rattle.delta.specs.Cells.{Cell, Cells}
use Rattle.tt_base.specs.declared.ids.Name.{Name}
use Rattle.tt_base.specs.declared.ids.ElemId.{ElemId}
use Rattle.tt_base.specs.declared.elements.Element.{Element}
use Rattle.tt_base.specs.declared.text_ops.TextOp.{TextOp}
use Rattle.tt_base.specs.declared.text_ops.TextOp.TheVariants as on_text
use Rattle.tt_base.specs.Elements.{is_alive}
use Rattle.change_codec.specs.Change.{Change}
use Rattle.change_codec.specs.declared.ops.Ref.{Ref}
use Rattle.change_codec.specs.declared.ops.Ref.TheVariants.{Here, There}
use Rattle.change_codec.specs.declared.ops.Op.{Op}
use Rattle.change_graph.specs.History.{History, has_name, change_at, is_held, missing, ops_of, ops_at}
use Rattle.change_graph.specs.Closure.{IsClosureTest}
use Rattle.change_graph.specs.Refusals.{Thing, Object, Character, things, abroad, thing_seen, run_at, is_there, index_of, is_object, is_ref, is_elsewhere, fault_of, fault_at}
use Rattle.change_graph.proofs.HeadLemmas.{behind_heads}
use Rattle.change_graph.proofs.OrderLemmas.{name_itself}
use Rattle.change_graph.proofs.ReachedLemmas.{reached_held}
use Rattle.replica_text.specs.Ids.{same, next_id, shifted}
use Rattle.replica_text.specs.Made.{visible_ids, insertion, deletion, begins_deleted, at_place, made_from, made_ops}
use Rattle.replica_text.proofs.OrderLemmas.{same_one}
use Rattle.replica_views.specs.Ids.{id_of}
use Rattle.replica_views.specs.Made.{is_dep, heads_of, ref_to, written_op}
use Rattle.replica_views.specs.Growth.{IsGrown}
use Rattle.replica_views.proofs.AcceptedLemmas.{within_of, AreAccepted, at_seam}
use Rattle.replica_views.proofs.DepthLemmas.{HasDepths, grown_depths}
use Rattle.replica_views.proofs.HeadsLemmas.{are_heads}
use Rattle.replica_views.proofs.LayerLemmas.{entries_held, filter_none}
use Rattle.replica_views.proofs.StayLemmas.{IsEntry, all_filter, grown_entries}
use Rattle.replica_views.proofs.StepLemmas.{IsIn, found_in}
use Rattle.replica_views.proofs.ComesLemmas.{IsSeenAs, no_object_fault, no_characters_fault, StandsAt, RunStands, run_dropped, run_long, stands_long, first_dropped, IsCharacterOf}

-- ---- what the operations of a made change name

-- each id of a run
abbrev pub RunAll : (ElemId → Type 0) → ElemId → ℕ → Type 0
RunAll P first zero = Unit {0}
RunAll P first (suc count) = P first × RunAll P (next_id first) count

abbrev pub IsParentAs : (ElemId → Type 0) → Option ElemId → Type 0
IsParentAs P None = Unit {0}
IsParentAs P (Some id) = P id

-- all that the operations name
abbrev pub NamesOnly : (ElemId → Type 0) → List TextOp → Type 0
NamesOnly P [] = Unit {0}
NamesOnly P (on_text.Insert first parent text ∷ ops) = IsParentAs P parent × NamesOnly P ops
NamesOnly P (on_text.Delete first count ∷ ops) = ((0 < count) × RunAll P first count) × NamesOnly P ops

module _ (P : ElemId → Type 0) where
  next_is : (id next : ElemId) → same (shifted id 1) next ≡ true → next ≡ next_id id
  next_is id next is =
      sym (same_one (shifted id 1) next is)
      ∙ (let e : id.index + 1 ≡ suc id.index = omega arith in λ i. record id { index = e i })

  names_deletion : (id : ElemId) (ops : List TextOp) → P id → NamesOnly P ops → NamesOnly P (deletion id 1 ops)
  names_deletion id [] is names = ((omega arith, (is, tt)), tt)
  names_deletion id (on_text.Insert first parent text ∷ ops) is names = ((omega arith, (is, tt)), names)
  names_deletion id (on_text.Delete next more ∷ ops) is names = by (same (shifted id 1) next) refl where
    by : (b : Bool) → same (shifted id 1) next ≡ b
        → NamesOnly P (cond b (on_text.Delete id (1 + more) ∷ ops) (on_text.Delete id 1 ∷ (on_text.Delete next more ∷ ops)))
    by true one = (
      (
        omega arith,
        subst (λ (n : ℕ). RunAll P id n) (let e : suc more ≡ 1 + more = omega arith in e)
            (is, subst (λ (x : ElemId). RunAll P x more) (next_is id next one) names.0.1),
      ),
      names.1,
    )
    by false one = ((omega arith, (is, tt)), names)

  names_place : (kept shares : Bool) (id : ElemId) (ops : List TextOp) → P id → NamesOnly P ops → NamesOnly P (at_place kept shares id ops)
  names_place true shares id ops is names = names
  names_place false true id ops is names = names_deletion id ops is names
  names_place false false id ops is names = ((omega arith, (is, tt)), names)

  names_insertion : (text : List ℕ) (left : Option ElemId) (next : ElemId) (ops : List TextOp) → IsParentAs P left → NamesOnly P ops
      → NamesOnly P (insertion next left text ++ ops)
  names_insertion [] left next ops parent names = names
  names_insertion (ch ∷ text) left next ops parent names = (parent, names)

  names_last : (text : List ℕ) (left : Option ElemId) (next : ElemId) → IsParentAs P left → NamesOnly P (insertion next left text)
  names_last [] left next parent = tt
  names_last (ch ∷ text) left next parent = (parent, tt)

  names_from : (cells : List Cell) (last : List ℕ) (ids : List ElemId) (left : Option ElemId) (next : ElemId) → AllByRecursion P ids → IsParentAs P left
      → NamesOnly P (made_from cells last ids left next)
  names_from [] last ids left next all parent = names_last last left next parent
  names_from (c ∷ cs) last [] left next all parent = tt
  names_from (c ∷ cs) last (id ∷ ids) left next all parent =
      names_insertion c.inserted left next (at_place c.kept (begins_deleted cs) id (made_from cs last ids (Some id) (shifted next (length c.inserted)))) parent
      (names_place c.kept (begins_deleted cs) id (made_from cs last ids (Some id) (shifted next (length c.inserted))) all.0
      (names_from cs last ids (Some id) (shifted next (length c.inserted)) all.1 all.0))

  pub names_made : (elements : List Element) (d : Cells) (next : ElemId) → AllByRecursion P (visible_ids elements) → NamesOnly P (made_ops elements d next)
  names_made elements d next all = names_from d.cells d.last (visible_ids elements) None next all tt

pub visible_all : (P : ElemId → Type 0) (xs : List Element) → AllByRecursion (λ (e : Element). P e.id) xs → AllByRecursion P (visible_ids xs)
visible_all P [] all = tt
visible_all P (x ∷ xs) all = by x.alive (visible_all P xs all.1) where
  by : (b : Bool) → AllByRecursion P (visible_ids xs)
      → AllByRecursion P (map (λ (e : Element). e.id) (cond b (x ∷ filter is_alive xs) (filter is_alive xs)))
  by true rest = (all.0, rest)
  by false rest = rest

-- ---- operations one after another

module _ (g : History) (known : Name → Bool) where
  more_long : (earlier : List Op) (op : Op) (place : ℕ) → length (earlier ++ op ∷ []) + place ≡ length earlier + suc place
  more_long earlier op place = let e : length (earlier ++ op ∷ []) ≡ length earlier + 1 = length-append earlier (op ∷ []) in omega (arith, e)

  -- where none is refused in turn, none is refused at its place
  pub none_refused : (ops earlier : List Op) → AreAccepted g known earlier ops → (place : ℕ) → fault_at g known (earlier ++ ops) (length earlier + place) ≡ None
  none_refused [] earlier accepted place =
      ap (λ (o : Option Op). fault_of (within_of g known (take (length earlier + place) (earlier ++ []))) o)
      (slice_get_past (earlier ++ []) (length earlier + place) (let e : length (earlier ++ []) ≡ length earlier = ap length (append-nil earlier) in omega (arith, e)))
  none_refused (op ∷ ops) earlier accepted zero =
      ap (fault_at g known (earlier ++ op ∷ ops)) (let e : length earlier + 0 ≡ length earlier = omega arith in e)
      ∙ ap₂ (λ (xs : List Op) (o : Option Op). fault_of (within_of g known xs) o) (take-append_seam earlier (op ∷ ops)) (at_seam g known earlier ops op)
      ∙ accepted.0
  none_refused (op ∷ ops) earlier accepted (suc place) =
      ap₂ (λ (xs : List Op) (k : ℕ). fault_at g known xs k) (sym (append_assoc earlier (op ∷ []) ops)) (sym (more_long earlier op place))
      ∙ none_refused ops (earlier ++ op ∷ []) accepted.1 place

  -- the object of each operation is seen, and what it names
  module _ (own : Ref) (P : ElemId → Type 0) (Behind : List Op → Type 0) (goes_on : (earlier : List Op) (op : Op) → Behind earlier → Behind (earlier ++ op ∷ []))
      (own_there : (earlier : List Op) → Behind earlier → is_there (within_of g known earlier) own 1 ≡ true)
      (own_object : (earlier : List Op) → Behind earlier → list_any is_object (run_at (within_of g known earlier) own 1) ≡ true)
      (run_seen : (earlier : List Op) → Behind earlier → (first : ElemId) (count : ℕ) → 0 < count → RunAll P first count → IsSeenAs (within_of g known earlier) own (ref_to first) count) where
    pub written_accepted : (ops : List TextOp) (earlier : List Op) → Behind earlier → NamesOnly P ops → AreAccepted g known earlier (map (written_op own) ops)
    written_accepted [] earlier behind names = tt
    written_accepted (on_text.Insert first None text ∷ ops) earlier behind names = (
      no_object_fault (within_of g known earlier) own (own_there earlier behind) (own_object earlier behind),
      written_accepted ops (earlier ++ written_op own (on_text.Insert first None text) ∷ []) (goes_on earlier (written_op own (on_text.Insert first None text)) behind) names.1,
    )
    written_accepted (on_text.Insert first (Some id) text ∷ ops) earlier behind names = (
      no_characters_fault (within_of g known earlier) own (ref_to id) 1 (run_seen earlier behind id 1 (omega arith) (names.0, tt)),
      written_accepted ops (earlier ++ written_op own (on_text.Insert first (Some id) text) ∷ []) (goes_on earlier (written_op own (on_text.Insert first (Some id) text)) behind) names.1,
    )
    written_accepted (on_text.Delete first count ∷ ops) earlier behind names = (
      no_characters_fault (within_of g known earlier) own (ref_to first) count (run_seen earlier behind first count names.0.0 names.0.1),
      written_accepted ops (earlier ++ written_op own (on_text.Delete first count) ∷ []) (goes_on earlier (written_op own (on_text.Delete first count)) behind) names.1,
    )

-- ---- a history, all of which is known

module _ (h : History) (grown : IsGrown h) where
  abbrev pub all_held : Name → Bool
  all_held n = is_held h n

  pub knows_all : IsClosureTest h (heads_of h) all_held
  knows_all =
      let has : HasDepths h = grown_depths h grown in
      record {
        only = λ n held. behind_heads (record { history = h; depths = has.depths }) has.deep (heads_of h) (are_heads h grown) n held;
        all = λ n reached. reached_held has.deep.closed (has_name (heads_of h)) reached;
      }

  keys_held : (es : History) → AllByRecursion (λ (e : Name × Change). is_held h e.0 ≡ true) es → AllByRecursion (λ (n : Name). not (is_held h n) ≡ false) (keys_of es)
  keys_held [] all = tt
  keys_held (e ∷ es) all = (ap not all.0, keys_held es all.1)

  -- none of the heads is missing
  pub none_missing : missing h (heads_of h) ≡ []
  unfolding heads_of
  none_missing =
      filter_none (λ (n : Name). not (is_held h n)) (heads_of h)
      (all_filter (λ (n : Name). not (is_held h n) ≡ false) (λ (n : Name). not (is_dep h n)) (keys_of h) (keys_held h (entries_held h)))

  all_at : {X : Type 0} (Q : X → Type 0) (x : X) (xs : List X) → AllByRecursion Q xs → IsIn x xs → Q x
  all_at Q x [] all is = absurd is
  all_at Q x (y ∷ ys) all (inl is) = subst Q is all.0
  all_at Q x (y ∷ ys) all (inr is) = all_at Q x ys all.1 is

  things_fit_at : (n : Name) (o : Option Change) → change_at h n ≡ o → length (things (ops_of o)) ≤ 2 ^ 64
  things_fit_at n None is = omega arith
  things_fit_at n (Some c) is = (all_at (IsEntry h) (n, c) h (grown_entries h grown) (found_in h n c is)).fits

  things_fit : (n : Name) → length (things (ops_at h n)) ≤ 2 ^ 64
  things_fit n = things_fit_at n (change_at h n) refl

  some_held : (n : Name) (o : Option Change) → change_at h n ≡ o → 0 < length (things (ops_of o)) → is_held h n ≡ true
  some_held n None is some = absurd (omega (arith, some))
  some_held n (Some c) is some = ap (λ (x : Option Change). is_some x) is

  -- a run of things of a held change, as another change sees it
  module _ (earlier : List Op) (n : Name) (index count : ℕ) (some : 0 < length (things (ops_at h n))) where
    seen_from : run_at (within_of h all_held earlier) (There n index) count ≡ take count (map (thing_seen (There n index)) (drop index (things (ops_at h n))))
    seen_from =
        ap (λ (b : Bool). take count (drop index (map (thing_seen (There n index)) (things (cond b (ops_at h n) []))))) (some_held n (change_at h n) refl some)
        ∙ ap (take count) (drop-map (thing_seen (There n index)) index (things (ops_at h n)))

  there_if : (within : Ref → List Thing) (place : Ref) (count : ℕ) → index_of place + count ≤ 2 ^ 64 → length (run_at within place count) ≡ count
      → is_there within place count ≡ true
  there_if within place count fits long =
      ap₂ (λ (a b : Bool). a && b) (le-leb (index_of place + count) (2 ^ 64) fits) (eq-eqb (length (run_at within place count)) count long)

  -- an object that a held change made
  module _ (w : ElemId) (stands : StandsAt (things (ops_at h w.name)) w.index Object) (earlier : List Op) where
    object_some : 0 < length (things (ops_at h w.name))
    object_some = let e = stands_long (things (ops_at h w.name)) w.index Object stands in omega (arith, e)

    object_run : run_at (within_of h all_held earlier) (ref_to w) 1 ≡ Object ∷ []
    object_run =
        seen_from earlier w.name w.index 1 object_some
        ∙ ap (λ (ts : List Thing). take 1 (map (thing_seen (ref_to w)) ts)) (first_dropped (things (ops_at h w.name)) w.index Object stands)

    pub object_there : is_there (within_of h all_held earlier) (ref_to w) 1 ≡ true
    object_there =
        let lt = stands_long (things (ops_at h w.name)) w.index Object stands in
        let few = things_fit w.name in
        there_if (within_of h all_held earlier) (ref_to w) 1 (omega (arith, lt, few)) (ap length object_run)

    pub object_is : list_any is_object (run_at (within_of h all_held earlier) (ref_to w) 1) ≡ true
    object_is = ap (list_any is_object) object_run

  -- a run of characters of it
  module _ (w : ElemId) (stands : StandsAt (things (ops_at h w.name)) w.index Object) where
    abbrev IsOwnCharacter : Name → Thing → Type 0
    IsOwnCharacter n t = (o : Ref) × ((t ≡ Character o) × (id_of h n o ≡ w))

    run_stands : (first : ElemId) (count : ℕ) → RunAll (IsCharacterOf h w) first count
        → RunStands (IsOwnCharacter first.name) (things (ops_at h first.name)) first.index count
    run_stands first zero run = tt
    run_stands first (suc count) run =
        ((Character run.0.own, (run.0.stands, (run.0.own, (refl, run.0.of)))), run_stands (next_id first) count run.1)

    abroad_ref : (n : Name) (o : Ref) → id_of h n o ≡ w → abroad n o ≡ ref_to w
    abroad_ref n (Here i) is = ap (λ (id : ElemId). There id.name id.index) is
    abroad_ref n (There m i) is = ap (λ (id : ElemId). There id.name id.index) is

    ref_itself : (r : Ref) → is_ref r r ≡ true
    ref_itself (Here i) = eq-eqb i i refl
    ref_itself (There n i) = ap₂ (λ (a b : Bool). a && b) (name_itself n) (eq-eqb i i refl)

    module _ (n : Name) (index : ℕ) where
      not_object : (t : Thing) → IsOwnCharacter n t → is_object (thing_seen (There n index) t) ≡ false
      not_object t is = ap (λ (x : Thing). is_object (thing_seen (There n index) x)) is.1.0

      not_elsewhere : (t : Thing) → IsOwnCharacter n t → is_elsewhere (ref_to w) (thing_seen (There n index) t) ≡ false
      not_elsewhere t is =
          ap (λ (x : Thing). is_elsewhere (ref_to w) (thing_seen (There n index) x)) is.1.0
          ∙ ap (λ (r : Ref). not (is_ref (ref_to w) r)) (abroad_ref n is.0 is.1.1)
          ∙ ap not (ref_itself (ref_to w))

    pub run_seen : (earlier : List Op) (first : ElemId) (count : ℕ) → 0 < count → RunAll (IsCharacterOf h w) first count
        → IsSeenAs (within_of h all_held earlier) (ref_to w) (ref_to first) count
    run_seen earlier first count some run =
        let n : Name = first.name in
        let ts : List Thing = things (ops_at h n) in
        let stand : RunStands (IsOwnCharacter n) ts first.index count = run_stands first count run in
        let far : first.index + count ≤ length ts = run_long (IsOwnCharacter n) ts count first.index some stand in
        let few : length ts ≤ 2 ^ 64 = things_fit n in
        let lots : 0 < length ts = omega (arith, far, some) in
        let are = seen_from earlier n first.index count lots in
        let objects = run_dropped (thing_seen (ref_to first)) (IsOwnCharacter n) is_object (not_object n first.index) ts first.index count stand in
        let others = run_dropped (thing_seen (ref_to first)) (IsOwnCharacter n) (is_elsewhere (ref_to w)) (not_elsewhere n first.index) ts first.index count stand in
        record {
          own_there = object_there w stands earlier;
          own_object = object_is w stands earlier;
          there = there_if (within_of h all_held earlier) (ref_to first) count (omega (arith, far, few)) (ap length are ∙ objects.0);
          characters = ap (list_any is_object) are ∙ objects.1;
          alike = ap (list_any (is_elsewhere (ref_to w))) are ∙ others.1;
        }
