-- Winners: that of a path is the last of its ids that no remove names, and there is no second.
use Rattle.std.proofs.Common.{◌≡◌, ℕ, Bool, true, false, not, ◌&&◌, List, [], Option, Some, None, refl, sym, ap, ◌∙◌, subst, reverse}
use Rattle.std.specs.Prelude.{Result, Ok, Err, IfOk, IsOkAnd}
use Rattle.std.specs.declared.cmp.Ordering.{Ordering}
use Rattle.std.specs.declared.cmp.Ordering.TheVariants.{Less, Equal, Greater}
use Rattle.std.specs.Ordering.{is_lt, ordering_reverse}
use Rattle.std.specs.List.{find, filter}
use Rattle.std.specs.Map.{lookup}
use Rattle.std.specs.Option.{unwrap_or}
use Rattle.std.specs.List.Sorted.{IsStrictlySortedBy}
use Rattle.std.proofs.lemmas.List.Kept.{IsStrictlySortedBy-filter}
use Rattle.std.proofs.lemmas.Map.Views.{any-filter_same}
use Rattle.tt_base.specs.Ids.{id_cmp}
use Rattle.tt_base.specs.declared.ids.ElemId.{ElemId}
use Rattle.tt_base.proofs.IdOrders.{id_cmp_total}
use Rattle.replica_dir.specs.Ids.{is_id, is_path, has_id}
use Rattle.replica_dir.specs.DirectoryView.{DirectoryView, HasSameEvents, IsWinner, is_live, is_made, is_removed, made_at}
use Rattle.replica_dir.proofs.IdLemmas.{id_tied, id_same}
use Rattle.replica_dir.proofs.GreatestLemmas.{Greatest, greatest_is_last}

and_both : (a b : Bool) → a ≡ true → b ≡ true → (a && b) ≡ true
and_both true b e f = f
and_both false b e f = cc

and_left : (a b : Bool) → (a && b) ≡ true → a ≡ true
and_left true b e = refl
and_left false b e = cc

and_right : (a b : Bool) → (a && b) ≡ true → b ≡ true
and_right true b e = e
and_right false b e = cc

and_none : (a b : Bool) → (a ≡ true → b ≡ false) → (a && b) ≡ false
and_none true b none = none refl
and_none false b none = refl

wins : (d : DirectoryView) (path : List ℕ) (r : Option ElemId)
    → Greatest (λ id. not (is_removed d id)) (made_at d path) r → IsWinner d path r
wins d path None none = λ id. and_none (is_made d path id) (not (is_removed d id)) (none id)
wins d path (Some g) h = record {
  live = and_both (is_made d path g) (not (is_removed d g)) h.among h.passes;
  none_above = λ q live.
      h.none_above q (and_left (is_made d path q) (not (is_removed d q)) live) (and_right (is_made d path q) (not (is_removed d q)) live);
}

pub last_wins : (d : DirectoryView) (path : List ℕ) → IsStrictlySortedBy id_cmp (made_at d path)
    → IsWinner d path (find (λ id. not (is_removed d id)) (reverse (made_at d path)))
last_wins d path sorted = wins d path _ (greatest_is_last (λ id. not (is_removed d id)) (made_at d path) sorted)

neither_less : (r s : Ordering) → r ≡ ordering_reverse s → is_lt r ≡ false → is_lt s ≡ false → r ≡ Equal
neither_less Less s e f g = cc
neither_less Equal s e f g = refl
neither_less Greater Less e f g = cc
neither_less Greater Equal e f g = cc
neither_less Greater Greater e f g = cc

and_swap : (a b : Bool) → (a && b) ≡ (b && a)
and_swap true true = refl
and_swap true false = refl
and_swap false true = refl
and_swap false false = refl

-- equal events have equal live objects
pub same_live : (one other : DirectoryView) → HasSameEvents one other → (path : List ℕ) (id : ElemId)
    → is_live one path id ≡ is_live other path id
same_live one other same path id = λ i. same.makes path id i && not (same.removes id i)

pub same_winner : (one other : DirectoryView) → HasSameEvents one other → (path : List ℕ) (a b : Option ElemId)
    → IsWinner one path a → IsWinner other path b → a ≡ b
same_winner one other same path None None h k = refl
same_winner one other same path None (Some b) h k =
    let gone : is_live one path b ≡ false = h b in
    let there : is_live other path b ≡ true = k.live in
    let equal = same_live one other same path b in
    cc
same_winner one other same path (Some a) None h k =
    let gone : is_live other path a ≡ false = k a in
    let there : is_live one path a ≡ true = h.live in
    let equal = same_live one other same path a in
    cc
same_winner one other same path (Some a) (Some b) h k =
    let a_there : is_live other path a ≡ true = sym (same_live one other same path a) ∙ h.live in
    let b_there : is_live one path b ≡ true = same_live one other same path b ∙ k.live in
    ap Some (id_tied a b (neither_less (id_cmp a b) (id_cmp b a) (id_cmp_total.antisymm a b) (h.none_above b b_there) (k.none_above a a_there)))

-- the same of the ids that a look-up found
pub found_wins : (d : DirectoryView) (path : List ℕ) (ids : List ElemId) (r : Option ElemId)
    → Some ids ≡ lookup (is_path path) d.makes → IsStrictlySortedBy id_cmp ids
    → r ≡ find (λ id. not (is_removed d id)) (reverse ids) → IsWinner d path r
found_wins d path ids r found sorted last =
    let at : ids ≡ made_at d path = ap (λ (o : Option (List ElemId)). unwrap_or o []) found in
    let goes : IsWinner d path (find (λ id. not (is_removed d id)) (reverse ids)) =
    subst (λ (xs : List ElemId). IsWinner d path (find (λ id. not (is_removed d id)) (reverse xs))) (sym {A = List ElemId} at)
    (last_wins d path (subst (IsStrictlySortedBy id_cmp) at sorted)) in
    subst (IsWinner d path) (sym {A = Option ElemId} last) goes

-- the live objects are the ids that a look-up found, without those that a remove names
pub found_live : (d : DirectoryView) (path : List ℕ) (ids list : List ElemId) → Some ids ≡ lookup (is_path path) d.makes
    → list ≡ filter (λ id. not (is_removed d id)) ids
    → (q : ElemId) → has_id list q ≡ is_live d path q
found_live d path ids list found kept q =
    let at : ids ≡ made_at d path = ap (λ (o : Option (List ElemId)). unwrap_or o []) found in
    ap (λ (xs : List ElemId). has_id xs q) kept
    ∙ any-filter_same (is_id q) (λ id. not (is_removed d id)) (not (is_removed d q)) (λ k same. ap (λ (x : ElemId). not (is_removed d x)) (sym (id_same q k same))) ids
    ∙ and_swap (not (is_removed d q)) (has_id ids q)
    ∙ ap (λ (xs : List ElemId). has_id xs q && not (is_removed d q)) at

-- what is left of ids that rise, rises
pub found_rising : (d : DirectoryView) (ids list : List ElemId) → IsStrictlySortedBy id_cmp ids
    → list ≡ filter (λ id. not (is_removed d id)) ids → IsStrictlySortedBy id_cmp list
found_rising d ids list sorted kept =
    subst (IsStrictlySortedBy id_cmp) (sym {A = List ElemId} kept) (IsStrictlySortedBy-filter id_cmp (λ id. not (is_removed d id)) ids sorted)

pub none_rising : (list : List ElemId) → list ≡ [] → IsStrictlySortedBy id_cmp list
unfolding IsStrictlySortedBy
none_rising list none = subst (IsStrictlySortedBy id_cmp) (sym {A = List ElemId} none) tt

-- what is surely a value of one kind is one of a wider kind where it is a value
pub IfOk-from_IsOkAnd : {T F : Type 0} (r : Result T F) (P Q : T → Type 0) → ((x : T) → P x → Q x) → IsOkAnd r P → IfOk r Q
IfOk-from_IsOkAnd (Ok x) P Q weaker is = weaker x is
IfOk-from_IsOkAnd (Err fault) P Q weaker none = tt
