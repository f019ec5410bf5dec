-- What a made change asks of the history and of the text that it is made for.
use Rattle.std.proofs.Common.{◌≡◌, ℕ, ◌<◌, ◌≤◌, List, [], ◌∷◌, map, length, Option, Some, None, sym, ap, ◌∙◌, subst, arith}
use Rattle.std.specs.List.{AllByRecursion, count_by}
use Rattle.std.specs.Option.{option_map, unwrap_or}
use Rattle.std.proofs.lemmas.List.{length-map}
use Rattle.std.proofs.lemmas.List.Sums.{length-filter}
use Rattle.delta.specs.Cells.{Cell, Cells, result_length_of}
use Rattle.tt_base.specs.Elements.{is_alive}
use Rattle.tt_base.specs.declared.ids.Actor.{Actor}
use Rattle.tt_base.specs.declared.ids.ElemId.{ElemId}
use Rattle.tt_base.specs.declared.elements.Element.{Element}
use Rattle.change_codec.specs.declared.ops.Ref.TheVariants.{Here}
use Rattle.change_codec.specs.declared.ops.Op.{Op}
use Rattle.change_codec.specs.declared.ops.Op.TheVariants.{Make}
use Rattle.change_graph.specs.History.{History}
use Rattle.replica_text.specs.Effect.{text_of}
use Rattle.replica_text.specs.Made.{made_ops, inserted_length_of, IsAbove}
use Rattle.replica_views.specs.Growth.{IsGrown}
use Rattle.replica_views.specs.Made.{ref_to, written_op, next_id_at, own_change, ops_for, made, removal, rising_ids, removed}
use Rattle.replica_views.specs.Objects.{live_at, winner_at}
use Rattle.replica_views.specs.Texts.{elements_of}
use Rattle.replica_views.specs.Views.{view_at, text_at}
use Rattle.replica_views.proofs.AcceptedLemmas.{deeper_less}
use Rattle.replica_views.proofs.DepthLemmas.{depth_few}
use Rattle.replica_views.proofs.HeldLemmas.{IsHeldId, elements_held}
use Rattle.replica_views.proofs.WrittenLemmas.{same_written}

-- ---- an id that is deeper than the history has changes is above all elements

all_above : (history : History) → IsGrown history → (next : ElemId) → length history < next.depth → (xs : List Element)
    → AllByRecursion (λ (e : Element). IsHeldId history e.id) xs → IsAbove next xs
all_above history grown next deep [] all = tt
all_above history grown next deep (x ∷ xs) all =
    let few = depth_few history grown x.id.name all.0.held in
    let own = all.0.depth in
    (deeper_less x.id next (omega (arith, few, own, deep)), all_above history grown next deep xs all.1)

pub above_all : (history : History) → IsGrown history → (object next : ElemId) (elements : List Element) → elements ≡ elements_of history object
    → length history < next.depth → IsAbove next elements
above_all history grown object next elements is deep =
    subst (IsAbove next) (sym is) (all_above history grown next deep (elements_of history object) (elements_held history grown object))

-- ---- no more is inserted than there is afterwards

pub inserted_few : (cells : List Cell) (last : List ℕ) → inserted_length_of cells last ≤ result_length_of cells last
inserted_few [] last = omega arith
inserted_few (c ∷ cs) last = let few = inserted_few cs last in omega (arith, few)

-- ---- the operations that are pushed make the change, whatever the new ids are

pub changing_is : (history : History) (actor : Actor) (path : List ℕ) (d : Cells) (object : ElemId) (elements : List Element) (next : ElemId) (ops : List Op)
    → winner_at history path ≡ Some object → elements ≡ elements_of history object → ops ≡ map (written_op (ref_to object)) (made_ops elements d next)
    → own_change history actor ops ≡ made history actor path d
unfolding made
changing_is history actor path d object elements next ops found text is =
    ap (own_change history actor)
    (is
    ∙ (same_written (ref_to object) elements d next (next_id_at history actor 0)
    ∙ ap (λ (xs : List Element). map (written_op (ref_to object)) (made_ops xs d (next_id_at history actor 0))) text))
    ∙ ap (λ (o : Option ElemId). own_change history actor (ops_for history actor path d o)) (sym found)

pub creating_is : (history : History) (actor : Actor) (path : List ℕ) (d : Cells) (elements : List Element) (next : ElemId) (ops : List Op)
    → winner_at history path ≡ None → elements ≡ [] → ops ≡ Make path ∷ map (written_op (Here 0)) (made_ops elements d next)
    → own_change history actor ops ≡ made history actor path d
unfolding made
creating_is history actor path d elements next ops none text is =
    ap (own_change history actor)
    (is
    ∙ ap (λ (os : List Op). Make path ∷ os)
    (same_written (Here 0) elements d next (next_id_at history actor 1)
    ∙ ap (λ (xs : List Element). map (written_op (Here 0)) (made_ops xs d (next_id_at history actor 1))) text))
    ∙ ap (λ (o : Option ElemId). own_change history actor (ops_for history actor path d o)) (sym none)

pub removing_is : (history : History) (actor : Actor) (path : List ℕ) (objects : List ElemId) (ops : List Op) → ops ≡ map removal objects
    → objects ≡ rising_ids (live_at history path) → own_change history actor ops ≡ removed history actor path
unfolding removed
removing_is history actor path objects ops is live = ap (own_change history actor) (is ∙ ap (map removal) live)

-- ---- the text at the path, whose length is the delta's base

visible_count : (elements : List Element) → length (text_of elements) ≡ count_by is_alive elements
visible_count elements = length-map _ _ ∙ length-filter is_alive elements

pub text_there : (history : History) (path : List ℕ) (object : ElemId) (elements : List Element) → winner_at history path ≡ Some object
    → elements ≡ elements_of history object → length (text_at history path) ≡ count_by is_alive elements
unfolding text_at view_at
text_there history path object elements found is =
    ap (λ (o : Option ElemId). length (unwrap_or (option_map (λ w. text_of (elements_of history w)) o) [])) found
    ∙ ap (λ (xs : List Element). length (text_of xs)) (sym is) ∙ visible_count elements

pub text_absent : (history : History) (path : List ℕ) → winner_at history path ≡ None → length (text_at history path) ≡ 0
unfolding text_at view_at
text_absent history path none =
    ap (λ (o : Option ElemId). length (unwrap_or (option_map (λ w. text_of (elements_of history w)) o) [])) none
