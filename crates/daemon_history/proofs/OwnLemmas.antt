-- A change that a daemon makes has an encoding, and so it may come next.
use Rattle.std.proofs.Common.{◌≡◌, ℕ, zero, suc, ◌+◌, ◌*◌, ◌<◌, ◌≤◌, ◌^◌, Bool, true, false, cond, refl, subst, List, [], ◌∷◌, map, length, Option, Some, None, arith}
use Rattle.std.specs.Prelude.{encode_utf8, encode_utf8_all}
use Rattle.std.specs.Str.{all_scalars}
use Rattle.std.specs.List.{AllByRecursion, count_by}
use Rattle.std.proofs.lemmas.List.{length-append, length-map}
use Rattle.std.proofs.lemmas.List.Sums.{count_by-le-length}
use Rattle.std.proofs.lemmas.Str.{length-encode, len_utf8_bounds, is_utf8-from_IsUtf8}
use Rattle.delta.specs.Cells.{Cells, base_length, applied, result_length}
use Rattle.delta.proofs.LawLemmas.{length-applied}
use Rattle.tt_base.specs.declared.ids.Actor.{Actor}
use Rattle.tt_base.specs.declared.ids.ElemId.{ElemId}
use Rattle.tt_base.specs.declared.text_ops.TextOp.{TextOp}
use Rattle.tt_base.specs.declared.text_ops.TextOp.TheVariants as on_text
use Rattle.byte_format.specs.Format.{IsBytes}
use Rattle.byte_format.specs.Values.{text_field}
use Rattle.change_codec.specs.Encoding.{ref_field, parent_field, op_field, change_format}
use Rattle.change_codec.specs.WellFormed.{IsActor, IsPath}
use Rattle.change_codec.specs.declared.ops.Ref.{Ref}
use Rattle.change_codec.specs.declared.ops.Ref.TheVariants.{Here}
use Rattle.change_codec.specs.declared.ops.Op.{Op}
use Rattle.change_codec.specs.declared.ops.Op.TheVariants.{Make}
use Rattle.change_graph.specs.History.{History, is_held, name_of}
use Rattle.change_graph.specs.Refusals.{things}
use Rattle.replica_text.specs.Ids.{less, same}
use Rattle.replica_text.specs.Made.{made_ops, inserted_length}
use Rattle.replica_views.specs.Growth.{MayCome, IsGrown}
use Rattle.replica_views.specs.Made.{is_made_by, next_seq, heads_of, own_change, ref_to, parent_to, written_op, next_id_at, ops_for, made, removal, with_id, rising_ids, removed}
use Rattle.replica_views.specs.Objects.{live_at, winner_at}
use Rattle.replica_views.specs.Texts.{elements_of}
use Rattle.replica_views.proofs.HeadsLemmas.{is_heads}
use Rattle.replica_views.proofs.WinnerLemmas.{winner_made}
use Rattle.replica_views.proofs.AcceptingLemmas.{IsParentAs, NamesOnly, names_made}
use Rattle.replica_views.proofs.NextLemmas.{made_comes, removed_comes}
use Rattle.replica_views.proofs.RisingLemmas.{rising_all}
use Rattle.change_making.proofs.ByteLemmas.{text_is_bytes}
use Rattle.change_making.proofs.FitsLemmas.{u64_fits, count_fits, actor_fits, here_fits, there_fits, root_fits, after_fits, text_fits, remove_fits}
use Rattle.change_making.proofs.FitsLemmas.{insert_fits, delete_fits, make_fits, names_fit, ops_fit, change_fits}
use Rattle.change_making.proofs.HeadLemmas.{heads_fit}
use Rattle.change_making.proofs.MadeLemmas.{inserted_few}
use Rattle.daemon_history.specs.Holding.{Holding, IsHolding, text_at}
use Rattle.daemon_history.specs.Bounds.{InsertsScalars, IsWithinBounds, IsRemovalWithinBounds}
use Rattle.daemon_history.proofs.HoldingLemmas.{holding_grown}
use Rattle.daemon_history.proofs.IdLemmas.{FitsId, object_fits, live_fit, characters_fit, heads_few}
use Rattle.daemon_history.proofs.OperationLemmas.{IsPlain, made_plain, made_few, made_makes}

-- ---- texts and paths

encoding_short : (text : List ℕ) → length (encode_utf8_all text) ≤ 4 * length text
encoding_short [] = omega arith
encoding_short (c ∷ text) =
    let whole : length (encode_utf8_all (c ∷ text)) ≡ length (encode_utf8 c) + length (encode_utf8_all text) = length-append (encode_utf8 c) (encode_utf8_all text) in
    let one = length-encode c in
    let most = (len_utf8_bounds c).1 in
    let rest = encoding_short text in
    omega (arith, whole, one, most, rest)

short_text_fits : (text : List ℕ) → all_scalars text ≡ true → 0 < length text → length text < 2 ^ 62 → text_field.Fits text
short_text_fits text scalars some short =
    let few = encoding_short text in
    text_fits text (length (encode_utf8_all text)) refl (omega (arith, few, short)) scalars some

path_made_fits : (path : List ℕ) → IsPath path → op_field.Fits (Make path)
path_made_fits path is =
    let text = is.utf8 in
    make_fits path is.rules (is_utf8-from_IsUtf8 path is.utf8) (subst IsBytes text.1.1 (text_is_bytes text.0 text.1.0))

-- ---- operations

named_fits : (id : ElemId) → FitsId id → ref_field.Fits (ref_to id)
named_fits id fits = there_fits id.name id.index fits.0 fits.1

parent_fits : (parent : Option ElemId) → IsParentAs FitsId parent → parent_field.Fits (parent_to parent)
parent_fits None fits = root_fits
parent_fits (Some id) fits = after_fits (ref_to id) (named_fits id fits)

module _ (own : Ref) (own_fits : ref_field.Fits own) (longest most : ℕ) (short : longest < 2 ^ 62) (few : most < 2 ^ 62) where
  written_fits : (ops : List TextOp) → NamesOnly FitsId ops → AllByRecursion (IsPlain longest most) ops → AllByRecursion op_field.Fits (map (written_op own) ops)
  written_fits [] names plain = tt
  written_fits (on_text.Insert first parent text ∷ ops) names plain =
      let le = plain.0.1.1 in (
        insert_fits own (parent_to parent) text own_fits (parent_fits parent names.0)
            (short_text_fits text plain.0.0 plain.0.1.0 (omega (arith, le, short))),
        written_fits ops names.1 plain.1,
      )
  written_fits (on_text.Delete first zero ∷ ops) names plain = let some = plain.0.0 in absurd (omega (arith, some))
  written_fits (on_text.Delete first (suc count) ∷ ops) names plain =
      let le = plain.0.1 in (
        delete_fits own (ref_to first) (suc count) own_fits (named_fits first names.0.1.0) (count_fits (suc count) plain.0.0 (omega (arith, le, few))),
        written_fits ops names.1 plain.1,
      )

-- ---- changes

module _ (h : History) (grown : IsGrown h) (actor : Actor) (actor_is : IsActor actor) (held_few : length h < 2 ^ 63) where
  -- operations that fit make a change that has an encoding
  pub own_change_fits : (ops : List Op) → AllByRecursion op_field.Fits ops → length ops < 2 ^ 64 → change_format.Fits (own_change h actor ops)
  own_change_fits ops each few =
      let mine : count_by (is_made_by actor) h ≤ length h = count_by-le-length (is_made_by actor) h in
      let heads = heads_few h in
      change_fits (own_change h actor ops) (actor_fits actor actor_is.long actor_is.bytes)
      (u64_fits (next_seq h actor) (omega (arith, mine, held_few)))
      (names_fit (heads_of h) (heads_fit h grown (heads_of h) (is_heads h grown)) (is_heads h grown).rising (omega (arith, heads, held_few)))
      (ops_fit ops each few)

  -- what operations are asked to be
  record AreFine (ops : List Op) : Type 0 where
    each : AllByRecursion op_field.Fits ops
    few : length ops < 2 ^ 64
    made_few : length (things ops) ≤ 2 ^ 64

  module _ (path : List ℕ) (path_is : IsPath path) (d : Cells) (cells_few : length d.cells < 2 ^ 62) (inserted_short : inserted_length d < 2 ^ 62) (scalars : InsertsScalars d) where
    ops_fine : (o : Option ElemId) → winner_at h path ≡ o → AreFine (ops_for h actor path d o)
    ops_fine None none =
        let next : ElemId = next_id_at h actor 1 in
        let ops : List TextOp = made_ops [] d next in
        let long : length (map (written_op (Here 0)) ops) ≡ length ops = length-map ops (written_op (Here 0)) in
        let few = made_few [] d next in
        let makes = made_makes (Here 0) [] d next in
        record {
          each = (
            path_made_fits path path_is,
            written_fits (Here 0) (here_fits 0 (omega arith)) (inserted_length d) (length d.cells) inserted_short cells_few ops
                (names_made FitsId [] d next tt) (made_plain [] d next scalars),
          );
          few = omega (arith, long, few, cells_few);
          made_few = omega (arith, makes, inserted_short);
        }
    ops_fine (Some w) found =
        let next : ElemId = next_id_at h actor 0 in
        let elements = elements_of h w in
        let ops : List TextOp = made_ops elements d next in
        let long : length (map (written_op (ref_to w)) ops) ≡ length ops = length-map ops (written_op (ref_to w)) in
        let few = made_few elements d next in
        let makes = made_makes (ref_to w) elements d next in
        record {
          each = written_fits (ref_to w) (named_fits w (object_fits h grown path w (winner_made h grown path w found)))
              (inserted_length d) (length d.cells) inserted_short cells_few ops
              (names_made FitsId elements d next (characters_fit h grown w)) (made_plain elements d next scalars);
          few = omega (arith, long, few, cells_few);
          made_few = omega (arith, makes, inserted_short);
        }

    pub made_may_come : is_held h (name_of (made h actor path d)) ≡ false → MayCome h (made h actor path d)
    unfolding made
    made_may_come new =
        let fine : AreFine (ops_for h actor path d (winner_at h path)) = ops_fine (winner_at h path) refl in
        made_comes h grown actor path d new (own_change_fits (ops_for h actor path d (winner_at h path)) fine.each fine.few) fine.made_few

  -- ---- removals

  few_with : (id : ElemId) (ids : List ElemId) → length (with_id id ids) ≤ suc (length ids)
  few_with id [] = omega arith
  few_with id (other ∷ ids) = by (less other id) (few_with id ids) where
    there : (b : Bool) → length (cond b (other ∷ ids) (id ∷ (other ∷ ids))) ≤ suc (suc (length ids))
    there true = omega arith
    there false = omega arith

    by : (b : Bool) → length (with_id id ids) ≤ suc (length ids)
        → length (cond b (other ∷ with_id id ids) (cond (same other id) (other ∷ ids) (id ∷ (other ∷ ids)))) ≤ suc (suc (length ids))
    by true rest = omega (arith, rest)
    by false rest = there (same other id)

  few_rising : (ids : List ElemId) → length (rising_ids ids) ≤ length ids
  few_rising [] = omega arith
  few_rising (id ∷ ids) = let one = few_with id (rising_ids ids) in let rest = few_rising ids in omega (arith, one, rest)

  removals_fit : (ids : List ElemId) → AllByRecursion FitsId ids → AllByRecursion op_field.Fits (map removal ids)
  removals_fit [] all = tt
  removals_fit (id ∷ ids) all = (remove_fits (ref_to id) (named_fits id all.0), removals_fit ids all.1)

  pub removed_may_come : (path : List ℕ) → length (live_at h path) < 2 ^ 63 → is_held h (name_of (removed h actor path)) ≡ false
      → MayCome h (removed h actor path)
  unfolding removed
  removed_may_come path objects_few new =
      let live : List ElemId = live_at h path in
      let rising = few_rising live in
      let long : length (map removal (rising_ids live)) ≡ length (rising_ids live) = length-map (rising_ids live) removal in
      removed_comes h grown actor path new
      (own_change_fits (map removal (rising_ids live)) (removals_fit (rising_ids live) (rising_all FitsId live (live_fit h grown path)))
      (omega (arith, long, rising, objects_few)))

-- ---- what a daemon makes

pub own_made_may_come : (h : Holding) (path : List ℕ) (d : Cells) → IsHolding h → IsWithinBounds h path d → base_length d ≡ length (text_at h path)
    → is_held h.history (name_of (made h.history h.actor path d)) ≡ false → MayCome h.history (made h.history h.actor path d)
own_made_may_come h path d is bounds fits new =
    let before = bounds.before in
    let after = bounds.after in
    let inserted : inserted_length d ≤ result_length d = inserted_few d.cells d.last in
    let long : length (applied d (text_at h path)) ≡ result_length d = length-applied d (text_at h path) fits in
    made_may_come h.history (holding_grown h is) h.actor bounds.actor_is bounds.few path bounds.path_is d (omega (arith, before, fits))
    (omega (arith, after, inserted, long)) bounds.scalars new

pub own_removed_may_come : (h : Holding) (path : List ℕ) → IsHolding h → IsRemovalWithinBounds h path
    → is_held h.history (name_of (removed h.history h.actor path)) ≡ false → MayCome h.history (removed h.history h.actor path)
own_removed_may_come h path is bounds new =
    removed_may_come h.history (holding_grown h is) h.actor bounds.actor_is bounds.few path bounds.few_objects new
