-- A made change, and one that removes a file, may come next.
use Rattle.std.proofs.Common.{◌≡◌, ℕ, zero, suc, ◌+◌, ◌-◌, ◌<◌, ◌≤◌, ◌^◌, Bool, true, false, cond, not, refl, sym, ap, subst, List, [], ◌∷◌, ◌++◌, map, length, Option, Some, None, arith}
use Rattle.std.specs.List.{AllByRecursion, list_any}
use Rattle.delta.specs.Cells.{Cells}
use Rattle.tt_base.specs.declared.ids.Actor.{Actor}
use Rattle.tt_base.specs.declared.ids.ElemId.{ElemId}
use Rattle.change_codec.specs.Encoding.{change_format}
use Rattle.change_codec.specs.declared.ops.Ref.TheVariants.{Here}
use Rattle.change_codec.specs.declared.ops.Op.{Op}
use Rattle.change_codec.specs.declared.ops.Op.TheVariants.{Make, Remove}
use Rattle.change_graph.specs.History.{History, is_held, ops_of, ops_at, name_of}
use Rattle.change_graph.specs.Refusals.{Object, things, run_at, is_there, is_object, fault_at, IsAccepted}
use Rattle.replica_dir.specs.Ids.{has_id}
use Rattle.replica_text.specs.Ids.{less}
use Rattle.replica_text.specs.Made.{made_ops}
use Rattle.replica_views.specs.Objects.{makes_at, removes, live_at, winner_at}
use Rattle.replica_views.specs.Texts.{elements_of}
use Rattle.replica_views.specs.Made.{own_change, ref_to, next_id_at, ops_for, made, removal, rising_ids, removed}
use Rattle.replica_views.specs.Growth.{MayCome, IsGrown}
use Rattle.replica_views.proofs.AcceptedLemmas.{within_of, AreAccepted}
use Rattle.replica_views.proofs.LayerLemmas.{all_more}
use Rattle.replica_views.proofs.StayLemmas.{all_filter, grown_entries}
use Rattle.replica_views.proofs.StepLemmas.{IsIn}
use Rattle.replica_views.proofs.WinnerLemmas.{IsMadeBy, each_in, made_in, winner_made}
use Rattle.replica_views.proofs.ComesLemmas.{IsSeenAs, no_object_fault, StandsAt, make_stands, IsCharacterOf, elements_are}
use Rattle.replica_views.proofs.AcceptingLemmas.{RunAll, names_made, visible_all, none_refused, written_accepted, all_held, knows_all, none_missing, object_there, object_is, run_seen}
use Rattle.replica_views.proofs.RisingLemmas.{rising_all}

-- an object stands where a held change made one
object_stands : (h : History) (path : List ℕ) (w : ElemId) → IsMadeBy h path w → StandsAt (things (ops_at h w.name)) w.index Object
object_stands h path w is =
    subst (λ (ops : List Op). StandsAt (things ops) w.index Object) (sym (ap ops_of is.found))
    (subst (λ (k : ℕ). StandsAt (things is.change.ops) k Object) (let z : w.index - 0 ≡ w.index = omega arith in z)
    (make_stands h w.name path is.change.ops 0 w is.there))

module _ (h : History) (grown : IsGrown h) (actor : Actor) where
  -- operations that are accepted in turn make a change that is accepted
  own_accepted : (ops : List Op) → AreAccepted h (all_held h grown) [] ops → IsAccepted h (own_change h actor ops)
  own_accepted ops accepted = record {
    known = all_held h grown;
    knows = knows_all h grown;
    none = λ place. subst (λ (k : ℕ). fault_at h (all_held h grown) ops k ≡ None) (let e : 0 + place ≡ place = omega arith in e)
        (none_refused h (all_held h grown) ops [] accepted place);
  }

  own_comes : (ops : List Op) → AreAccepted h (all_held h grown) [] ops → is_held h (name_of (own_change h actor ops)) ≡ false
      → change_format.Fits (own_change h actor ops) → length (things ops) ≤ 2 ^ 64 → MayCome h (own_change h actor ops)
  own_comes ops accepted new encoded fits = record {
    next = record { new = new; ready = none_missing h grown; accepted = own_accepted ops accepted };
    encoded = encoded;
    fits = fits;
  }

  -- ---- a change for a delta

  abbrev NoId : ElemId → Type 0
  NoId id = ⊥

  -- where a make stands first, and its object is written as the first of the change
  record BeginsWith (path : List ℕ) (earlier : List Op) : Type 0 where
    rest : List Op
    is : earlier ≡ Make path ∷ rest

  begins_on : (path : List ℕ) (earlier : List Op) (op : Op) → BeginsWith path earlier → BeginsWith path (earlier ++ op ∷ [])
  begins_on path earlier op begins = record { rest = begins.rest ++ op ∷ []; is = ap (λ (xs : List Op). xs ++ op ∷ []) begins.is }

  begun_there : (path : List ℕ) (earlier : List Op) → BeginsWith path earlier → is_there (within_of h (all_held h grown) earlier) (Here 0) 1 ≡ true
  begun_there path earlier begins = ap (λ (xs : List Op). is_there (within_of h (all_held h grown) xs) (Here 0) 1) begins.is

  begun_object : (path : List ℕ) (earlier : List Op) → BeginsWith path earlier → list_any is_object (run_at (within_of h (all_held h grown) earlier) (Here 0) 1) ≡ true
  begun_object path earlier begins = ap (λ (xs : List Op). list_any is_object (run_at (within_of h (all_held h grown) xs) (Here 0) 1)) begins.is

  none_seen : (path : List ℕ) (earlier : List Op) → BeginsWith path earlier → (first : ElemId) (count : ℕ) → 0 < count → RunAll NoId first count
      → IsSeenAs (within_of h (all_held h grown) earlier) (Here 0) (ref_to first) count
  none_seen path earlier begins first zero some run = absurd (omega (arith, some))
  none_seen path earlier begins first (suc count) some run = absurd run.0

  ops_accepted : (path : List ℕ) (d : Cells) (o : Option ElemId) → winner_at h path ≡ o → AreAccepted h (all_held h grown) [] (ops_for h actor path d o)
  ops_accepted path d None is = (
    refl,
    written_accepted h (all_held h grown) (Here 0) NoId (BeginsWith path) (begins_on path) (begun_there path) (begun_object path) (none_seen path)
        (made_ops [] d (next_id_at h actor 1)) (Make path ∷ []) (record { rest = []; is = refl })
        (names_made NoId [] d (next_id_at h actor 1) tt),
  )
  ops_accepted path d (Some w) is =
      let stands : StandsAt (things (ops_at h w.name)) w.index Object = object_stands h path w (winner_made h grown path w is) in
      written_accepted h (all_held h grown) (ref_to w) (IsCharacterOf h w) (λ earlier. Unit {0}) (λ earlier op behind. tt)
      (λ earlier behind. object_there h grown w stands earlier) (λ earlier behind. object_is h grown w stands earlier)
      (λ earlier behind first count some run. run_seen h grown w stands earlier first count some run)
      (made_ops (elements_of h w) d (next_id_at h actor 0)) [] tt
      (names_made (IsCharacterOf h w) (elements_of h w) d (next_id_at h actor 0) (visible_all (IsCharacterOf h w) (elements_of h w) (elements_are h w grown)))

  -- it may come next where nothing is held under its name
  pub made_comes : (path : List ℕ) (d : Cells) → is_held h (name_of (made h actor path d)) ≡ false → change_format.Fits (made h actor path d)
      → length (things (made h actor path d).ops) ≤ 2 ^ 64 → MayCome h (made h actor path d)
  unfolding made
  made_comes path d new encoded fits = own_comes (ops_for h actor path d (winner_at h path)) (ops_accepted path d (winner_at h path) refl) new encoded fits

  -- ---- a change that removes a file

  removes_accepted : (path : List ℕ) (ids : List ElemId) (earlier : List Op) → AllByRecursion (IsMadeBy h path) ids
      → AreAccepted h (all_held h grown) earlier (map removal ids)
  removes_accepted path [] earlier all = tt
  removes_accepted path (id ∷ ids) earlier all =
      let stands : StandsAt (things (ops_at h id.name)) id.index Object = object_stands h path id all.0 in (
        no_object_fault (within_of h (all_held h grown) earlier) (ref_to id) (object_there h grown id stands earlier) (object_is h grown id stands earlier),
        removes_accepted path ids (earlier ++ removal id ∷ []) all.1,
      )

  live_made : (path : List ℕ) → AllByRecursion (IsMadeBy h path) (live_at h path)
  live_made path =
      all_filter (IsMadeBy h path) (λ id. not (has_id (removes h) id)) (makes_at h path)
      (all_more (λ (v : ElemId). IsIn v (makes_at h path)) (IsMadeBy h path) (makes_at h path)
      (λ v is. made_in h path v h (grown_entries h grown) is) (each_in (makes_at h path)))

  no_things : (ids : List ElemId) → things (map removal ids) ≡ []
  no_things [] = refl
  no_things (id ∷ ids) = no_things ids

  pub removed_comes : (path : List ℕ) → is_held h (name_of (removed h actor path)) ≡ false → change_format.Fits (removed h actor path)
      → MayCome h (removed h actor path)
  unfolding removed
  removed_comes path new encoded =
      own_comes (map removal (rising_ids (live_at h path)))
      (removes_accepted path (rising_ids (live_at h path)) [] (rising_all (IsMadeBy h path) (live_at h path) (live_made path))) new encoded
      (let e : length (things (map removal (rising_ids (live_at h path)))) ≡ 0 = ap length (no_things (rising_ids (live_at h path))) in omega (arith, e))
