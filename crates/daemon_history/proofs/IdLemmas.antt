-- What names the changes, the objects and the characters that are held fits the fields of an encoding.
use Rattle.std.proofs.Common.{◌≡◌, inl, inr, ℕ, ◌-◌, ◌<◌, ◌≤◌, ◌^◌, refl, sym, subst, List, [], ◌∷◌, length, Option, Some, None, not, arith}
use Rattle.std.specs.List.{AllByRecursion, count_by}
use Rattle.std.specs.Map.{keys_of}
use Rattle.std.proofs.lemmas.List.{length-map}
use Rattle.std.proofs.lemmas.List.Sums.{length-filter, count_by-le-length}
use Rattle.sha2.proofs.Facts256.{length-sha256}
use Rattle.tt_base.specs.declared.ids.Name.{Name}
use Rattle.tt_base.specs.declared.ids.ElemId.{ElemId}
use Rattle.byte_format.specs.Values.{name_field}
use Rattle.change_codec.specs.Change.{Change}
use Rattle.change_codec.specs.Encoding.{change_format}
use Rattle.change_graph.specs.History.{History, change_at, ops_of, name_of}
use Rattle.change_graph.specs.Refusals.{Object, Character, things}
use Rattle.replica_text.specs.Made.{visible_ids}
use Rattle.replica_views.specs.Growth.{IsGrown}
use Rattle.replica_views.specs.Made.{is_dep, heads_of}
use Rattle.replica_views.specs.Objects.{makes_at, live_at}
use Rattle.replica_views.specs.Texts.{elements_of}
use Rattle.replica_views.proofs.HistoryLemmas.{grown_history}
use Rattle.replica_views.proofs.LayerLemmas.{all_more}
use Rattle.replica_views.proofs.StayLemmas.{IsEntry, all_filter, grown_entries}
use Rattle.replica_views.proofs.StepLemmas.{IsIn, found_in}
use Rattle.replica_views.proofs.WinnerLemmas.{IsMadeBy, made_in, each_in}
use Rattle.replica_views.proofs.ComesLemmas.{StandsAt, stands_long, make_stands, IsCharacterOf, elements_are}
use Rattle.replica_views.proofs.AcceptingLemmas.{visible_all}
use Rattle.change_making.proofs.ByteLemmas.{digest_is_bytes}
use Rattle.change_making.proofs.FitsLemmas.{name_fits}

-- a name of 32 bytes, and an index that a field holds
abbrev pub FitsId : ElemId → Type 0
FitsId id = name_field.Fits id.name × (id.index < 2 ^ 64)

all_at : {X : Type 0} (P : X → Type 0) (x : X) (xs : List X) → AllByRecursion P xs → IsIn x xs → P x
all_at P x [] all is = absurd is
all_at P x (y ∷ ys) all (inl is) = subst P is all.0
all_at P x (y ∷ ys) all (inr is) = all_at P x ys all.1 is

module _ (h : History) (grown : IsGrown h) where
  name_of_held : (name : Name) (change : Change) → change_at h name ≡ Some change → name_field.Fits name
  name_of_held name change found =
      subst name_field.Fits (sym ((grown_history h grown).named name change found))
      (name_fits (name_of change) (length-sha256 (change_format.spelled change)) (digest_is_bytes (change_format.spelled change)))

  things_few : (name : Name) (change : Change) → change_at h name ≡ Some change → length (things change.ops) ≤ 2 ^ 64
  things_few name change found = (all_at (IsEntry h) (name, change) h (grown_entries h grown) (found_in h name change found)).fits

  -- of what a held change made
  pub object_fits : (path : List ℕ) (id : ElemId) → IsMadeBy h path id → FitsId id
  object_fits path id is =
      let stands : StandsAt (things is.change.ops) (id.index - 0) Object = make_stands h id.name path is.change.ops 0 id is.there in
      let lt = stands_long (things is.change.ops) (id.index - 0) Object stands in
      let few = things_few id.name is.change is.found in
      (name_of_held id.name is.change is.found, omega (arith, lt, few))

  -- live objects are such
  pub live_fit : (path : List ℕ) → AllByRecursion FitsId (live_at h path)
  live_fit path =
      all_filter FitsId _ (makes_at h path)
      (all_more (λ (v : ElemId). IsIn v (makes_at h path)) FitsId (makes_at h path)
      (λ v is. object_fits path v (made_in h path v h (grown_entries h grown) is)) (each_in (makes_at h path)))

  character_fits : (object id : ElemId) → IsCharacterOf h object id → FitsId id
  character_fits object id is = by (change_at h id.name) refl where
    by : (o : Option Change) → change_at h id.name ≡ o → FitsId id
    by None none =
        let lt = stands_long [] id.index (Character is.own) (subst (λ (o : Option Change). StandsAt (things (ops_of o)) id.index (Character is.own)) none is.stands) in
        absurd (omega (arith, lt))
    by (Some change) found =
        let lt =
        stands_long (things change.ops) id.index (Character is.own)
        (subst (λ (o : Option Change). StandsAt (things (ops_of o)) id.index (Character is.own)) found is.stands) in
        let few = things_few id.name change found in
        (name_of_held id.name change found, omega (arith, lt, few))

  pub characters_fit : (object : ElemId) → AllByRecursion FitsId (visible_ids (elements_of h object))
  characters_fit object =
      visible_all FitsId (elements_of h object)
      (all_more (λ e. IsCharacterOf h object e.id) (λ e. FitsId e.id) (elements_of h object) (λ e is. character_fits object e.id is) (elements_are h object grown))

-- there are no more heads than changes
pub heads_few : (h : History) → length (heads_of h) ≤ length h
unfolding heads_of
heads_few h =
    let keys : length (keys_of h) ≡ length h = length-map h (λ (e : Name × Change). e.0) in
    let counted : length (heads_of h) ≡ count_by (λ (name : Name). not (is_dep h name)) (keys_of h) = length-filter (λ (name : Name). not (is_dep h name)) (keys_of h) in
    let few = count_by-le-length (λ (name : Name). not (is_dep h name)) (keys_of h) in
    omega (arith, keys, counted, few)
