-- The changes by depth, with one change more: it stands somewhere among the others, which stay in their order.
use Rattle.std.proofs.Common.{◌≡◌, ℕ, zero, suc, ◌<◌, ◌≤◌, ◌==◌, Bool, true, false, cond, refl, sym, ap}
use Rattle.std.proofs.Common.{ap₂, ◌∙◌, subst, List, [], ◌∷◌, ◌++◌, filter, length, Option, Some, is_some, is_eq, append_assoc, arith}
use Rattle.std.specs.declared.cmp.Ordering.{Ordering}
use Rattle.std.specs.declared.cmp.Ordering.TheVariants.{Less, Equal, Greater}
use Rattle.std.specs.Ordering.{match_ordering}
use Rattle.std.specs.List.{AllByRecursion}
use Rattle.std.specs.Map.{lookup}
use Rattle.std.specs.BTreeMap.{insert_entry}
use Rattle.std.proofs.lemmas.Bool.{both_ways, cond-true, cond-false, eqb-true, eq-eqb, ne_eqb}
use Rattle.std.proofs.lemmas.List.{append-nil}
use Rattle.std.proofs.lemmas.List.Elements.{filter-append}
use Rattle.tt_base.specs.Ids.{name_cmp}
use Rattle.tt_base.specs.declared.ids.Name.{Name}
use Rattle.change_codec.specs.Change.{Change}
use Rattle.change_graph.specs.History.{History, is_name, change_at, is_held, name_of, with_change}
use Rattle.change_graph.specs.Answers.{IsNext}
use Rattle.change_graph.proofs.OrderLemmas.{name_itself}
use Rattle.change_graph.proofs.InsertLemmas.{length_inserted, lookup_inserted}
use Rattle.replica_views.specs.Ids.{depth_at}
use Rattle.replica_views.specs.Texts.{layer, up_to_depth, by_depth}
use Rattle.replica_views.specs.Growth.{MayCome, IsGrown, Come}
use Rattle.replica_views.proofs.DepthLemmas.{HasDepths, grown_depths, depth_stays, depth_few}

-- one stands among the others, which stay in their order
pub record IsPut {X : Type 0} (x : X) (xs ys : List X) : Type 0 where
  pub front : List X
  pub behind : List X
  pub without : xs ≡ front ++ behind
  pub with_it : ys ≡ front ++ x ∷ behind

pub put_behind : {X : Type 0} (x : X) (xs ys zs : List X) → IsPut x xs ys → IsPut x (xs ++ zs) (ys ++ zs)
put_behind x xs ys zs put = record {
  front = put.front;
  behind = put.behind ++ zs;
  without = ap (λ (l : List _). l ++ zs) put.without ∙ append_assoc put.front put.behind zs;
  with_it = ap (λ (l : List _). l ++ zs) put.with_it ∙ append_assoc put.front (x ∷ put.behind) zs;
}

pub put_in_front : {X : Type 0} (x : X) (xs ys zs : List X) → IsPut x xs ys → IsPut x (zs ++ xs) (zs ++ ys)
put_in_front x xs ys zs put = record {
  front = zs ++ put.front;
  behind = put.behind;
  without = ap (λ (l : List _). zs ++ l) put.without ∙ sym (append_assoc zs put.front put.behind);
  with_it = ap (λ (l : List _). zs ++ l) put.with_it ∙ sym (append_assoc zs put.front (x ∷ put.behind));
}

-- it stands behind all of the first ones
pub record IsPutBehind {X : Type 0} (first : List X) (x : X) (xs ys : List X) : Type 0 where
  pub put : IsPut x xs ys
  pub between : List X
  pub front_is : put.front ≡ first ++ between

-- ---- a new entry

module _ {X : Type 0} (name : Name) (value : X) where
  put_cases : (r : Ordering) (e : Name × X) (es rest : List (Name × X)) → is_eq r ≡ false → IsPut (name, value) es rest
      → IsPut (name, value) (e ∷ es) (match_ordering r ((name, value) ∷ e ∷ es) ((e.0, value) ∷ es) (e ∷ rest))
  put_cases Less e es rest apart put = record { front = []; behind = e ∷ es; without = refl; with_it = refl }
  put_cases Equal e es rest apart put = cc
  put_cases Greater e es rest apart put = record {
    front = e ∷ put.front;
    behind = put.behind;
    without = ap (λ (l : List (Name × X)). e ∷ l) put.without;
    with_it = ap (λ (l : List (Name × X)). e ∷ l) put.with_it;
  }

  none_cases : (b : Bool) (old : X) (o : Option X) → is_some (cond b (Some old) o) ≡ false → (b ≡ false) × (is_some o ≡ false)
  none_cases true old o none = cc
  none_cases false old o none = (refl, none)

  pub entry_put : (es : List (Name × X)) → is_some (lookup (is_name name) es) ≡ false → IsPut (name, value) es (insert_entry name_cmp es name value)
  entry_put [] none = record { front = []; behind = []; without = refl; with_it = refl }
  entry_put (e ∷ es) none =
      let both = none_cases (is_name name e.0) e.1 (lookup (is_name name) es) none in
      put_cases (name_cmp name e.0) e es (insert_entry name_cmp es name value) both.0 (entry_put es both.1)

-- ---- members

some_either : {X : Type 0} (b : Bool) (x : X) (o : Option X) → is_some o ≡ true → is_some (cond b (Some x) o) ≡ true
some_either true x o some = refl
some_either false x o some = some

pub all_more : {X : Type 0} (P Q : X → Type 0) (xs : List X) → ((x : X) → P x → Q x) → AllByRecursion P xs → AllByRecursion Q xs
all_more P Q [] each all = tt
all_more P Q (x ∷ xs) each all = (each x all.0, all_more P Q xs each all.1)

-- each entry of a history is held
pub entries_held : (history : History) → AllByRecursion (λ (e : Name × Change). is_held history e.0 ≡ true) history
entries_held [] = tt
entries_held (e ∷ es) = (
  ap (λ (b : Bool). is_some (cond b (Some e.1) (change_at es e.0))) (name_itself e.0),
  all_more (λ (x : Name × Change). is_held es x.0 ≡ true) (λ (x : Name × Change). is_held (e ∷ es) x.0 ≡ true) es
      (λ x held. some_either (is_name x.0 e.0) e.1 (change_at es x.0) held) (entries_held es),
)

pub filter_same : {X : Type 0} (p q : X → Bool) (xs : List X) → AllByRecursion (λ x. p x ≡ q x) xs → filter p xs ≡ filter q xs
filter_same p q [] all = refl
filter_same p q (x ∷ xs) all =
    ap₂ (λ (b : Bool) (rest : List _). cond b (x ∷ rest) rest) all.0 (filter_same p q xs all.1)

pub filter_none : {X : Type 0} (p : X → Bool) (xs : List X) → AllByRecursion (λ x. p x ≡ false) xs → filter p xs ≡ []
filter_none p [] all = refl
filter_none p (x ∷ xs) all = cond-false (p x) (x ∷ filter p xs) (filter p xs) all.0 ∙ filter_none p xs all.1

filter_with : {X : Type 0} (p : X → Bool) (x : X) (xs : List X) → p x ≡ true → filter p (x ∷ xs) ≡ x ∷ filter p xs
filter_with p x xs passes = cond-true (p x) (x ∷ filter p xs) (filter p xs) passes

filter_past : {X : Type 0} (p : X → Bool) (x : X) (xs : List X) → p x ≡ false → filter p (x ∷ xs) ≡ filter p xs
filter_past p x xs fails = cond-false (p x) (x ∷ filter p xs) (filter p xs) fails

-- what is put among others is put among those that pass a test, if it passes, and else these stay
pub filter_put : {X : Type 0} (p : X → Bool) (x : X) (xs ys : List X) → IsPut x xs ys → p x ≡ true → IsPut x (filter p xs) (filter p ys)
filter_put p x xs ys put passes = record {
  front = filter p put.front;
  behind = filter p put.behind;
  without = ap (filter p) put.without ∙ filter-append p put.front put.behind;
  with_it = ap (filter p) put.with_it ∙ filter-append p put.front (x ∷ put.behind)
      ∙ ap (λ (l : List _). filter p put.front ++ l) (filter_with p x put.behind passes);
}

pub filter_kept : {X : Type 0} (p : X → Bool) (x : X) (xs ys : List X) → IsPut x xs ys → p x ≡ false → filter p ys ≡ filter p xs
filter_kept p x xs ys put fails =
    ap (filter p) put.with_it ∙ filter-append p put.front (x ∷ put.behind)
    ∙ ap (λ (l : List _). filter p put.front ++ l) (filter_past p x put.behind fails)
    ∙ sym (ap (filter p) put.without ∙ filter-append p put.front put.behind)

-- the new change is found
pub change_found : (history : History) (change : Change) → change_at (with_change history change) (name_of change) ≡ Some change
change_found history change =
    lookup_inserted (name_of change) change history (name_of change)
    ∙ cond-true (is_name (name_of change) (name_of change)) (Some change) (change_at history (name_of change)) (name_itself (name_of change))

-- and each other one as before
pub other_found : (history : History) (change : Change) (q : Name) → is_name (name_of change) q ≡ false
    → change_at (with_change history change) q ≡ change_at history q
other_found history change q apart =
    lookup_inserted (name_of change) change history q
    ∙ cond-false (is_name (name_of change) q) (Some change) (change_at history q) apart

-- ---- layers

module _ (history : History) (change : Change) (has : HasDepths history) (next : IsNext history change) where
  abbrev later : History
  later = with_change history change

  abbrev entry : Name × Change
  entry = (name_of change, change)

  abbrev new_depth : ℕ
  new_depth = depth_at later (name_of change)

  pub history_put : IsPut entry history later
  history_put = entry_put (name_of change) change history next.new

  layer_same : (depth : ℕ) → filter (λ (e : Name × Change). depth_at later e.0 == depth) history ≡ layer history depth
  layer_same depth =
      filter_same (λ (e : Name × Change). depth_at later e.0 == depth) (λ (e : Name × Change). depth_at history e.0 == depth) history
      (all_more (λ (e : Name × Change). is_held history e.0 ≡ true)
      (λ (e : Name × Change). (depth_at later e.0 == depth) ≡ (depth_at history e.0 == depth)) history
      (λ e held. ap (λ (n : ℕ). n == depth) (depth_stays history change has next e.0 held)) (entries_held history))

  layer_put : (depth : ℕ) → new_depth ≡ depth → IsPut entry (layer history depth) (layer later depth)
  layer_put depth here =
      subst (λ (l : History). IsPut entry l (layer later depth)) (layer_same depth)
      (filter_put (λ (e : Name × Change). depth_at later e.0 == depth) entry history later history_put (eq-eqb new_depth depth here))

  layer_kept : (depth : ℕ) → (new_depth ≡ depth → ⊥) → layer later depth ≡ layer history depth
  layer_kept depth apart =
      filter_kept (λ (e : Name × Change). depth_at later e.0 == depth) entry history later history_put (ne_eqb new_depth depth apart)
      ∙ layer_same depth

  up_to_kept : (depth : ℕ) → depth < new_depth → up_to_depth later depth ≡ up_to_depth history depth
  up_to_kept zero less = refl
  up_to_kept (suc depth) less =
      ap₂ (λ (xs ys : History). xs ++ ys) (up_to_kept depth (omega (arith, less))) (layer_kept (suc depth) (λ is. omega (arith, is, less)))

  -- it stands behind all layers below its own
  up_to_put : (below depth : ℕ) → new_depth ≡ suc below → new_depth ≤ depth
      → IsPutBehind (up_to_depth history below) entry (up_to_depth history depth) (up_to_depth later depth)
  unfolding put_behind put_in_front
  up_to_put below zero some few = absurd (omega (arith, some, few))
  up_to_put below (suc depth) some few = by (λ le. up_to_put below depth some le) (new_depth == suc depth) refl where
    by : (new_depth ≤ depth → IsPutBehind (up_to_depth history below) entry (up_to_depth history depth) (up_to_depth later depth))
        → (b : Bool) → (new_depth == suc depth) ≡ b
        → IsPutBehind (up_to_depth history below) entry (up_to_depth history (suc depth)) (up_to_depth later (suc depth))
    by before true is =
        let here : new_depth ≡ suc depth = eqb-true new_depth (suc depth) is in
        let at : depth ≡ below = omega (arith, here, some) in
        let own : IsPut entry (layer history (suc depth)) (layer later (suc depth)) = layer_put (suc depth) here in
        subst (λ (l : History). IsPutBehind (up_to_depth history below) entry (up_to_depth history depth ++ layer history (suc depth)) (l ++ layer later (suc depth)))
        (sym (up_to_kept depth (omega (arith, here))))
        (record {
          put = put_in_front entry (layer history (suc depth)) (layer later (suc depth)) (up_to_depth history depth) own;
          between = own.front;
          front_is = ap (λ (n : ℕ). up_to_depth history n ++ own.front) at;
        })
    by before false is =
        let apart : new_depth ≡ suc depth → ⊥ = λ e. both_ways (new_depth == suc depth) is (eq-eqb new_depth (suc depth) e) in
        let lower : IsPutBehind (up_to_depth history below) entry (up_to_depth history depth) (up_to_depth later depth) =
        before (let ne : new_depth ≡ suc depth → ⊥ = apart in omega (arith, few, ne)) in
        subst (λ (l : History). IsPutBehind (up_to_depth history below) entry (up_to_depth history depth ++ layer history (suc depth)) (up_to_depth later depth ++ l))
        (sym (layer_kept (suc depth) apart))
        (record {
          put = put_behind entry (up_to_depth history depth) (up_to_depth later depth) (layer history (suc depth)) lower.put;
          between = lower.between;
          front_is = lower.front_is;
        })

module _ (history : History) (change : Change) (grown : IsGrown history) (may : MayCome history change) where
  none_deeper : layer history (suc (length history)) ≡ []
  none_deeper =
      filter_none (λ (e : Name × Change). depth_at history e.0 == suc (length history)) history
      (all_more (λ (e : Name × Change). is_held history e.0 ≡ true)
      (λ (e : Name × Change). (depth_at history e.0 == suc (length history)) ≡ false) history
      (λ e held.
      let few : depth_at history e.0 ≤ length history = depth_few history grown e.0 held in
      ne_eqb (depth_at history e.0) (suc (length history)) (λ is. omega (arith, few, is)))
      (entries_held history))

  -- the new change stands among the others behind all that are less deep
  pub put_by_depth : (below : ℕ) → depth_at (with_change history change) (name_of change) ≡ suc below
      → IsPutBehind (up_to_depth history below) (name_of change, change) (by_depth history) (by_depth (with_change history change))
  put_by_depth below some =
      let has : HasDepths history = grown_depths history grown in
      let long : length (with_change history change) ≡ suc (length history) =
      let e = length_inserted (name_of change) change history may.next.new in omega (arith, e) in
      let few : depth_at (with_change history change) (name_of change) ≤ length (with_change history change) =
      depth_few (with_change history change) (Come history change grown may) (name_of change)
      (ap (λ (o : Option Change). is_some o) (change_found history change)) in
      let put : IsPutBehind (up_to_depth history below) (name_of change, change) (up_to_depth history (suc (length history)))
      (up_to_depth (with_change history change) (suc (length history))) =
      up_to_put history change has may.next below (suc (length history)) some (omega (arith, few, long)) in
      subst (λ (l : History). IsPutBehind (up_to_depth history below) (name_of change, change) l (by_depth (with_change history change)))
      (ap (λ (l : History). by_depth history ++ l) none_deeper ∙ append-nil (by_depth history))
      (subst (λ (n : ℕ). IsPutBehind (up_to_depth history below) (name_of change, change) (up_to_depth history (suc (length history)))
      (up_to_depth (with_change history change) n)) (sym long) put)
