-- A store that has made a change, from its history and its staged records.
use Rattle.std.proofs.Common.{◌≡◌, ℕ, ◌<◌, ◌≤◌, Bool, true, false, List, [], length, Result, Ok, Err, IsTrue, refl, sym, ap, ◌∙◌, subst, arith}
use Rattle.std.specs.Prelude.{IfOk, IfErr}
use Rattle.delta.specs.Cells.{Cells, IsNormal, nothing, base_length, result_length}
use Rattle.delta.proofs.LawLemmas.{length-applied}
use Rattle.change_codec.specs.Change.{Change}
use Rattle.change_graph.specs.History.{History, name_of}
use Rattle.tt_base.specs.declared.ids.Actor.{Actor}
use Rattle.journal_format.specs.declared.records.Record.{Record}
use Rattle.replica_store.specs.Store.{StoreView, IsStore}
use Rattle.replica_store.specs.Calls.{Making, IsTooLong, CanMake, IsMade, IsOwn, IsNotMade, IsNotRemoved}
use Rattle.replica_store.specs.declared.TheConstants.{LONGEST_TEXT}
use Rattle.replica_store.specs.declared.faults.StoreFault.{StoreFault}
use Rattle.replica_store.specs.declared.faults.StoreFault.TheVariants.{TextTooLong, Clash, Memory}
use Rattle.replica_store.proofs.RecordLemmas.{store_staged, store_grown}
use Rattle.replica_views.specs.Growth.{IsGrown}
use Rattle.replica_views.specs.Made.{made, removed, with_made}
use Rattle.replica_views.specs.Views.{text_at}
use Rattle.replica_views.specs.Effects.{AreEffects}
use Rattle.replica_views.specs.Laws.{only_effect}
use Rattle.replica_views.proofs.EffectLemmas.{effects_one}
use Rattle.replica_views.proofs.MadeLemmas.{made_does_only}
use Rattle.replica_views.proofs.HeadsLemmas.{own_is_new}
use Rattle.replica_views.proofs.NextLemmas.{made_comes, removed_comes}
use Rattle.replica_disk.specs.Making.{IsOwnChange, HasNoneTooLong, HoldsOwn, HoldsStill, IsNotOwn, IsNoMaking, is_of_use}
use Rattle.replica_disk.proofs.Learns.{with_parts, unchanged, added}

-- ---- the changes that a daemon makes

pub made_is_own : (history : History) → IsGrown history → (actor : Actor) (path : List ℕ) (d : Cells) (change : Change)
    → change ≡ made history actor path d → IsOwnChange history change
unfolding made
made_is_own history grown actor path d change is =
    subst (IsOwnChange history) (sym is)
    (record {
      is_new = own_is_new history grown (name_of (made history actor path d)) (made history actor path d) refl;
      comes = made_comes history grown actor path d;
    })

pub removed_is_own : (history : History) → IsGrown history → (actor : Actor) (path : List ℕ) (change : Change)
    → change ≡ removed history actor path → IsOwnChange history change
unfolding removed
removed_is_own history grown actor path change is =
    subst (IsOwnChange history) (sym is)
    (record {
      is_new = own_is_new history grown (name_of (removed history actor path)) (removed history actor path) refl;
      comes = λ unheld fits few. removed_comes history grown actor path unheld fits;
    })

-- ---- how long the text would be

pub is_too_long : (history : History) (path : List ℕ) (d : Cells) (count before : ℕ) → base_length d ≡ length (text_at history path) → count ≡ result_length d
    → before ≡ base_length d → LONGEST_TEXT < count → before < count → IsTooLong history path d count
is_too_long history path d count before base is was above longer = record {
  counted = is ∙ sym (length-applied d (text_at history path) base);
  above = above;
  longer = subst (λ (n : ℕ). n < count) (was ∙ base) longer;
}

pub is_short : (history : History) (path : List ℕ) (d : Cells) (count : ℕ) → base_length d ≡ length (text_at history path) → count ≡ result_length d
    → count ≤ LONGEST_TEXT → HasNoneTooLong history path d
is_short history path d count base is few n long =
    let same : n ≡ count = long.counted ∙ length-applied d (text_at history path) base ∙ sym is in
    let above = long.above in omega (arith, same, above, few)

pub is_no_longer : (history : History) (path : List ℕ) (d : Cells) (count before : ℕ) → base_length d ≡ length (text_at history path)
    → count ≡ result_length d → before ≡ base_length d → count ≤ before → HasNoneTooLong history path d
is_no_longer history path d count before base is was few n long =
    let same : n ≡ count = long.counted ∙ length-applied d (text_at history path) base ∙ sym is in
    let longer = long.longer in omega (arith, same, longer, few, was, base)

-- ---- the store behind an answer

module _ {D : Type 0} (old : StoreView D) (live : IsTrue old.live) (history : History) (staged : List Record) (b : Bool) (answer : Result Making StoreFault)
    (of_use : b ≡ is_of_use answer) where
  pub makes : (change : Change) → IfOk answer (HoldsOwn old.history old.staged change history staged)
      → IfOk answer (IsOwn old change (with_parts old history staged b))
  makes change = by answer of_use where
    by : (r : Result Making StoreFault) → b ≡ is_of_use r → IfOk r (HoldsOwn old.history old.staged change history staged)
        → IfOk r (IsOwn old change (with_parts old history staged b))
    by (Ok making) is held = record {
      added = record {
        may = held.more.may;
        new_is = added old live change history staged b is held.more.history_is held.more.staged_is;
        are_effects = held.more.are_effects;
      };
      name_is = held.name_is;
    }
    by (Err fault) is held = tt

  pub does_not_make : (path : List ℕ) (d : Cells) → IfErr answer (IsNoMaking old.history old.actor path d)
      → IfErr answer (HoldsStill old.history old.staged history staged) → IfErr answer (IsNotMade old path d (with_parts old history staged b))
  does_not_make path d = by answer of_use where
    by : (r : Result Making StoreFault) → b ≡ is_of_use r → IfErr r (IsNoMaking old.history old.actor path d)
        → IfErr r (HoldsStill old.history old.staged history staged) → IfErr r (IsNotMade old path d (with_parts old history staged b))
    by (Ok making) is cause same = tt
    by (Err (TextTooLong count)) is cause same = (cause, unchanged old live (made old.history old.actor [] nothing) history staged b is same)
    by (Err (Clash held given)) is cause same = (cause, unchanged old live (made old.history old.actor [] nothing) history staged b is same)
    by (Err Memory) is cause same = is

  pub does_not_remove : (path : List ℕ) → IfErr answer (IsNotOwn old.history (removed old.history old.actor path))
      → IfErr answer (HoldsStill old.history old.staged history staged) → IfErr answer (IsNotRemoved old path (with_parts old history staged b))
  does_not_remove path = by answer of_use where
    by : (r : Result Making StoreFault) → b ≡ is_of_use r → IfErr r (IsNotOwn old.history (removed old.history old.actor path))
        → IfErr r (HoldsStill old.history old.staged history staged) → IfErr r (IsNotRemoved old path (with_parts old history staged b))
    by (Ok making) is cause same = tt
    by (Err (TextTooLong count)) is cause same = absurd cause
    by (Err (Clash held given)) is cause same = (cause, unchanged old live (made old.history old.actor [] nothing) history staged b is same)
    by (Err Memory) is cause same = is

  -- it is a store again, unless memory ran out
  pub store_again : (change : Change) → IfOk answer (HoldsOwn old.history old.staged change history staged)
      → IfErr answer (HoldsStill old.history old.staged history staged) → IsStore old → IsTrue b → IsStore (with_parts old history staged b)
  store_again change = by answer of_use where
    by : (r : Result Making StoreFault) → b ≡ is_of_use r → IfOk r (HoldsOwn old.history old.staged change history staged)
        → IfErr r (HoldsStill old.history old.staged history staged) → IsStore old → IsTrue b → IsStore (with_parts old history staged b)
    by (Ok making) is held same store on =
        subst IsStore (sym (added old live change history staged b is held.more.history_is held.more.staged_is)) (store_staged old change store held.more.may)
    by (Err (TextTooLong count)) is held same store on = subst IsStore (sym (unchanged old live (made old.history old.actor [] nothing) history staged b is same)) store
    by (Err (Clash before given)) is held same store on = subst IsStore (sym (unchanged old live (made old.history old.actor [] nothing) history staged b is same)) store
    by (Err Memory) is held same store on = let never : true ≡ false = sym on ∙ is in cc

-- ---- the effects of a made change

-- the delta is its one effect, and there is none where it changes nothing
pub makes_only : {D : Type 0} (old new : StoreView D) (path : List ℕ) (d : Cells) (making : Making) → IsStore old → CanMake old path d → IsNormal d
    → IsMade old path d new making → making.effects ≡ only_effect path d
makes_only old new path d making store fits normal is =
    let later : new.history ≡ with_made old.history old.actor path d = ap (λ (s : StoreView _). s.history) is.added.new_is in
    effects_one old.history new.history making.effects (only_effect path d) is.added.are_effects
    (subst (λ (h : History). AreEffects old.history h (only_effect path d)) (sym later)
    (made_does_only old.history old.actor path d (store_grown old store) is.added.may fits normal).effects)
