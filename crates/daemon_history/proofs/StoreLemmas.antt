-- What a store does, of what it shows.
use Rattle.std.proofs.Common.{◌≡◌, ◌≢◌, inl, inr, ℕ, Bool, true, false, cond, List, [], ◌∷◌, ◌++◌, Option, Some, None, is_some, Ok, Err, refl, sym, ap, ◌∙◌, append_assoc}
use Rattle.std.proofs.lemmas.List.{append-nil}
use Rattle.delta.specs.Cells.{Cells}
use Rattle.tt_base.specs.declared.ids.Actor.{Actor}
use Rattle.change_codec.specs.Change.{Change}
use Rattle.change_codec.specs.Encoding.{change_format}
use Rattle.change_graph.specs.History.{change_at, name_of}
use Rattle.change_graph.specs.Answers.{IsClash}
use Rattle.journal_format.specs.declared.records.Note.{Note}
use Rattle.journal_format.specs.declared.records.Note.TheVariants.{Open, One, Two}
use Rattle.journal_format.specs.declared.records.Record.{Record}
use Rattle.journal_format.specs.declared.records.Record.TheVariants as records
use Rattle.replica_views.specs.Growth.{MayCome}
use Rattle.replica_views.specs.Made as views
use Rattle.replica_store.specs.Records.{note_at, begun}
use Rattle.replica_store.specs.Store.{StoreView, all_records, IsStore}
use Rattle.replica_store.specs.Calls.{Making, with_staged, IsAdded, IsMade, IsRemoved, IsNoted, IsCommitted, IsOpened}
use Rattle.replica_store.specs.Calls as calls
use Rattle.replica_store.proofs.RecordLemmas.{written_records}
use Rattle.daemon_history.specs.Holding.{Holding, started, IsHolding}
use Rattle.daemon_history.specs.Making.{Clash, with_change, unless_held, owned, making, removing, with_noted, is_open, opening}
use Rattle.daemon_history.specs.Shown.{shown}
use Rattle.daemon_history.proofs.HoldingLemmas.{owner_stays, holding_of_parts}

pub store_holds : {D : Type 0} (store : StoreView D) → IsStore store → IsHolding (shown store)
store_holds store is = record {
  history_is = is.history_is;
  notes_are = is.notes_are;
  taken = is.taken;
  owner = owner_stays store.actor store.journal.records store.staged is.owner;
  first = is.first;
}

-- ---- own changes

nothing_found : (found : Option Change) → is_some found ≡ false → found ≡ None
nothing_found None none = refl
nothing_found (Some change) none = let never : true ≡ false = none in cc

-- what is staged is recorded behind all
staged_shown : {D : Type 0} (old : StoreView D) (change : Change) → with_change (shown old) change ≡ shown (with_staged old change)
staged_shown {D} old change =
    ap (λ (recorded : List Record). record (shown (with_staged old change)) { recorded = recorded })
    (append_assoc old.journal.records old.staged (records.Change (change_format.spelled change) ∷ []))

pub added_shown : {D : Type 0} (old new : StoreView D) (change : Change) → MayCome old.history change → new ≡ with_staged old change
    → owned (shown old) change ≡ Ok (shown new)
added_shown {D} old new change may new_is =
    ap (λ (found : Option Change). unless_held found (shown old) change) (nothing_found (change_at old.history (name_of change)) may.next.new)
    ∙ ap (λ (h : Holding). Ok h) (staged_shown old change ∙ sym (ap (λ (store : StoreView D). shown store) new_is))

pub made_shown : {D : Type 0} (old new : StoreView D) (path : List ℕ) (d : Cells) (answer : Making) → IsMade old path d new answer
    → making (shown old) path d ≡ Ok (shown new)
made_shown old new path d answer is = added_shown old new (views.made old.history old.actor path d) is.added.may is.added.new_is

pub removed_shown : {D : Type 0} (old new : StoreView D) (path : List ℕ) (answer : Making) → IsRemoved old path new answer
    → removing (shown old) path ≡ Ok (shown new)
removed_shown old new path answer is = added_shown old new (views.removed old.history old.actor path) is.added.may is.added.new_is

clash_of_parts : (one held two given : List ℕ) → one ≡ held → two ≡ given
    → let clash : Clash = record { held = one; given = two } in clash ≡ record { held = held; given = given }
clash_of_parts one held two given h g = cc

pub clash_shown : {D : Type 0} (old : StoreView D) (change : Change) (held given : List ℕ) → IsClash old.history change held given
    → owned (shown old) change ≡ Err (record { held = held; given = given })
clash_shown old change held given is =
    ap (λ (found : Option Change). unless_held found (shown old) change) is.other_held
    ∙ ap (λ (clash : Clash). Err clash)
    (clash_of_parts (change_format.spelled is.other) held (change_format.spelled change) given (sym is.held_bytes.spelling) (sym is.given_bytes.spelling))

-- ---- notes

noted_shown : {D : Type 0} (old : StoreView D) (path : List ℕ) (note : Note) → with_noted (shown old) path note ≡ shown (calls.with_noted old path note)
noted_shown {D} old path note =
    ap (λ (recorded : List Record). record (shown (calls.with_noted old path note)) { recorded = recorded })
    (append_assoc old.journal.records old.staged (records.Note path note ∷ []))

not_open : (note : Note) → note ≢ Open → is_open note ≡ false
not_open Open other = absurd (other refl)
not_open (One known) other = refl
not_open (Two before behind) other = refl

pub opened_shown : {D : Type 0} (old new : StoreView D) (path : List ℕ) → IsNoted old path Open new → opening (shown old) path ≡ shown new
opened_shown {D} old new path (inl same) =
    ap (λ (note : Note). cond (is_open note) (shown old) (with_noted (shown old) path Open)) same.0
    ∙ sym (ap (λ (store : StoreView D). shown store) same.1)
opened_shown {D} old new path (inr other) =
    ap (λ (open_already : Bool). cond open_already (shown old) (with_noted (shown old) path Open)) (not_open (note_at old.notes path) other.0)
    ∙ noted_shown old path Open
    ∙ sym (ap (λ (store : StoreView D). shown store) other.1)

-- ---- the disk

pub committed_shown : {D : Type 0} (old new : StoreView D) → IsCommitted old new → shown new ≡ shown old
committed_shown {D} old new is =
    let none : new.staged ≡ [] = ap (λ (store : StoreView D). store.staged) is.same in
    let whole : all_records new ≡ all_records old =
    ap (λ (staged : List Record). new.journal.records ++ staged) none ∙ append-nil new.journal.records
    ∙ written_records old.journal new.journal old.staged is.written in
    holding_of_parts new.actor old.actor (all_records new) (all_records old) new.history old.history new.notes old.notes
    (ap (λ (store : StoreView D). store.actor) is.same) whole
    (ap (λ (store : StoreView D). store.history) is.same) (ap (λ (store : StoreView D). store.notes) is.same)

pub started_shown : {D : Type 0} (store : StoreView D) (recorded : List Record) (given : Actor) → IsOpened recorded given store
    → shown store ≡ started given recorded
started_shown {D} store recorded given is =
    let whole : all_records store ≡ begun given recorded =
    ap (λ (staged : List Record). store.journal.records ++ staged) is.none_staged ∙ append-nil store.journal.records ∙ is.records_are in
    holding_of_parts store.actor _ (all_records store) (begun given recorded) store.history _ store.notes _
    is.actor_is whole is.history_is is.notes_are
