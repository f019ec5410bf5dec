-- What a call makes of the parts of a store.
use Rattle.std.proofs.Common.{◌≡◌, ℕ, Bool, true, false, List, [], IsTrue, sym, ap, ◌∙◌, subst}
use Rattle.change_journal.specs.Held.{JournalView}
use Rattle.journal_format.specs.declared.records.Note.{Note}
use Rattle.journal_format.specs.declared.records.Record.{Record}
use Rattle.replica_store.specs.Records.{Notes}
use Rattle.replica_store.specs.Store.{StoreView, IsStore}
use Rattle.replica_store.specs.Calls.{with_noted, IsWritten, IsCommitted}
use Rattle.replica_store.proofs.RecordLemmas.{store_noted, store_committed}

-- a store that is seen so is live as it is seen
pub was_live : {D : Type 0} (old now : StoreView D) → old ≡ now → IsTrue now.live → IsTrue old.live
was_live {D} old now seen live = subst (λ (s : StoreView D). IsTrue s.live) (sym seen) live

-- ---- a commit

module _ {D : Type 0} (old : StoreView D) (live : IsTrue old.live) (journal : JournalView D) (staged given : List Record) (same : given ≡ old.staged) (none : staged ≡ [])
    (written : IsWritten old.journal journal given) where
  pub commits : IsCommitted old (record old { journal = journal; staged = staged; live = true })
  commits = record {
    written = subst (IsWritten old.journal journal) same written;
    same =
        ap (λ (s : List Record). record old { journal = journal; staged = s; live = true }) none
        ∙ ap (λ (l : Bool). record old { journal = journal; staged = []; live = l }) (sym live);
  }

  pub commits_store : IsStore old → IsStore (record old { journal = journal; staged = staged; live = true })
  commits_store is = store_committed old (record old { journal = journal; staged = staged; live = true }) is commits

-- ---- a note

-- what is not so by its test is not so
pub other_note : {P : Type 0} (b : Bool) → b ≡ false → (P → IsTrue b) → P → ⊥
other_note b off tests so = let on : b ≡ true = tests so in absurd cc

module _ {D : Type 0} (old : StoreView D) (live : IsTrue old.live) (path : List ℕ) (note : Note) (staged : List Record) (notes : Notes)
    (kept : notes ≡ (with_noted old path note).notes) (more : staged ≡ (with_noted old path note).staged) where
  pub notes_one : record old { staged = staged; notes = notes; live = true } ≡ with_noted old path note
  notes_one =
      ap (λ (n : Notes). record old { staged = staged; notes = n; live = true }) kept
      ∙ ap (λ (s : List Record). record old { staged = s; notes = (with_noted old path note).notes; live = true }) more
      ∙ ap (λ (l : Bool). record old { staged = (with_noted old path note).staged; notes = (with_noted old path note).notes; live = l }) (sym live)

  pub notes_store : IsStore old → IsStore (record old { staged = staged; notes = notes; live = true })
  notes_store is = subst IsStore (sym notes_one) (store_noted old path note is)
