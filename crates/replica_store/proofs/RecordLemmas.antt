-- Records behind others, and what one staged record adds.
use Rattle.std.proofs.Common.{◌≡◌, inl, inr, ℕ, not, Bool, true, false, cond, List, [], ◌∷◌, ◌++◌, Option, is_some, Result, Ok, Err, IsTrue, refl, sym, ap, ◌∙◌, subst, append_assoc}
use Rattle.std.specs.List.{list_any, AllByRecursion}
use Rattle.std.proofs.lemmas.List.{append-nil}
use Rattle.tt_base.specs.declared.ids.Actor.{Actor}
use Rattle.byte_format.specs.Format.{whole}
use Rattle.byte_format.specs.declared.faults.Outside.{Outside}
use Rattle.byte_format.proofs.Lawful.{wholly_again}
use Rattle.change_codec.specs.Change.{Change}
use Rattle.change_codec.specs.Encoding.{change_format}
use Rattle.change_codec.proofs.EncodingLaws.{change_lawful}
use Rattle.change_graph.specs.History.{History, is_held, name_of, with_change}
use Rattle.change_graph.specs.Answers.{IsRepeat}
use Rattle.change_journal.specs.Held.{JournalView}
use Rattle.journal_format.specs.Encoding.{HoldsEncoding}
use Rattle.journal_format.specs.Image.{actor_is_first, is_actor}
use Rattle.journal_format.proofs.ImageLaws.{actor_behind}
use Rattle.journal_format.specs.declared.records.Note.{Note}
use Rattle.journal_format.specs.declared.records.Record.{Record}
use Rattle.journal_format.specs.declared.records.Record.TheVariants as records
use Rattle.delta.specs.Cells.{Cells, IsNormal}
use Rattle.replica_views.specs.Growth.{MayCome, IsGrown, Begun, Come}
use Rattle.replica_views.specs.Made.{made}
use Rattle.replica_views.proofs.MadeLemmas.{made_does_only}
use Rattle.replica_views.specs.Views.{beginning}
use Rattle.replica_store.specs.Records.{Notes, no_notes, with_new, with_read, with_record, history_from, IsTakenAs, IsTaken, AreTaken, with_note, notes_from, actor_from, begun}
use Rattle.replica_store.specs.Store.{StoreView, all_records, IsStore}
use Rattle.replica_store.specs.Calls.{CanMake, IsMade, made_answer, with_staged, with_noted, IsWritten, IsCommitted, IsOpened}

pub history-append : (history : History) (xs ys : List Record) → history_from history (xs ++ ys) ≡ history_from (history_from history xs) ys
history-append history [] ys = refl
history-append history (x ∷ xs) ys = history-append (with_record history x) xs ys

pub notes-append : (notes : Notes) (xs ys : List Record) → notes_from notes (xs ++ ys) ≡ notes_from (notes_from notes xs) ys
notes-append notes [] ys = refl
notes-append notes (x ∷ xs) ys = notes-append (with_note notes x) xs ys

pub taken-append : (history : History) (xs ys : List Record) → AreTaken history xs → AreTaken (history_from history xs) ys → AreTaken history (xs ++ ys)
taken-append history [] ys one other = other
taken-append history (x ∷ xs) ys one other = (one.0, taken-append (with_record history x) xs ys one.1 other)

-- what is read back is the change
pub spelled_reads : (change : Change) → change_format.Fits change → whole change_format (change_format.spelled change) ≡ Ok change
spelled_reads change fits = wholly_again change_format change_lawful (change_format.spelled change) change (record { fits = fits; spelling = refl })

-- a change that is new is added
pub new_added : (history : History) (change : Change) → is_held history (name_of change) ≡ false → with_new history change ≡ with_change history change
new_added history change new = ap (λ (b : Bool). cond b history (with_change history change)) new

-- a repeat adds nothing
pub repeat_added : (history : History) (change : Change) → IsRepeat history change → with_new history change ≡ history
repeat_added history change held =
    ap (λ (b : Bool). cond b history (with_change history change)) (ap (λ (o : Option Change). is_some o) held)

pub record_of_change : (history : History) (change : Change) → MayCome history change
    → with_record history (records.Change (change_format.spelled change)) ≡ with_change history change
record_of_change history change may =
    ap (with_read history) (spelled_reads change may.encoded) ∙ new_added history change may.next.new

-- a history to which taken records are added has grown
module _ (history : History) (grown : IsGrown history) where
  grown_read : (reading : Result Change Outside) → IsTakenAs history reading → IsGrown (with_read history reading)
  grown_read (Ok change) (inl held) = subst IsGrown (sym (repeat_added history change held)) grown
  grown_read (Ok change) (inr may) = subst IsGrown (sym (new_added history change may.next.new)) (Come history change grown may)
  grown_read (Err outside) none = absurd none

  pub grown_record : (r : Record) → IsTaken history r → IsGrown (with_record history r)
  grown_record (records.Actor actor) taken = grown
  grown_record (records.Change encoding) taken = grown_read (whole change_format encoding) taken
  grown_record (records.Note path note) taken = grown

pub grown_from : (history : History) (rs : List Record) → IsGrown history → AreTaken history rs → IsGrown (history_from history rs)
grown_from history [] grown taken = grown
grown_from history (r ∷ rs) grown taken = grown_from (with_record history r) rs (grown_record history grown r taken.0) taken.1

-- ---- a store

abbrev no_bytes : List ℕ
no_bytes = []

abbrev actor_of : List ℕ → Actor
actor_of bytes = record { 0 = bytes }

-- a journal that is some daemon's has a record
owned_some : {X : Type 0} (owner : Actor) → ((given : Actor) → actor_from given [] ≡ owner) → X
owned_some owner is =
    let two : actor_of [] ≡ actor_of (0 ∷ []) = is (actor_of []) ∙ sym (is (actor_of (0 ∷ []))) in
    let parts : no_bytes ≡ 0 ∷ no_bytes = ap (λ (a : Actor). a.0) two in absurd cc

-- behind the records of a daemon one more that is no daemon's leaves the first one first
first_more : (owner : Actor) (recorded staged : List Record) (r : Record) → ((given : Actor) → actor_from given recorded ≡ owner)
    → IsTrue (actor_is_first (recorded ++ staged)) → not (list_any is_actor (r ∷ [])) ≡ true → IsTrue (actor_is_first (recorded ++ (staged ++ r ∷ [])))
first_more owner [] staged r owned first other = owned_some owner owned
first_more owner (x ∷ xs) staged r owned first other =
    subst (λ (rs : List Record). IsTrue (actor_is_first (x ∷ rs))) (append_assoc xs staged (r ∷ [])) (actor_behind x (xs ++ staged) (r ∷ []) first ∙ other)

encodings_more : (staged : List Record) (r : Record) → AllByRecursion HoldsEncoding staged → HoldsEncoding r → AllByRecursion HoldsEncoding (staged ++ r ∷ [])
encodings_more [] r each here = (here, tt)
encodings_more (x ∷ xs) r each here = (each.0, encodings_more xs r each.1 here)

-- one record more is staged
module _ {D : Type 0} (old : StoreView D) (is : IsStore old) (r : Record) where
  whole_is : old.journal.records ++ (old.staged ++ r ∷ []) ≡ all_records old ++ r ∷ []
  whole_is = sym (append_assoc old.journal.records old.staged (r ∷ []))

  pub history_staged : with_record old.history r ≡ history_from beginning (old.journal.records ++ (old.staged ++ r ∷ []))
  history_staged =
      ap (λ (h : History). with_record h r) is.history_is
      ∙ sym (history-append beginning (all_records old) (r ∷ []))
      ∙ sym (ap (history_from beginning) whole_is)

  pub notes_staged : with_note old.notes r ≡ notes_from no_notes (old.journal.records ++ (old.staged ++ r ∷ []))
  notes_staged =
      ap (λ (n : Notes). with_note n r) is.notes_are
      ∙ sym (notes-append no_notes (all_records old) (r ∷ []))
      ∙ sym (ap (notes_from no_notes) whole_is)

  pub taken_staged : IsTaken old.history r → AreTaken beginning (old.journal.records ++ (old.staged ++ r ∷ []))
  taken_staged taken =
      subst (AreTaken beginning) (sym whole_is)
      (taken-append beginning (all_records old) (r ∷ []) is.taken (subst (λ (h : History). IsTaken h r) is.history_is taken, tt))

pub store_staged : {D : Type 0} (old : StoreView D) (change : Change) → IsStore old → MayCome old.history change
    → IsStore (with_staged old change)
store_staged old change is may =
    let r : Record = records.Change (change_format.spelled change) in
    record {
      writes = is.writes;
      history_is = sym (record_of_change old.history change may) ∙ history_staged old is r;
      notes_are = notes_staged old is r;
      taken = taken_staged old is r (subst (IsTakenAs old.history) (sym (spelled_reads change may.encoded)) (inr may));
      owner = is.owner;
      first = first_more old.actor old.journal.records old.staged r is.owner is.first refl;
      encodings = encodings_more old.staged r is.encodings (change, record { fits = may.encoded; spelling = refl });
    }

pub store_noted : {D : Type 0} (old : StoreView D) (path : List ℕ) (note : Note) → IsStore old → IsStore (with_noted old path note)
store_noted old path note is =
    let r : Record = records.Note path note in
    record {
      writes = is.writes;
      history_is = history_staged old is r;
      notes_are = notes_staged old is r;
      taken = taken_staged old is r tt;
      owner = is.owner;
      first = first_more old.actor old.journal.records old.staged r is.owner is.first refl;
      encodings = encodings_more old.staged r is.encodings tt;
    }

-- ---- on the disk

-- what is written is behind what was
pub written_records : {D : Type 0} (old new : JournalView D) (added : List Record) → IsWritten old new added → new.records ≡ old.records ++ added
written_records old new [] written = ap (λ (j : JournalView _). j.records) written ∙ sym (append-nil old.records)
written_records old new (r ∷ rs) written = written.records_are

pub written_live : {D : Type 0} (old new : JournalView D) (added : List Record) → IsWritten old new added → IsTrue old.live → IsTrue new.live
written_live old new [] written live = subst (λ (j : JournalView _). IsTrue j.live) (sym written) live
written_live old new (r ∷ rs) written live = written.live

first_stays : (given owner : Actor) (xs ys : List Record) → ((a : Actor) → actor_from a xs ≡ owner) → actor_from given (xs ++ ys) ≡ owner
first_stays given owner [] ys is = is (actor_from given ys)
first_stays given owner (x ∷ xs) ys is = is given

-- what is staged is on the disk now, and all records are what they were
pub store_committed : {D : Type 0} (old new : StoreView D) → IsStore old → IsCommitted old new → IsStore new
store_committed {D} old new is committed =
    let at : new.journal.records ≡ old.journal.records ++ old.staged = written_records old.journal new.journal old.staged committed.written in
    let none : new.staged ≡ [] = ap (λ (s : StoreView D). s.staged) committed.same in
    let whole : all_records old ≡ all_records new =
    sym at ∙ sym (append-nil new.journal.records) ∙ ap (λ (rs : List Record). new.journal.records ++ rs) (sym none) in
    record {
      writes = written_live old.journal new.journal old.staged committed.written is.writes;
      history_is = ap (λ (s : StoreView D). s.history) committed.same ∙ is.history_is ∙ ap (history_from beginning) whole;
      notes_are = ap (λ (s : StoreView D). s.notes) committed.same ∙ is.notes_are ∙ ap (notes_from no_notes) whole;
      taken = subst (AreTaken beginning) whole is.taken;
      owner = λ given.
          ap (actor_from given) at
          ∙ first_stays given old.actor old.journal.records old.staged is.owner
          ∙ sym (ap (λ (s : StoreView D). s.actor) committed.same);
      first = subst (λ (rs : List Record). IsTrue (actor_is_first rs)) whole is.first;
      encodings = subst (AllByRecursion HoldsEncoding) (sym none) tt;
    }

-- the daemon's own record gives no change and no note
begun_history : (given : Actor) (recorded : List Record) → history_from beginning (begun given recorded) ≡ history_from beginning recorded
begun_history given [] = refl
begun_history given (r ∷ rs) = refl

begun_notes : (given : Actor) (recorded : List Record) → notes_from no_notes (begun given recorded) ≡ notes_from no_notes recorded
begun_notes given [] = refl
begun_notes given (r ∷ rs) = refl

begun_taken : (given : Actor) (recorded : List Record) → AreTaken beginning recorded → AreTaken beginning (begun given recorded)
begun_taken given [] taken = (tt, tt)
begun_taken given (r ∷ rs) taken = taken

begun_owner : (given any : Actor) (recorded : List Record) → IsTrue (actor_is_first recorded) → actor_from any (begun given recorded) ≡ actor_from given recorded
begun_owner given any [] first = refl
begun_owner given any (records.Actor actor ∷ rs) first = refl
begun_owner given any (records.Change encoding ∷ rs) first = let never : false ≡ true = first in cc
begun_owner given any (records.Note path note ∷ rs) first = let never : false ≡ true = first in cc

begun_first : (given : Actor) (recorded : List Record) → IsTrue (actor_is_first recorded) → IsTrue (actor_is_first (begun given recorded))
begun_first given [] first = refl
begun_first given (r ∷ rs) first = first

-- a store that was opened is one
pub store_opened : {D : Type 0} (recorded : List Record) (given : Actor) (store : StoreView D) → IsTrue (actor_is_first recorded)
    → AreTaken beginning recorded → IsTrue store.journal.live → IsOpened recorded given store → IsStore store
store_opened {D} recorded given store first taken live opened =
    let whole : all_records store ≡ begun given recorded =
    ap (λ (rs : List Record). store.journal.records ++ rs) opened.none_staged ∙ append-nil store.journal.records ∙ opened.records_are in
    record {
      writes = live;
      history_is = opened.history_is ∙ sym (begun_history given recorded) ∙ sym (ap (history_from beginning) whole);
      notes_are = opened.notes_are ∙ sym (begun_notes given recorded) ∙ sym (ap (notes_from no_notes) whole);
      taken = subst (AreTaken beginning) (sym whole) (begun_taken given recorded taken);
      owner = λ any. ap (actor_from any) opened.records_are ∙ begun_owner given any recorded first ∙ sym opened.actor_is;
      first = subst (λ (rs : List Record). IsTrue (actor_is_first rs)) (sym whole) (begun_first given recorded first);
      encodings = subst (AllByRecursion HoldsEncoding) (sym opened.none_staged) tt;
    }

-- a store that is opened on the records of another has its history and its notes
pub reopened_history : {D : Type 0} (store again : StoreView D) (recorded : List Record) (given : Actor) → IsStore store
    → recorded ≡ all_records store → IsOpened recorded given again → again.history ≡ store.history
reopened_history store again recorded given is whole opened = opened.history_is ∙ ap (history_from beginning) whole ∙ sym is.history_is

pub reopened_notes : {D : Type 0} (store again : StoreView D) (recorded : List Record) (given : Actor) → IsStore store
    → recorded ≡ all_records store → IsOpened recorded given again → again.notes ≡ store.notes
reopened_notes store again recorded given is whole opened = opened.notes_are ∙ ap (notes_from no_notes) whole ∙ sym is.notes_are

-- ---- what a store makes

-- the history of a store has grown change by change
pub store_grown : {D : Type 0} (store : StoreView D) → IsStore store → IsGrown store.history
store_grown store is = subst IsGrown (sym is.history_is) (grown_from beginning (all_records store) Begun is.taken)

pub store_makes : {D : Type 0} (old : StoreView D) (path : List ℕ) (d : Cells) → IsStore old → CanMake old path d → IsNormal d
    → MayCome old.history (made old.history old.actor path d)
    → IsMade old path d (with_staged old (made old.history old.actor path d)) (made_answer old path d)
store_makes old path d is fits normal may = record {
  added = record {
    may = may;
    new_is = refl;
    are_effects = (made_does_only old.history old.actor path d (store_grown old is) may fits normal).effects;
  };
  name_is = refl;
}
