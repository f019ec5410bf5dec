-- What a daemon holds, with one record more and after a restart.
use Rattle.std.proofs.Common.{◌≡◌, inr, ℕ, Bool, true, false, not, List, [], ◌∷◌, ◌++◌, length, Option, Some, None, Ok, Err, IsTrue, refl, sym, ap, ◌∙◌, subst}
use Rattle.std.specs.List.{list_any}
use Rattle.std.specs.Option.{unwrap_or}
use Rattle.delta.specs.Cells.{Cells, base_length, IsNormal}
use Rattle.tt_base.specs.declared.ids.Actor.{Actor}
use Rattle.tt_base.specs.declared.ids.Name.{Name}
use Rattle.change_codec.specs.Change.{Change}
use Rattle.change_codec.specs.Encoding.{change_format}
use Rattle.change_graph.specs.History.{History, change_at, is_held, is_name, name_of}
use Rattle.change_graph.proofs.InsertLemmas.{length_inserted}
use Rattle.change_graph.proofs.OrderLemmas.{name_same}
use Rattle.journal_format.specs.Image.{actor_is_first, is_actor}
use Rattle.journal_format.proofs.ImageLaws.{actor_behind}
use Rattle.journal_format.specs.declared.records.Note.{Note}
use Rattle.journal_format.specs.declared.records.Record.{Record}
use Rattle.journal_format.specs.declared.records.Record.TheVariants as records
use Rattle.replica_views.specs.Growth.{MayCome, IsGrown, Begun}
use Rattle.replica_views.specs.Made as views
use Rattle.replica_views.specs.Views.{beginning}
use Rattle.replica_views.specs.Views as texts
use Rattle.replica_views.proofs.MadeLemmas.{made_does_only}
use Rattle.replica_views.proofs.LayerLemmas.{other_found}
use Rattle.replica_store.specs.Records.{Notes, no_notes, with_record, with_note, history_from, notes_from, actor_from, begun, IsTaken, AreTaken}
use Rattle.replica_store.proofs.RecordLemmas.{history-append, notes-append, taken-append, record_of_change, spelled_reads, grown_from}
use Rattle.replica_store.specs.Records.{IsTakenAs}
use Rattle.daemon_history.specs.Holding.{Holding, started, IsHolding, text_at}
use Rattle.daemon_history.specs.Making.{with_change, unless_held, making, with_noted}
use Rattle.daemon_history.specs.Shown.{KeepsNames, ChangesOne}

-- ---- the daemon's own record

abbrev no_bytes : List ℕ
no_bytes = []

abbrev actor_of : List ℕ → Actor
actor_of bytes = record { 0 = bytes }

-- records that are some daemon's are not none, since no daemon is each one
owned_some : (owner : Actor) → ((given : Actor) → actor_from given [] ≡ owner) → ⊥
owned_some owner is =
    let two : actor_of [] ≡ actor_of (0 ∷ []) = is (actor_of []) ∙ sym (is (actor_of (0 ∷ []))) in
    let parts : no_bytes ≡ 0 ∷ no_bytes = ap (λ (a : Actor). a.0) two in absurd cc

-- records behind others leave the daemon the same
pub owner_stays : (owner : Actor) (xs ys : List Record) → ((given : Actor) → actor_from given xs ≡ owner) → (given : Actor) → actor_from given (xs ++ ys) ≡ owner
owner_stays owner [] ys is given = is (actor_from given ys)
owner_stays owner (x ∷ xs) ys is given = is given

-- one more that is no daemon's leaves the first one first
first_stays : (owner : Actor) (xs : List Record) (r : Record) → ((given : Actor) → actor_from given xs ≡ owner) → IsTrue (actor_is_first xs)
    → not (list_any is_actor (r ∷ [])) ≡ true → IsTrue (actor_is_first (xs ++ r ∷ []))
first_stays owner [] r owned first other = absurd (owned_some owner owned)
first_stays owner (x ∷ xs) r owned first other = actor_behind x xs (r ∷ []) first ∙ other

begun_same : (owner given : Actor) (xs : List Record) → ((any : Actor) → actor_from any xs ≡ owner) → begun given xs ≡ xs
begun_same owner given [] owned = absurd (owned_some owner owned)
begun_same owner given (x ∷ xs) owned = refl

-- ---- one record more

module _ (h : Holding) (is : IsHolding h) (r : Record) where
  history_more : with_record h.history r ≡ history_from beginning (h.recorded ++ r ∷ [])
  history_more = ap (λ (history : History). with_record history r) is.history_is ∙ sym (history-append beginning h.recorded (r ∷ []))

  notes_more : with_note h.notes r ≡ notes_from no_notes (h.recorded ++ r ∷ [])
  notes_more = ap (λ (notes : Notes). with_note notes r) is.notes_are ∙ sym (notes-append no_notes h.recorded (r ∷ []))

  taken_more : IsTaken h.history r → AreTaken beginning (h.recorded ++ r ∷ [])
  taken_more taken =
      taken-append beginning h.recorded (r ∷ []) is.taken (subst (λ (history : History). IsTaken history r) is.history_is taken, tt)

pub holding_changed : (h : Holding) (change : Change) → IsHolding h → MayCome h.history change → IsHolding (with_change h change)
holding_changed h change is may =
    let r : Record = records.Change (change_format.spelled change) in
    record {
      history_is = sym (record_of_change h.history change may) ∙ history_more h is r;
      notes_are = notes_more h is r;
      taken = taken_more h is r (subst (IsTakenAs h.history) (sym (spelled_reads change may.encoded)) (inr may));
      owner = owner_stays h.actor h.recorded (r ∷ []) is.owner;
      first = first_stays h.actor h.recorded r is.owner is.first refl;
    }

pub holding_noted : (h : Holding) (path : List ℕ) (note : Note) → IsHolding h → IsHolding (with_noted h path note)
holding_noted h path note is =
    let r : Record = records.Note path note in
    record {
      history_is = history_more h is r;
      notes_are = notes_more h is r;
      taken = taken_more h is r tt;
      owner = owner_stays h.actor h.recorded (r ∷ []) is.owner;
      first = first_stays h.actor h.recorded r is.owner is.first refl;
    }

pub holding_grown : (h : Holding) → IsHolding h → IsGrown h.history
holding_grown h is = subst IsGrown (sym is.history_is) (grown_from beginning h.recorded Begun is.taken)

-- ---- starting

pub holding_started : (given : Actor) (recorded : List Record) → IsTrue (actor_is_first recorded) → AreTaken beginning recorded
    → IsHolding (started given recorded)
holding_started given [] first taken = record { history_is = refl; notes_are = refl; taken = (tt, tt); owner = λ any. refl; first = refl }
holding_started given (records.Actor actor ∷ others) first taken =
    record { history_is = refl; notes_are = refl; taken = taken; owner = λ any. refl; first = first }
holding_started given (records.Change encoding ∷ others) first taken = let never : false ≡ true = first in cc
holding_started given (records.Note path note ∷ others) first taken = let never : false ≡ true = first in cc

pub holding_of_parts : (actor owner : Actor) (recorded all : List Record) (history later : History) (notes others : Notes)
    → actor ≡ owner → recorded ≡ all → history ≡ later → notes ≡ others
    → let h : Holding = record { actor = actor; recorded = recorded; history = history; notes = notes } in
    h ≡ record { actor = owner; recorded = all; history = later; notes = others }
holding_of_parts actor owner recorded all history later notes others a r h n = cc

pub restarted : (h : Holding) (given : Actor) → IsHolding h → started given h.recorded ≡ h
restarted h given is =
    holding_of_parts (actor_from given h.recorded) h.actor (begun given h.recorded) h.recorded (history_from beginning h.recorded) h.history
    (notes_from no_notes h.recorded) h.notes (is.owner given) (begun_same h.actor given h.recorded is.owner) (sym is.history_is) (sym is.notes_are)

-- ---- a made change

-- what is made where nothing is held under the name
made_so : (h after : Holding) (change : Change) (found : Option Change) → unless_held found h change ≡ Ok after → after ≡ with_change h change
made_so h after change None is = let same : Ok (with_change h change) ≡ Ok after = is in cc
made_so h after change (Some other) is = let never : Err _ ≡ Ok after = is in cc

-- a name that is held is not the new one
names_kept : (h : Holding) (change : Change) → is_held h.history (name_of change) ≡ false → KeepsNames h (with_change h change)
names_kept h change new name held = by (is_name (name_of change) name) refl where
  by : (same : Bool) → is_name (name_of change) name ≡ same → change_at (with_change h change).history name ≡ change_at h.history name
  by false apart = other_found h.history change name apart
  by true is =
      let same : name_of change ≡ name = name_same (name_of change) name is in
      let never : false ≡ true = sym new ∙ subst (λ (n : Name). is_held h.history n ≡ true) (sym same) held in
      cc

pub made_changes_one : (h after : Holding) (path : List ℕ) (d : Cells) → IsHolding h → making h path d ≡ Ok after
    → MayCome h.history (views.made h.history h.actor path d) → base_length d ≡ length (text_at h path) → IsNormal d → ChangesOne h path d after
unfolding texts.text_at
made_changes_one h after path d is made may fits normal =
    let change : Change = views.made h.history h.actor path d in
    let grown : IsGrown h.history = holding_grown h is in
    let does = made_does_only h.history h.actor path d grown may fits normal in
    subst (ChangesOne h path d) (sym (made_so h after change (change_at h.history (name_of change)) made))
    (record {
      holds = holding_changed h change is may;
      view = does.view;
      text = ap (λ (text : Option (List ℕ)). unwrap_or text []) does.view;
      elsewhere = does.views;
      count = length_inserted (name_of change) change h.history may.next.new;
      recorded = refl;
      names = names_kept h change may.next.new;
    })
