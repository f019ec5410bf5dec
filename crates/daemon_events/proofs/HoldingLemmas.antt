-- What a message makes of what a daemon holds, as links see it: a text changes by a delta, or none does.
use Rattle.std.proofs.Common.{◌≡◌, ◌≢◌, ℕ, ◌+◌, ◌<◌, ◌^◌, Bool, true, false, List, [], ◌∷◌, ◌++◌, length, Option, Some, None, is_some, Ok, refl, sym, ap, ◌∙◌, subst}
use Rattle.std.specs.Option.{unwrap_or}
use Rattle.std.specs.Prelude.{if◌then◌else◌}
use Rattle.delta.specs.Cells.{Cells, base_length, applied, IsNormal}
use Rattle.std.proofs.lemmas.List.{append-nil, append_assoc}
use Rattle.change_codec.specs.Change.{Change}
use Rattle.change_codec.specs.Encoding.{change_format}
use Rattle.change_codec.specs.WellFormed.{IsActor, IsPath}
use Rattle.change_graph.specs.History.{change_at, is_held, name_of}
use Rattle.journal_format.specs.declared.records.Note.TheVariants.{Open}
use Rattle.journal_format.specs.declared.records.Record.{Record}
use Rattle.journal_format.specs.declared.records.Record.TheVariants as records
use Rattle.replica_views.specs.Growth.{MayCome}
use Rattle.replica_views.specs.Made as views
use Rattle.replica_views.specs.Views as texts
use Rattle.daemon_core.specs.History.{is_path}
use Rattle.daemon_core.proofs.FileLemmas.{is_path_itself, path_same}
use Rattle.daemon_history.specs.Bounds.{InsertsScalars, IsWithinBounds}
use Rattle.daemon_history.specs.Holding.{Holding, IsHolding, text_at, view_at, held, note_of}
use Rattle.daemon_history.specs.Making.{making, unless_held, with_change, with_noted, is_open, opening}
use Rattle.daemon_history.specs.Shown.{KeepsNames, ChangesOne}
use Rattle.daemon_events.specs.Laws.{IsBehind}
use Rattle.daemon_events.specs.Serving.{noted}
use Rattle.daemon_history.proofs.HoldingLemmas.{holding_noted, made_changes_one}
use Rattle.daemon_history.proofs.OwnLemmas.{own_made_may_come}

-- a file that is absent is read as the empty text
pub read_text : (h : Holding) (path : List ℕ) → text_at h path ≡ unwrap_or (view_at h path) []
unfolding texts.text_at
read_text h path = refl

-- what is held keeps to the bounds of changes
pub record IsSteady (h : Holding) : Type 0 where
  pub holds : IsHolding h
  pub actor_is : IsActor h.actor
  pub short : (path : List ℕ) → length (text_at h path) < 2 ^ 62

-- one text has changed by the delta
pub record ChangesText (h : Holding) (path : List ℕ) (d : Cells) (after : Holding) : Type 0 where
  pub text : text_at after path ≡ applied d (text_at h path)
  pub elsewhere : (other : List ℕ) → is_path other path ≡ false → text_at after other ≡ text_at h other
  pub count : held after ≡ held h + 1
  pub names : KeepsNames h after
  pub records : IsBehind h.recorded after.recorded

-- no text has
pub record KeepsTexts (h after : Holding) : Type 0 where
  pub history : after.history ≡ h.history
  pub records : IsBehind h.recorded after.recorded

-- nothing behind records
none_behind : (recorded : List Record) → IsBehind recorded recorded
none_behind recorded = record { new = []; is = sym (append-nil recorded) }

one_behind : (recorded : List Record) (r : Record) → IsBehind recorded (recorded ++ r ∷ [])
one_behind recorded r = record { new = r ∷ []; is = refl }

-- and what is behind what is behind them
pub still_behind : (recorded later last : List Record) → IsBehind recorded later → IsBehind later last → IsBehind recorded last
still_behind recorded later last first second = record {
  new = first.new ++ second.new;
  is = second.is ∙ ap (λ (xs : List Record). xs ++ second.new) first.is ∙ append_assoc recorded first.new second.new;
}

pub keeps_all : (h : Holding) → KeepsTexts h h
keeps_all h = record { history = refl; records = none_behind h.recorded }

pub keeps_text : (h after : Holding) → KeepsTexts h after → (path : List ℕ) → text_at after path ≡ text_at h path
keeps_text h after kept path = ap (λ history. texts.text_at history path) kept.history

pub keeps_count : (h after : Holding) → KeepsTexts h after → held after ≡ held h
keeps_count h after kept = ap texts.held kept.history

-- ---- the note that an editor has opened a path

opened_keeps : (h : Holding) (path : List ℕ) (already : Bool)
    → KeepsTexts h (if already then h else with_noted h path Open)
opened_keeps h path true = keeps_all h
opened_keeps h path false = record { history = refl; records = one_behind h.recorded (records.Note path Open) }

pub opening_keeps : (h : Holding) (path : List ℕ) → KeepsTexts h (opening h path)
opening_keeps h path = opened_keeps h path (is_open (note_of h path))

pub noted_keeps : (opens : Option (List ℕ)) (h : Holding) → KeepsTexts h (noted opens h)
noted_keeps None h = keeps_all h
noted_keeps (Some path) h = opening_keeps h path

opened_holds : (h : Holding) (path : List ℕ) (already : Bool) → IsHolding h → IsHolding (if already then h else with_noted h path Open)
opened_holds h path true is = is
opened_holds h path false is = holding_noted h path Open is

opened_actor : (h : Holding) (path : List ℕ) (already : Bool) → (if already then h else with_noted h path Open).actor ≡ h.actor
opened_actor h path true = refl
opened_actor h path false = refl

pub opening_steady : (h : Holding) (path : List ℕ) → IsSteady h → IsSteady (opening h path)
opening_steady h path is =
    let already : Bool = is_open (note_of h path) in
    record {
      holds = opened_holds h path already is.holds;
      actor_is = subst IsActor (sym (opened_actor h path already)) is.actor_is;
      short = λ other. subst (λ (text : List ℕ). length text < 2 ^ 62) (sym (keeps_text h (opening h path) (opening_keeps h path) other)) (is.short other);
    }

-- the text that had changed has
pub opening_changes : (h : Holding) (path : List ℕ) (d : Cells) (opened : List ℕ) (after : Holding) → ChangesText h path d after → ChangesText h path d (opening after opened)
opening_changes h path d opened after changes =
    let kept : KeepsTexts after (opening after opened) = opening_keeps after opened in
    record {
      text = keeps_text after (opening after opened) kept path ∙ changes.text;
      elsewhere = λ other apart. keeps_text after (opening after opened) kept other ∙ changes.elsewhere other apart;
      count = keeps_count after (opening after opened) kept ∙ changes.count;
      names = λ name held. ap (λ history. change_at history name) kept.history ∙ changes.names name held;
      records = still_behind h.recorded after.recorded (opening after opened).recorded changes.records kept.records;
    }

-- ---- a change

-- nothing is held under the name of a change that was made
nothing_held : (h after : Holding) (change : Change) (found : Option Change) → unless_held found h change ≡ Ok after → is_some found ≡ false
nothing_held h after change None is = refl
nothing_held h after change (Some other) is = cc

made_after : (h after : Holding) (change : Change) (found : Option Change) → unless_held found h change ≡ Ok after → after ≡ with_change h change
made_after h after change None is = let same : Ok (with_change h change) ≡ Ok after = is in cc
made_after h after change (Some other) is = cc

-- what an edit needs so that a change is made for it
pub record CanChange (h : Holding) (path : List ℕ) (d : Cells) : Type 0 where
  pub steady : IsSteady h
  pub few : held h < 2 ^ 63
  pub path_is : IsPath path
  pub fits : base_length d ≡ length (text_at h path)
  pub normal : IsNormal d
  pub scalars : InsertsScalars d
  pub short : length (applied d (text_at h path)) < 2 ^ 62

bounds : (h : Holding) (path : List ℕ) (d : Cells) → CanChange h path d → IsWithinBounds h path d
bounds h path d can = record {
  actor_is = can.steady.actor_is;
  path_is = can.path_is;
  few = can.few;
  before = can.steady.short path;
  after = can.short;
  scalars = can.scalars;
}

-- two paths that are not one are apart
pub apart : (path other : List ℕ) → is_path other path ≡ false → other ≢ path
apart path other differs same =
    let both : true ≡ false = sym (is_path_itself path) ∙ ap (λ (p : List ℕ). is_path p path) (sym same) ∙ differs in cc

pub changes_one : (h after : Holding) (path : List ℕ) (d : Cells) → CanChange h path d → making h path d ≡ Ok after → ChangesOne h path d after
changes_one h after path d can made =
    let change : Change = views.made h.history h.actor path d in
    let new : is_held h.history (name_of change) ≡ false = nothing_held h after change (change_at h.history (name_of change)) made in
    let may : MayCome h.history change = own_made_may_come h path d can.steady.holds (bounds h path d can) can.fits new in
    made_changes_one h after path d can.steady.holds made may can.fits can.normal

-- a change that is made changes one text
pub made_changes : (h after : Holding) (path : List ℕ) (d : Cells) → CanChange h path d → making h path d ≡ Ok after → ChangesText h path d after
made_changes h after path d can made =
    let one : ChangesOne h path d after = changes_one h after path d can made in
    record {
      text = one.text;
      elsewhere = λ other differs.
          read_text after other ∙ ap (λ (view : Option (List ℕ)). unwrap_or view []) (one.elsewhere other (apart path other differs)) ∙ sym (read_text h other);
      count = one.count;
      names = one.names;
      records = record { new = records.Change (change_format.spelled (views.made h.history h.actor path d)) ∷ []; is = one.recorded };
    }

-- and what is held stays within bounds
pub made_steady : (h after : Holding) (path : List ℕ) (d : Cells) → CanChange h path d → making h path d ≡ Ok after → IsSteady after
made_steady h after path d can made =
    let one : ChangesOne h path d after = changes_one h after path d can made in
    let changes : ChangesText h path d after = made_changes h after path d can made in
    let change : Change = views.made h.history h.actor path d in
    let actor : after.actor ≡ h.actor = ap (λ (x : Holding). x.actor) (made_after h after change (change_at h.history (name_of change)) made) in
    record {
      holds = one.holds;
      actor_is = subst IsActor (sym actor) can.steady.actor_is;
      short = λ other. by other (is_path other path) refl changes;
    } where
      by : (other : List ℕ) (b : Bool) → is_path other path ≡ b → ChangesText h path d after → length (text_at after other) < 2 ^ 62
      by other true same changes =
          subst (λ (p : List ℕ). length (text_at after p) < 2 ^ 62) (sym (path_same other path same))
          (subst (λ (text : List ℕ). length text < 2 ^ 62) (sym changes.text) can.short)
      by other false differs changes =
          subst (λ (text : List ℕ). length text < 2 ^ 62) (sym (changes.elsewhere other differs)) (can.steady.short other)
