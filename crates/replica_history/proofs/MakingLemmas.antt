-- What a made change asks of the texts and the directory that are kept.
use Rattle.std.proofs.Common.{◌≡◌, ℕ, true, false, sym, ◌∙◌, List, length, Option, Some, None}
use Rattle.std.specs.List.{count_by}
use Rattle.std.specs.List.Sorted.{IsStrictlySortedBy}
use Rattle.std.specs.Option.{option_map}
use Rattle.delta.specs.Cells.{Cells, base_length}
use Rattle.tt_base.specs.Elements.{is_alive}
use Rattle.tt_base.specs.Ids.{id_cmp}
use Rattle.tt_base.specs.declared.ids.ElemId.{ElemId}
use Rattle.tt_base.specs.declared.elements.Element.{Element}
use Rattle.change_graph.specs.History.{History}
use Rattle.replica_dir.specs.Ids.{has_id}
use Rattle.replica_dir.specs.DirectoryView.{DirectoryView, is_live}
use Rattle.replica_views.specs.Made.{rising_ids}
use Rattle.replica_views.specs.Objects.{makes_at, live_at, winner_at}
use Rattle.replica_views.specs.Texts.{elements_of}
use Rattle.replica_views.specs.Views.{text_at}
use Rattle.replica_views.proofs.DirectoryLemmas.{live_is}
use Rattle.replica_views.proofs.RisingLemmas.{rising_is}
use Rattle.change_making.proofs.MadeLemmas.{text_there, text_absent}
use Rattle.replica_history.specs.declared.texts.KeptText.{KeptText}
use Rattle.replica_history.specs.Texts.{TextsView, kept_at}
use Rattle.replica_history.specs.Standings.{winner_in}
use Rattle.replica_history.specs.Replica.{IsKeptOf, AreReadings}
use Rattle.replica_history.proofs.OneLemmas.{winner_has}
use Rattle.replica_history.proofs.WinnerLemmas.{winner_of_history}

kept_text : (history : History) (v : ElemId) (path : List ℕ) → has_id (makes_at history path) v ≡ true → (o : Option KeptText) → IsKeptOf history v o
    → (text : List Element) → Some text ≡ option_map (λ (k : KeptText). k.text) o → text ≡ elements_of history v
kept_text history v path made None none text is = cc
kept_text history v path made (Some kept) is_text text is = let one : text ≡ kept.text = cc in one ∙ is_text.text

never_kept : (history : History) (v : ElemId) (path : List ℕ) → has_id (makes_at history path) v ≡ true → (o : Option KeptText) → IsKeptOf history v o
    → None ≡ option_map (λ (k : KeptText). k.text) o → ⊥
never_kept history v path made None none is = let never : true ≡ false = sym made ∙ none path in cc
never_kept history v path made (Some kept) is_text is = cc

module _ (history : History) (directory : DirectoryView) (texts : TextsView) (readings : AreReadings history directory texts) (path : List ℕ) where
  pub winner_read : (winner : Option ElemId) → winner ≡ winner_in directory path → winner_at history path ≡ winner
  winner_read winner is = sym (winner_of_history history directory readings.of_paths path) ∙ sym is

  -- the text of the object that is read
  pub text_read : (v : ElemId) → Some v ≡ winner_in directory path → (text : List Element)
      → Some text ≡ option_map (λ (k : KeptText). k.text) (kept_at texts v) → text ≡ elements_of history v
  text_read v found text is =
      kept_text history v path (winner_has history path v (winner_read (Some v) found)) (kept_at texts v) (readings.of_objects v) text is

  pub never_absent : (v : ElemId) → Some v ≡ winner_in directory path → None ≡ option_map (λ (k : KeptText). k.text) (kept_at texts v) → ⊥
  never_absent v found none =
      never_kept history v path (winner_has history path v (winner_read (Some v) found)) (kept_at texts v) (readings.of_objects v) none

  pub base_read : (d : Cells) → base_length d ≡ length (text_at history path) → (v : ElemId) → Some v ≡ winner_in directory path → (text : List Element)
      → Some text ≡ option_map (λ (k : KeptText). k.text) (kept_at texts v) → base_length d ≡ count_by is_alive text
  base_read d base v found text is = base ∙ text_there history path v text (winner_read (Some v) found) (text_read v found text is)

  pub base_absent : (d : Cells) → base_length d ≡ length (text_at history path) → None ≡ winner_in directory path → base_length d ≡ 0
  base_absent d base none = base ∙ text_absent history path (winner_read None none)

  -- the live objects of the path, in rising order
  pub live_read : (objects : List ElemId) → ((q : ElemId) → has_id objects q ≡ is_live directory path q) → IsStrictlySortedBy id_cmp objects
      → objects ≡ rising_ids (live_at history path)
  live_read objects members rising =
      rising_is (live_at history path) objects rising (λ q. members q ∙ live_is history directory readings.of_paths path q)
