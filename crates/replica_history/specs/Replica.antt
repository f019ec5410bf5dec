-- What a replica keeps beside its history, and what comes of adding a change.
use Rattle.std.specs.Prelude.{◌≡◌, ◌<◌, ◌^◌, ℕ, Bool, true, false, List, length, Option, Some, None}
use Rattle.change_codec.specs.Change.{Change}
use Rattle.change_codec.specs.declared.ops.Op.{Op}
use Rattle.change_graph.specs.History.{History, name_of, with_change}
use Rattle.change_graph.specs.Answers.{IsRepeat}
use Rattle.change_graph.specs.Refusals.{things}
use Rattle.tt_base.specs.declared.ids.Name.{Name}
use Rattle.tt_base.specs.declared.ids.ElemId.{ElemId}
use Rattle.replica_dir.specs.Ids.{has_id}
use Rattle.replica_dir.specs.DirectoryView.{DirectoryView}
use Rattle.replica_views.specs.Effects.{PathEffect, AreEffects}
use Rattle.replica_views.specs.Growth.{MayCome, IsGrown}
use Rattle.replica_views.specs.Objects.{makes_at, IsDirectoryOf}
use Rattle.replica_views.specs.Texts.{elements_of}
use Rattle.replica_history.specs.declared.replicas.Added.{Added}
use Rattle.replica_history.specs.declared.replicas.Added.TheVariants.{Repeat, Effects}
use Rattle.replica_history.specs.declared.texts.KeptText.{KeptText}
use Rattle.replica_history.specs.Texts.{TextsView, kept_at}
use Rattle.replica_history.specs.Counts.{CountsView, AreCounts}

-- the object was made at the path, and the text is its reading
pub record IsTextOf (history : History) (object : ElemId) (kept : KeptText) : Type 0 where
  pub made : has_id (makes_at history kept.path) object ≡ true
  pub text : kept.text ≡ elements_of history object

-- a text is kept of just the objects that were made
abbrev pub IsKeptOf : History → ElemId → Option KeptText → Type 0
IsKeptOf history object None = (path : List ℕ) → has_id (makes_at history path) object ≡ false
IsKeptOf history object (Some kept) = IsTextOf history object kept

-- the directory and the texts are the readings of a grown history
pub record AreReadings (history : History) (directory : DirectoryView) (texts : TextsView) : Type 0 where
  pub grown : IsGrown history
  pub of_paths : IsDirectoryOf history directory
  pub of_objects : (object : ElemId) → IsKeptOf history object (kept_at texts object)

-- what stands beside the history is told of it
pub record AreKept (history : History) (directory : DirectoryView) (texts : TextsView) (counts : CountsView) : Type 0 where
  pub readings : AreReadings history directory texts
  pub counts_are : AreCounts history counts

-- the later history is this one with a change that comes next, of this name and with these operations
pub record IsNextOf (history : History) (change : Change) (later : History) (name : Name) (ops : List Op) (directory : DirectoryView) (texts : TextsView) : Type 0 where
  pub may : MayCome history change
  pub readings : AreReadings history directory texts
  pub later_is : later ≡ with_change history change
  pub name_is : name ≡ name_of change
  pub ops_are : ops ≡ change.ops

-- there is a history before, of which the directory and the texts are readings
pub record IsNext (later : History) (name : Name) (ops : List Op) (directory : DirectoryView) (texts : TextsView) : Type 0 where
  pub history : History
  pub change : Change
  pub is : IsNextOf history change later name ops directory texts

-- ---- what contracts see

-- a replica: its history, and whether no call ran out of memory in the middle of a change
pub record ReplicaView : Type 0 where
  pub history : History
  pub live : Bool

-- one change more is held, and these are its effects
pub record IsMore (old : History) (change : Change) (new : History) (effects : List PathEffect) : Type 0 where
  pub may : MayCome old change
  pub new_is : new ≡ with_change old change
  pub are_effects : AreEffects old new effects

-- what comes of adding a change that is not refused
abbrev pub IsAdded : History → Change → History → Added → Type 0
IsAdded old change new Repeat = IsRepeat old change × (new ≡ old)
IsAdded old change new (Effects effects) = IsMore old change new effects

-- the same, where the later history has the change under the name
pub record IsHeldNextOf (history : History) (change : Change) (later : History) (name : Name) (directory : DirectoryView) (texts : TextsView) : Type 0 where
  pub may : MayCome history change
  pub readings : AreReadings history directory texts
  pub later_is : later ≡ with_change history change
  pub name_is : name ≡ name_of change
  pub few : length (things change.ops) < 2 ^ 64

pub record IsHeldNext (later : History) (name : Name) (directory : DirectoryView) (texts : TextsView) : Type 0 where
  pub history : History
  pub change : Change
  pub is : IsHeldNextOf history change later name directory texts
