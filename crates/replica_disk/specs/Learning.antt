-- What comes of a change, for the history and the staged records of a store, and for the store.
use Rattle.std.specs.Prelude.{◌≡◌, Bool, true, false, List, [], ◌∷◌, ◌++◌, Result, Ok, Err}
use Rattle.change_codec.specs.Change.{Change}
use Rattle.change_codec.specs.Encoding.{change_format}
use Rattle.change_graph.specs.History.{History, with_change}
use Rattle.change_graph.specs.Adding.{IsRefused}
use Rattle.change_graph.specs.Answers.{IsRepeat}
use Rattle.change_graph.specs.declared.faults.GraphFault.{GraphFault}
use Rattle.change_graph.specs.declared.faults.GraphFault.TheVariants.{Clash, MissingDeps, BadChange, Memory}
use Rattle.journal_format.specs.declared.records.Record.{Record}
use Rattle.journal_format.specs.declared.records.Record.TheVariants as records
use Rattle.replica_views.specs.Effects.{PathEffect, AreEffects}
use Rattle.replica_views.specs.Growth.{MayCome}
use Rattle.replica_store.specs.Store.{StoreView}
use Rattle.replica_store.specs.Calls.{IsAdded, IsRepeated}
use Rattle.replica_disk.specs.declared.learning.Learnt.{Learnt}
use Rattle.replica_disk.specs.declared.learning.Learnt.TheVariants as learnt

-- what a store answers to a change, and what it is then
abbrev pub IsLearnt : {D : Type 0} → StoreView D → Change → StoreView D → Learnt → Type 0
IsLearnt old change new learnt.Repeat = IsRepeated old change new
IsLearnt old change new (learnt.Added effects) = IsAdded old change new effects

-- the change may come next, is held now, and its record is staged
pub record HoldsOneMore (old : History) (staged : List Record) (change : Change) (new : History) (staged_now : List Record) (effects : List PathEffect) : Type 0 where
  pub may : MayCome old change
  pub history_is : new ≡ with_change old change
  pub staged_is : staged_now ≡ staged ++ records.Change (change_format.spelled change) ∷ []
  pub are_effects : AreEffects old new effects

-- history and staged records are as they were
pub record HoldsTheSame (old : History) (staged : List Record) (new : History) (staged_now : List Record) : Type 0 where
  pub history_is : new ≡ old
  pub staged_is : staged_now ≡ staged

abbrev pub HoldsMore : History → List Record → Change → History → List Record → Learnt → Type 0
HoldsMore old staged change new staged_now learnt.Repeat = IsRepeat old change × HoldsTheSame old staged new staged_now
HoldsMore old staged change new staged_now (learnt.Added effects) = HoldsOneMore old staged change new staged_now effects

-- a refusal changes nothing; without memory nothing is said
abbrev pub HoldsNoMore : History → List Record → Change → History → List Record → GraphFault → Type 0
HoldsNoMore old staged change new staged_now (Clash held given) = IsRefused old change (Clash held given) × HoldsTheSame old staged new staged_now
HoldsNoMore old staged change new staged_now (MissingDeps names) = IsRefused old change (MissingDeps names) × HoldsTheSame old staged new staged_now
HoldsNoMore old staged change new staged_now (BadChange place cause) = IsRefused old change (BadChange place cause) × HoldsTheSame old staged new staged_now
HoldsNoMore old staged change new staged_now Memory = Unit {0}

-- whether a store is of use after this answer: unless memory ran out
abbrev pub goes_on : Result Learnt GraphFault → Bool
goes_on (Ok answer) = true
goes_on (Err (Clash held given)) = true
goes_on (Err (MissingDeps names)) = true
goes_on (Err (BadChange place cause)) = true
goes_on (Err Memory) = false
