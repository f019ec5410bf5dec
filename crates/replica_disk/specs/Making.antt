-- What comes of a change that a daemon makes, for the history and the staged records of a store.
use Rattle.std.specs.Prelude.{◌≡◌, ◌≢◌, ◌≤◌, ◌^◌, ℕ, Bool, true, false, List, length, Result, Ok, Err, Some}
use Rattle.delta.specs.Cells.{Cells}
use Rattle.tt_base.specs.declared.ids.Actor.{Actor}
use Rattle.change_codec.specs.Change.{Change}
use Rattle.change_codec.specs.Encoding.{change_format}
use Rattle.change_graph.specs.History.{History, change_at, is_held, name_of}
use Rattle.change_graph.specs.Answers.{IsClash}
use Rattle.change_graph.specs.Refusals.{things}
use Rattle.journal_format.specs.declared.records.Record.{Record}
use Rattle.replica_store.specs.Calls.{Making, IsTooLong, IsMakingClash}
use Rattle.replica_store.specs.declared.faults.StoreFault.{StoreFault}
use Rattle.replica_store.specs.declared.faults.StoreFault.TheVariants.{TextTooLong, Clash, Memory}
use Rattle.replica_views.specs.Growth.{MayCome}
use Rattle.replica_disk.specs.Learning.{HoldsTheSame, HoldsOneMore}

-- the change is not held, and may come next unless another one is held under its name
pub record IsOwnChange (history : History) (change : Change) : Type 0 where
  pub is_new : change_at history (name_of change) ≢ Some change
  pub comes : is_held history (name_of change) ≡ false → change_format.Fits change → length (things change.ops) ≤ 2 ^ 64 → MayCome history change

-- no length of the text is too long
abbrev pub HasNoneTooLong : History → List ℕ → Cells → Type 0
HasNoneTooLong history path d = (count : ℕ) → IsTooLong history path d count → ⊥

-- the change is held now, its record is staged, and this is its name
pub record HoldsOwn (old : History) (staged : List Record) (change : Change) (new : History) (staged_now : List Record) (making : Making) : Type 0 where
  pub more : HoldsOneMore old staged change new staged_now making.effects
  pub name_is : making.name ≡ name_of change

-- why a daemon's own change is not held: another one is held under its name
abbrev pub IsNotOwn : History → Change → StoreFault → Type 0
IsNotOwn history change (TextTooLong count) = ⊥
IsNotOwn history change (Clash held given) = IsClash history change held given
IsNotOwn history change Memory = Unit {0}

-- why no change is made for a delta
abbrev pub IsNoMaking : History → Actor → List ℕ → Cells → StoreFault → Type 0
IsNoMaking history actor path d (TextTooLong count) = IsTooLong history path d count
IsNoMaking history actor path d (Clash held given) = IsMakingClash history actor path d held given
IsNoMaking history actor path d Memory = Unit {0}

-- history and staged records are as they were; without memory nothing is said
abbrev pub HoldsStill : History → List Record → History → List Record → StoreFault → Type 0
HoldsStill old staged new staged_now (TextTooLong count) = HoldsTheSame old staged new staged_now
HoldsStill old staged new staged_now (Clash held given) = HoldsTheSame old staged new staged_now
HoldsStill old staged new staged_now Memory = Unit {0}

-- whether a store is of use after this answer: unless memory ran out
abbrev pub is_of_use : Result Making StoreFault → Bool
is_of_use (Ok making) = true
is_of_use (Err (TextTooLong count)) = true
is_of_use (Err (Clash held given)) = true
is_of_use (Err Memory) = false
