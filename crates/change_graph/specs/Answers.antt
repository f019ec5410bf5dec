-- What a graph answers.
use Rattle.std.specs.Prelude.{◌≡◌, ◌≢◌, ℕ, ◌<◌, false, IsTrue, List, [], length, Some}
use Rattle.std.specs.List.Sorted.{IsStrictlySortedBy}
use Rattle.byte_format.specs.Format.{IsEncoding}
use Rattle.change_codec.specs.Change.{Change}
use Rattle.change_codec.specs.Encoding.{change_format}
use Rattle.tt_base.specs.Ids.{name_cmp}
use Rattle.tt_base.specs.declared.ids.Name.{Name}
use Rattle.change_graph.specs.History.{History, change_at, is_held, has_name, deps_at, name_of, missing}
use Rattle.change_graph.specs.Closure.{IsInClosure}
use Rattle.change_graph.specs.Depths.{IsDepths, by_depth}
use Rattle.change_graph.specs.declared.causes.Cause.{Cause}
use Rattle.change_graph.specs.Refusals.{IsAccepted, IsFirstFault}

-- ---- queries

-- The heads are the held names that no held change names as a dependency.
pub record AreHeads (history : History) (heads : List Name) : Type 0 where
  pub held : (name : Name) → IsTrue (has_name heads name) → IsTrue (is_held history name)
  pub unnamed : (name : Name) → IsTrue (has_name heads name) → (above : Name) → has_name (deps_at history above) name ≡ false
  pub all : (name : Name) → IsTrue (is_held history name) → ((above : Name) → has_name (deps_at history above) name ≡ false)
      → IsTrue (has_name heads name)

-- the heads, each once, rising
pub record IsHeads (history : History) (heads : List Name) : Type 0 where
  pub are_heads : AreHeads history heads
  pub rising : IsStrictlySortedBy name_cmp heads

-- The closure of the one names without that of the others; here each once, predecessors first: by depth, and then by name.
pub record IsDifference (history : History) (need have names : List Name) : Type 0 where
  pub needed : (name : Name) → IsTrue (has_name names name) → IsInClosure history need name
  pub not_had : (name : Name) → IsTrue (has_name names name) → IsInClosure history have name → ⊥
  pub all : (name : Name) → IsInClosure history need name → (IsInClosure history have name → ⊥) → IsTrue (has_name names name)
  pub depth : Name → ℕ
  pub are_depths : IsDepths history depth
  pub rising : IsStrictlySortedBy (by_depth depth) names

-- ---- adding a change

-- the same change is held, and so the same encoding
abbrev pub IsRepeat : History → Change → Type 0
IsRepeat history change = change_at history (name_of change) ≡ Some change

-- another change is held under its name
pub record IsClash (history : History) (change : Change) (held given : List ℕ) : Type 0 where
  pub other : Change
  pub other_held : change_at history (name_of change) ≡ Some other
  pub differs : other ≢ change
  pub held_bytes : IsEncoding change_format held other
  pub given_bytes : IsEncoding change_format given change

-- nothing is held under its name, and these of its dependencies are not held
pub record LacksDeps (history : History) (change : Change) (names : List Name) : Type 0 where
  pub new : is_held history (name_of change) ≡ false
  pub lacking : names ≡ missing history change.deps
  pub some : 0 < length names

-- nothing is held under its name, all its dependencies are, and this operation is the first that is refused
pub record IsBad (history : History) (change : Change) (place : ℕ) (cause : Cause) : Type 0 where
  pub new : is_held history (name_of change) ≡ false
  pub ready : missing history change.deps ≡ []
  pub first : IsFirstFault history change place cause

-- nothing is held under its name, all its dependencies are, and no operation is refused
pub record IsNext (history : History) (change : Change) : Type 0 where
  pub new : is_held history (name_of change) ≡ false
  pub ready : missing history change.deps ≡ []
  pub accepted : IsAccepted history change
