-- Changes by their names.
use Rattle.std.specs.Prelude.{Bool, not, List, [], Option, Some, None, is_some, filter}
use Rattle.std.specs.List.{list_any}
use Rattle.std.specs.Map.{lookup}
use Rattle.std.specs.BTreeMap.{is_at, insert_entry}
use Rattle.tt_base.specs.Ids.{name_cmp}
use Rattle.tt_base.specs.declared.ids.Name.{Name}
use Rattle.change_codec.specs.Change.{Change}
use Rattle.change_codec.specs.declared.ops.Op.{Op}
use Rattle.change_codec.specs.Encoding.{change_format}
use Rattle.change_codec.specs.Names as names

-- whether the names are one
abbrev pub is_name : Name → Name → Bool
is_name name = is_at (name_cmp name)

-- whether the name is among these
abbrev pub has_name : List Name → Name → Bool
has_name names name = list_any (is_name name) names

-- The changes that are held: a finite map from names to changes, as its pairs in rising order of the names.
abbrev pub History : Type 0
History = List (Name × Change)

-- the change that is held under the name
abbrev pub change_at : History → Name → Option Change
change_at history name = lookup (is_name name) history

-- whether a change is held under the name
abbrev pub is_held : History → Name → Bool
is_held history name = is_some (change_at history name)

abbrev pub deps_of : Option Change → List Name
deps_of None = []
deps_of (Some change) = change.deps

-- the names that the held change depends on, and none where none is held
abbrev pub deps_at : History → Name → List Name
deps_at history name = deps_of (change_at history name)

abbrev pub ops_of : Option Change → List Op
ops_of None = []
ops_of (Some change) = change.ops

-- the operations of the held change, and none where none is held
abbrev pub ops_at : History → Name → List Op
ops_at history name = ops_of (change_at history name)

-- those of the names under which nothing is held
abbrev pub missing : History → List Name → List Name
missing history names = filter (λ name. not (is_held history name)) names

-- the name of a change: the digest of its encoding
abbrev pub name_of : Change → Name
name_of change = names.name_of (change_format.spelled change)

-- the history with one change more
abbrev pub with_change : History → Change → History
with_change history change = insert_entry name_cmp history (name_of change) change
