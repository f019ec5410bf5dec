-- The encoding of a change, field by field; numbers are big-endian. The layout is the project's own.
use Rattle.std.specs.Prelude.{ℕ, zero, suc, ◌&&◌, Bool, List, [], nat_lt, codes}
use Rattle.tt_base.specs.declared.ids.Name.{Name}
use Rattle.change_codec.specs.Change.{Change}
use Rattle.change_codec.specs.declared.ops.Ref.{Ref}
use Rattle.change_codec.specs.declared.ops.Ref.TheVariants.{Here, There}
use Rattle.change_codec.specs.declared.ops.Parent.{Parent}
use Rattle.change_codec.specs.declared.ops.Parent.TheVariants.{Root, After}
use Rattle.change_codec.specs.declared.ops.Op.{Op}
use Rattle.change_codec.specs.declared.ops.Op.TheVariants.{Make, Remove, Insert, Delete}
use Rattle.byte_format.specs.Format.{Format}
use Rattle.byte_format.specs.declared.faults.Kind.TheVariants.{Magic, Tag}
use Rattle.byte_format.specs.Fields.{byte, constant, never}
use Rattle.byte_format.specs.Parts.{pair, seen_as, checked, marked, tagged}
use Rattle.byte_format.specs.Lists.{counted, many}
use Rattle.byte_format.specs.Values.{u64_field, count_field, actor_field, name_field, names_field, path_field, text_field, any_name}

-- ---- refs: 0 and an index of this change, or 1, a name and an index of that change

-- a byte that says one of two
abbrev pub is_flag : ℕ → Bool
is_flag b = nat_lt b 2

abbrev pub ref_tag : Ref → ℕ
ref_tag (Here index) = 0
ref_tag (There name index) = 1

abbrev pub index_here : Ref → ℕ
index_here (Here index) = index
index_here (There name index) = 0

abbrev pub place_there : Ref → Name × ℕ
place_there (Here index) = (any_name, 0)
place_there (There name index) = (name, index)

abbrev pub ref_behind : ℕ → Format Ref
ref_behind zero = seen_as (λ index. Here index) index_here u64_field
ref_behind (suc zero) = seen_as (λ x. There x.0 x.1) place_there (pair name_field u64_field)
ref_behind (suc (suc b)) = never Tag

unfoldable pub ref_field : Format Ref
ref_field = tagged ref_tag (checked is_flag Tag byte) ref_behind

-- ---- parents: 0 for the root, or 1 and a ref

abbrev pub parent_tag : Parent → ℕ
parent_tag Root = 0
parent_tag (After place) = 1

abbrev pub place_after : Parent → Ref
place_after Root = Here 0
place_after (After place) = place

abbrev pub parent_behind : ℕ → Format Parent
parent_behind zero = constant Root
parent_behind (suc zero) = seen_as (λ place. After place) place_after ref_field
parent_behind (suc (suc b)) = never Tag

unfoldable pub parent_field : Format Parent
parent_field = tagged parent_tag (checked is_flag Tag byte) parent_behind

-- ---- operations: 1 Make and a path, 2 Remove and a ref, 3 Insert and an object, a parent and a text, 4 Delete and
-- ---- an object, the first element and a count

abbrev pub is_op_tag : ℕ → Bool
is_op_tag b = nat_lt 0 b && nat_lt b 5

abbrev pub op_tag : Op → ℕ
op_tag (Make path) = 1
op_tag (Remove object) = 2
op_tag (Insert object parent text) = 3
op_tag (Delete object first count) = 4

-- what stands behind the tag of each kind, and something for the others

abbrev pub path_made : Op → List ℕ
path_made (Make path) = path
path_made (Remove object) = []
path_made (Insert object parent text) = []
path_made (Delete object first count) = []

abbrev pub object_removed : Op → Ref
object_removed (Make path) = Here 0
object_removed (Remove object) = object
object_removed (Insert object parent text) = object
object_removed (Delete object first count) = object

abbrev pub text_inserted : Op → Ref × (Parent × List ℕ)
text_inserted (Make path) = (Here 0, (Root, path))
text_inserted (Remove object) = (object, (Root, []))
text_inserted (Insert object parent text) = (object, (parent, text))
text_inserted (Delete object first count) = (object, (Root, []))

abbrev pub run_deleted : Op → Ref × (Ref × ℕ)
run_deleted (Make path) = (Here 0, (Here 0, 0))
run_deleted (Remove object) = (object, (Here 0, 0))
run_deleted (Insert object parent text) = (object, (Here 0, 0))
run_deleted (Delete object first count) = (object, (first, count))

abbrev pub op_behind : ℕ → Format Op
op_behind zero = never Tag
op_behind (suc zero) = seen_as (λ path. Make path) path_made path_field
op_behind (suc (suc zero)) = seen_as (λ object. Remove object) object_removed ref_field
op_behind (suc (suc (suc zero))) =
    seen_as (λ x. Insert x.0 x.1.0 x.1.1) text_inserted (pair ref_field (pair parent_field text_field))
op_behind (suc (suc (suc (suc zero)))) =
    seen_as (λ x. Delete x.0 x.1.0 x.1.1) run_deleted (pair ref_field (pair ref_field count_field))
op_behind (suc (suc (suc (suc (suc b))))) = never Tag

unfoldable pub op_field : Format Op
op_field = tagged op_tag (checked is_op_tag Tag byte) op_behind

abbrev pub any_op : Op
any_op = Make []

-- so many operations
unfoldable pub some_ops : ℕ → Format (List Op)
some_ops n = many any_op op_field n

-- the number of operations, and then they
unfoldable pub ops_field : Format (List Op)
ops_field = counted u64_field some_ops

-- ---- the change: a mark, the actor, the actor's number, the dependencies, the operations

unfoldable pub change_format : Format Change
change_format = marked (codes "TTC1") Magic (seen_as
    (λ x. record { actor = x.0; seq = x.1.0; deps = x.1.1.0; ops = x.1.1.1 })
    (λ change. (change.actor, (change.seq, (change.deps, change.ops))))
    (pair actor_field (pair u64_field (pair names_field ops_field))))
