-- Which operations of a new change are refused, and why.
use Rattle.std.specs.Prelude.{◌≡◌, ℕ, ◌+◌, ◌<◌, ◌^◌, ◌==◌, Bool, true, false, not, ◌&&◌, nat_le, List, [], ◌∷◌, map, flat_map, length, take, drop, replicate, slice_get, Option, Some, None, if◌then◌else◌}
use Rattle.std.specs.List.{list_any}
use Rattle.tt_base.specs.declared.ids.Name.{Name}
use Rattle.change_codec.specs.Change.{Change}
use Rattle.change_codec.specs.declared.ops.Ref.{Ref}
use Rattle.change_codec.specs.declared.ops.Ref.TheVariants.{Here, There}
use Rattle.change_codec.specs.declared.ops.Parent.TheVariants.{Root, After}
use Rattle.change_codec.specs.declared.ops.Op.{Op}
use Rattle.change_codec.specs.declared.ops.Op.TheVariants.{Make, Remove, Insert, Delete}
use Rattle.change_graph.specs.declared.causes.Cause.{Cause}
use Rattle.change_graph.specs.declared.causes.Cause.TheVariants.{OutsideRef, NotAMake, NotAnElement, OtherObject}
use Rattle.change_graph.specs.History.{History, is_name, ops_at}
use Rattle.change_graph.specs.Closure.{IsClosureTest}

-- ---- what stands at the indices of a change

-- An index stands for an object, or for a character of one.
pub data Thing : Type 0 where
  Object : Thing
  Character : (object : Ref) → Thing

-- a Make takes one index, an Insert one for each character, the others none
abbrev pub things_of : Op → List Thing
things_of (Make path) = Object ∷ []
things_of (Remove object) = []
things_of (Insert object parent text) = replicate (length text) (Character object)
things_of (Delete object first count) = []

-- what stands at the indices from 0 on
abbrev pub things : List Op → List Thing
things ops = flat_map things_of ops

-- ---- what a ref of a new change may point at

-- a ref within the change of this name, as another change writes it
abbrev pub abroad : Name → Ref → Ref
abroad name (Here index) = There name index
abroad name (There other index) = There other index

abbrev pub thing_abroad : Name → Thing → Thing
thing_abroad name Object = Object
thing_abroad name (Character object) = Character (abroad name object)

-- What an operation of a new change may speak of: the changes in the closure of its dependencies, which pass a test,
-- and the operations before it.
pub record Scope : Type 0 where
  pub history : History
  pub known : Name → Bool
  pub earlier : List Op

-- the operations among whose indices the ref counts
abbrev pub ops_within : Scope → Ref → List Op
ops_within scope (Here index) = scope.earlier
ops_within scope (There name index) = if scope.known name then ops_at scope.history name else []

-- a thing that the ref leads to, as the new change writes it
abbrev pub thing_seen : Ref → Thing → Thing
thing_seen (Here index) thing = thing
thing_seen (There name index) thing = thing_abroad name thing

-- the things that the ref counts from 0
abbrev pub things_within : Scope → Ref → List Thing
things_within scope place = map (thing_seen place) (things (ops_within scope place))

abbrev pub index_of : Ref → ℕ
index_of (Here index) = index
index_of (There name index) = index

-- ---- tests of refs, where `within` gives the things that a ref counts

-- so many of them, from the ref's index on; fewer where there are no more
abbrev pub run_at : (Ref → List Thing) → Ref → ℕ → List Thing
run_at within place count = take count (drop (index_of place) (within place))

-- the indices fit u64, and something stands at each
abbrev pub is_there : (Ref → List Thing) → Ref → ℕ → Bool
is_there within place count = nat_le (index_of place + count) (2 ^ 64) && (length (run_at within place count) == count)

abbrev pub is_object : Thing → Bool
is_object Object = true
is_object (Character object) = false

abbrev pub is_ref : Ref → Ref → Bool
is_ref (Here a) (Here b) = a == b
is_ref (Here a) (There m b) = false
is_ref (There n a) (Here b) = false
is_ref (There n a) (There m b) = is_name n m && (a == b)

-- a character of another object than this
abbrev pub is_elsewhere : Ref → Thing → Bool
is_elsewhere object Object = false
is_elsewhere object (Character other) = not (is_ref object other)

-- ---- the cause for which an operation is refused, the first of the four that there is

-- The causes: it points at what the change does not know, it names a character as an object, an object as a character, or a
-- character of another object.

-- of an operation that names an object
abbrev pub object_fault : (Ref → List Thing) → Ref → Option Cause
object_fault within object =
    if not (is_there within object 1) then Some OutsideRef else
    (if not (list_any is_object (run_at within object 1)) then Some NotAMake else None)

-- of one that also names characters of it
abbrev pub characters_fault : (Ref → List Thing) → Ref → Ref → ℕ → Option Cause
characters_fault within object first count =
    if not (is_there within object 1 && is_there within first count) then Some OutsideRef else
    (if not (list_any is_object (run_at within object 1)) then Some NotAMake else
    (if list_any is_object (run_at within first count) then Some NotAnElement else
    (if list_any (is_elsewhere object) (run_at within first count) then Some OtherObject else None)))

abbrev pub op_fault : (Ref → List Thing) → Op → Option Cause
op_fault within (Make path) = None
op_fault within (Remove object) = object_fault within object
op_fault within (Insert object Root text) = object_fault within object
op_fault within (Insert object (After place) text) = characters_fault within object place 1
op_fault within (Delete object first count) = characters_fault within object first count

abbrev pub fault_of : (Ref → List Thing) → Option Op → Option Cause
fault_of within None = None
fault_of within (Some op) = op_fault within op

-- the cause for which the operation at this place is refused
abbrev pub fault_at : History → (Name → Bool) → List Op → ℕ → Option Cause
fault_at history known ops place =
    fault_of (things_within (record { history = history; known = known; earlier = take place ops })) (slice_get ops place)

-- ---- changes

-- the operation at this place is the first that is refused
pub record IsFirstFault (history : History) (change : Change) (place : ℕ) (cause : Cause) : Type 0 where
  pub known : Name → Bool
  pub knows : IsClosureTest history change.deps known
  pub here : fault_at history known change.ops place ≡ Some cause
  pub none_before : (earlier : ℕ) → earlier < place → fault_at history known change.ops earlier ≡ None

-- no operation is refused
pub record IsAccepted (history : History) (change : Change) : Type 0 where
  pub known : Name → Bool
  pub knows : IsClosureTest history change.deps known
  pub none : (place : ℕ) → fault_at history known change.ops place ≡ None
