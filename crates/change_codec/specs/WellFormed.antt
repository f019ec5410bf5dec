-- What every change keeps, in plain words: just this is what has an encoding.
use Rattle.std.specs.Prelude.{◌≡◌, ℕ, ◌<◌, ◌≤◌, ◌^◌, List, length, None, true, All, encode_utf8_all}
use Rattle.std.specs.List.Sorted.{IsStrictlySortedBy}
use Rattle.std.specs.Str.{IsUtf8, all_scalars}
use Rattle.tt_base.specs.Path.{path_fault}
use Rattle.tt_base.specs.Ids.{name_cmp}
use Rattle.tt_base.specs.declared.ids.Name.{Name}
use Rattle.tt_base.specs.declared.ids.Actor.{Actor}
use Rattle.byte_format.specs.Format.{IsBytes}
use Rattle.change_codec.specs.Change.{Change}
use Rattle.change_codec.specs.declared.ops.Ref.{Ref}
use Rattle.change_codec.specs.declared.ops.Ref.TheVariants.{Here, There}
use Rattle.change_codec.specs.declared.ops.Parent.{Parent}
use Rattle.change_codec.specs.declared.ops.Parent.TheVariants.{Root, After}
use Rattle.change_codec.specs.declared.ops.Op.{Op}
use Rattle.change_codec.specs.declared.ops.Op.TheVariants.{Make, Remove, Insert, Delete}

-- a number that a field of 8 bytes holds
abbrev pub FitsField : ℕ → Type 0
FitsField n = n < 2 ^ 64

-- 16 bytes
pub record IsActor (actor : Actor) : Type 0 where
  pub long : length actor.0 ≡ 16
  pub bytes : IsBytes actor.0

-- 32 bytes, as many as a SHA-256 digest has (FIPS 180-4)
pub record IsName (name : Name) : Type 0 where
  pub long : length name.0 ≡ 32
  pub bytes : IsBytes name.0

-- an index, here or in the change with a name
abbrev pub IsRef : Ref → Type 0
IsRef (Here index) = FitsField index
IsRef (There name index) = IsName name × FitsField index

-- the root, or behind what a ref points at
abbrev pub IsParent : Parent → Type 0
IsParent Root = Unit {0}
IsParent (After place) = IsRef place

-- UTF-8 that breaks no rule of shared paths
pub record IsPath (path : List ℕ) : Type 0 where
  pub utf8 : IsUtf8 path
  pub rules : path_fault path ≡ None

-- one character or more (Unicode scalar values), in UTF-8 of a length that a field holds
pub record IsInsertedText (text : List ℕ) : Type 0 where
  pub characters : all_scalars text ≡ true
  pub some : 0 < length text
  pub short : FitsField (length (encode_utf8_all text))

pub record IsInsertion (object : Ref) (parent : Parent) (text : List ℕ) : Type 0 where
  pub object_is : IsRef object
  pub parent_is : IsParent parent
  pub text_is : IsInsertedText text

-- one character or more are deleted
pub record IsDeletion (object first : Ref) (count : ℕ) : Type 0 where
  pub object_is : IsRef object
  pub first_is : IsRef first
  pub some : 1 ≤ count
  pub count_fits : FitsField count

abbrev pub IsOp : Op → Type 0
IsOp (Make path) = IsPath path
IsOp (Remove object) = IsRef object
IsOp (Insert object parent text) = IsInsertion object parent text
IsOp (Delete object first count) = IsDeletion object first count

-- the names of the dependencies rise strictly; texts are not empty, and counts are not 0
pub record IsWellFormed (change : Change) : Type 0 where
  pub actor_is : IsActor change.actor
  pub seq_fits : FitsField change.seq
  pub names : All IsName change.deps
  pub rising : IsStrictlySortedBy name_cmp change.deps
  pub deps_fit : FitsField (length change.deps)
  pub ops_are : All IsOp change.ops
  pub ops_fit : FitsField (length change.ops)
