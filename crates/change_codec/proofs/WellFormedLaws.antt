-- What has an encoding is well formed.
use Rattle.std.proofs.Common.{◌≡◌, ℕ, ◌<◌, ◌≤◌, Bool, true, false, ◌&&◌, List, [], ◌∷◌, length, Option, Some, None, refl, sym, ap, subst, ◌∙◌, arith}
use Rattle.std.specs.Prelude.{is_none, encode_utf8_all}
use Rattle.std.specs.Str.{chars, is_utf8, IsUtf8, all_scalars}
use Rattle.std.specs.List.{AllByRecursion}
use Rattle.std.proofs.lemmas.Bool.{ltb-true}
use Rattle.std.proofs.lemmas.List.Elements.{All-from_recursion}
use Rattle.std.proofs.lemmas.Str.{IsUtf8-from_is_utf8, chars-encodes}
use Rattle.std.specs.List.Sorted.{IsStrictlySortedBy}
use Rattle.tt_base.specs.Ids.{name_cmp}
use Rattle.tt_base.specs.Path.{path_fault}
use Rattle.tt_base.specs.declared.ids.Name.{Name}
use Rattle.tt_base.specs.declared.ids.Actor.{Actor}
use Rattle.tt_base.specs.declared.paths.PathFault.{PathFault}
use Rattle.byte_format.specs.Lists.{just}
use Rattle.byte_format.specs.Values.{u64_field, count_field, actor_field, name_field, next_name, any_name, rising_names, names_field, path_field, text_field}
use Rattle.byte_format.proofs.ListLaws.{chain_each}
use Rattle.change_codec.specs.Change.{Change}
use Rattle.change_codec.specs.Encoding.{ref_field, parent_field, op_field, any_op, some_ops, ops_field, change_format}
use Rattle.change_codec.specs.WellFormed.{FitsField, IsActor, IsName, IsRef, IsParent, IsPath, IsInsertedText, IsOp, IsWellFormed}
use Rattle.change_codec.specs.declared.ops.Ref.{Ref}
use Rattle.change_codec.specs.declared.ops.Ref.TheVariants.{Here, There}
use Rattle.change_codec.specs.declared.ops.Parent.{Parent}
use Rattle.change_codec.specs.declared.ops.Parent.TheVariants.{Root, After}
use Rattle.change_codec.specs.declared.ops.Op.{Op}
use Rattle.change_codec.specs.declared.ops.Op.TheVariants.{Make, Remove, Insert, Delete}
use Rattle.change_codec.proofs.RisingNames.{rising_sorted}

both_left : (a b : Bool) → a && b ≡ true → a ≡ true
both_left true b both = refl
both_left false b both = absurd cc

both_right : (a b : Bool) → a && b ≡ true → b ≡ true
both_right true b both = both
both_right false b both = absurd cc

none_is : (fault : Option PathFault) → is_none fault ≡ true → fault ≡ None
none_is None is = refl
none_is (Some rule) is = absurd cc

u64_is : (n : ℕ) → u64_field.Fits n → FitsField n
unfolding u64_field
u64_is n fits = fits

count_fits : (n : ℕ) → count_field.Fits n → FitsField n
unfolding count_field
count_fits n fits = u64_is n fits.0

count_is : (n : ℕ) → count_field.Fits n → 1 ≤ n
unfolding count_field
count_is n fits = omega (arith, ltb-true 0 n fits.1)

actor_is : (actor : Actor) → actor_field.Fits actor → IsActor actor
unfolding actor_field
actor_is actor fits = record { long = fits.0.0; bytes = fits.0.1 }

name_is : (name : Name) → name_field.Fits name → IsName name
unfolding name_field
name_is name fits = record { long = fits.0.0; bytes = fits.0.1 }

ref_is : (place : Ref) → ref_field.Fits place → IsRef place
unfolding ref_field
ref_is (Here index) fits = u64_is index fits.0.1.0
ref_is (There name index) fits = (name_is name fits.0.1.0.0, u64_is index fits.0.1.0.1)

parent_is : (parent : Parent) → parent_field.Fits parent → IsParent parent
unfolding parent_field
parent_is Root fits = tt
parent_is (After place) fits = ref_is place fits.0.1.0

path_is : (path : List ℕ) → path_field.Fits path → IsPath path
unfolding path_field
path_is path fits = record {
  utf8 = IsUtf8-from_is_utf8 path (both_left (is_utf8 path) (is_none (path_fault path)) fits.0.1.1);
  rules = none_is (path_fault path) (both_right (is_utf8 path) (is_none (path_fault path)) fits.0.1.1);
}

some_chars : (text : List ℕ) → 0 < length (encode_utf8_all text) → 0 < length text
some_chars [] some = some
some_chars (c ∷ text) some = omega arith

all_chars : (text : List ℕ) → IsUtf8 (encode_utf8_all text) → chars (encode_utf8_all text) ≡ text → all_scalars text ≡ true
all_chars text utf8 back =
    let same : utf8.0 ≡ text = sym (chars-encodes utf8.0 utf8.1.0) ∙ ap chars utf8.1.1 ∙ back in
    subst (λ (cs : List ℕ). all_scalars cs ≡ true) same utf8.1.0

text_is : (text : List ℕ) → text_field.Fits text → IsInsertedText text
unfolding text_field
text_is text fits = record {
  characters = all_chars text (IsUtf8-from_is_utf8 (encode_utf8_all text) fits.0.0.1.1) fits.1;
  some = some_chars text (omega (arith, count_is (length (encode_utf8_all text)) fits.0.0.0));
  short = count_fits (length (encode_utf8_all text)) fits.0.0.0;
}

op_is : (op : Op) → op_field.Fits op → IsOp op
unfolding op_field
op_is (Make path) fits = path_is path fits.0.1.0
op_is (Remove object) fits = ref_is object fits.0.1.0
op_is (Insert object parent text) fits = record {
  object_is = ref_is object fits.0.1.0.0;
  parent_is = parent_is parent fits.0.1.0.1.0;
  text_is = text_is text fits.0.1.0.1.1;
}
op_is (Delete object first count) fits = record {
  object_is = ref_is object fits.0.1.0.0;
  first_is = ref_is first fits.0.1.0.1.0;
  some = count_is count fits.0.1.0.1.1;
  count_fits = count_fits count fits.0.1.0.1.1;
}

pub record HasNames (names : List Name) : Type 0 where
  pub each : AllByRecursion IsName names
  pub rising : IsStrictlySortedBy name_cmp names
  pub few : FitsField (length names)

names_are : (names : List Name) → names_field.Fits names → HasNames names
unfolding names_field rising_names
names_are names fits = record {
  each = chain_each any_name next_name just IsName (λ before name fit. name_is name fit.0) (length names) names None fits.0.1;
  rising = (rising_sorted (length names) names None fits.0.1).1;
  few = u64_is (length names) fits.0.0;
}

ops_are : (ops : List Op) → ops_field.Fits ops → AllByRecursion IsOp ops × FitsField (length ops)
unfolding ops_field some_ops
ops_are ops fits = (
  chain_each any_op (λ (state : ℕ). op_field) (λ state op. state) IsOp (λ state op fit. op_is op fit) (length ops) ops 0 fits.0.1,
  u64_is (length ops) fits.0.0,
)

pub fitting_is_well_formed : (change : Change) → change_format.Fits change → IsWellFormed change
unfolding change_format
fitting_is_well_formed change fits =
    let parts = fits.0.1.0 in
    let deps : HasNames change.deps = names_are change.deps parts.1.1.0 in
    let ops : AllByRecursion IsOp change.ops × FitsField (length change.ops) = ops_are change.ops parts.1.1.1 in record {
      actor_is = actor_is change.actor parts.0;
      seq_fits = u64_is change.seq parts.1.0;
      names = All-from_recursion IsName change.deps deps.each;
      rising = deps.rising;
      deps_fit = deps.few;
      ops_are = All-from_recursion IsOp change.ops ops.0;
      ops_fit = ops.1;
    }
