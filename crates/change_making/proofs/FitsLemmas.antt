-- Parts that fit their fields make a change that has an encoding.
use Rattle.std.proofs.Common.{◌≡◌, ℕ, ◌<◌, ◌≤◌, ◌^◌, Bool, true, false, ◌&&◌, List, [], ◌∷◌, length, Option, Some, None, refl, ap, ◌∙◌, subst, arith, lit<}
use Rattle.std.specs.Prelude.{codes, encode_utf8_all, is_none, nat_lt, if◌then◌else◌}
use Rattle.std.specs.Str.{all_scalars, is_utf8}
use Rattle.std.specs.List.{AllByRecursion}
use Rattle.std.specs.List.Sorted.{IsStrictlySortedBy}
use Rattle.std.proofs.lemmas.Bool.{lt-ltb, ltb-false}
use Rattle.std.proofs.lemmas.Str.{length-le-encodes, chars-encodes, is_utf8-from_IsUtf8}
use Rattle.tt_base.specs.Ids.{name_cmp}
use Rattle.tt_base.specs.Path.{path_fault}
use Rattle.tt_base.specs.declared.paths.TheConstants.{MAX_PATH_BYTES}
use Rattle.tt_base.specs.declared.paths.PathFault.{PathFault}
use Rattle.tt_base.specs.declared.paths.PathFault.TheVariants.{TooLong}
use Rattle.tt_base.specs.declared.ids.Name.{Name}
use Rattle.tt_base.specs.declared.ids.Actor.{Actor}
use Rattle.byte_format.specs.Format.{IsBytes}
use Rattle.byte_format.specs.Values.{u64_field, count_field, actor_field, name_field, names_field, rising_names, path_field, u16_field, text_field, is_behind}
use Rattle.byte_format.proofs.ListLaws.{many_fits}
use Rattle.change_codec.specs.Change.{Change}
use Rattle.change_codec.specs.Encoding.{ref_field, parent_field, op_field, any_op, some_ops, ops_field, change_format}
use Rattle.change_codec.specs.declared.ops.Ref.{Ref}
use Rattle.change_codec.specs.declared.ops.Ref.TheVariants.{Here, There}
use Rattle.change_codec.specs.declared.ops.Parent.{Parent}
use Rattle.change_codec.specs.declared.ops.Parent.TheVariants.{Root, After}
use Rattle.change_codec.specs.declared.ops.Op.{Op}
use Rattle.change_codec.specs.declared.ops.Op.TheVariants.{Make, Remove, Insert, Delete}
use Rattle.change_codec.proofs.RisingNames.{sorted_rising}
use Rattle.change_making.proofs.ByteLemmas.{bytes_listed, text_is_bytes}

pub u64_fits : (n : ℕ) → n < 2 ^ 64 → u64_field.Fits n
unfolding u64_field
u64_fits n lt = lt

pub count_fits : (n : ℕ) → 0 < n → n < 2 ^ 64 → count_field.Fits n
unfolding count_field
count_fits n some lt = (u64_fits n lt, lt-ltb 0 n some)

pub name_fits : (name : Name) → length name.0 ≡ 32 → IsBytes name.0 → name_field.Fits name
unfolding name_field
name_fits name long bytes = ((long, bytes), refl)

pub actor_fits : (actor : Actor) → length actor.0 ≡ 16 → IsBytes actor.0 → actor_field.Fits actor
unfolding actor_field
actor_fits actor long bytes = ((long, bytes), refl)

pub here_fits : (index : ℕ) → index < 2 ^ 64 → ref_field.Fits (Here index)
unfolding ref_field
here_fits index lt = (((lit< tt, refl), (u64_fits index lt, refl)), refl)

pub there_fits : (name : Name) (index : ℕ) → name_field.Fits name → index < 2 ^ 64 → ref_field.Fits (There name index)
unfolding ref_field
there_fits name index named lt = (((lit< tt, refl), ((named, u64_fits index lt), refl)), refl)

pub root_fits : parent_field.Fits Root
unfolding parent_field
root_fits = (((lit< tt, refl), refl), refl)

pub after_fits : (place : Ref) → ref_field.Fits place → parent_field.Fits (After place)
unfolding parent_field
after_fits place fits = (((lit< tt, refl), (fits, refl)), refl)

pub text_fits : (text : List ℕ) (bytes : ℕ) → bytes ≡ length (encode_utf8_all text) → bytes < 2 ^ 64 → all_scalars text ≡ true → 0 < length text → text_field.Fits text
unfolding text_field
text_fits text bytes is lt scalars some =
    let long : length text ≤ length (encode_utf8_all text) = length-le-encodes text in
    let count : count_field.Fits (length (encode_utf8_all text)) =
    count_fits (length (encode_utf8_all text)) (omega (arith, long, some)) (subst (λ n. n < 2 ^ 64) is lt) in
    let utf8 : is_utf8 (encode_utf8_all text) ≡ true = is_utf8-from_IsUtf8 (encode_utf8_all text) (text, (scalars, refl)) in
    (((count, ((refl, text_is_bytes text scalars), utf8)), refl), chars-encodes text scalars)

pub remove_fits : (object : Ref) → ref_field.Fits object → op_field.Fits (Remove object)
unfolding op_field
remove_fits object fits = (((lit< tt, refl), (fits, refl)), refl)

pub insert_fits : (object : Ref) (parent : Parent) (text : List ℕ) → ref_field.Fits object → parent_field.Fits parent → text_field.Fits text
    → op_field.Fits (Insert object parent text)
unfolding op_field
insert_fits object parent text one two three = (((lit< tt, refl), ((one, (two, three)), refl)), refl)

pub delete_fits : (object first : Ref) (count : ℕ) → ref_field.Fits object → ref_field.Fits first → count_field.Fits count → op_field.Fits (Delete object first count)
unfolding op_field
delete_fits object first count one two three = (((lit< tt, refl), ((one, (two, three)), refl)), refl)

-- a shared path is short
short_if : (b : Bool) (rest : Option PathFault) → (if b then Some TooLong else rest) ≡ None → b ≡ false
short_if true rest is = absurd cc
short_if false rest is = refl

path_short : (path : List ℕ) → path_fault path ≡ None → length path < 2 ^ 16
path_short path fine =
    let few : length path ≤ 1024 = ltb-false 1024 (length path) (short_if (nat_lt MAX_PATH_BYTES (length path)) _ fine) in omega (arith, few)

pub make_fits : (path : List ℕ) → path_fault path ≡ None → is_utf8 path ≡ true → IsBytes path → op_field.Fits (Make path)
unfolding op_field path_field u16_field
make_fits path fine utf8 bytes =
    let none : is_none (path_fault path) ≡ true = ap (λ (f : Option PathFault). is_none f) fine in
    let both : is_utf8 path && is_none (path_fault path) ≡ true = ap (λ b. b && is_none (path_fault path)) utf8 ∙ none in
    (((lit< tt, refl), (((path_short path fine, ((refl, bytes), both)), refl), refl)), refl)

none_before : (names : List Name) → AllByRecursion (λ y. is_behind None y ≡ true) names
none_before [] = tt
none_before (x ∷ xs) = (refl, none_before xs)

pub names_fit : (names : List Name) → AllByRecursion name_field.Fits names → IsStrictlySortedBy name_cmp names → length names < 2 ^ 64 → names_field.Fits names
unfolding names_field rising_names
names_fit names each rising few = ((u64_fits (length names) few, sorted_rising names None each (none_before names, rising)), refl)

pub ops_fit : (ops : List Op) → AllByRecursion op_field.Fits ops → length ops < 2 ^ 64 → ops_field.Fits ops
unfolding ops_field some_ops
ops_fit ops each few = ((u64_fits (length ops) few, many_fits any_op op_field ops each), refl)

pub change_fits : (change : Change) → actor_field.Fits change.actor → u64_field.Fits change.seq → names_field.Fits change.deps → ops_field.Fits change.ops
    → change_format.Fits change
unfolding change_format
change_fits change actor seq deps ops =
    ((((refl, bytes_listed (codes "TTC1") (lit< tt, (lit< tt, (lit< tt, (lit< tt, tt))))), refl), ((actor, (seq, (deps, ops))), refl)), refl)
