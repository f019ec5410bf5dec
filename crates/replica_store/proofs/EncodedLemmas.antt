-- A change that is well formed has an encoding.
use Rattle.std.proofs.Common.{◌≡◌, inl, inr, ℕ, zero, suc, ◌+◌, ◌/◌, ◌%◌, ◌<◌, ◌≤◌, Bool, true, false, cond, ◌&&◌, refl, sym, ap, ◌∙◌, subst, List, [], ◌∷◌, ◌++◌, length, get_or, None, lit<, arith}
use Rattle.std.specs.Prelude.{encode_utf8_all, codes, ltb}
use lib.Utf8
use Rattle.std.specs.Str.{chars, IsUtf8, all_scalars}
use Rattle.std.specs.List.{All, AllByRecursion}
use Rattle.std.specs.List.Sorted.{IsStrictlySortedBy}
use Rattle.std.proofs.lemmas.Bool.{ltb-true, lt-ltb}
use Rattle.std.proofs.lemmas.List.Elements.{All-head, All-tail}
use Rattle.std.proofs.lemmas.Str.{is_utf8-from_IsUtf8, chars-encodes}
use Rattle.tt_base.specs.Ids.{name_cmp}
use Rattle.tt_base.specs.declared.ids.Name.{Name}
use Rattle.tt_base.specs.declared.ids.Actor.{Actor}
use Rattle.byte_format.specs.Format.{IsBytes}
use Rattle.byte_format.specs.Lists.{chain}
use Rattle.byte_format.specs.Values.{u64_field, count_field, actor_field, name_field, is_behind, rising_names, names_field, path_field, text_field}
use Rattle.change_codec.specs.Change.{Change}
use Rattle.change_codec.specs.Encoding.{ref_field, parent_field, op_field, any_op, some_ops, ops_field, change_format}
use Rattle.change_codec.specs.WellFormed.{FitsField, IsActor, IsName, IsRef, IsParent, IsPath, IsInsertedText, IsOp, IsWellFormed}
use Rattle.change_codec.specs.declared.ops.Ref.{Ref}
use Rattle.change_codec.specs.declared.ops.Ref.TheVariants.{Here, There}
use Rattle.change_codec.specs.declared.ops.Parent.{Parent}
use Rattle.change_codec.specs.declared.ops.Parent.TheVariants.{Root, After}
use Rattle.change_codec.specs.declared.ops.Op.{Op}
use Rattle.change_codec.specs.declared.ops.Op.TheVariants.{Make, Remove, Insert, Delete}
use Rattle.change_codec.proofs.RisingNames.{sorted_rising}
use Rattle.journal_format.proofs.Fits.{path_fits, short_path}

-- ---- bytes of characters

bytes-append : (xs ys : List ℕ) → IsBytes xs → IsBytes ys → IsBytes (xs ++ ys)
bytes-append [] ys one other = other
bytes-append (x ∷ xs) ys one other = λ i. by (bytes-append xs ys (λ j. one (suc j)) other) i where
  by : IsBytes (xs ++ ys) → (i : ℕ) → get_or ((x ∷ xs) ++ ys) i 0 < 256
  by rest zero = one 0
  by rest (suc i) = rest i

one_byte : (a : ℕ) → a < 256 → IsBytes (a ∷ [])
one_byte a lt = λ i. by i where
  by : (i : ℕ) → get_or (a ∷ []) i 0 < 256
  by zero = lt
  by (suc i) = omega arith

byte_more : (a : ℕ) (rest : List ℕ) → a < 256 → IsBytes rest → IsBytes (a ∷ rest)
byte_more a rest lt bytes = bytes-append (a ∷ []) rest (one_byte a lt) bytes

next_small : (n : ℕ) → 128 + n % 64 < 256
next_small n = omega arith

character_bytes : (c : ℕ) → lib.Utf8.scalar c ≡ true → IsBytes (lib.Utf8.encode c)
unfolding lib.Utf8.encode
character_bytes c is = short (ltb c 128) refl where
  small : c < 1114112
  small = elim (lib.Utf8.scalar_cases c is) [ inl low ↦ omega (arith, low) | inr both ↦ both.1 ]

  long : (b : Bool) → ltb c 65536 ≡ b
      → IsBytes (cond b ((224 + c / 4096) ∷ (128 + c / 64 % 64) ∷ (128 + c % 64) ∷ []) ((240 + c / 262144) ∷ (128 + c / 4096 % 64) ∷ (128 + c / 64 % 64) ∷ (128 + c % 64) ∷ []))
  long true is =
      let lt : c < 65536 = ltb-true c 65536 is in
      byte_more (224 + c / 4096) ((128 + c / 64 % 64) ∷ (128 + c % 64) ∷ []) (omega (arith, lt))
      (byte_more (128 + c / 64 % 64) ((128 + c % 64) ∷ []) (next_small (c / 64)) (one_byte (128 + c % 64) (next_small c)))
  long false is =
      let lt : c < 1114112 = small in
      byte_more (240 + c / 262144) ((128 + c / 4096 % 64) ∷ (128 + c / 64 % 64) ∷ (128 + c % 64) ∷ []) (omega (arith, lt))
      (byte_more (128 + c / 4096 % 64) ((128 + c / 64 % 64) ∷ (128 + c % 64) ∷ []) (next_small (c / 4096))
      (byte_more (128 + c / 64 % 64) ((128 + c % 64) ∷ []) (next_small (c / 64)) (one_byte (128 + c % 64) (next_small c))))

  two : (b : Bool) → ltb c 2048 ≡ b
      → IsBytes (cond b ((192 + c / 64) ∷ (128 + c % 64) ∷ [])
      (cond (ltb c 65536) ((224 + c / 4096) ∷ (128 + c / 64 % 64) ∷ (128 + c % 64) ∷ []) ((240 + c / 262144) ∷ (128 + c / 4096 % 64) ∷ (128 + c / 64 % 64) ∷ (128 + c % 64) ∷ [])))
  two true is =
      let lt : c < 2048 = ltb-true c 2048 is in
      byte_more (192 + c / 64) ((128 + c % 64) ∷ []) (omega (arith, lt)) (one_byte (128 + c % 64) (next_small c))
  two false is = long (ltb c 65536) refl

  short : (b : Bool) → ltb c 128 ≡ b
      → IsBytes (cond b (c ∷ []) (cond (ltb c 2048) ((192 + c / 64) ∷ (128 + c % 64) ∷ [])
      (cond (ltb c 65536) ((224 + c / 4096) ∷ (128 + c / 64 % 64) ∷ (128 + c % 64) ∷ []) ((240 + c / 262144) ∷ (128 + c / 4096 % 64) ∷ (128 + c / 64 % 64) ∷ (128 + c % 64) ∷ []))))
  short true is = let lt : c < 128 = ltb-true c 128 is in one_byte c (omega (arith, lt))
  short false is = two (ltb c 2048) refl

and_parts : (a b : Bool) → (a && b) ≡ true → (a ≡ true) × (b ≡ true)
and_parts true b is = (refl, is)
and_parts false b is = cc

pub text_bytes : (text : List ℕ) → all_scalars text ≡ true → IsBytes (encode_utf8_all text)
text_bytes [] is = λ i. by i where
  by : (i : ℕ) → get_or [] i 0 < 256
  by zero = omega arith
  by (suc i) = omega arith
text_bytes (c ∷ text) is =
    let both = and_parts (lib.Utf8.scalar c) (all_scalars text) is in
    bytes-append (lib.Utf8.encode c) (encode_utf8_all text) (character_bytes c both.0) (text_bytes text both.1)

utf8_bytes : (bytes : List ℕ) → IsUtf8 bytes → IsBytes bytes
utf8_bytes bytes is = subst IsBytes is.1.1 (text_bytes is.0 is.1.0)

-- ---- fields

u64_fits : (n : ℕ) → FitsField n → u64_field.Fits n
unfolding u64_field
u64_fits n fits = fits

count_fits : (n : ℕ) → 1 ≤ n → FitsField n → count_field.Fits n
unfolding count_field
count_fits n some fits = (u64_fits n fits, lt-ltb 0 n (omega (arith, some)))

actor_fits : (actor : Actor) → IsActor actor → actor_field.Fits actor
unfolding actor_field
actor_fits actor is = ((is.long, is.bytes), refl)

name_fits : (name : Name) → IsName name → name_field.Fits name
unfolding name_field
name_fits name is = ((is.long, is.bytes), refl)

ref_fits : (place : Ref) → IsRef place → ref_field.Fits place
unfolding ref_field
ref_fits (Here index) is = (((lit< tt, refl), (u64_fits index is, refl)), refl)
ref_fits (There name index) is = (((lit< tt, refl), ((name_fits name is.0, u64_fits index is.1), refl)), refl)

parent_fits : (parent : Parent) → IsParent parent → parent_field.Fits parent
unfolding parent_field
parent_fits Root is = (((lit< tt, refl), refl), refl)
parent_fits (After place) is = (((lit< tt, refl), (ref_fits place is, refl)), refl)

some_bytes : (text : List ℕ) → 0 < length text → all_scalars text ≡ true → 1 ≤ length (encode_utf8_all text)
some_bytes text some is = by (encode_utf8_all text) refl where
  by : (bytes : List ℕ) → encode_utf8_all text ≡ bytes → 1 ≤ length (encode_utf8_all text)
  by [] none =
      let back : text ≡ [] = sym (chars-encodes text is) ∙ ap chars none ∙ no_chars in
      let long : length text ≡ 0 = ap length back in absurd (omega (arith, some, long)) where
        no_chars : chars [] ≡ []
        no_chars = chars-encodes [] refl
  by (b ∷ bytes) are = let long : length (encode_utf8_all text) ≡ suc (length bytes) = ap length are in omega (arith, long)

text_fits : (text : List ℕ) → IsInsertedText text → text_field.Fits text
unfolding text_field
text_fits text is = (
  (
    (
      count_fits (length (encode_utf8_all text)) (some_bytes text is.some is.characters) is.short,
      ((refl, text_bytes text is.characters), is_utf8-from_IsUtf8 (encode_utf8_all text) (text, (is.characters, refl))),
    ),
    refl,
  ),
  chars-encodes text is.characters,
)

shared_fits : (path : List ℕ) → IsPath path → path_field.Fits path
shared_fits path is = path_fits path (utf8_bytes path is.utf8) (is_utf8-from_IsUtf8 path is.utf8) is.rules (short_path path is.rules)

op_fits : (op : Op) → IsOp op → op_field.Fits op
unfolding op_field
op_fits (Make path) is = (((lit< tt, refl), (shared_fits path is, refl)), refl)
op_fits (Remove object) is = (((lit< tt, refl), (ref_fits object is, refl)), refl)
op_fits (Insert object parent text) is =
    (((lit< tt, refl), ((ref_fits object is.object_is, (parent_fits parent is.parent_is, text_fits text is.text_is)), refl)), refl)
op_fits (Delete object first count) is =
    (((lit< tt, refl), ((ref_fits object is.object_is, (ref_fits first is.first_is, count_fits count is.some is.count_fits)), refl)), refl)

-- ---- lists and changes

each_name : (names : List Name) → All IsName names → AllByRecursion name_field.Fits names
each_name [] all = tt
each_name (n ∷ ns) all = (name_fits n (All-head IsName n ns all), each_name ns (All-tail IsName n ns all))

behind_none : (names : List Name) → AllByRecursion (λ y. is_behind None y ≡ true) names
behind_none [] = tt
behind_none (n ∷ ns) = (refl, behind_none ns)

names_fit : (names : List Name) → All IsName names → IsStrictlySortedBy name_cmp names → FitsField (length names) → names_field.Fits names
unfolding names_field rising_names
names_fit names all rising few =
    ((u64_fits (length names) few, sorted_rising names None (each_name names all) (behind_none names, rising)), refl)

each_op : (ops : List Op) → All IsOp ops → (chain any_op (λ (state : ℕ). op_field) (λ state op. state) 0 (length ops)).Fits ops
each_op [] all = refl
each_op (op ∷ ops) all = ((op_fits op (All-head IsOp op ops all), each_op ops (All-tail IsOp op ops all)), refl)

ops_fit : (ops : List Op) → All IsOp ops → FitsField (length ops) → ops_field.Fits ops
unfolding ops_field some_ops
ops_fit ops all few = ((u64_fits (length ops) few, each_op ops all), refl)

mark_bytes : IsBytes (codes "TTC1")
unfolding lib.Utf8.encode
mark_bytes = text_bytes (codes "TTC1") refl

-- what is well formed has an encoding
pub well_formed_fits : (change : Change) → IsWellFormed change → change_format.Fits change
unfolding change_format
well_formed_fits change is = (
  (
    ((refl, mark_bytes), refl),
    (
      (
        actor_fits change.actor is.actor_is,
        (u64_fits change.seq is.seq_fits, (names_fit change.deps is.names is.rising is.deps_fit, ops_fit change.ops is.ops_are is.ops_fit)),
      ),
      refl,
    ),
  ),
  refl,
)
