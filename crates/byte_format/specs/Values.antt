-- The formats of the plain values that changes, frames of peers and the journal have in common.
use Rattle.std.specs.Prelude.{ℕ, ◌^◌, ◌&&◌, Bool, true, List, [], Option, Some, None, nat_lt, is_none, encode_utf8_all}
use Rattle.std.specs.Int.{w16, w64}
use Rattle.std.specs.Str.{chars, is_utf8}
use Rattle.std.specs.Ordering.{is_lt}
use Rattle.tt_base.specs.Path.{path_fault}
use Rattle.tt_base.specs.Ids.{name_cmp}
use Rattle.tt_base.specs.declared.ids.Name.{Name}
use Rattle.tt_base.specs.declared.ids.Actor.{Actor}
use Rattle.byte_format.specs.Format.{Order, Path, Utf8, Zero, Format}
use Rattle.byte_format.specs.Fields.{taking, number}
use Rattle.byte_format.specs.Parts.{seen_as, checked}
use Rattle.byte_format.specs.Lists.{counted, sized, chain, just}

-- a number of 2 bytes
unfoldable pub u16_field : Format ℕ
u16_field = number w16 (2 ^ 16)

-- a number of 8 bytes
unfoldable pub u64_field : Format ℕ
u64_field = number w64 (2 ^ 64)

abbrev pub is_positive : ℕ → Bool
is_positive n = nat_lt 0 n

-- a number of 8 bytes, at least 1
unfoldable pub count_field : Format ℕ
count_field = checked is_positive Zero u64_field

-- an actor's 16 bytes
unfoldable pub actor_field : Format Actor
actor_field = seen_as (λ bytes. record { 0 = bytes }) (λ a. a.0) (taking 16)

-- a name's 32 bytes
unfoldable pub name_field : Format Name
name_field = seen_as (λ bytes. record { 0 = bytes }) (λ n. n.0) (taking 32)

-- the name is greater than the one before it, if there is one
abbrev pub is_behind : Option Name → Name → Bool
is_behind None name = true
is_behind (Some before) name = is_lt (name_cmp before name)

-- the next of strictly rising names
abbrev pub next_name : Option Name → Format Name
next_name before = checked (is_behind before) Order name_field

abbrev pub any_name : Name
any_name = record { 0 = [] }

-- so many names, strictly rising
unfoldable pub rising_names : Option Name → ℕ → Format (List Name)
rising_names before n = chain any_name next_name just before n

-- the number of names, and then they, strictly rising
unfoldable pub names_field : Format (List Name)
names_field = counted u64_field (rising_names None)

-- UTF-8 of a shared path
abbrev pub is_path : List ℕ → Bool
is_path bytes = is_utf8 bytes && is_none (path_fault bytes)

-- a shared path behind its length of 2 bytes
unfoldable pub path_field : Format (List ℕ)
path_field = sized u16_field is_path Path

-- a text of one character or more, in UTF-8 behind its length in bytes
unfoldable pub text_field : Format (List ℕ)
text_field = seen_as chars encode_utf8_all (sized count_field is_utf8 Utf8)
