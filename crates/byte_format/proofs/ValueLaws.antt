-- The formats of the plain values are lawful.
use Rattle.std.proofs.Common.{◌≡◌, ℕ, ◌^◌, List, ◌++◌, length, Option, None, refl, ap, sym, ◌∙◌, append_assoc, arith}
use Rattle.std.specs.Prelude.{encode_utf8_all}
use Rattle.std.specs.Int.{w16, w64}
use Rattle.std.specs.Str.{chars, is_utf8}
use Rattle.std.specs.List.{flat_map}
use Rattle.std.proofs.lemmas.Nat.{be_bytes_2, be_bytes_8, from_be_bytes-to_be_bytes_2, from_be_bytes-to_be_bytes_8}
use Rattle.std.proofs.lemmas.Str.{encodes-chars, IsUtf8-from_is_utf8}
use Rattle.tt_base.specs.declared.ids.Name.{Name}
use Rattle.byte_format.specs.Format.{Order, Path, Utf8, Zero}
use Rattle.byte_format.specs.Fields.{taking}
use Rattle.byte_format.specs.Lists.{sized, just}
use Rattle.byte_format.specs.Values.{u16_field, u64_field, is_positive, count_field, actor_field, name_field, is_behind, next_name, any_name, rising_names, names_field, is_path, path_field, text_field}
use Rattle.byte_format.proofs.Lawful.{Lawful}
use Rattle.byte_format.proofs.FieldLaws.{taking_lawful, IsWide, number_lawful}
use Rattle.byte_format.proofs.PartLaws.{seen_as_lawful, checked_lawful}
use Rattle.byte_format.proofs.ListLaws.{counted_lawful, sized_lawful, chain_lawful, chain_long, chain_spelled}

pub wide_16 : IsWide w16 (2 ^ 16)
wide_16 = record {
  len = λ n. refl;
  back = λ bytes len fits. be_bytes_2 bytes _ len fits refl;
  again = λ n below. from_be_bytes-to_be_bytes_2 n below;
  below = λ bytes fits. omega (arith, fits 0, fits 1);
}

pub wide_64 : IsWide w64 (2 ^ 64)
wide_64 = record {
  len = λ n. refl;
  back = λ bytes len fits. be_bytes_8 bytes _ len fits refl;
  again = λ n below. from_be_bytes-to_be_bytes_8 n below;
  below = λ bytes fits. omega (arith, fits 0, fits 1, fits 2, fits 3, fits 4, fits 5, fits 6, fits 7);
}

pub u16_lawful : Lawful u16_field
unfolding u16_field
u16_lawful = number_lawful w16 (2 ^ 16) wide_16

pub u64_lawful : Lawful u64_field
unfolding u64_field
u64_lawful = number_lawful w64 (2 ^ 64) wide_64

pub count_lawful : Lawful count_field
unfolding count_field
count_lawful = checked_lawful is_positive Zero u64_field u64_lawful

pub actor_lawful : Lawful actor_field
unfolding actor_field
actor_lawful = seen_as_lawful (λ bytes. record { 0 = bytes }) (λ a. a.0) (taking 16) (taking_lawful 16) (λ a fits. refl)

pub name_lawful : Lawful name_field
unfolding name_field
name_lawful = seen_as_lawful (λ bytes. record { 0 = bytes }) (λ n. n.0) (taking 32) (taking_lawful 32) (λ n fits. refl)

pub rising_lawful : (n : ℕ) (before : Option Name) → Lawful (rising_names before n)
unfolding rising_names
rising_lawful n before = chain_lawful any_name next_name just (λ b. checked_lawful (is_behind b) Order name_field name_lawful) n before

rising_long : (n : ℕ) (names : List Name) → (rising_names None n).Fits names → length names ≡ n
unfolding rising_names
rising_long n names fits = chain_long any_name next_name just n None names fits

pub names_lawful : Lawful names_field
unfolding names_field
names_lawful = counted_lawful u64_field (rising_names None) u64_lawful (λ n. rising_lawful n None) rising_long

pub path_lawful : Lawful path_field
unfolding path_field
path_lawful = sized_lawful u16_field is_path Path u16_lawful

pub text_lawful : Lawful text_field
unfolding text_field
text_lawful = seen_as_lawful chars encode_utf8_all (sized count_field is_utf8 Utf8) (sized_lawful count_field is_utf8 Utf8 count_lawful)
    (λ bytes fits. encodes-chars bytes (IsUtf8-from_is_utf8 bytes fits.0.1.1))

-- names are spelled as their number, and then one behind the other
pub names_spelled : (names : List Name) → names_field.spelled names ≡ u64_field.spelled (length names) ++ flat_map name_field.spelled names
unfolding names_field rising_names
names_spelled names = ap (λ (rest : List ℕ). u64_field.spelled (length names) ++ rest) (chain_spelled any_name next_name just name_field.spelled (λ s n. refl) names None)

-- what the two writers write, one behind the other
pub names_written : (names : List Name) (front counted whole : List ℕ) → counted ≡ front ++ u64_field.spelled (length names)
    → whole ≡ counted ++ flat_map name_field.spelled names → whole ≡ front ++ names_field.spelled names
names_written names front counted whole first second =
    second ∙ ap (λ (l : List ℕ). l ++ flat_map name_field.spelled names) first
    ∙ append_assoc front (u64_field.spelled (length names)) (flat_map name_field.spelled names)
    ∙ ap (λ (l : List ℕ). front ++ l) (sym (names_spelled names))
