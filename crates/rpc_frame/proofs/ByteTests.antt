-- What the tests of one byte say of each other.
use Rattle.std.proofs.Common.{◌≡◌, ℕ, ◌==◌, true, false, arith}
use Rattle.std.proofs.lemmas.Bool.Decides.{nat_tests}
use Rattle.std.specs.Char.{is_ascii_digit}
use Rattle.rpc_frame.specs.Header.{is_name_byte, is_value_byte, is_blank}

pub blank_is_no_digit : (b : ℕ) → is_blank b ≡ true → is_ascii_digit b ≡ false
blank_is_no_digit b h = grind (arith, nat_tests)

pub blank_is_value_byte : (b : ℕ) → is_blank b ≡ true → is_value_byte b ≡ true
blank_is_value_byte b h = grind (arith, nat_tests)

pub digit_is_value_byte : (b : ℕ) → is_ascii_digit b ≡ true → is_value_byte b ≡ true
digit_is_value_byte b h = grind (arith, nat_tests)

pub value_byte-is : (b : ℕ) → (b == 13) ≡ false → (b == 10) ≡ false → is_value_byte b ≡ true
value_byte-is b h k = grind (arith, nat_tests)

pub name_byte_is_no_colon : (b : ℕ) → is_name_byte b ≡ true → (b == 58) ≡ false
name_byte_is_no_colon b h = grind (arith, nat_tests)

pub name_byte_is_no_return : (b : ℕ) → is_name_byte b ≡ true → (b == 13) ≡ false
name_byte_is_no_return b h = grind (arith, nat_tests)

pub value_byte_is_no_return : (b : ℕ) → is_value_byte b ≡ true → (b == 13) ≡ false
value_byte_is_no_return b h = grind (arith, nat_tests)

pub value_byte_is_no_feed : (b : ℕ) → is_value_byte b ≡ true → (b == 10) ≡ false
value_byte_is_no_feed b h = grind (arith, nat_tests)

pub digit_is_no_blank : (b : ℕ) → is_ascii_digit b ≡ true → is_blank b ≡ false
digit_is_no_blank b h = grind (arith, nat_tests)
