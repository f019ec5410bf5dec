-- A list of bytes that is no UTF-8 fails the test.
use Rattle.std.proofs.Common.{◌≡◌, ℕ, List, false, inl, inr}
use Rattle.std.specs.Str.{IsUtf8, is_utf8}
use Rattle.std.proofs.lemmas.Bool.{cases_Bool}
use Rattle.std.proofs.lemmas.Str.{IsUtf8-from_is_utf8}

pub fails_utf8 : (bytes : List ℕ) → (IsUtf8 bytes → ⊥) → is_utf8 bytes ≡ false
fails_utf8 bytes none = elim (cases_Bool (is_utf8 bytes)) [
  | inl passed ↦ absurd (none (IsUtf8-from_is_utf8 bytes passed))
  | inr failed ↦ failed
]
