-- A body that the parser takes is its value, and one that it refuses has none.
use Rattle.std.proofs.Common.{◌≡◌, ℕ, List, Some, None, refl, inl, inr}
use Rattle.std.proofs.lemmas.Bool.{cases_Bool}
use Rattle.std.proofs.lemmas.Str.{is_utf8-from_IsUtf8, IsUtf8-from_is_utf8}
use Rattle.std.specs.Prelude.{IsUtf8}
use Rattle.std.specs.Str.{is_utf8}
use Rattle.serde_json.specs.Data.{Data}
use Rattle.serde_json.specs.Read.{read}
use Rattle.rpc_message.specs.Json.{json_of}

pub json_of-taken : (body : List ℕ) (d : Data) → IsUtf8 body → read body ≡ Some d → json_of body ≡ Some d
json_of-taken body d utf8 taken = rw (is_utf8-from_IsUtf8 body utf8) taken

pub json_of-refused : (body : List ℕ) → (IsUtf8 body → read body ≡ None) → json_of body ≡ None
json_of-refused body none = elim (cases_Bool (is_utf8 body)) [
  | inl utf8 ↦ rw utf8 (none (IsUtf8-from_is_utf8 body utf8))
  | inr other ↦ rw other refl
]
