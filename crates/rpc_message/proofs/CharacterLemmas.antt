-- The characters of a string that was written, and of one that is read.
use Rattle.std.proofs.Common.{◌≡◌, ℕ, true, List, Option, Some, encode_utf8_all, option_and_then, refl, sym, ap, ◌∙◌}
use Rattle.std.proofs.lemmas.Str.{chars-encodes, is_utf8-from_IsUtf8}
use Rattle.std.specs.Str.{IsUtf8, all_scalars, chars}
use Rattle.rpc_message.specs.Forms.{characters}

-- the bytes of UTF-8 spell these
pub characters_are : (bytes : List ℕ) → IsUtf8 bytes → characters bytes ≡ Some (chars bytes)
characters_are bytes is = rw (is_utf8-from_IsUtf8 bytes is) refl

-- characters that are written are read again
pub characters_again : (cs : List ℕ) → all_scalars cs ≡ true → characters (encode_utf8_all cs) ≡ Some cs
characters_again cs is = characters_are (encode_utf8_all cs) (cs, (is, refl)) ∙ ap Some (chars-encodes cs is)

-- a string that is read, as its characters
pub characters_read : (found : Option (List ℕ)) (bytes cs : List ℕ) → found ≡ Some bytes → IsUtf8 bytes → cs ≡ chars bytes
    → Some cs ≡ option_and_then characters found
characters_read found bytes cs there is read = ap Some read ∙ sym (ap (option_and_then characters) there ∙ characters_are bytes is)
