use Rattle.std.proofs.Common.{◌≡◌, ◌++◌, true, drop, string_bytes, encode_utf8_all}
use Rattle.std.specs.Str.{all_scalars}
use Rattle.rpc_message.proofs.values.encoded.Given as goal

-- what is written, with the rest, is all; and all are scalar values if the rest are
abbrev pub invariant-loop-character : goal.invariant-loop-character
invariant-loop-character l = record {
  bytes : string_bytes l.string ++ encode_utf8_all (drop l.character-index l.characters) ≡ encode_utf8_all l.characters;
  scalars : all_scalars (drop l.character-index l.characters) ≡ true → all_scalars l.characters ≡ true;
}
