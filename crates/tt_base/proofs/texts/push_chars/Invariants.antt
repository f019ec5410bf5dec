use Rattle.std.proofs.Common.{◌≡◌, ◌++◌, take}
use Rattle.std.specs.Prelude.{string_bytes, encode_utf8_all}
use Rattle.tt_base.proofs.texts.push_chars.Given as goal

abbrev pub invariant-loop-ch : goal.invariant-loop-ch
invariant-loop-ch l = string_bytes l.string ≡ string_bytes l.fn.string ++ encode_utf8_all (take l.ch-index l.chars)
