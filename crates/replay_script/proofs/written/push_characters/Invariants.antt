use Rattle.std.proofs.Common.{◌≡◌, ◌++◌, string_bytes}
use Rattle.std.specs.Prelude.{encode_utf8_all}
use Rattle.std.specs.List.{flat_map}
use Rattle.replay_script.specs.Texts.{escaped}
use Rattle.replay_script.proofs.written.push_characters.Given as goal

abbrev pub invariant-loop-ch : goal.invariant-loop-ch
invariant-loop-ch l = string_bytes l.out ≡ string_bytes l.initial.out ++ encode_utf8_all (flat_map escaped l.yielded)
