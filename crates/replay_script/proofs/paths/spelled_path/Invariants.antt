use Rattle.std.proofs.Common.{◌≡◌}
use Rattle.std.specs.Prelude.{encode_utf8_all}
use Rattle.std.specs.Str.{chars}
use Rattle.std.specs.List.{repeat}
use Rattle.replay_script.specs.Quotes.{given_by}
use Rattle.replay_script.specs.declared.escapes.Place.TheVariants.{Between}
use Rattle.replay_script.proofs.paths.spelled_path.Given as goal

abbrev pub invariant-loop-time : goal.invariant-loop-time
invariant-loop-time l = l.path.bytes ≡ encode_utf8_all (repeat l.time (given_by Between (chars l.spelling.inside.now)))
