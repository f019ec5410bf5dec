use Rattle.std.proofs.Common.{◌≡◌, ◌++◌}
use Rattle.std.specs.Prelude.{encode_utf8_all}
use Rattle.replay_script.specs.Quotes.{place_after, given_by}
use Rattle.replay_script.specs.declared.escapes.Place.TheVariants.{Between}
use Rattle.replay_script.proofs.paths.push_unescaped.Given as goal

abbrev pub invariant-loop-ch : goal.invariant-loop-ch
invariant-loop-ch l = record {
  place : l.place ≡ place_after Between l.yielded;
  bytes : l.path.bytes ≡ l.initial.path.bytes ++ encode_utf8_all (given_by Between l.yielded);
}
