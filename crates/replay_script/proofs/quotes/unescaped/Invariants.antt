use Rattle.std.proofs.Common.{◌≡◌}
use Rattle.replay_script.specs.Quotes.{place_after, given_by}
use Rattle.replay_script.specs.declared.escapes.Place.TheVariants.{Between}
use Rattle.replay_script.proofs.quotes.unescaped.Given as goal

abbrev pub invariant-loop-ch : goal.invariant-loop-ch
invariant-loop-ch l = record {
  place : l.place ≡ place_after Between l.yielded;
  text : l.text.items ≡ given_by Between l.yielded;
}
