use Rattle.std.proofs.Common.{◌≡◌, length}
use Rattle.std.specs.Prelude.{nat_eq}
use Rattle.std.specs.Cmp.Lexicographic.{pointwise}
use Rattle.tt_base.proofs.texts.TextPartialEq.eq.Given as goal

-- the rests of two texts of one length are equal where the texts are
abbrev pub invariant-loop-these : goal.invariant-loop-these
invariant-loop-these l = record {
  rests : pointwise nat_eq l.these l.those ≡ pointwise nat_eq l.self l.other;
  length : length l.these ≡ length l.those;
}

abbrev pub decreases-loop-these : goal.decreases-loop-these
decreases-loop-these l = length l.these
