-- A run of calls, call by call: what holds of each image at each moment so far.
use Rattle.std.proofs.Common.{ℕ, ◌≤◌, List, inl, inr, arith}
use Rattle.outside.specs.DiskMeaning.{DiskMeaning, IsSound}
use Rattle.outside.specs.DiskCalls.{Elapses}
use Rattle.outside.specs.Moments.{LeavesNow, LeavesOnly}

-- before the first call there is this moment alone
pub started : (disk : DiskMeaning) (P : List ℕ → Type 0) → IsSound disk → LeavesNow disk P → LeavesOnly disk disk P
started disk P sound now = record {
  later = omega arith;
  each = λ image left. now image (sound.only_now image left);
  before = λ t image early left. inl left;
}

-- one call more, after which each image has P too
pub goes_on : (first old new : DiskMeaning) (P : List ℕ → Type 0) → LeavesOnly first old P → Elapses old new → LeavesNow new P → LeavesOnly first new P
goes_on first old new P so_far call now =
    let old_or_P = λ (t : ℕ) (image : List ℕ) (early : t ≤ first.moment) (left : new.since t image). call.nothing_else t image (omega (arith, so_far.later)) left in
    record {
      later = omega (arith, so_far.later, call.later);
      each = λ image left. elim (old_or_P first.moment image (omega arith) left) [ inl before ↦ so_far.each image before | inr after ↦ now image after ];
      before = λ t image early left. elim (old_or_P t image early left) [ inl before ↦ so_far.before t image early before | inr after ↦ inr (now image after) ];
    }

-- one run more
pub then_run : (first old new : DiskMeaning) (P Q R : List ℕ → Type 0) → LeavesOnly first old P → LeavesOnly old new Q → ((image : List ℕ) → P image → R image) → ((image : List ℕ) → Q image → R image) → LeavesOnly first new R
then_run first old new P Q R one two from_P from_Q =
    let one_or_Q = λ (t : ℕ) (image : List ℕ) (early : t ≤ first.moment) (left : new.since t image). two.before t image (omega (arith, one.later)) left in
    record {
      later = omega (arith, one.later, two.later);
      each = λ image left. elim (one_or_Q first.moment image (omega arith) left) [ inl before ↦ from_P image (one.each image before) | inr has ↦ from_Q image has ];
      before = λ t image early left. elim (one_or_Q t image early left) [
        | inl earlier ↦ elim (one.before t image early earlier) [ inl before ↦ inl before | inr has ↦ inr (from_P image has) ]
        | inr has ↦ inr (from_Q image has)
      ];
    }
