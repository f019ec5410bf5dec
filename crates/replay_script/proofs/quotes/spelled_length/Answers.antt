use Rattle.std.proofs.Common.{◌≡◌, length, true, false, Some, refl, sym, ap, ◌∙◌, arith}
use Rattle.std.specs.Prelude.{option_to_list}
use Rattle.std.proofs.lemmas.Iterator.{YieldsList-from_chars}
use Rattle.std.proofs.lemmas.Iterator.Consumers.{YieldsList-end}
use Rattle.std.proofs.lemmas.List.{map-id, length-append, length_push}
use Rattle.std.specs.Str.{chars}
use Rattle.replay_script.specs.Quotes.{place_after, given_by, is_between}
use Rattle.replay_script.specs.declared.escapes.Place.TheVariants.{Between}
use Rattle.replay_script.proofs.EscapeLemmas.{one_more, some_length, none_length}
use Rattle.replay_script.proofs.quotes.spelled_length.Goals as goal

pub loop-ch-preserved-then-is_some : goal.loop-ch-preserved-then-is_some
loop-ch-preserved-then-is_some c =
    let step = one_more c.loop-ch.yielded c.loop-ch.place c.in-Some.ch c.step-step.result c.loop-ch.invariant.place c.step-step.ensures in
    let more = some_length c.step-step.result.given (sym c.is_some.ensures ∙ c.if-is_some.true) in
    let whole = ap length step.given ∙ length-append (given_by Between c.loop-ch.yielded) (option_to_list c.step-step.result.given) in
    record {
      place = step.place;
      count = omega (arith, whole, more);
      few = omega (arith, length_push c.loop-ch.yielded c.in-Some.ch);
    }

pub loop-ch-preserved : goal.loop-ch-preserved
loop-ch-preserved c =
    let step = one_more c.loop-ch.yielded c.loop-ch.place c.in-Some.ch c.step-step.result c.loop-ch.invariant.place c.step-step.ensures in
    let more = none_length c.step-step.result.given (sym c.is_some.ensures ∙ c.if-is_some.false) in
    let whole = ap length step.given ∙ length-append (given_by Between c.loop-ch.yielded) (option_to_list c.step-step.result.given) in
    record {
      place = step.place;
      count = omega (arith, whole, more);
      few = omega (arith, length_push c.loop-ch.yielded c.in-Some.ch);
    }

pub returns-then-is_between : goal.returns-then-is_between
returns-then-is_between c =
    let ended = YieldsList-end (YieldsList-from_chars c.args.inside.now c.utf8.inside cc) c.loop-ch.yielded _ c.loop-ch.yielded_by _ _ c.in-None.is c.next.ensures.steps in
    let all : chars c.args.inside.now ≡ c.loop-ch.yielded = sym ended.0 ∙ map-id c.loop-ch.yielded in
    let between : is_between (place_after Between c.loop-ch.yielded) ≡ true = ap is_between (sym c.loop-ch.invariant.place) ∙ sym c.is_between.ensures ∙ c.if-is_between.true in
    rw (all, between) (ap Some c.loop-ch.invariant.count)

pub returns-else-is_between : goal.returns-else-is_between
returns-else-is_between c =
    let ended = YieldsList-end (YieldsList-from_chars c.args.inside.now c.utf8.inside cc) c.loop-ch.yielded _ c.loop-ch.yielded_by _ _ c.in-None.is c.next.ensures.steps in
    let all : chars c.args.inside.now ≡ c.loop-ch.yielded = sym ended.0 ∙ map-id c.loop-ch.yielded in
    let wrong : is_between (place_after Between c.loop-ch.yielded) ≡ false = ap is_between (sym c.loop-ch.invariant.place) ∙ sym c.is_between.ensures ∙ c.if-is_between.false in
    rw (all, wrong) refl
