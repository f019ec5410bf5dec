use Rattle.std.proofs.Common.{[], ◌∷◌, ◌++◌, sym, ap, ◌∙◌, ◌≡◌}
use Rattle.std.specs.Prelude.{option_to_list}
use Rattle.std.proofs.lemmas.Iterator.{YieldsList-from_chars}
use Rattle.std.proofs.lemmas.Iterator.Consumers.{YieldsList-end}
use Rattle.std.proofs.lemmas.List.{append-nil, map-id}
use Rattle.std.specs.Str.{chars}
use Rattle.replay_script.specs.Quotes.{given_by}
use Rattle.replay_script.specs.declared.escapes.Place.TheVariants.{Between}
use Rattle.replay_script.proofs.EscapeLemmas.{one_more}
use Rattle.replay_script.proofs.quotes.unescaped.Goals as goal

pub loop-ch-preserved-in-Continue-1 : goal.loop-ch-preserved-in-Continue-1
loop-ch-preserved-in-Continue-1 c =
    let step = one_more c.loop-ch.yielded c.loop-ch.place c.in-Some.ch c.step-step.result c.loop-ch.invariant.place c.step-step.ensures in
    let before = given_by Between c.loop-ch.yielded in
    record {
      place = step.place;
      text =
          c.in_ok-push.ensures.items
          ∙ ap (λ t. t ++ c.in-Some-given.given ∷ []) c.loop-ch.invariant.text
          ∙ sym (step.given ∙ ap (λ o. before ++ option_to_list o) c.in-Some-given.is);
    }

pub loop-ch-preserved : goal.loop-ch-preserved
loop-ch-preserved c =
    let step = one_more c.loop-ch.yielded c.loop-ch.place c.in-Some.ch c.step-step.result c.loop-ch.invariant.place c.step-step.ensures in
    let before = given_by Between c.loop-ch.yielded in
    let same = step.given ∙ ap (λ o. before ++ option_to_list o) c.in_default.is ∙ append-nil before in
    record { place = step.place; text = c.loop-ch.invariant.text ∙ sym same }

pub returns : goal.returns
returns c =
    let ended = YieldsList-end (YieldsList-from_chars c.args.inside.now c.utf8.inside cc) c.loop-ch.yielded _ c.loop-ch.yielded_by _ _ c.in-None.is c.next.ensures.steps in
    let all : chars c.args.inside.now ≡ c.loop-ch.yielded = sym ended.0 ∙ map-id c.loop-ch.yielded in
    rw all c.loop-ch.invariant.text
