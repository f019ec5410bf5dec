use Rattle.std.proofs.Common.{◌≡◌, ℕ, ◌+◌, ◌<◌, ◌≤◌, ◌↔◌, true, false, List, [], ◌∷◌, ◌++◌, length, map, take, drop}
use Rattle.std.proofs.Common.{get_or, Result, Ok, Err, IsOk, is_err, OnOk, sym, ap, ◌∙◌, subst, arith, append_assoc, take-append-drop, inl, inr}
use Rattle.std.proofs.lemmas.Bool.{false≢true}
use Rattle.std.specs.Prelude.{option_to_list, encode_utf8_all}
use Rattle.std.specs.Char.{encode_utf8}
use Rattle.std.proofs.lemmas.Iterator.{YieldsList-from_chars}
use Rattle.std.proofs.lemmas.Iterator.Consumers.{YieldsList-end, YieldsList-so_far, YieldsList-turn}
use Rattle.std.proofs.lemmas.List.{map-id, take_more, length-append}
use Rattle.std.proofs.lemmas.Str.{encodes-append}
use Rattle.std.specs.Str.{chars}
use Rattle.replay_script.specs.Quotes.{given_by}
use Rattle.replay_script.specs.declared.escapes.Place.TheVariants.{Between}
use Rattle.replay_script.proofs.EscapeLemmas.{append-nil, cases_lt, given_first, one_more}
use Rattle.replay_script.proofs.paths.push_unescaped.Goals as goal

-- one character more in UTF-8
encoded_more : (given : List ℕ) (c : ℕ) → encode_utf8_all (given ++ c ∷ []) ≡ encode_utf8_all given ++ encode_utf8 c
encoded_more given c = encodes-append given (c ∷ []) ∙ ap (λ t. encode_utf8_all given ++ t) (append-nil (encode_utf8 c))

ok_holds : {T E P : Type 0} (r : Result T E) → is_err r ≡ false → OnOk r P → P
ok_holds (Ok value) ok holds = holds
ok_holds (Err fault) ok holds = absurd (false≢true (sym ok))

-- what is refused has more bytes than fit
not_fitting : {E : Type 0} (r : Result (Unit {0}) E) (bytes : ℕ) → is_err r ≡ true → (IsOk r ↔ (bytes ≤ 1024)) → 1024 < bytes
not_fitting (Ok value) bytes err variant = absurd (false≢true err)
not_fitting (Err fault) bytes err variant =
    elim (cases_lt 1024 bytes) [ inl more ↦ more | inr fits ↦ absurd (false≢true (variant.1 fits)) ]

-- the characters so far, this one and those behind it are all
whole : (all yielded : List ℕ) (c : ℕ) → (map (λ x. x) yielded ≡ take (length yielded) all) × ((length yielded < length all) × (c ≡ get_or all (length yielded) c))
    → (yielded ++ c ∷ []) ++ drop (length yielded + 1) all ≡ all
whole all yielded c (so_far, turn) =
    let front : take (length yielded + 1) all ≡ yielded ++ c ∷ [] =
    take_more all (length yielded) c turn.0 ∙ ap (λ t. t ++ get_or all (length yielded) c ∷ []) (sym so_far ∙ map-id yielded) ∙ ap (λ d. yielded ++ d ∷ []) (sym turn.1) in
    ap (λ t. t ++ drop (length yielded + 1) all) (sym front) ∙ take-append-drop (length yielded + 1) all

no_room : (old now all yielded : List ℕ) (c given : ℕ) → now ≡ old ++ encode_utf8_all (given_by Between yielded) → given_by Between (yielded ++ c ∷ []) ≡ given_by Between yielded ++ given ∷ []
    → (map (λ x. x) yielded ≡ take (length yielded) all) × ((length yielded < length all) × (c ≡ get_or all (length yielded) c))
    → 1024 < length now + length (encode_utf8 given) → 1024 < length old + length (encode_utf8_all (given_by Between all))
no_room old now all yielded c given bytes more road full =
    let first = given_first (yielded ++ c ∷ []) (drop (length yielded + 1) all) in
    let rest : length (encode_utf8_all (given_by Between (yielded ++ c ∷ []))) ≤ length (encode_utf8_all (given_by Between all)) =
    subst (λ (t : List ℕ). length (encode_utf8_all (given_by Between (yielded ++ c ∷ []))) ≤ length (encode_utf8_all (given_by Between t))) (whole all yielded c road) first in
    let step = ap length (ap encode_utf8_all more ∙ encoded_more (given_by Between yielded) given) ∙ length-append (encode_utf8_all (given_by Between yielded)) (encode_utf8 given) in
    let before = ap length bytes ∙ length-append old (encode_utf8_all (given_by Between yielded)) in
    omega (arith, rest, step, before, full)

pub returns-then-is_err-clause-too_long : goal.returns-then-is_err-clause-too_long
returns-then-is_err-clause-too_long c =
    let road = YieldsList-from_chars c.args.inside.now c.utf8.inside cc in
    let yielded = c.loop-ch.yielded in
    let so_far = YieldsList-so_far road yielded _ c.loop-ch.yielded_by in
    let turn = YieldsList-turn road yielded _ c.loop-ch.yielded_by _ _ c.in-Some.ch c.in-Some.is c.next.ensures.steps in
    let step = one_more yielded c.loop-ch.place c.in-Some.ch c.step-step.result c.loop-ch.invariant.place c.step-step.ensures in
    let given : given_by Between (yielded ++ c.in-Some.ch ∷ []) ≡ given_by Between yielded ++ c.in-Some-given.given ∷ [] =
    step.given ∙ ap (λ o. given_by Between yielded ++ option_to_list o) c.in-Some-given.is in
    let full = not_fitting c.try_push.result (length c.loop-ch.path.bytes + length (encode_utf8 c.in-Some-given.given)) (sym c.is_err.ensures.value ∙ c.if-is_err.true) c.try_push.ensures.variant in
    no_room c.args.path.now.bytes c.loop-ch.path.bytes (chars c.args.inside.now) yielded c.in-Some.ch c.in-Some-given.given c.loop-ch.invariant.bytes given (so_far, turn) full

pub loop-ch-preserved-else-is_err : goal.loop-ch-preserved-else-is_err
loop-ch-preserved-else-is_err c =
    let step = one_more c.loop-ch.yielded c.loop-ch.place c.in-Some.ch c.step-step.result c.loop-ch.invariant.place c.step-step.ensures in
    let before = given_by Between c.loop-ch.yielded in
    record {
      place = step.place;
      bytes =
          ok_holds c.try_push.result (sym c.is_err.ensures.value ∙ c.if-is_err.false) c.try_push.ensures.ok
          ∙ ap (λ t. t ++ encode_utf8 c.in-Some-given.given) c.loop-ch.invariant.bytes
          ∙ append_assoc c.args.path.now.bytes (encode_utf8_all before) (encode_utf8 c.in-Some-given.given)
          ∙ ap (λ t. c.args.path.now.bytes ++ t) (sym (ap encode_utf8_all (step.given ∙ ap (λ o. before ++ option_to_list o) c.in-Some-given.is) ∙ encoded_more before c.in-Some-given.given));
    }

pub loop-ch-preserved : goal.loop-ch-preserved
loop-ch-preserved c =
    let step = one_more c.loop-ch.yielded c.loop-ch.place c.in-Some.ch c.step-step.result c.loop-ch.invariant.place c.step-step.ensures in
    let before = given_by Between c.loop-ch.yielded in
    let same = step.given ∙ ap (λ o. before ++ option_to_list o) c.in_default.is ∙ append-nil before in
    record {
      place = step.place;
      bytes = c.loop-ch.invariant.bytes ∙ ap (λ t. c.args.path.now.bytes ++ encode_utf8_all t) (sym same);
    }

pub returns-clause-added : goal.returns-clause-added
returns-clause-added c =
    let ended = YieldsList-end (YieldsList-from_chars c.args.inside.now c.utf8.inside cc) c.loop-ch.yielded _ c.loop-ch.yielded_by _ _ c.in-None.is c.next.ensures.steps in
    let all : chars c.args.inside.now ≡ c.loop-ch.yielded = sym ended.0 ∙ map-id c.loop-ch.yielded in
    rw all c.loop-ch.invariant.bytes
