use Rattle.std.proofs.Common.{◌≡◌, true, false, ap, ◌∙◌, sym}
use Rattle.serde_json.specs.View.{view}
use Rattle.rpc_message.specs.Answers.{value}
use Rattle.rpc_message.specs.Json.{json_of}
use Rattle.rpc_message.proofs.AgainLemmas.{some_is, candidate_is}
use Rattle.rpc_message.proofs.replies.read_reply.Goals as goal

pub returns-in_default-clause-only : goal.returns-in_default-clause-only
returns-in_default-clause-only c = λ message is.
    let found = candidate_is (json_of c.args.body.now) (view c.in_ok-value.value) message c.in_ok-value.ensures.value is.is_message is.value_is in
    absurd (c.in_default.not-Some message (c.in_ok-message.ensures.reply ∙ found))

pub returns-then-branch-clause-only : goal.returns-then-branch-clause-only
returns-then-branch-clause-only c = λ message is.
    let found = candidate_is (json_of c.args.body.now) (view c.in_ok-value.value) message c.in_ok-value.ensures.value is.is_message is.value_is in
    some_is c.in_ok-message.field-0 _ _ c.in-Some.is (c.in_ok-message.ensures.reply ∙ found)

pub returns-clause-only : goal.returns-clause-only
returns-clause-only c = λ message is.
    let found = candidate_is (json_of c.args.body.now) (view c.in_ok-value.value) message c.in_ok-value.ensures.value is.is_message is.value_is in
    let it = some_is c.in_ok-message.field-0 _ _ c.in-Some.is (c.in_ok-message.ensures.reply ∙ found) in
    let has = some_is (json_of c.args.body.now) _ _ c.in_ok-value.ensures.value is.value_is ∙ ap value (sym it) in
    let never : false ≡ true = sym c.if-branch.false ∙ c.in_ok-is_value_of.ensures.same.1 has in
    cc
