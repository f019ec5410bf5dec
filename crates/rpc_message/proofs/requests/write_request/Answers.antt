use Rattle.std.proofs.Common.{◌≡◌, ◌≤◌, false, Some, ap, ◌∙◌, subst, sym}
use Rattle.serde_json.specs.Data.{depth}
use Rattle.serde_json.specs.Read.{max_depth}
use Rattle.serde_json.specs.View.{view}
use Rattle.serde_json.specs.Written.{has_float, compact_text}
use Rattle.rpc_message.specs.Messages.{message_of, message_in}
use Rattle.rpc_message.proofs.AgainLemmas.{request_again}
use Rattle.rpc_message.proofs.JsonLemmas.{json_of-taken}
use Rattle.rpc_message.proofs.ValueLemmas.{request_float, request_depth}
use Rattle.rpc_message.proofs.requests.write_request.Goals as goal

pub returns-clause-text : goal.returns-clause-text
returns-clause-text c =
    let is = c.in_ok-value.ensures.value in
    let no_float : has_float (view c.in_ok-value.value) ≡ false = ap has_float is ∙ request_float c.args.id c.args.message.now in
    c.from_vec.ensures ∙ c.in_ok-bytes.ensures.text no_float ∙ ap compact_text is

pub returns-clause-back : goal.returns-clause-back
returns-clause-back c =
    let is = c.in_ok-value.ensures.value in
    let shallow : depth (view c.in_ok-value.value) ≤ max_depth = subst (λ d. depth d ≤ max_depth) (sym is) (request_depth c.args.id c.args.message.now) in
    let read = json_of-taken _ _ c.in_ok-bytes.ensures.utf8 (c.in_ok-bytes.ensures.reads_back shallow) ∙ ap (λ d. Some d) is in
    ap message_of c.from_vec.ensures ∙ ap message_in read ∙ request_again c.args.id c.args.message.now c.requires c.in_ok-value.ensures.characters
