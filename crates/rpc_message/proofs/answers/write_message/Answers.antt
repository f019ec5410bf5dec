use Rattle.std.proofs.Common.{◌≡◌, ◌≤◌, false, Some, ap, ◌∙◌, subst, sym}
use Rattle.serde_json.specs.Data.{depth}
use Rattle.serde_json.specs.Read.{max_depth}
use Rattle.serde_json.specs.View.{view}
use Rattle.serde_json.specs.Written.{has_float, compact_text}
use Rattle.rpc_message.specs.Json.{json_of}
use Rattle.rpc_message.proofs.JsonLemmas.{json_of-taken}
use Rattle.rpc_message.proofs.ValueLemmas.{value_float, value_depth}
use Rattle.rpc_message.proofs.WrittenLemmas.{value_text}
use Rattle.rpc_message.proofs.answers.write_message.Goals as goal

pub returns-clause-text : goal.returns-clause-text
returns-clause-text c =
    let is = c.in_ok-value.ensures.value in
    let no_float : has_float (view c.in_ok-value.value) ≡ false = ap has_float is ∙ value_float c.args.message.now in
    c.from_vec.ensures ∙ c.in_ok-bytes.ensures.text no_float ∙ ap compact_text is ∙ value_text c.args.message.now

pub returns-clause-back : goal.returns-clause-back
returns-clause-back c = λ signed.
    let is = c.in_ok-value.ensures.value in
    let shallow : depth (view c.in_ok-value.value) ≤ max_depth = subst (λ d. depth d ≤ max_depth) (sym is) (value_depth c.args.message.now) in
    record {
      value_is = ap json_of c.from_vec.ensures ∙ json_of-taken _ _ c.in_ok-bytes.ensures.utf8 (c.in_ok-bytes.ensures.reads_back shallow) ∙ ap (λ d. Some d) is;
      is_message = c.in_ok-value.ensures.message signed;
    }
