use Rattle.std.proofs.Common.{◌≡◌, true, false, ap, sym, ◌∙◌, inr}
use Rattle.std.proofs.lemmas.Str.{is_utf8-from_IsUtf8}
use Rattle.serde_json.specs.Read.{read}
use Rattle.rpc_message.proofs.JsonLemmas.{json_of-taken, json_of-refused}
use Rattle.rpc_message.proofs.bodies.value_of.Goals as goal

pub returns-in-Err-clause-none : goal.returns-in-Err-clause-none
returns-in-Err-clause-none c = inr (c.no_json.ensures, json_of-refused c.args.body.now (λ utf8. absurd (c.in-Err.ensures utf8)))

pub returns-in-Ok-from_str-clause-value : goal.returns-in-Ok-from_str-clause-value
returns-in-Ok-from_str-clause-value c =
    json_of-taken c.args.body.now _ c.in-Ok.ensures.1 (ap read (sym c.in-Ok.ensures.0) ∙ c.in-Ok-from_str.ensures.ok)

pub returns-in-Ok-from_str-clause-text : goal.returns-in-Ok-from_str-clause-text
returns-in-Ok-from_str-clause-text c = is_utf8-from_IsUtf8 c.args.body.now c.in-Ok.ensures.1

pub returns-in-Ok-from_str-clause-no_text : goal.returns-in-Ok-from_str-clause-no_text
returns-in-Ok-from_str-clause-no_text c = λ none.
    let never : true ≡ false = sym (is_utf8-from_IsUtf8 c.args.body.now c.in-Ok.ensures.1) ∙ none in
    cc

pub returns-then-is_memory-clause-no_text : goal.returns-then-is_memory-clause-no_text
returns-then-is_memory-clause-no_text c = λ none.
    let never : true ≡ false = sym (is_utf8-from_IsUtf8 c.args.body.now c.in-Ok.ensures.1) ∙ none in
    cc
