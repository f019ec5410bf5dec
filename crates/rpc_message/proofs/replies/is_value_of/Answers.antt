use Rattle.std.proofs.Common.{◌≡◌, ap, ◌∙◌, sym}
use Rattle.std.proofs.lemmas.Bool.Decides.{Decides-eqb}
use Rattle.std.proofs.lemmas.Slice.Eq.{slice_eq-Decides}
use Rattle.serde_json.specs.View.{view}
use Rattle.serde_json.specs.Written.{has_float, compact_text}
use Rattle.rpc_message.specs.Json.{json_of}
use Rattle.rpc_message.proofs.AgainLemmas.{some_is}
use Rattle.rpc_message.proofs.JsonLemmas.{json_of-taken}
use Rattle.rpc_message.proofs.ValueLemmas.{value_float}
use Rattle.rpc_message.proofs.WrittenLemmas.{value_text}
use Rattle.rpc_message.proofs.replies.is_value_of.Goals as goal

-- two values are one where their bytes are: the bytes are read as the value, and written for it
pub returns-clause-same : goal.returns-clause-same
returns-clause-same c =
    let read = json_of-taken c.in_ok-bytes.bytes.items (view c.args.json.now) c.in_ok-bytes.ensures.utf8 (c.in_ok-bytes.ensures.reads_back c.requires.nests) in
    let back = (c.in_ok-expected.ensures.back c.requires.signed).value_is in
    let decides = slice_eq-Decides Decides-eqb _ _ _ c.eq-is.ensures in (
      λ same.
          let bytes : c.in_ok-bytes.bytes.items ≡ c.in_ok-expected.expected = sym c.as_slice.ensures.value ∙ decides.0 same ∙ c.as_slice-2.ensures in
          some_is _ _ _ read (ap json_of bytes ∙ back),
      λ same.
          let no_float = ap has_float same ∙ value_float c.args.message.now in
          let bytes : c.in_ok-bytes.bytes.items ≡ c.in_ok-expected.expected =
          c.in_ok-bytes.ensures.text no_float ∙ ap compact_text same ∙ value_text c.args.message.now ∙ sym c.in_ok-expected.ensures.text in
          decides.1 (c.as_slice.ensures.value ∙ bytes ∙ sym c.as_slice-2.ensures),
    )
