-- The loop ended at the end of the text, so all of it is read.
use Rattle.std.proofs.Common.{◌++◌, ap, ◌∙◌, sym, append-nil}
use Rattle.percent_encoding.specs.Percent.{percent_decode}
use Rattle.percent_encoding.proofs.PercentLemmas.{percent_decode-nil}
use Rattle.url.proofs.InputLemmas.{is_empty-nil}
use Rattle.file_uri.specs.PlainUri.{is_plain_text}
use Rattle.file_uri.proofs.plain.decode_plain.Goals as goal

pub returns : goal.returns
returns c =
    let rest = is_empty-nil c.loop-byte.rest.now (sym c.if-not-is_empty.ensures) in
    let bytes = c.loop-byte.bytes.items in
    let all_read = ap (λ l. bytes ++ percent_decode l) rest ∙ ap (λ l. bytes ++ l) percent_decode-nil ∙ append-nil bytes in
    (sym c.loop-byte.invariant.1 ∙ ap is_plain_text rest, sym all_read ∙ c.loop-byte.invariant.0)
