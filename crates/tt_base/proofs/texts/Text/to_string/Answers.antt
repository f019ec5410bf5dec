use Rattle.std.proofs.Common.{◌∙◌, ◌++◌, ap}
use Rattle.std.specs.Prelude.{string_bytes, encode_utf8_all}
use Rattle.tt_base.proofs.TextLemmas.{pages-encoded-more}
use Rattle.tt_base.proofs.texts.Text.to_string.Goals as goal

pub loop-page-preserved : goal.loop-page-preserved
loop-page-preserved c =
    let bytes = string_bytes c.loop-page.string in
    c.in_ok-push_chars.ensures
    ∙ ap (λ l. bytes ++ encode_utf8_all l) c.as_slice.ensures
    ∙ pages-encoded-more c.pages-page-items.result.now bytes c.page-item.result c.loop-page.page-index c.loop-page-test.true c.page-item.is c.loop-page.invariant
