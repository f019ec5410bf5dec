use Rattle.std.proofs.Common.{◌∙◌, ◌++◌, ap}
use Rattle.std.specs.Prelude.{string_bytes}
use Rattle.replay_script.proofs.EscapeLemmas.{as_written, page_written}
use Rattle.replay_script.proofs.written.push_pages.Goals as goal

pub loop-page-preserved : goal.loop-page-preserved
loop-page-preserved c =
    let bytes = string_bytes c.loop-page.out in
    c.in_ok-push_run.ensures
    ∙ ap (λ l. bytes ++ as_written l) c.as_slice.ensures
    ∙ page_written c.pages-page-items.result.now bytes (string_bytes c.args.out.now) c.page-item.result c.loop-page.page-index c.loop-page-test.true c.page-item.is c.loop-page.invariant
