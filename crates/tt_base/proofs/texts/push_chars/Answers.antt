use Rattle.std.proofs.Common.{◌∙◌}
use Rattle.std.specs.Prelude.{string_bytes}
use Rattle.tt_base.proofs.TextLemmas.{encoded-more}
use Rattle.tt_base.proofs.texts.push_chars.Goals as goal

pub loop-ch-preserved : goal.loop-ch-preserved
loop-ch-preserved c =
    c.in_ok-push.ensures.bytes
    ∙ encoded-more c.args.chars.now (string_bytes c.loop-ch.string) (string_bytes c.args.string.now) c.loop-ch.ch-index c.ch-item.result c.loop-ch-test.true c.ch-item.is
    c.loop-ch.invariant
