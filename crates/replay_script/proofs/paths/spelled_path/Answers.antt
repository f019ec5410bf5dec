use Rattle.std.proofs.Common.{◌++◌, ap, ◌∙◌, sym}
use Rattle.std.specs.Prelude.{encode_utf8_all}
use Rattle.std.specs.Str.{chars}
use Rattle.replay_script.specs.Quotes.{given_by}
use Rattle.replay_script.specs.declared.escapes.Place.TheVariants.{Between}
use Rattle.replay_script.proofs.Repeated.{repeated_bytes, too_long}
use Rattle.replay_script.proofs.paths.spelled_path.Goals as goal

pub returns-then-not-push_unescaped : goal.returns-then-not-push_unescaped
returns-then-not-push_unescaped c =
    let once = given_by Between (chars c.args.spelling.inside.now) in
    too_long 1024 c.loop-time.time c.args.spelling.times once c.loop-time.path.bytes c.loop-time-test.true c.loop-time.invariant c.if-not-push_unescaped.ensures.too_long

pub loop-time-preserved : goal.loop-time-preserved
loop-time-preserved c =
    let once = given_by Between (chars c.args.spelling.inside.now) in
    c.if-not-push_unescaped.ensures.added ∙ ap (λ t. t ++ encode_utf8_all once) c.loop-time.invariant ∙ sym (repeated_bytes c.loop-time.time once)
