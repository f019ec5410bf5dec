use Rattle.std.proofs.Common.{sym, ap, ◌∙◌, ◌++◌, [], ◌∷◌}
use Rattle.kept_world.specs.Events.{fed_line}
use Rattle.daemon_world.specs.Serving.{told}
use Rattle.daemon_world.proofs.SendingLemmas.{told_nothing, told_more, lines_more}
use Rattle.daemon_world.proofs.machine.Machine.send_all.Goals as goal

pub loop-output-init : goal.loop-output-init
loop-output-init c = record { editors = sym (told_nothing c.args.self.now c.args.d); printed = c.new-printed.ensures.bytes }

pub loop-output-preserved : goal.loop-output-preserved
loop-output-preserved c = record {
  editors =
      c.in_ok-send.ensures.editors
      ∙ ap (λ v. told v c.args.d (c.in-Some.output ∷ [])) c.loop-output.invariant.editors
      ∙ told_more c.args.self.now c.args.d c.loop-output.yielded (c.in-Some.output ∷ []);
  printed =
      c.in_ok-send.ensures.printed
      ∙ ap (λ lines. lines ++ fed_line c.args.d c.in-Some.output) c.loop-output.invariant.printed
      ∙ sym (lines_more c.args.d c.loop-output.yielded c.in-Some.output);
}
