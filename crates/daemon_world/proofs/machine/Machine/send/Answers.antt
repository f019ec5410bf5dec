use Rattle.std.proofs.Common.{◌≡◌, [], ◌∷◌, sym, ap, subst}
use Rattle.std.proofs.lemmas.Result.{on_ok_weaker}
use Rattle.daemon_core.specs.declared.events.Output.{Output}
use Rattle.frame_world.specs.Serving.{frame_to}
use Rattle.daemon_world.specs.Serving.{told}
use Rattle.daemon_world.proofs.SendingLemmas.{told_without_frame, told_to_nobody}
use Rattle.daemon_world.proofs.machine.Machine.send.Goals as goal

pub returns-then-n-lt-FIRST_OWN-clause-editors : goal.returns-then-n-lt-FIRST_OWN-clause-editors
returns-then-n-lt-FIRST_OWN-clause-editors c =
    let same : c.args.self.now ≡ told c.args.self.now c.args.d (c.args.output ∷ []) =
    subst (λ (o : Output). c.args.self.now ≡ told c.args.self.now c.args.d (o ∷ [])) (sym c.in-Send.is)
    (sym (told_to_nobody c.args.self.now c.args.d c.in-Send.n c.in-Send.frame (c.settled.ensures c.args.d c.in-Send.n c.if-n-lt-FIRST_OWN.true).nobody)) in
    on_ok_weaker c.push_told.result (λ e. same) c.push_told.ensures

pub returns-in-HangUp-clause-editors : goal.returns-in-HangUp-clause-editors
returns-in-HangUp-clause-editors c = sym (told_without_frame c.args.self.now c.args.d c.args.output (λ n. ap (frame_to n) c.in-HangUp.is))

pub returns-in-Notice-clause-editors : goal.returns-in-Notice-clause-editors
returns-in-Notice-clause-editors c = sym (told_without_frame c.args.self.now c.args.d c.args.output (λ n. ap (frame_to n) c.in-Notice.is))

pub returns-clause-editors : goal.returns-clause-editors
returns-clause-editors c = sym (told_without_frame c.args.self.now c.args.d c.args.output (λ n. ap (frame_to n) c.in-Shutdown.is))
