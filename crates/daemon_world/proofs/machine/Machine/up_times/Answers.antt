use Rattle.std.proofs.Common.{◌≡◌, sym, ap, ◌∙◌, ◌++◌, ◌+◌, ◌≤◌, refl, subst, string_bytes, arith}
use Rattle.kept_world.specs.Events.{KeptPlayed}
use Rattle.kept_world.specs.Moves.{GoesUp, IsUp, has_up}
use Rattle.kept_world.specs.Worlds.{KeptWorld, editor_of}
use Rattle.daemon_world.proofs.SettleLemmas.{none_printed, again_printed, no_more}
use Rattle.daemon_world.proofs.machine.Machine.up_times.Goals as goal

pub loop-init : goal.loop-init
loop-init c =
    none_printed (λ (v : KeptWorld). IsUp v c.args.e) (λ (v : KeptWorld). has_up (editor_of v c.args.e)) c.args.self.now (string_bytes c.new-printed.result)
    c.new-printed.ensures.bytes

pub loop-preserved : goal.loop-preserved
loop-preserved c =
    let so_far : KeptPlayed = record { world = c.loop.self; printed = string_bytes c.loop.printed } in
    let next : KeptPlayed = record { world = c.up.new.self; printed = string_bytes c.in_ok-lines.lines } in
    again_printed (λ (v : KeptWorld). IsUp v c.args.e) (λ (v : KeptWorld). has_up (editor_of v c.args.e)) c.loop.counter (c.loop.counter + 1) c.args.self.now
    so_far next (string_bytes c.push_str.new.self) c.loop.invariant (sym c.has_up.ensures ∙ c.if-not-has_up.false) c.in_ok-lines.ensures refl
    (c.in_ok-push_str.ensures.bytes ∙ ap (λ s. string_bytes c.loop.printed ++ s) c.as_str.ensures.value)

pub returns : goal.returns
returns c =
    let all : c.loop.counter ≡ c.args.times = omega (arith, c.loop-test.false, c.loop.auto.counter-end) in
    subst (λ n. GoesUp c.args.e n c.args.self.now (record { world = c.loop.self; printed = string_bytes c.loop.printed })) all c.loop.invariant

pub returns-then-not-has_up : goal.returns-then-not-has_up
returns-then-not-has_up c =
    let so_far : KeptPlayed = record { world = c.loop.self; printed = string_bytes c.loop.printed } in
    let few : c.loop.counter ≤ c.args.times = omega (arith, c.loop-test.true) in
    no_more (λ (v : KeptWorld). IsUp v c.args.e) (λ (v : KeptWorld). has_up (editor_of v c.args.e)) c.loop.counter c.args.times c.args.self.now so_far
    c.loop.invariant (sym c.has_up.ensures ∙ c.if-not-has_up.true) few
