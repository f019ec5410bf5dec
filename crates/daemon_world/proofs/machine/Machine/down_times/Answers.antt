use Rattle.std.proofs.Common.{◌≡◌, sym, ap, ◌∙◌, ◌++◌, ◌+◌, ◌≤◌, refl, subst, string_bytes, arith}
use Rattle.kept_world.specs.Events.{KeptPlayed}
use Rattle.kept_world.specs.Moves.{GoesDown, IsDown, has_down}
use Rattle.kept_world.specs.Worlds.{KeptWorld, editor_of}
use Rattle.daemon_world.proofs.SettleLemmas.{none_printed, again_printed, no_more}
use Rattle.daemon_world.proofs.machine.Machine.down_times.Goals as goal

pub loop-init : goal.loop-init
loop-init c =
    none_printed (λ (v : KeptWorld). IsDown v c.args.e) (λ (v : KeptWorld). has_down (editor_of v c.args.e)) c.args.self.now (string_bytes c.new-printed.result)
    c.new-printed.ensures.bytes

pub loop-preserved : goal.loop-preserved
loop-preserved c =
    let so_far : KeptPlayed = record { world = c.loop.self; printed = string_bytes c.loop.printed } in
    let next : KeptPlayed = record { world = c.down.new.self; printed = string_bytes c.in_ok-lines.lines } in
    again_printed (λ (v : KeptWorld). IsDown v c.args.e) (λ (v : KeptWorld). has_down (editor_of v c.args.e)) c.loop.counter (c.loop.counter + 1) c.args.self.now
    so_far next (string_bytes c.push_str.new.self) c.loop.invariant (sym c.has_down.ensures ∙ c.if-not-has_down.false) c.in_ok-lines.ensures refl
    (c.in_ok-push_str.ensures.bytes ∙ ap (λ s. string_bytes c.loop.printed ++ s) c.as_str.ensures.value)

pub returns : goal.returns
returns c =
    let all : c.loop.counter ≡ c.args.times = omega (arith, c.loop-test.false, c.loop.auto.counter-end) in
    subst (λ n. GoesDown c.args.e n c.args.self.now (record { world = c.loop.self; printed = string_bytes c.loop.printed })) all c.loop.invariant

pub returns-then-not-has_down : goal.returns-then-not-has_down
returns-then-not-has_down c =
    let so_far : KeptPlayed = record { world = c.loop.self; printed = string_bytes c.loop.printed } in
    let few : c.loop.counter ≤ c.args.times = omega (arith, c.loop-test.true) in
    no_more (λ (v : KeptWorld). IsDown v c.args.e) (λ (v : KeptWorld). has_down (editor_of v c.args.e)) c.loop.counter c.args.times c.args.self.now so_far
    c.loop.invariant (sym c.has_down.ensures ∙ c.if-not-has_down.true) few
