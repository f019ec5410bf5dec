use Rattle.std.proofs.Common.{◌≡◌, ◌++◌, true, false, is_some, None, sym, ap, ◌∙◌, string_bytes}
use Rattle.kept_world.specs.Events.{KeptPlayed}
use Rattle.kept_world.specs.Worlds.{editor_of}
use Rattle.daemon_world.proofs.SettleLemmas.{still_there, settled_so}
use Rattle.daemon_world.proofs.machine.Machine.settle.Goals as goal

pub unreachable-requires-in_default-editor : goal.unreachable-requires-in_default-editor
unreachable-requires-in_default-editor c =
    let p : KeptPlayed = record { world = c.up_times.new.self; printed = string_bytes c.in_ok-printed.printed } in
    let gone : editor_of c.up_times.new.self c.args.e ≡ None = sym c.in_default-editor.ensures in
    let both : false ≡ true =
    ap is_some (sym gone) ∙ still_there c.args.e c.args.e c.up_len-up.result c.args.self.now p c.in_ok-printed.ensures ∙ ap is_some (sym c.in-Some.ensures) in cc

pub returns : goal.returns
returns c =
    let up : KeptPlayed = record { world = c.up_times.new.self; printed = string_bytes c.in_ok-printed.printed } in
    let down : KeptPlayed = record { world = c.down_times.new.self; printed = string_bytes c.in_ok-lines.lines } in
    settled_so c.args.self.now c.args.e c.up_len-up.result c.down_len-down.result c.in-Some.editor.now c.in-Some-editor.editor.now up down (string_bytes c.push_str.new.self)
    (sym c.in-Some.ensures) c.requires c.up_len-up.ensures c.in_ok-printed.ensures (sym c.in-Some-editor.ensures) c.down_len-down.ensures c.in_ok-lines.ensures
    (c.in_ok-push_str.ensures.bytes ∙ ap (λ s. string_bytes c.in_ok-printed.printed ++ s) c.as_str.ensures.value)
