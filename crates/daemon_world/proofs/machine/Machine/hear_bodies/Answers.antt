use Rattle.std.proofs.Common.{◌≡◌, [], false, Option, Some, None, is_some, refl, sym, ap, ◌∙◌, string_bytes, ◌++◌}
use Rattle.std.specs.Option.{option_copied}
use Rattle.std.proofs.lemmas.List.{nil_from_length}
use Rattle.std.specs.Vec.Iter.{into_iter_items}
use Rattle.kept_world.specs.Worlds.{running}
use Rattle.daemon_world.proofs.FedLemmas.{hears_step, hears_all, hears_stopped}
use Rattle.daemon_world.proofs.machine.Machine.hear_bodies.Goals as goal
use Rattle.daemon_world.proofs.machine.Machine.hear_bodies.Goals.{in-None, in-Some+then-is_none}

pub loop-body-preserved : goal.loop-body-preserved
loop-body-preserved c =
    hears_step c.args.d c.args.c c.args.bodies (into_iter_items c.loop-body.body-iterator) (into_iter_items c.next.new.self) c.in-Some.body c.args.self.now
    c.loop-body.self c.handle.new.self (string_bytes c.loop-body.printed) (string_bytes c.push_str.new.self) (string_bytes c.in_ok-lines.lines)
    c.in-Some.ensures.steps.0
    (c.in_ok-push_str.ensures.bytes ∙ ap (λ lines. string_bytes c.loop-body.printed ++ lines) c.as_str.ensures.value)
    c.in_ok-lines.ensures c.loop-body.invariant

nothing : {A : Type 0} (found : Option A) → is_some found ≡ false → found ≡ None
nothing None is = refl
nothing (Some x) is = cc

pub returns : goal.returns
returns c = elim c.match-next.branch [
  | in-None w ↦
      let none : into_iter_items c.loop-body.body-iterator ≡ [] =
      nil_from_length (into_iter_items c.loop-body.body-iterator) (sym c.loop-body.body-iterator.rest.ok.0 ∙ w.in-None.ensures.steps.0) in
      hears_all c.args.d c.args.c c.args.bodies (into_iter_items c.loop-body.body-iterator) c.args.self.now c.loop-body.self (string_bytes c.loop-body.printed) none
      c.loop-body.invariant
  | in-Some+then-is_none w ↦
      let stopped : running c.loop-body.self c.args.d ≡ None =
      sym w.host.ensures ∙ ap option_copied (nothing w.host.result w.if-is_none.ensures) in
      hears_stopped c.args.d c.args.c c.args.bodies (into_iter_items c.loop-body.body-iterator) (into_iter_items c.next.new.self) w.in-Some.body c.args.self.now
      c.loop-body.self (string_bytes c.loop-body.printed) w.in-Some.ensures.steps.0 stopped c.loop-body.invariant
]
