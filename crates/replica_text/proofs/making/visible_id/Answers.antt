use Rattle.std.proofs.Common.{◌≡◌, true, Some, sym, ap, ◌∙◌}
use Rattle.std.specs.Prelude.{option_map}
use Rattle.tt_base.specs.Elements.{is_alive}
use Rattle.replica_text.proofs.MadeLemmas.{visible_at}
use Rattle.replica_text.proofs.making.visible_id.Goals as goal

pub returns : goal.returns
returns g c =
    let alive : Some c.at.result.alive ≡ Some true = sym (ap (option_map is_alive) c.at.ensures) ∙ c.nth_alive.ensures.alive in
    visible_at (g.E.Elements.elements c.args.elements.now) c.nth_alive.result c.args.place c.at.result c.at.ensures (cc alive) c.nth_alive.ensures.before
