use Rattle.std.proofs.Common.{sym, ◌∙◌}
use Rattle.bridge_world.proofs.RoomLemmas.{first_fits, linked_alone, linked_by_push}
use Rattle.bridge_world.proofs.editors.Editor.begin.Goals as goal

pub push-requires-clause-fits : goal.push-requires-clause-fits
push-requires-clause-fits c =
    first_fits c.args.session c.args.content c.args.view.now c.len-length.result c.in_ok-first.first c.in_ok-held.held c.in_ok-first.ensures c.len-length.ensures c.in_ok-held.ensures

pub returns : goal.returns
returns c =
    linked_by_push c.args.session c.args.content c.args.view.now c.len-length.result c.in_ok-first.first c.in_ok-held.held c.args.self.now _ c.push.new.self c.push.result
    (c.self.view_is ∙ c.in_ok-answer.ensures) c.in_ok-held.ensures c.in_ok-first.ensures c.len-length.ensures (sym c.if-has_view.ensures) c.push.ensures

pub returns-then-has_view : goal.returns-then-has_view
returns-then-has_view c =
    linked_alone c.args.session c.args.content c.args.view.now c.in_ok-held.held c.args.self.now _ (c.self.view_is ∙ c.in_ok-answer.ensures) c.in_ok-held.ensures (sym c.if-has_view.ensures)
