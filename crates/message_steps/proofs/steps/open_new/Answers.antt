use Rattle.std.proofs.Common.{append-nil, refl, sym, ap, ◌∙◌}
use Rattle.delta.specs.Cells.{inserting}
use Rattle.daemon_core.specs.Refusing.{may_grow}
use Rattle.message_steps.proofs.OpenLemmas.{new_done}
use Rattle.message_steps.proofs.steps.open_new.Goals as goal

pub returns : goal.returns
returns c = λ base files view absent shows.
    new_done base files view c.args.own.now c.open.new.self c.args.path c.args.content c.in_ok-opened.opened
    (record { path = c.args.path; delta = c.in_ok-delta.delta }) c.from_vec.result absent shows c.requires
    (ap (may_grow 0) (sym c.len.ensures) ∙ c.in_ok-may_grow.ensures.ok)
    (record {
      opened_is = c.in_ok-opened.ensures;
      link = c.in_ok-link.link;
      link_is = c.in_ok-link.ensures;
      key = c.in_ok-copied.field-0;
      key_is = c.in_ok-copied.ensures;
      put = c.in_ok-open.ensures.ok;
      path_is = refl;
      delta_is = c.in_ok-delta.ensures ∙ ap inserting (append-nil c.args.content);
      unsent = c.from_vec.ensures ∙ c.new-2.ensures.items;
    })
