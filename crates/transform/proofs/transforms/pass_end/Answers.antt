use Rattle.std.proofs.Common.{◌≡◌, false, sym, ap, ◌∙◌}
use Rattle.std.proofs.lemmas.Result.{on_ok_weaker}
use Rattle.delta.specs.Cells.{base_length, joined, nothing}
use Rattle.transform.specs.Carried.{editor_text}
use Rattle.transform.proofs.WalkLemmas.{part_text_fits, nothing_left, end_text}
use Rattle.transform.proofs.transforms.pass_end.Goals as goal

pub pass_editor_text-requires : goal.pass_editor_text-requires
pass_editor_text-requires c =
    part_text_fits c.args.side false c.in-Insert.n 0 (base_length c.args.built.now) c.in_ok-last-in-Insert.last c.args.editor.now (sym c.in-Insert.ensures.next) c.in_ok-last-in-Insert.ensures c.requires.fits

pub returns-in_ok-last-in-Insert : goal.returns-in_ok-last-in-Insert
returns-in_ok-last-in-Insert c =
    let last = end_text c.args.side c.args.editor.now c.in-Insert.n c.in_ok-last-in-Insert.last (sym c.in-Insert.ensures.next) c.in-Insert.ensures.canonical c.requires.short c.in_ok-last-in-Insert.ensures in
    on_ok_weaker c.pass_editor_text.result
    (λ (built : c.pass_editor_text.new.built ≡ joined c.args.built.now (editor_text c.args.side c.in_ok-last-in-Insert.last nothing)). built ∙ ap (joined c.args.built.now) last) c.pass_editor_text.ensures

pub returns-in_default : goal.returns-in_default
returns-in_default c =
    nothing_left c.args.side c.args.editor.now c.next.ensures.canonical c.requires.short (λ n is. c.in_default.not-Insert n (c.next.ensures.next ∙ is)) c.args.built.now
