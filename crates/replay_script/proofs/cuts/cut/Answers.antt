use Rattle.std.proofs.Common.{sym, ap, ◌∙◌, arith}
use Rattle.std.proofs.lemmas.Str.{IsCharBoundary-before_ascii, IsCharBoundary-after_ascii}
use Rattle.replay_script.specs.Cut.{space_place}
use Rattle.replay_script.specs.declared.cuts.Quoting.TheVariants.{Outside}
use Rattle.replay_script.proofs.Spaces.{found_space}
use Rattle.replay_script.proofs.cuts.cut.Goals as goal

pub range-requires-clause-end_boundary : goal.range-requires-clause-end_boundary
range-requires-clause-end_boundary c =
    let found = found_space Outside c.args.text.now c.in_ok-place.place (sym (ap (space_place Outside) c.as_bytes.ensures.value) ∙ sym c.space_place.ensures ∙ c.in_ok-place.was) in
    IsCharBoundary-before_ascii c.args.text.now c.in_ok-place.place found.0 (omega (arith, found.1))

pub range_from-requires : goal.range_from-requires
range_from-requires c = λ _.
    let found = found_space Outside c.args.text.now c.in_ok-place.place (sym (ap (space_place Outside) c.as_bytes.ensures.value) ∙ sym c.space_place.ensures ∙ c.in_ok-place.was) in
    IsCharBoundary-after_ascii c.args.text.now c.in_ok-place.place c.utf8.text found.0 (omega (arith, found.1))
