use Rattle.std.proofs.Common.{◌≡◌, ◌+◌, List, [], ◌∷◌, ◌++◌, take, ap, ◌∙◌, add-one}
use Rattle.std.proofs.lemmas.List.{append-nil}
use Rattle.tt_base.specs.declared.elements.Element.{Element}
use Rattle.replica_text.specs.Effect.{text_of}
use Rattle.replica_text.proofs.TextLemmas.{shown_if, text_more}
use Rattle.replica_text.proofs.texts.visible_text.Goals as goal
use Rattle.replica_text.proofs.texts.visible_text.Goals.{then-element+in_ok-push, else-element}

pub loop-place-preserved : goal.loop-place-preserved
loop-place-preserved g c =
    let all : List Element = g.E.Elements.elements c.args.elements.now in
    let more : text_of (take (c.loop-place.place + 1) all) ≡ text_of (take c.loop-place.place all) ++ shown_if c.at-element.result.alive c.at-element.result.ch =
    ap (λ n. text_of (take n all)) (add-one c.loop-place.place) ∙ text_more all c.loop-place.place c.at-element.result c.at-element.ensures in
    elim c.if-element.branch [
      | then-element+in_ok-push w ↦
          let one : text_of (take (c.loop-place.place + 1) all) ≡ text_of (take c.loop-place.place all) ++ c.at-element.result.ch ∷ [] =
          more ∙ ap (λ b. text_of (take c.loop-place.place all) ++ shown_if b c.at-element.result.ch) w.if-element.true in
          cc (one, w.in_ok-push.ensures.items, c.loop-place.invariant)
      | else-element w ↦
          let none : text_of (take (c.loop-place.place + 1) all) ≡ text_of (take c.loop-place.place all) =
          more ∙ ap (λ b. text_of (take c.loop-place.place all) ++ shown_if b c.at-element.result.ch) w.if-element.false
          ∙ append-nil (text_of (take c.loop-place.place all)) in
          cc (none, c.loop-place.invariant)
    ]
