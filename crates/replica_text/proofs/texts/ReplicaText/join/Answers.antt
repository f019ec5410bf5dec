use Rattle.std.proofs.Common.{◌≡◌, List, subst, ap, ◌∙◌}
use Rattle.delta.specs.Cells.{Cells, applied}
use Rattle.tt_base.specs.declared.elements.Element.{Element}
use Rattle.replica_text.specs.Ops.{after_ops, all_known_after}
use Rattle.replica_text.specs.Effect.{text_of}
use Rattle.replica_text.specs.Joined.{Joins}
use Rattle.replica_text.proofs.CutLemmas.{if_ok}
use Rattle.replica_text.proofs.LeadLemmas.{effect_leads}
use Rattle.replica_text.proofs.texts.ReplicaText.join.Goals as goal

pub returns-clause-leads : goal.returns-clause-leads
returns-clause-leads g c =
    let old : List Element = g.E.Elements.elements c.self.inside.elements in
    let new : List Element = g.E.Elements.elements c.join_all.new.elements in
    if_ok (Joins (after_ops c.args.ops.now) (all_known_after c.args.ops.now) old new) (λ d. applied d (text_of c.args.self.now) ≡ text_of new) c.join_all.result
    (λ d h. subst (λ (l : List Element). applied d (text_of l) ≡ text_of new) c.self.view_is
    (ap (λ (x : Cells). applied x (text_of old)) h.is_effect ∙ effect_leads old new (g.met.E.Elements.distinct c.self.inside.elements) h.grows))
    c.join_all.ensures
