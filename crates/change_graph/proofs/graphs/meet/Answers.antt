use Rattle.std.proofs.Common.{refl, ◌∙◌, sym}
use Rattle.std.proofs.lemmas.Bool.Decides.{Decides-eqb}
use Rattle.std.proofs.lemmas.Slice.Eq.{slice_eq-Decides}
use Rattle.change_graph.proofs.GraphLemmas.{same_change}
use Rattle.change_graph.proofs.graphs.meet.Goals as goal

pub returns-then-eq-clause-note : goal.returns-then-eq-clause-note
returns-then-eq-clause-note c = (
  refl,
  same_change c.in_ok-kept.kept c.args.given c.args.held.now c.args.change.now c.in_ok-kept.ensures c.requires
      (sym c.as_slice.ensures ∙ (slice_eq-Decides Decides-eqb _ _ _ c.eq.ensures).0 c.if-eq.true ∙ c.as_slice-2.ensures),
)
