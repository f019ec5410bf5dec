use Rattle.std.proofs.Common.{◌≡◌, ℕ, ◌+◌, false, Some, sym, ap, ◌∙◌, subst, List, map}
use Rattle.tt_base.specs.declared.ids.Name.{Name}
use Rattle.change_codec.specs.Change.{Change}
use Rattle.change_graph.specs.Answers.{IsNext}
use Rattle.change_graph.specs.Depths.{greatest}
use Rattle.change_graph.specs.History.{History, is_held}
use Rattle.change_graph.specs.Kept.{IsKept}
use Rattle.change_graph.specs.Nodes.{NodesView, depth_in}
use Rattle.change_graph.proofs.GraphLemmas.{put_back, kept_grown, found_again}
use Rattle.change_graph.proofs.graphs.Graph.put.Goals as goal

pub invariant_of-self-in-Err : goal.invariant_of-self-in-Err
invariant_of-self-in-Err c =
    let new : is_held c.self.inside.nodes.history c.args.name ≡ false =
    (λ i. is_held (c.self.view_is i) (c.requires.named i)) ∙ c.requires.next.new in
    subst (λ (nodes : NodesView). IsKept nodes c.remove.new.self.keys) (sym c.in-Err.ensures.err)
    (put_back c.self.inside.nodes c.self.inside.heads.keys c.insert.new.self.keys c.remove.new.self.keys c.args.name c.self.invariant new
    c.in_ok-insert.ensures.updates.0 c.remove.ensures.updates.0 c.remove.ensures.ordered)

pub invariant_of-self-in-Some : goal.invariant_of-self-in-Some
invariant_of-self-in-Some c =
    let one : Some c.in-Some.held.now ≡ Some c.args.change =
    c.in-Some.ensures
    ∙ found_again c.self.inside.nodes c.insert-2.new.self c.args.name c.args.change (c.greatest_depth-depth.result + 1) c.in_default.ensures.ok in
    let held_is : c.in-Some.held.now ≡ c.args.change = cc in
    kept_grown c.self.inside.nodes c.insert-2.new.self c.self.inside.heads.keys c.insert.new.self.keys c.take_out.new.heads.keys
    c.deps-in-Some.result.now c.args.name c.args.change (c.greatest_depth-depth.result + 1) c.self.invariant
    (subst (λ (h : History). IsNext h c.args.change) (sym c.self.view_is) c.requires.next) c.requires.named
    (ap (λ (n : ℕ). n + 1)
    (c.greatest_depth-depth.ensures.value ∙ ap (λ (ns : List Name). greatest (map (depth_in c.self.inside.nodes.depths) ns)) c.deps.ensures))
    c.in_default.ensures.ok c.in_default.ensures.rising c.in_ok-insert.ensures.updates.0
    (c.deps-in-Some.ensures ∙ ap (λ (x : Change). x.deps) held_is)
    c.take_out.ensures.members (c.take_out.ensures.rising c.in_ok-insert.ensures.ordered)

pub invariant_of-self-in_default-change : goal.invariant_of-self-in_default-change
invariant_of-self-in_default-change c =
    let never = c.in_default-change.ensures
    ∙ found_again c.self.inside.nodes c.insert-2.new.self c.args.name c.args.change (c.greatest_depth-depth.result + 1) c.in_default.ensures.ok in
    cc
