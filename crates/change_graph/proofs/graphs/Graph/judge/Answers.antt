use Rattle.std.proofs.Common.{rules, ◌≡◌, true, ap, ◌∙◌, subst}
use Rattle.change_graph.specs.Answers.{IsBad, IsNext}
use Rattle.change_graph.specs.History.{History, is_held, name_of}
use Rattle.change_graph.specs.Walk.{is_known}
use Rattle.change_graph.proofs.GraphLemmas.{none_are_missing, closure_known}
use Rattle.change_graph.proofs.graphs.Graph.judge.Goals as goal

pub returns-clause-ok : goal.returns-clause-ok
returns-clause-ok c =
    let empty : c.is_empty.result ≡ true = search rules in
    let surveyed = rw c.in-None.is at c.in_ok-fault.ensures in
    subst (λ (h : History). IsNext h c.args.change.now) c.self.view_is
    (record {
      new = ap (λ (h : History). is_held h (name_of c.args.change.now)) c.self.view_is ∙ c.requires;
      ready = none_are_missing c.self.inside.nodes.history c.in_ok-lacking.lacking c.deps.result.now c.args.change.now.deps c.is_empty.result
          c.in_ok-lacking.ensures c.deps.ensures c.is_empty.ensures empty;
      accepted = record {
        known = is_known c.self.inside.nodes c.in_ok-outside.outside.keys;
        knows = closure_known c.self.inside.nodes c.args.self.now c.self.inside.heads.keys c.in_ok-heads.heads c.as_slice.result.now c.deps-2.result.now
            c.in_ok-outside.outside.keys c.args.change.now c.self.view_is c.self.invariant c.in_ok-heads.ensures c.as_slice.ensures
            c.in_ok-outside.ensures c.deps-2.ensures;
        none = surveyed;
      };
    })

pub returns-in-Some-clause-fault : goal.returns-in-Some-clause-fault
returns-in-Some-clause-fault c =
    let empty : c.is_empty.result ≡ true = search rules in
    let surveyed = rw c.in-Some.is at c.in_ok-fault.ensures in
    subst (λ (h : History). IsBad h c.args.change.now c.in-Some.fault.place c.in-Some.fault.cause) c.self.view_is
    (record {
      new = ap (λ (h : History). is_held h (name_of c.args.change.now)) c.self.view_is ∙ c.requires;
      ready = none_are_missing c.self.inside.nodes.history c.in_ok-lacking.lacking c.deps.result.now c.args.change.now.deps c.is_empty.result
          c.in_ok-lacking.ensures c.deps.ensures c.is_empty.ensures empty;
      first = record {
        known = is_known c.self.inside.nodes c.in_ok-outside.outside.keys;
        knows = closure_known c.self.inside.nodes c.args.self.now c.self.inside.heads.keys c.in_ok-heads.heads c.as_slice.result.now c.deps-2.result.now
            c.in_ok-outside.outside.keys c.args.change.now c.self.view_is c.self.invariant c.in_ok-heads.ensures c.as_slice.ensures
            c.in_ok-outside.ensures c.deps-2.ensures;
        here = surveyed.here;
        none_before = surveyed.none_before;
      };
    })
