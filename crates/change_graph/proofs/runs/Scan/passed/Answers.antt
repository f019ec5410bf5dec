use Rattle.std.proofs.Common.{ap, sym, ◌∙◌, ◌++◌, replicate, Option}
use Rattle.change_codec.specs.declared.ops.Ref.{Ref}
use Rattle.change_graph.specs.Runs.{thing_in, told}
use Rattle.change_graph.proofs.RunLemmas.{told_over, told_objects, told_characters}
use Rattle.change_graph.proofs.runs.Scan.passed.Goals as goal

pub returns-then-stretch-self : goal.returns-then-stretch-self
returns-then-stretch-self c =
    λ rest. told_over c.args.object c.args.self c.args.stretch.count (thing_in c.args.stretch.object) rest c.if-stretch-self.true

pub returns-in-None : goal.returns-in-None
returns-in-None c = λ rest.
    told_objects c.args.object c.args.self c.args.stretch.count c.saturating_sub-left.result rest c.if-stretch-self.false c.requires
    c.saturating_sub-left.ensures
    ∙ ap (λ (o : Option Ref). told c.args.object c.args.self (replicate c.args.stretch.count (thing_in o) ++ rest)) (sym c.in-None.is)

pub returns-in-Some : goal.returns-in-Some
returns-in-Some c = λ rest.
    told_characters c.args.object c.args.self c.args.stretch.count c.saturating_sub-left.result c.in-Some.other c.finds_other.result rest
    c.if-stretch-self.false c.requires c.saturating_sub-left.ensures c.finds_other.ensures
    ∙ ap (λ (o : Option Ref). told c.args.object c.args.self (replicate c.args.stretch.count (thing_in o) ++ rest)) (sym c.in-Some.is)
