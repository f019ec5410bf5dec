use Rattle.std.proofs.Common.{◌≡◌, List, Result, Ok, ℕ, length, refl, ◌∙◌, rules}
use Rattle.std.specs.Prelude.{vec_len}
use Rattle.std.specs.List.{splice}
use Rattle.std.proofs.lemmas.Iterator.Adapters.{items_from_extend, YieldsList-from_vec}
use Rattle.paged.proofs.replacing.replace.Goals as goal

-- what is put in is all of the run
pub returns-clause-ok : goal.returns-clause-ok
returns-clause-ok g c =
    let taken = c.in_ok-splice.ensures.items in
    let run = c.args.run in
    let IsSpliced : List g.row.T.Denot → Type 0 = λ xs. c.splice.new.self.items ≡ splice c.args.items.now.items c.args.from c.args.to xs in
    let done : Result (Unit {0}) ℕ = Ok tt in
    let long : vec_len run ≡ length run.items = search rules in
    items_from_extend {P = IsSpliced} done (taken.0, taken.1, refl, taken.4, taken.3) (YieldsList-from_vec run.items taken.2.0 (taken.2.1 ∙ long))
