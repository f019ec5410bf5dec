use Rattle.std.proofs.Common.{not, ◌∙◌, Ok, rules, tests}
use Rattle.std.specs.declared.alloc.AllocError.{AllocError}
use Rattle.std.proofs.lemmas.Iterator.{items_from_collect}
use Rattle.std.proofs.lemmas.Iterator.Consumers.{YieldsList-from_copied, YieldsList-at, YieldsList-from_filter, YieldsList-from_rest}
use Rattle.replica_dir.specs.Ids.{has_id}
use Rattle.replica_dir.proofs.id_sets.all_outside.Goals as goal

pub returns-clause-list : goal.returns-clause-list
returns-clause-list c =
    c.from_vec.ensures
    ∙ items_from_collect {E = AllocError} (Ok c.in_ok-outside.outside) c.in_ok-outside.ensures.ran
    (YieldsList-from_copied
    (YieldsList-at c.copied.ensures.source
    (YieldsList-from_filter _ (λ id. not (has_id c.args.others.now.keys id)) (YieldsList-from_rest c.args.ids.now.keys cc) c.filter.ensures.closure
    (λ x r q k. search (rules, tests)))))
