use Rattle.std.proofs.Common.{◌∙◌}
use Rattle.replica_disk.proofs.StoreLemmas.{was_live, commits, commits_store}
use Rattle.replica_disk.proofs.stores.Store.commit.Goals as goal

pub invariant_of-self-2 : goal.invariant_of-self-2
invariant_of-self-2 g c = λ on.
    let live = was_live _ _ c.self.view_is c.requires.live in
    let kept = c.self.invariant live in (
      kept.0,
      commits_store _ live c.append_staged.new.journal c.from_vec.result c.as_slice.result.now c.as_slice.ensures (c.from_vec.ensures ∙ c.new.ensures.items)
          c.in_ok-append_staged.ensures.written kept.1,
    )

pub returns-clause-ok : goal.returns-clause-ok
returns-clause-ok g c =
    let live = was_live _ _ c.self.view_is c.requires.live in
    rw (← c.self.view_is)
    (commits _ live c.append_staged.new.journal c.from_vec.result c.as_slice.result.now c.as_slice.ensures (c.from_vec.ensures ∙ c.new.ensures.items)
    c.in_ok-append_staged.ensures.written)
