-- The counted calls of a run so far, and how it ends.
use Rattle.std.proofs.Common.{◌≡◌, ℕ, List, [], ◌∷◌, ◌++◌, Ok, Err, refl, sym, ap, subst, ◌∙◌}
use Rattle.outside.specs.Calls.{counted}
use Rattle.outside.specs.Images.{Write, overwritten}
use Rattle.outside.specs.DiskMeaning.{DiskMeaning}
use Rattle.outside.specs.DiskCalls.{Writes, Syncs}
use Rattle.outside.specs.declared.disks.Fault.{Fault}
use Rattle.outside.specs.declared.disks.DiskFault.{DiskFault}
use Rattle.outside.specs.declared.disks.DiskFault.TheVariants.{Failed, Memory}
use Rattle.change_journal.specs.Steps.{Step, ToWrite, ToSync, Trail, trail_of, made, all_made, IsBehind, MadeAll}
use Rattle.change_journal.specs.Faults.{append_fault_for}
use Rattle.change_journal.specs.Journal.{AppendsSo}
use Rattle.change_journal.specs.declared.faults.AppendFault.TheVariants as append_faults

-- no call was made, for want of memory
pub none_ends : (disk : DiskMeaning) (steps : List Step) → AppendsSo steps disk disk (Err append_faults.Memory)
none_ends disk steps = record {
  before = [];
  left = steps;
  steps_are = refl;
  behind = record { calls = refl; synced = refl; writes = refl };
  seen = refl;
}

pub none_made : (disk : DiskMeaning) → MadeAll disk disk []
none_made disk = record { behind = record { calls = refl; synced = refl; writes = refl }; seen = refl }

all_made-push : (steps : List Step) (step : Step) (trail : Trail) → all_made (steps ++ step ∷ []) trail ≡ made step (all_made steps trail)
all_made-push [] step trail = refl
all_made-push (s ∷ steps) step trail = all_made-push steps step (made s trail)

-- what holds of the trail behind one step more
one_more : (old new : DiskMeaning) (steps : List Step) (step : Step) → IsBehind new (made step (all_made steps (trail_of old)))
    → new.seen ≡ (made step (all_made steps (trail_of old))).seen → MadeAll old new (steps ++ step ∷ [])
one_more old new steps step behind seen =
    let same = sym (all_made-push steps step (trail_of old)) in
    record { behind = subst (IsBehind new) same behind; seen = subst (λ (t : Trail). new.seen ≡ t.seen) same seen }

pub wrote : (old mid new : DiskMeaning) (steps : List Step) (write : Write) (done : Unit {0}) → mid.told → MadeAll old mid steps → Writes mid new write (Ok done)
    → MadeAll old new (steps ++ ToWrite write ∷ [])
wrote old mid new steps write done told so_far call =
    one_more old new steps (ToWrite write) (record {
      calls = call.so.added.calls told ∙ ap counted so_far.behind.calls;
      synced = call.so.added.synced told ∙ so_far.behind.synced;
      writes = call.so.added.writes told ∙ ap (λ ws. ws ++ write ∷ []) so_far.behind.writes;
    }) (call.so.seen told ∙ ap (λ (s : List ℕ). overwritten s write) so_far.seen)

pub synced : (old mid new : DiskMeaning) (steps : List Step) (done : Unit {0}) → mid.told → MadeAll old mid steps → Syncs mid new (Ok done)
    → MadeAll old new (steps ++ ToSync ∷ [])
synced old mid new steps done told so_far call =
    one_more old new steps ToSync (record {
      calls = call.calls told ∙ ap counted so_far.behind.calls;
      synced = call.so.synced told ∙ so_far.seen;
      writes = call.so.writes told;
    }) (call.seen told ∙ so_far.seen)

-- a write was not made
pub write_ends : (old mid new : DiskMeaning) (before : List Step) (write : Write) (left : List Step) (fault : DiskFault) → mid.told → MadeAll old mid before
    → Writes mid new write (Err fault) → AppendsSo (before ++ ToWrite write ∷ left) old new (Err (append_fault_for fault))
write_ends old mid new before write left Failed told so_far call = record {
  before = before;
  step = ToWrite write;
  left = left;
  steps_are = refl;
  behind = record {
    calls = call.so.added.calls told ∙ ap counted so_far.behind.calls;
    synced = call.so.added.synced told ∙ so_far.behind.synced;
    writes = call.so.added.writes told ∙ ap (λ ws. ws ++ write ∷ []) so_far.behind.writes;
  };
}
write_ends old mid new before write left Memory told so_far call = record {
  before = before;
  left = ToWrite write ∷ left;
  steps_are = refl;
  behind = record {
    calls = call.so.unchanged.calls ∙ so_far.behind.calls;
    synced = call.so.unchanged.holds.synced ∙ so_far.behind.synced;
    writes = call.so.unchanged.holds.writes ∙ so_far.behind.writes;
  };
  seen = call.so.unchanged.holds.seen ∙ so_far.seen;
}

-- a sync failed
pub sync_ends : (old mid new : DiskMeaning) (before left : List Step) (fault : Fault) → mid.told → MadeAll old mid before → Syncs mid new (Err fault)
    → AppendsSo (before ++ ToSync ∷ left) old new (Err append_faults.Fault)
sync_ends old mid new before left fault told so_far call = record {
  before = before;
  step = ToSync;
  left = left;
  steps_are = refl;
  behind = record {
    calls = call.calls told ∙ ap counted so_far.behind.calls;
    synced = call.so.synced told ∙ so_far.behind.synced;
    writes = call.so.writes told ∙ so_far.behind.writes;
  };
}
