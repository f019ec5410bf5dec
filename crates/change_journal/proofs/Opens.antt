-- What the calls of an opening leave: which of its steps were made, and what a crash may leave meanwhile.
use Rattle.std.proofs.Common.{◌≡◌, ◌≢◌, ℕ, ◌^◌, ◌<◌, ◌≤◌, List, [], ◌∷◌, length, Ok, Err, Result, MatchResult, refl, sym, ap, subst, ◌∙◌, inl, inr, arith}
use Rattle.std.proofs.lemmas.List.{append-nil}
use Rattle.outside.specs.Images.{Write, IsImage}
use Rattle.outside.specs.DiskMeaning.{DiskMeaning, IsSound}
use Rattle.outside.specs.DiskCalls.{Elapses, IsUnchanged, Measures, Writes, Syncs}
use Rattle.outside.specs.Moments.{LeavesNow, LeavesOnly}
use Rattle.outside.specs.Faults.{Rose}
use Rattle.outside.specs.declared.disks.Fault.{Fault}
use Rattle.outside.specs.declared.disks.DiskFault.{DiskFault}
use Rattle.outside.proofs.Moments.{started, goes_on}
use Rattle.outside.proofs.ImageLemmas.{image_of_none}
use Rattle.change_journal.specs.Steps.{Step, ToWrite, ToSync, Trail, trail_of, all_made, failed, IsBehind, MadeAll, MadeUntil, MadeFront}
use Rattle.change_journal.specs.Faults.{append_fault_for, journal_fault_for}
use Rattle.change_journal.specs.Journal.{AppendsSo}
use Rattle.journal_format.specs.declared.records.Record.{Record}
use Rattle.journal_format.specs.Image.{actor_is_first, IsPlaced, IsFirstBad}
use Rattle.journal_format.proofs.ImageLaws.{placed_long}
use Rattle.change_journal.specs.Opening.{empty_journal, opened, open_steps, IsNoJournal, IsRefused, FailsToOpen, FailsSo}
use Rattle.change_journal.specs.Held.{IsHeld}
use Rattle.change_journal.specs.declared.faults.AppendFault.{AppendFault}
use Rattle.change_journal.specs.declared.faults.AppendFault.TheVariants as append_faults
use Rattle.change_journal.specs.declared.faults.JournalFault.{JournalFault}
use Rattle.change_journal.specs.declared.faults.JournalFault.TheVariants as journal_faults
use Rattle.change_journal.proofs.Contents.{gate_inside}
use Rattle.change_journal.proofs.Trails.{none_made, wrote, synced, write_ends, sync_ends}

-- ---- steps

-- calls that change nothing leave the steps before them as all that were made
pub unchanged_behind : (old mid new : DiskMeaning) (steps : List Step) → MadeAll old mid steps → IsUnchanged mid new → MadeAll old new steps
unchanged_behind old mid new steps made same = record {
  behind = record {
    calls = same.calls ∙ made.behind.calls;
    synced = same.holds.synced ∙ made.behind.synced;
    writes = same.holds.writes ∙ made.behind.writes;
  };
  seen = same.holds.seen ∙ made.seen;
}

-- all of the steps are a front of them
pub all_is_front : (old new : DiskMeaning) (steps : List Step) → MadeAll old new steps → MadeFront old new steps
all_is_front old new steps made = record { before = steps; left = []; steps_are = sym (append-nil steps); behind = made.behind; seen = made.seen }

none_is_front : (old new : DiskMeaning) (steps : List Step) → IsUnchanged old new → MadeFront old new steps
none_is_front old new steps same = record {
  before = [];
  left = steps;
  steps_are = refl;
  behind = record { calls = same.calls; synced = same.holds.synced; writes = same.holds.writes };
  seen = same.holds.seen;
}

-- a call that is not counted failed, or memory ran out, behind all of the steps
pub front_fails : (old new : DiskMeaning) (steps : List Step) (fault : AppendFault) → MadeFront old new steps → FailsSo old new steps (journal_fault_for fault)
front_fails old new steps append_faults.Fault front = inr front
front_fails old new steps append_faults.Memory front = front

-- and before the first of them
pub none_fails : (old new : DiskMeaning) (steps : List Step) → IsUnchanged old new → FailsSo old new steps (journal_fault_for append_faults.Fault)
none_fails old new steps same = inr (none_is_front old new steps same)

-- the steps of an empty disk
pub begin_ends : (old new : DiskMeaning) (bytes : List ℕ) (fault : DiskFault) → bytes ≡ empty_journal → old.told
    → Writes old new (record { place = 0; bytes = bytes }) (Err fault) → AppendsSo (open_steps []) old new (Err (append_fault_for fault))
begin_ends old new bytes fault is told call =
    write_ends old old new [] (record { place = 0; bytes = empty_journal }) (ToSync ∷ []) fault told (none_made old)
    (subst (λ (b : List ℕ). Writes old new (record { place = 0; bytes = b }) (Err fault)) is call)

begin_writes : (old mid : DiskMeaning) (bytes : List ℕ) (done : Unit {0}) → bytes ≡ empty_journal → old.told → Writes old mid (record { place = 0; bytes = bytes }) (Ok done)
    → MadeAll old mid (ToWrite (record { place = 0; bytes = empty_journal }) ∷ [])
begin_writes old mid bytes done is told call =
    wrote old old mid [] (record { place = 0; bytes = empty_journal }) done told (none_made old)
    (subst (λ (b : List ℕ). Writes old mid (record { place = 0; bytes = b }) (Ok done)) is call)

pub begin_sync_ends : (old mid new : DiskMeaning) (bytes : List ℕ) (done : Unit {0}) (fault : Fault) → bytes ≡ empty_journal → old.told
    → Writes old mid (record { place = 0; bytes = bytes }) (Ok done) → Syncs mid new (Err fault) → AppendsSo (open_steps []) old new (Err append_faults.Fault)
begin_sync_ends old mid new bytes done fault is told call sync =
    sync_ends old mid new (ToWrite (record { place = 0; bytes = empty_journal }) ∷ []) [] fault (call.elapses.told told) (begin_writes old mid bytes done is told call) sync

pub begin_makes : (old mid new : DiskMeaning) (bytes : List ℕ) (done synced_done : Unit {0}) → bytes ≡ empty_journal → old.told
    → Writes old mid (record { place = 0; bytes = bytes }) (Ok done) → Syncs mid new (Ok synced_done) → MadeAll old new (open_steps [])
begin_makes old mid new bytes done synced_done is told call sync =
    synced old mid new (ToWrite (record { place = 0; bytes = empty_journal }) ∷ []) synced_done (call.elapses.told told) (begin_writes old mid bytes done is told call) sync

-- the steps of a disk that is not empty
not_empty_steps : (bytes : List ℕ) → bytes ≢ [] → open_steps bytes ≡ ToSync ∷ []
not_empty_steps [] some = absurd (some refl)
not_empty_steps (byte ∷ bytes) some = refl

pub sync_fails : (old mid new : DiskMeaning) (fault : Fault) → old.seen ≢ [] → mid.told → IsUnchanged old mid → Syncs mid new (Err fault)
    → FailsSo old new (open_steps old.seen) (journal_fault_for append_faults.Fault)
sync_fails old mid new fault some told same call =
    subst (λ steps. FailsSo old new steps (journal_fault_for append_faults.Fault)) (sym (not_empty_steps old.seen some))
    (inl (sync_ends old mid new [] [] fault told (unchanged_behind old old mid [] (none_made old) same) call))

pub sync_makes : (old mid new : DiskMeaning) (done : Unit {0}) → old.seen ≢ [] → mid.told → IsUnchanged old mid → Syncs mid new (Ok done)
    → MadeAll old new (open_steps old.seen)
sync_makes old mid new done some told same call =
    subst (MadeAll old new) (sym (not_empty_steps old.seen some)) (synced old mid new [] done told (unchanged_behind old old mid [] (none_made old) same) call)

-- steps that began behind calls that change nothing
same_trail : (old mid : DiskMeaning) → IsUnchanged old mid → trail_of mid ≡ trail_of old
same_trail old mid same = cc (same.calls, same.holds.seen, same.holds.synced, same.holds.writes)

pub made_from : (old mid new : DiskMeaning) (steps : List Step) → IsUnchanged old mid → MadeAll mid new steps → MadeAll old new steps
made_from old mid new steps same made = record {
  behind = subst (λ (t : Trail). IsBehind new (all_made steps t)) (same_trail old mid same) made.behind;
  seen = subst (λ (t : Trail). new.seen ≡ (all_made steps t).seen) (same_trail old mid same) made.seen;
}

until_from : (old mid new : DiskMeaning) (steps : List Step) → IsUnchanged old mid → MadeUntil mid new steps → MadeUntil old new steps
until_from old mid new steps same made = record {
  before = made.before;
  step = made.step;
  left = made.left;
  steps_are = made.steps_are;
  behind = subst (λ (t : Trail). IsBehind new (failed made.step (all_made made.before t))) (same_trail old mid same) made.behind;
}

front_from : (old mid new : DiskMeaning) (steps : List Step) → IsUnchanged old mid → MadeFront mid new steps → MadeFront old new steps
front_from old mid new steps same made = record {
  before = made.before;
  left = made.left;
  steps_are = made.steps_are;
  behind = subst (λ (t : Trail). IsBehind new (all_made made.before t)) (same_trail old mid same) made.behind;
  seen = subst (λ (t : Trail). new.seen ≡ (all_made made.before t).seen) (same_trail old mid same) made.seen;
}

-- behind the steps of an empty disk
pub began : (old mid new : DiskMeaning) (answer : Result (Unit {0}) AppendFault) → old.seen ≡ [] → IsUnchanged old mid → AppendsSo (open_steps []) mid new answer
    → MatchResult answer (λ done. MadeAll old new (open_steps old.seen)) (λ fault. FailsSo old new (open_steps old.seen) (journal_fault_for fault))
began old mid new (Ok done) empty same made = subst (λ (s : List ℕ). MadeAll old new (open_steps s)) (sym empty) (made_from old mid new (open_steps []) same made)
began old mid new (Err append_faults.Fault) empty same made =
    subst (λ (s : List ℕ). FailsSo old new (open_steps s) journal_faults.Fault) (sym empty) (inl (until_from old mid new (open_steps []) same made))
began old mid new (Err append_faults.Memory) empty same made =
    subst (λ (s : List ℕ). FailsSo old new (open_steps s) journal_faults.Memory) (sym empty) (front_from old mid new (open_steps []) same made)

-- ---- what the disk holds behind the steps

opened_trail : (calls : ℕ) (seen was_synced : List ℕ) (writes : List Write)
    → let t : Trail = all_made (open_steps seen) (record { calls = calls; seen = seen; synced = was_synced; writes = writes }) in
    (t.seen ≡ opened seen) × (t.synced ≡ opened seen) × (t.writes ≡ [])
opened_trail calls [] was_synced writes = (refl, refl, refl)
opened_trail calls (byte ∷ bytes) was_synced writes = (refl, refl, refl)

pub opened_seen : (old new : DiskMeaning) → MadeAll old new (open_steps old.seen) → new.seen ≡ opened old.seen
opened_seen old new made = made.seen ∙ (opened_trail old.calls old.seen old.synced old.writes).0

pub opened_synced : (old new : DiskMeaning) → MadeAll old new (open_steps old.seen) → new.synced ≡ new.seen
opened_synced old new made = made.behind.synced ∙ (opened_trail old.calls old.seen old.synced old.writes).1 ∙ sym (opened_seen old new made)

pub opened_writes : (old new : DiskMeaning) → MadeAll old new (open_steps old.seen) → new.writes ≡ []
opened_writes old new made = made.behind.writes ∙ (opened_trail old.calls old.seen old.synced old.writes).2

-- ---- what a crash may leave meanwhile

-- behind one more call that changes nothing
pub unchanged_leaves : (first mid new : DiskMeaning) (P : List ℕ → Type 0) → IsSound mid → LeavesOnly first mid P → Elapses mid new → IsUnchanged mid new → LeavesOnly first new P
unchanged_leaves first mid new P sound so_far call same =
    goes_on first mid new P so_far call (λ image may.
    so_far.each image (sound.counts_now first.moment image so_far.later (record {
      told = call.was_told may.told;
      image = subst (λ ws. IsImage mid.synced ws image) same.holds.writes (subst (λ (s : List ℕ). IsImage s new.writes image) same.holds.synced may.image);
    })))

-- what a crash might have left before
abbrev pub WasImage : DiskMeaning → List ℕ → Type 0
WasImage disk image = IsImage disk.synced disk.writes image

pub measured : (old mid : DiskMeaning) (answer : Result ℕ Fault) → IsSound old → Measures old mid answer → LeavesOnly old mid (WasImage old)
measured old mid answer sound call =
    unchanged_leaves old old mid (WasImage old) sound (started old (WasImage old) sound (λ image may. may.image)) call.elapses call.unchanged

sync_now : (old mid new : DiskMeaning) (answer : Result (Unit {0}) Fault) → IsSound old → old.told → mid.told → IsUnchanged old mid → Syncs mid new answer → LeavesNow new (WasImage old)
sync_now old mid new (Ok done) sound told still same call = λ image may.
    let now : image ≡ new.synced = image_of_none new.synced image (subst (λ ws. IsImage new.synced ws image) (call.so.writes still) may.image) in
    subst (WasImage old) (sym (now ∙ call.so.synced still ∙ same.holds.seen)) (sound.reads_an_image told)
sync_now old mid new (Err fault) sound told still same call = λ image may.
    subst (λ ws. IsImage old.synced ws image) (call.so.writes still ∙ same.holds.writes)
    (subst (λ (s : List ℕ). IsImage s new.writes image) (call.so.synced still ∙ same.holds.synced) may.image)

pub sync_leaves_so : (old mid new : DiskMeaning) (measure : Result ℕ Fault) (answer : Result (Unit {0}) Fault) → IsSound old → old.told → Measures old mid measure → Syncs mid new answer
    → LeavesOnly old new (WasImage old)
sync_leaves_so old mid new measure answer sound told call sync =
    goes_on old mid new (WasImage old) (measured old mid measure sound call) sync.elapses (sync_now old mid new answer sound told (call.elapses.told told) call.unchanged sync)

-- ---- two calls that change nothing

pub unchanged_twice : (old mid new : DiskMeaning) → IsUnchanged old mid → IsUnchanged mid new → IsUnchanged old new
unchanged_twice old mid new one two = record {
  holds = record {
    told = λ told. two.holds.told (one.holds.told told);
    was_told = λ told. one.holds.was_told (two.holds.was_told told);
    seen = two.holds.seen ∙ one.holds.seen;
    synced = two.holds.synced ∙ one.holds.synced;
    writes = two.holds.writes ∙ one.holds.writes;
    moment = two.holds.moment ∙ one.holds.moment;
    since = λ t image. (λ left. (two.holds.since t image).0 ((one.holds.since t image).0 left), λ left. (one.holds.since t image).1 ((two.holds.since t image).1 left));
  };
  calls = two.calls ∙ one.calls;
}

pub elapses_twice : (old mid new : DiskMeaning) → Elapses old mid → Elapses mid new → IsUnchanged mid new → Elapses old new
elapses_twice old mid new one two same = record {
  told = λ told. two.told (one.told told);
  was_told = λ told. one.was_told (two.was_told told);
  later = omega (arith, one.later, two.later);
  nothing_else = λ t image early left. elim (one.nothing_else t image early ((same.holds.since t image).1 left)) [
    | inl before ↦ inl before
    | inr may ↦ inr (record {
      told = two.told may.told;
      image = subst (λ ws. IsImage new.synced ws image) (sym same.holds.writes) (subst (λ (s : List ℕ). IsImage s mid.writes image) (sym same.holds.synced) may.image);
    })
  ];
  keeps = λ t image early left. two.keeps t image (omega (arith, one.later)) (one.keeps t image early left);
  plan = two.plan ∙ one.plan;
  faults = omega (arith, one.faults, two.faults);
}

-- ---- how an opening ends

-- the disk failed, or memory ran out
pub device_fails : (old new : DiskMeaning) (fault : AppendFault) → (fault ≡ append_faults.Fault → Rose old.faults new.faults) → FailsToOpen old new (journal_fault_for fault)
device_fails old new append_faults.Fault rose = rose refl
device_fails old new append_faults.Memory rose = tt

-- a rise in the second of two calls is one in both
pub rises : (old mid new : ℕ) → old ≤ mid → Rose mid new → Rose old new
rises old mid new later rose = omega arith

module _ (old mid new : DiskMeaning) (bytes : List ℕ) (was_told : new.told → old.told) (made : old.told → MadeAll old mid (open_steps old.seen)) (same : IsUnchanged mid new)
    (read : old.told → bytes ≡ mid.seen) where
  bytes_are : old.told → bytes ≡ opened old.seen
  bytes_are told = read told ∙ opened_seen old mid (made told)

  pub reads_placed : (recorded : List Record) (gates : List ℕ) (end : ℕ) → IsPlaced bytes recorded gates end → old.told → IsPlaced (opened old.seen) recorded gates end
  reads_placed recorded gates end placed told = subst (λ (b : List ℕ). IsPlaced b recorded gates end) (bytes_are told) placed

  pub reads_held : (recorded : List Record) (gates : List ℕ) (end : ℕ) → length bytes < 2 ^ 64 → IsPlaced bytes recorded gates end → IsHeld new recorded gates end
  reads_held recorded gates end room placed = record {
    rests = record {
      placed = λ told. subst (λ (b : List ℕ). IsPlaced b recorded gates end) (read (was_told told) ∙ sym same.holds.seen) placed;
      synced = λ told. same.holds.synced ∙ opened_synced old mid (made (was_told told)) ∙ sym same.holds.seen;
      writes = λ told. same.holds.writes ∙ opened_writes old mid (made (was_told told));
    };
    gate_of_each = placed_long bytes recorded gates end placed;
    actor = ap actor_is_first placed.records_are ∙ placed.image.good.actor;
    room = omega (arith, gate_inside bytes recorded gates end placed);
  }

  pub reads_refused : (fault : JournalFault) → IsRefused bytes fault → FailsToOpen old new fault
  reads_refused journal_faults.NotAJournal refused = λ told. subst IsNoJournal (bytes_are told) refused
  reads_refused (journal_faults.BadRecord place) refused = λ told. subst (λ (b : List ℕ). IsFirstBad b place) (bytes_are told) refused
  reads_refused journal_faults.Fault refused = absurd refused
  reads_refused journal_faults.Memory refused = tt

  pub reads_steps : old.told → MadeAll old new (open_steps old.seen)
  reads_steps told = unchanged_behind old mid new (open_steps old.seen) (made told) same

  pub refused_steps : (fault : JournalFault) → IsRefused bytes fault → old.told → FailsSo old new (open_steps old.seen) fault
  refused_steps journal_faults.NotAJournal refused told = reads_steps told
  refused_steps (journal_faults.BadRecord place) refused told = reads_steps told
  refused_steps journal_faults.Fault refused told = absurd refused
  refused_steps journal_faults.Memory refused told = all_is_front old new (open_steps old.seen) (reads_steps told)
