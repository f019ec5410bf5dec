-- What a crash leaves behind each of the four calls of an append, and what the disk holds behind all.
use Rattle.std.proofs.Common.{ℕ, ◌+◌, List, [], ◌∷◌, ◌++◌, length, replicate, Ok, Result, refl, sym, subst, ◌∙◌, inl, inr}
use Rattle.outside.specs.Images.{Write, overwritten}
use Rattle.outside.specs.Images as disk
use Rattle.outside.specs.DiskMeaning.{DiskMeaning, IsSound}
use Rattle.outside.specs.DiskCalls.{Writes, Syncs}
use Rattle.outside.specs.Moments.{LeavesNow, LeavesOnly}
use Rattle.outside.specs.declared.disks.Fault.{Fault}
use Rattle.outside.specs.declared.disks.DiskFault.{DiskFault}
use Rattle.outside.proofs.Moments.{started, goes_on}
use Rattle.journal_format.specs.declared.records.Record.{Record}
use Rattle.journal_format.specs.Image.{open_group, StandsFor, IsPlaced}
use Rattle.change_journal.specs.Journal.{Rests, AddsGroup, IsBeforeOrAfter}
use Rattle.change_journal.proofs.Contents.{placed_stands, content_stands, first_write, second_write, between, opened}
use Rattle.change_journal.proofs.Calls.{IsSettled, settled_leaves, write_leaves, write_made, sync_made, sync_leaves}

-- a disk that rests leaves its records
pub rests_leaves : (disk : DiskMeaning) (recorded : List Record) (gates : List ℕ) (end : ℕ) → Rests disk recorded gates end
    → LeavesNow disk (λ image. StandsFor image recorded)
rests_leaves disk recorded gates end rests =
    settled_leaves disk disk.seen (λ image. StandsFor image recorded)
    (record { seen = λ told. refl; synced = rests.synced; writes = rests.writes })
    (λ told. placed_stands disk.seen recorded gates end (rests.placed told))

-- before any call of a disk that rests
pub unmoved : (disk : DiskMeaning) (recorded : List Record) (gates : List ℕ) (end : ℕ) (added : List Record) → IsSound disk → Rests disk recorded gates end
    → LeavesOnly disk disk (IsBeforeOrAfter recorded added)
unmoved disk recorded gates end added sound rests =
    started disk (IsBeforeOrAfter recorded added) sound
    (settled_leaves disk disk.seen (IsBeforeOrAfter recorded added)
    (record { seen = λ told. refl; synced = rests.synced; writes = rests.writes })
    (λ told. inl (content_stands disk.seen recorded gates end (rests.placed told))))

module _ (old : DiskMeaning) (recorded : List Record) (gates : List ℕ) (gate : ℕ) (added : List Record) (bytes : List ℕ) (sound : IsSound old)
    (adds : AddsGroup old recorded gates gate added bytes) where
  abbrev group_write : Write
  group_write = record { place = gate + 1; bytes = bytes }

  abbrev gate_write : Write
  gate_write = record { place = gate; bytes = 1 ∷ [] }

  abbrev P : List ℕ → Type 0
  P image = IsBeforeOrAfter recorded added image

  abbrev written : List ℕ
  written = overwritten old.seen group_write

  settled : IsSettled old old.seen
  settled = record { seen = λ told. refl; synced = adds.rests.synced; writes = adds.rests.writes }

  here : old.told → P old.seen
  here told = inl (content_stands old.seen recorded gates gate (adds.rests.placed told))

  in_write : old.told → (image : List ℕ) → disk.IsImage old.seen (group_write ∷ []) image → P image
  in_write told image is = inl (first_write old.seen recorded gates gate (adds.rests.placed told) bytes image is)

  there : old.told → P written
  there told =
      subst (λ (b : List ℕ). P (overwritten old.seen (record { place = gate + 1; bytes = b }))) (sym adds.bytes_are)
      (inl (between old.seen recorded gates gate (adds.rests.placed told) added adds.fits adds.actor))

  in_gate : old.told → (image : List ℕ) → disk.IsImage written (gate_write ∷ []) image → P image
  in_gate told image is =
      second_write old.seen recorded gates gate (adds.rests.placed told) added adds.fits adds.actor image
      (subst (λ (b : List ℕ). disk.IsImage (overwritten old.seen (record { place = gate + 1; bytes = b })) (gate_write ∷ []) image) adds.bytes_are is)

  placed : old.told → IsPlaced (overwritten written gate_write) (recorded ++ added) (gates ++ replicate (length added) gate) (gate + length (open_group added))
  placed told =
      subst (λ (b : List ℕ). IsPlaced (overwritten (overwritten old.seen (record { place = gate + 1; bytes = b })) gate_write) (recorded ++ added)
      (gates ++ replicate (length added) gate) (gate + length (open_group added))) (sym adds.bytes_are)
      (opened old.seen recorded gates gate (adds.rests.placed told) added adds.fits adds.actor)

  pub before_calls : LeavesOnly old old P
  before_calls = started old P sound (settled_leaves old old.seen P settled here)

  module _ (first : DiskMeaning) where
    pub behind_write : (answer : Result (Unit {0}) DiskFault) → Writes old first group_write answer → LeavesOnly old first P
    behind_write answer call =
        goes_on old old first P before_calls call.elapses
        (write_leaves old first old.seen group_write answer P settled call (λ told. here (call.elapses.was_told told)) (λ told. in_write (call.elapses.was_told told)))

    module _ (done : Unit {0}) (writes : Writes old first group_write (Ok done)) (second : DiskMeaning) where
      pub behind_sync : (answer : Result (Unit {0}) Fault) → Syncs first second answer → LeavesOnly old second P
      behind_sync answer call =
          let was = λ (told : second.told). writes.elapses.was_told (call.elapses.was_told told) in
          goes_on old first second P (behind_write (Ok done) writes) call.elapses
          (sync_leaves first second old.seen group_write answer P (write_made old first old.seen group_write done settled writes) call (λ told. in_write (was told)) (λ told. there (was told)))

      module _ (synced : Unit {0}) (syncs : Syncs first second (Ok synced)) (third : DiskMeaning) where
        was_told : second.told → old.told
        was_told told = writes.elapses.was_told (syncs.elapses.was_told told)

        settled_again : IsSettled second written
        settled_again = sync_made first second old.seen group_write synced (write_made old first old.seen group_write done settled writes) syncs

        pub behind_gate : (answer : Result (Unit {0}) DiskFault) → Writes second third gate_write answer → LeavesOnly old third P
        behind_gate answer call =
            goes_on old second third P (behind_sync (Ok synced) syncs) call.elapses
            (write_leaves second third written gate_write answer P settled_again call (λ told. there (was_told (call.elapses.was_told told)))
            (λ told. in_gate (was_told (call.elapses.was_told told))))

        module _ (opens : Unit {0}) (gates_open : Writes second third gate_write (Ok opens)) (fourth : DiskMeaning) where
          pub behind_all : (answer : Result (Unit {0}) Fault) → Syncs third fourth answer → LeavesOnly old fourth P
          behind_all answer call =
              let was = λ (told : fourth.told). was_told (gates_open.elapses.was_told (call.elapses.was_told told)) in
              goes_on old third fourth P (behind_gate (Ok opens) gates_open) call.elapses
              (sync_leaves third fourth written gate_write answer P (write_made second third written gate_write opens settled_again gates_open) call (λ told. in_gate (was told))
              (λ told. inr (placed_stands _ _ _ _ (placed (was told)))))

          pub rests_again : (kept : Unit {0}) → Syncs third fourth (Ok kept)
              → Rests fourth (recorded ++ added) (gates ++ replicate (length added) gate) (gate + length (open_group added))
          rests_again kept call =
              let at_end = sync_made third fourth written gate_write kept (write_made second third written gate_write opens settled_again gates_open) call in
              record {
                placed = λ told.
                    subst (λ (l : List ℕ). IsPlaced l (recorded ++ added) (gates ++ replicate (length added) gate) (gate + length (open_group added)))
                    (sym (at_end.seen told)) (placed (was_told (gates_open.elapses.was_told (call.elapses.was_told told))));
                synced = λ told. at_end.synced told ∙ sym (at_end.seen told);
                writes = at_end.writes;
              }
