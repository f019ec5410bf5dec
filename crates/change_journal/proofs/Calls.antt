-- What a disk holds behind one call, and what a crash leaves then.
use Rattle.std.proofs.Common.{◌≡◌, ℕ, List, [], ◌∷◌, ◌++◌, Ok, Err, Result, sym, ap, subst, ◌∙◌}
use Rattle.outside.specs.Images.{Write, IsImage, overwritten}
use Rattle.outside.specs.DiskMeaning.{DiskMeaning}
use Rattle.outside.specs.DiskCalls.{Writes, Syncs}
use Rattle.outside.specs.Moments.{LeavesNow}
use Rattle.outside.specs.declared.disks.Fault.{Fault}
use Rattle.outside.specs.declared.disks.DiskFault.{DiskFault}
use Rattle.outside.specs.declared.disks.DiskFault.TheVariants.{Failed, Memory}
use Rattle.outside.proofs.ImageLemmas.{image_of_none}

-- the content is what a read gives and what a crash leaves
pub record IsSettled (disk : DiskMeaning) (content : List ℕ) : Type 0 where
  pub seen : disk.told → disk.seen ≡ content
  pub synced : disk.told → disk.synced ≡ content
  pub writes : disk.told → disk.writes ≡ []

-- one write was made over what was settled
pub record IsWritten (disk : DiskMeaning) (content : List ℕ) (write : Write) : Type 0 where
  pub seen : disk.told → disk.seen ≡ overwritten content write
  pub synced : disk.told → disk.synced ≡ content
  pub writes : disk.told → disk.writes ≡ write ∷ []

-- the images of a disk with this content and these writes
leaves_images : (disk : DiskMeaning) (content : List ℕ) (writes : List Write) (P : List ℕ → Type 0) → (disk.told → disk.synced ≡ content) → (disk.told → disk.writes ≡ writes)
    → (disk.told → (image : List ℕ) → IsImage content writes image → P image) → LeavesNow disk P
leaves_images disk content writes P synced written each = λ image may.
    each may.told image (subst (λ ws. IsImage content ws image) (written may.told) (subst (λ (s : List ℕ). IsImage s disk.writes image) (synced may.told) may.image))

pub settled_leaves : (disk : DiskMeaning) (content : List ℕ) (P : List ℕ → Type 0) → IsSettled disk content → (disk.told → P content) → LeavesNow disk P
settled_leaves disk content P settled has =
    leaves_images disk content [] P settled.synced settled.writes (λ told image is. subst P (sym (image_of_none content image is)) (has told))

-- behind a write, whatever it answered
pub write_leaves : (old new : DiskMeaning) (content : List ℕ) (write : Write) (answer : Result (Unit {0}) DiskFault) (P : List ℕ → Type 0) → IsSettled old content
    → Writes old new write answer → (new.told → P content) → (new.told → (image : List ℕ) → IsImage content (write ∷ []) image → P image) → LeavesNow new P
write_leaves old new content write (Ok done) P settled call has each =
    leaves_images new content (write ∷ []) P
    (λ told. call.so.added.synced (call.elapses.was_told told) ∙ settled.synced (call.elapses.was_told told))
    (λ told. call.so.added.writes (call.elapses.was_told told) ∙ ap (λ ws. ws ++ write ∷ []) (settled.writes (call.elapses.was_told told))) each
write_leaves old new content write (Err Failed) P settled call has each =
    leaves_images new content (write ∷ []) P
    (λ told. call.so.added.synced (call.elapses.was_told told) ∙ settled.synced (call.elapses.was_told told))
    (λ told. call.so.added.writes (call.elapses.was_told told) ∙ ap (λ ws. ws ++ write ∷ []) (settled.writes (call.elapses.was_told told))) each
write_leaves old new content write (Err Memory) P settled call has each =
    leaves_images new content [] P
    (λ told. call.so.unchanged.holds.synced ∙ settled.synced (call.elapses.was_told told))
    (λ told. call.so.unchanged.holds.writes ∙ settled.writes (call.elapses.was_told told))
    (λ told image is. subst P (sym (image_of_none content image is)) (has told))

pub write_made : (old new : DiskMeaning) (content : List ℕ) (write : Write) (done : Unit {0}) → IsSettled old content → Writes old new write (Ok done) → IsWritten new content write
write_made old new content write done settled call = record {
  seen = λ told. call.so.seen (call.elapses.was_told told) ∙ ap (λ (s : List ℕ). overwritten s write) (settled.seen (call.elapses.was_told told));
  synced = λ told. call.so.added.synced (call.elapses.was_told told) ∙ settled.synced (call.elapses.was_told told);
  writes = λ told. call.so.added.writes (call.elapses.was_told told) ∙ ap (λ ws. ws ++ write ∷ []) (settled.writes (call.elapses.was_told told));
}

pub sync_made : (old new : DiskMeaning) (content : List ℕ) (write : Write) (done : Unit {0}) → IsWritten old content write → Syncs old new (Ok done)
    → IsSettled new (overwritten content write)
sync_made old new content write done written call = record {
  seen = λ told. call.seen (call.elapses.was_told told) ∙ written.seen (call.elapses.was_told told);
  synced = λ told. call.so.synced (call.elapses.was_told told) ∙ written.seen (call.elapses.was_told told);
  writes = λ told. call.so.writes (call.elapses.was_told told);
}

-- behind a sync of a write, whatever it answered
pub sync_leaves : (old new : DiskMeaning) (content : List ℕ) (write : Write) (answer : Result (Unit {0}) Fault) (P : List ℕ → Type 0) → IsWritten old content write
    → Syncs old new answer → (new.told → (image : List ℕ) → IsImage content (write ∷ []) image → P image) → (new.told → P (overwritten content write)) → LeavesNow new P
sync_leaves old new content write (Ok done) P written call each has =
    settled_leaves new (overwritten content write) P (sync_made old new content write done written call) has
sync_leaves old new content write (Err fault) P written call each has =
    leaves_images new content (write ∷ []) P
    (λ told. call.so.synced (call.elapses.was_told told) ∙ written.synced (call.elapses.was_told told))
    (λ told. call.so.writes (call.elapses.was_told told) ∙ written.writes (call.elapses.was_told told)) each
