-- Worked records.
use Rattle.std.proofs.Common.{◌≡◌, [], ◌∷◌, refl}
use Rattle.std.specs.Prelude.{codes, replicate}
use Rattle.journal_format.specs.declared.records.Known.TheVariants.{Absent, Digest}
use Rattle.journal_format.specs.declared.records.Note.TheVariants.{Open, One, Two}
use Rattle.journal_format.specs.declared.records.Record.TheVariants as records
use Rattle.replica_store.specs.Records.{Notes, no_notes, notes_from, note_at}

-- `g` is noted twice, and `f` between
abbrev noted : Notes
noted =
    notes_from no_notes
    (records.Note (codes "g") Open ∷ records.Note (codes "f") (One (Digest (replicate 32 7))) ∷ records.Note (codes "g") (Two Absent Absent) ∷ [])

first : note_at noted (codes "f") ≡ One (Digest (replicate 32 7))
first = refl

last : note_at noted (codes "g") ≡ Two Absent Absent
last = refl

-- a path without a note is known to be absent
none : note_at noted (codes "h") ≡ One Absent
none = refl
