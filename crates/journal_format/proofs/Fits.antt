-- What a record must be to be written.
use Rattle.std.proofs.Common.{◌≡◌, ℕ, ◌<◌, ◌≤◌, ◌^◌, Bool, true, false, ltb, if◌then◌else◌, List, ◌++◌, length, Option, Some, None, lit<, refl, arith}
use Rattle.std.proofs.lemmas.Bool.{ltb-false}
use Rattle.std.specs.Str.{is_utf8}
use Rattle.tt_base.specs.Path.{path_fault}
use Rattle.tt_base.specs.declared.paths.TheConstants.{MAX_PATH_BYTES}
use Rattle.tt_base.specs.declared.paths.PathFault.{PathFault}
use Rattle.tt_base.specs.declared.paths.PathFault.TheVariants.{TooLong}
use Rattle.tt_base.specs.declared.ids.Actor.{Actor}
use Rattle.byte_format.specs.Format.{IsBytes}
use Rattle.byte_format.specs.Values.{u16_field, u64_field, actor_field, path_field}
use Rattle.change_codec.specs.Encoding.{change_format}
use Rattle.journal_format.specs.declared.records.Note.{Note}
use Rattle.journal_format.specs.declared.records.Record.TheVariants as records
use Rattle.journal_format.specs.Parts.{encoding_of}
use Rattle.journal_format.specs.Encoding.{note_field, record_field}

pub actor_fits : (actor : Actor) → length actor.0 ≡ 16 → IsBytes actor.0 → record_field.Fits (records.Actor actor)
unfolding record_field u64_field actor_field
actor_fits actor long fits = (((lit< tt, refl), (omega arith, (((long, fits), refl), refl))), refl)

pub change_fits : (encoding : List ℕ) → (encoding_of change_format).Fits encoding → length encoding < 2 ^ 64 → record_field.Fits (records.Change encoding)
unfolding record_field u64_field
change_fits encoding fits short = (((lit< tt, refl), (short, (fits, refl))), refl)

pub note_fits : (path : List ℕ) (note : Note) → path_field.Fits path → note_field.Fits note → length (path_field.spelled path ++ note_field.spelled note) < 2 ^ 64
    → record_field.Fits (records.Note path note)
unfolding record_field u64_field
note_fits path note path_fits fits short = (((lit< tt, refl), (short, ((path_fits, fits), refl))), refl)

pub path_fits : (path : List ℕ) → IsBytes path → is_utf8 path ≡ true → path_fault path ≡ None → length path ≤ 1024 → path_field.Fits path
unfolding path_field u16_field
path_fits path fits utf8 fine short = ((omega arith, ((refl, fits), rw (utf8, fine) refl)), refl)

not_long : (b : Bool) (other : Option PathFault) → (if b then Some TooLong else other) ≡ None → b ≡ false
not_long true other none = absurd cc
not_long false other none = refl

pub short_path : (path : List ℕ) → path_fault path ≡ None → length path ≤ 1024
short_path path fine = ltb-false _ _ (not_long (ltb MAX_PATH_BYTES (length path)) _ fine)
