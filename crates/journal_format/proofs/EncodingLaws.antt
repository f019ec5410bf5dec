-- Records and groups are lawful.
use Rattle.std.proofs.Common.{◌≡◌, ℕ, zero, suc, ◌<◌, length, refl, ap, sym, arith}
use Rattle.byte_format.specs.declared.faults.Kind.TheVariants.{Tag}
use Rattle.byte_format.specs.Fields.{taking, byte}
use Rattle.byte_format.specs.Parts.{pair, checked, boxed}
use Rattle.byte_format.specs.Values.{u64_field, actor_field, path_field}
use Rattle.byte_format.proofs.Lawful.{Lawful}
use Rattle.byte_format.proofs.FieldLaws.{taking_lawful, byte_lawful, constant_lawful, never_lawful}
use Rattle.byte_format.proofs.PartLaws.{pair_lawful, seen_as_lawful, checked_lawful, tagged_lawful, boxed_lawful}
use Rattle.byte_format.proofs.ValueLaws.{u64_lawful, actor_lawful, path_lawful}
use Rattle.change_codec.specs.Encoding.{is_flag, change_format}
use Rattle.change_codec.proofs.EncodingLaws.{change_lawful}
use Rattle.journal_format.specs.declared.records.Known.{Known}
use Rattle.journal_format.specs.declared.records.Known.TheVariants.{Absent, Digest}
use Rattle.journal_format.specs.declared.records.Note.{Note}
use Rattle.journal_format.specs.declared.records.Note.TheVariants.{Open, One, Two}
use Rattle.journal_format.specs.declared.records.Record.{Record}
use Rattle.journal_format.specs.declared.records.Record.TheVariants as records
use Rattle.journal_format.specs.Parts.{encoding_of}
use Rattle.journal_format.specs.Encoding.{known_tag, digest_of, known_behind, known_field, is_note_tag, note_tag, only_known, both_known, note_behind, note_field}
use Rattle.journal_format.specs.Encoding.{is_kind, kind_of, actor_in, encoding_in, note_in, body_of, record_field}
use Rattle.journal_format.specs.Image.{group_field}
use Rattle.journal_format.proofs.PartLaws.{encoding_of_lawful, filled_lawful}

known_behind_lawful : (b : ℕ) → Lawful (known_behind b)
known_behind_lawful zero = constant_lawful Absent
known_behind_lawful (suc zero) = seen_as_lawful (λ digest. Digest digest) digest_of (taking 32) (taking_lawful 32) (λ digest fits. refl)
known_behind_lawful (suc (suc b)) = never_lawful Tag

known_selected : (b : ℕ) (known : Known) → (known_behind b).Fits known → known_tag known ≡ b
known_selected zero known fits = ap known_tag (sym fits)
known_selected (suc zero) known fits = ap known_tag (sym fits.1)
known_selected (suc (suc b)) known fits = absurd fits

pub known_lawful : Lawful known_field
unfolding known_field
known_lawful = tagged_lawful known_tag (checked is_flag Tag byte) known_behind (checked_lawful is_flag Tag byte byte_lawful) known_behind_lawful known_selected

note_behind_lawful : (b : ℕ) → Lawful (note_behind b)
note_behind_lawful zero = constant_lawful Open
note_behind_lawful (suc zero) = seen_as_lawful (λ known. One known) only_known known_field known_lawful (λ known fits. refl)
note_behind_lawful (suc (suc zero)) =
    seen_as_lawful (λ x. Two x.0 x.1) both_known (pair known_field known_field) (pair_lawful known_field known_field known_lawful known_lawful) (λ x fits. refl)
note_behind_lawful (suc (suc (suc b))) = never_lawful Tag

note_selected : (b : ℕ) (note : Note) → (note_behind b).Fits note → note_tag note ≡ b
note_selected zero note fits = ap note_tag (sym fits)
note_selected (suc zero) note fits = ap note_tag (sym fits.1)
note_selected (suc (suc zero)) note fits = ap note_tag (sym fits.1)
note_selected (suc (suc (suc b))) note fits = absurd fits

pub note_lawful : Lawful note_field
unfolding note_field
note_lawful = tagged_lawful note_tag (checked is_note_tag Tag byte) note_behind (checked_lawful is_note_tag Tag byte byte_lawful) note_behind_lawful note_selected

pub body_lawful : (kind : ℕ) → Lawful (body_of kind)
body_lawful zero = never_lawful Tag
body_lawful (suc zero) = seen_as_lawful (λ actor. records.Actor actor) actor_in actor_field actor_lawful (λ actor fits. refl)
body_lawful (suc (suc zero)) =
    seen_as_lawful (λ encoding. records.Change encoding) encoding_in (encoding_of change_format) (encoding_of_lawful change_format change_lawful) (λ encoding fits. refl)
body_lawful (suc (suc (suc zero))) =
    seen_as_lawful (λ x. records.Note x.0 x.1) note_in (pair path_field note_field) (pair_lawful path_field note_field path_lawful note_lawful) (λ x fits. refl)
body_lawful (suc (suc (suc (suc b)))) = never_lawful Tag

kind_selected : (kind : ℕ) (r : Record) → (boxed u64_field (body_of kind)).Fits r → kind_of r ≡ kind
kind_selected zero r fits = absurd fits.1
kind_selected (suc zero) r fits = ap kind_of (sym fits.1.1)
kind_selected (suc (suc zero)) r fits = ap kind_of (sym fits.1.1)
kind_selected (suc (suc (suc zero))) r fits = ap kind_of (sym fits.1.1)
kind_selected (suc (suc (suc (suc b)))) r fits = absurd fits.1

pub record_lawful : Lawful record_field
unfolding record_field
record_lawful =
    tagged_lawful kind_of (checked is_kind Tag byte) (λ kind. boxed u64_field (body_of kind)) (checked_lawful is_kind Tag byte byte_lawful)
    (λ kind. boxed_lawful u64_field (body_of kind) u64_lawful (body_lawful kind)) kind_selected

-- each record is spelled by one byte at least
pub record_some : (r : Record) → 0 < length (record_field.spelled r)
unfolding record_field
record_some r = omega arith

pub group_lawful : Lawful group_field
unfolding group_field
group_lawful = filled_lawful u64_field record_field u64_lawful record_lawful (λ r fits. record_some r)
