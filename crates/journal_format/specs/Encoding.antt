-- The records of a journal, field by field; numbers are big-endian. The layout is the project's own.
use Rattle.std.specs.Prelude.{ℕ, zero, suc, Bool, List, [], ◌∷◌, nat_lt, is_some, codes}
use Rattle.name_table.specs.Rows.{word_of}
use Rattle.tt_base.specs.declared.ids.Actor.{Actor}
use Rattle.byte_format.specs.Format.{Format}
use Rattle.byte_format.specs.declared.faults.Kind.TheVariants.{Tag}
use Rattle.byte_format.specs.Fields.{taking, byte, constant, never}
use Rattle.byte_format.specs.Parts.{pair, seen_as, checked, tagged, boxed}
use Rattle.byte_format.specs.Values.{u64_field, actor_field, path_field}
use Rattle.change_codec.specs.Encoding.{is_flag, change_format}
use Rattle.journal_format.specs.Parts.{encoding_of}
use Rattle.journal_format.specs.declared.records.Known.{Known}
use Rattle.journal_format.specs.declared.records.Known.TheVariants.{Absent, Digest}
use Rattle.journal_format.specs.declared.records.Note.{Note}
use Rattle.journal_format.specs.declared.records.Note.TheVariants.{Open, One, Two}
use Rattle.journal_format.specs.declared.records.Record.{Record}
use Rattle.journal_format.specs.declared.records.Record.TheVariants as records

-- ---- known contents: 0 for an absent file, or 1 and the SHA-256 digest of the content (FIPS 180-4)

abbrev pub known_tag : Known → ℕ
known_tag Absent = 0
known_tag (Digest digest) = 1

abbrev pub digest_of : Known → List ℕ
digest_of Absent = []
digest_of (Digest digest) = digest

abbrev pub known_behind : ℕ → Format Known
known_behind zero = constant Absent
known_behind (suc zero) = seen_as (λ digest. Digest digest) digest_of (taking 32)
known_behind (suc (suc b)) = never Tag

unfoldable pub known_field : Format Known
known_field = tagged known_tag (checked is_flag Tag byte) known_behind

-- ---- notes: 0 for an open file, 1 and one known content, or 2 and two of them

abbrev pub is_note_tag : ℕ → Bool
is_note_tag b = nat_lt b 3

abbrev pub note_tag : Note → ℕ
note_tag Open = 0
note_tag (One known) = 1
note_tag (Two first second) = 2

abbrev pub only_known : Note → Known
only_known Open = Absent
only_known (One known) = known
only_known (Two first second) = first

abbrev pub both_known : Note → Known × Known
both_known Open = (Absent, Absent)
both_known (One known) = (known, Absent)
both_known (Two first second) = (first, second)

abbrev pub note_behind : ℕ → Format Note
note_behind zero = constant Open
note_behind (suc zero) = seen_as (λ known. One known) only_known known_field
note_behind (suc (suc zero)) = seen_as (λ x. Two x.0 x.1) both_known (pair known_field known_field)
note_behind (suc (suc (suc b))) = never Tag

unfoldable pub note_field : Format Note
note_field = tagged note_tag (checked is_note_tag Tag byte) note_behind

-- ---- records: the number of the kind, and the body behind its length

-- the kinds of records, each with its number
abbrev pub kinds : List (ℕ × List ℕ)
kinds = (1, codes "actor") ∷ (2, codes "change") ∷ (3, codes "note") ∷ []

abbrev pub is_kind : ℕ → Bool
is_kind b = is_some (word_of b kinds)

abbrev pub kind_of : Record → ℕ
kind_of (records.Actor actor) = 1
kind_of (records.Change encoding) = 2
kind_of (records.Note path note) = 3

-- what the body of each kind holds, and something for the others

abbrev pub any_actor : Actor
any_actor = record { 0 = [] }

abbrev pub actor_in : Record → Actor
actor_in (records.Actor actor) = actor
actor_in (records.Change encoding) = any_actor
actor_in (records.Note path note) = any_actor

abbrev pub encoding_in : Record → List ℕ
encoding_in (records.Actor actor) = []
encoding_in (records.Change encoding) = encoding
encoding_in (records.Note path note) = []

abbrev pub note_in : Record → List ℕ × Note
note_in (records.Actor actor) = ([], Open)
note_in (records.Change encoding) = ([], Open)
note_in (records.Note path note) = (path, note)

-- 1: the actor; 2: the encoding of a change; 3: a path and its note
abbrev pub body_of : ℕ → Format Record
body_of zero = never Tag
body_of (suc zero) = seen_as (λ actor. records.Actor actor) actor_in actor_field
body_of (suc (suc zero)) = seen_as (λ encoding. records.Change encoding) encoding_in (encoding_of change_format)
body_of (suc (suc (suc zero))) = seen_as (λ x. records.Note x.0 x.1) note_in (pair path_field note_field)
body_of (suc (suc (suc (suc b)))) = never Tag

unfoldable pub record_field : Format Record
record_field = tagged kind_of (checked is_kind Tag byte) (λ kind. boxed u64_field (body_of kind))

-- the bytes that a change's record holds encode a change
abbrev pub HoldsEncoding : Record → Type 0
HoldsEncoding (records.Actor actor) = Unit {0}
HoldsEncoding (records.Change encoding) = (encoding_of change_format).Fits encoding
HoldsEncoding (records.Note path note) = Unit {0}
