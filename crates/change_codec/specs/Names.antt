-- Names of changes.
use Rattle.std.specs.Prelude.{ℕ, List}
use Rattle.sha2.specs.Sha256.{sha256}
use Rattle.tt_base.specs.declared.ids.Name.{Name}

-- the SHA-256 digest of a message (FIPS 180-4), in the words of the crate `sha2`
abbrev pub digest_of : List ℕ → List ℕ
digest_of message = sha256 message

-- the name of the change with this encoding: the digest of its bytes
abbrev pub name_of : List ℕ → Name
name_of encoding = record { 0 = digest_of encoding }
