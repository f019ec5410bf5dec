use Rattle.std.proofs.Common.{◌≡◌, Some, arith}
use Rattle.byte_format.specs.Format.{whole}
use Rattle.byte_format.proofs.Lawful.{wholly_read, wholly_within}
use Rattle.change_codec.specs.Change as spec
use Rattle.change_codec.specs.Encoding.{change_format}
use Rattle.change_codec.proofs.EncodingLaws.{change_lawful}
use Rattle.change_codec.proofs.Readings.{read_is, none_is, first_at, kept_is_read}
use Rattle.change_codec.proofs.reading.read_change.Goals as goal

pub new-requires : goal.new-requires
new-requires c =
    let is : c.in-Ok.parts ≡ Some c.in-Some.field-0 = c.in-Some.is in
    let read = kept_is_read (λ p. let change : spec.Change = record { actor = p.actor; seq = p.seq; deps = p.deps; ops = p.ops } in change) c.in-Ok.parts c.in-Some.field-0
    (whole change_format c.args.bytes.now) is c.in-Ok.ensures in
    (wholly_read change_format change_lawful c.args.bytes.now _ (λ i. omega (arith, c.type_inv.bytes i)) read).fits

pub overflow_sub-result : goal.overflow_sub-result
overflow_sub-result c = wholly_within change_format change_lawful c.args.bytes.now c.in-Err.field (λ i. omega (arith, c.type_inv.bytes i)) c.in-Err.ensures

pub returns-in-Some-clause-found : goal.returns-in-Some-clause-found
returns-in-Some-clause-found c =
    let is : c.in-Ok.parts ≡ Some c.in-Some.field-0 = c.in-Some.is in
    let read = kept_is_read (λ p. let change : spec.Change = record { actor = p.actor; seq = p.seq; deps = p.deps; ops = p.ops } in change) c.in-Ok.parts c.in-Some.field-0
    (whole change_format c.args.bytes.now) is c.in-Ok.ensures in
    rw c.new.ensures (wholly_read change_format change_lawful c.args.bytes.now _ (λ i. omega (arith, c.type_inv.bytes i)) read)

pub returns-in-Some-clause-only : goal.returns-in-Some-clause-only
returns-in-Some-clause-only c = λ change encoding.
    let is : c.in-Ok.parts ≡ Some c.in-Some.field-0 = c.in-Some.is in
    let read = kept_is_read (λ p. let change : spec.Change = record { actor = p.actor; seq = p.seq; deps = p.deps; ops = p.ops } in change) c.in-Ok.parts c.in-Some.field-0
    (whole change_format c.args.bytes.now) is c.in-Ok.ensures in
    rw c.new.ensures (read_is change_format change_lawful c.args.bytes.now _ change read encoding)

pub returns-in-Err-clause-only : goal.returns-in-Err-clause-only
returns-in-Err-clause-only c = λ change encoding. absurd (none_is change_format change_lawful c.args.bytes.now c.in-Err.field change c.in-Err.ensures encoding)

pub returns-in-Err-clause-exact : goal.returns-in-Err-clause-exact
returns-in-Err-clause-exact c = first_at change_format change_lawful c.args.bytes.now c.in-Err.field (λ i. omega (arith, c.type_inv.bytes i)) c.in-Err.ensures
