use Rattle.std.proofs.Common.{◌≡◌, ◌-◌, ◌<◌, [], ◌∷◌, ◌++◌, length, arith, length-append}
use Rattle.byte_format.specs.Lists.{to_end}
use Rattle.journal_format.specs.Encoding.{record_field}
use Rattle.journal_format.proofs.EncodingLaws.{record_lawful, record_some}
use Rattle.journal_format.proofs.Loops.{goes_on, shorter, behind_is}
use Rattle.journal_format.proofs.reading.read_records.Goals as goal

pub loop-rest-smaller : goal.loop-rest-smaller
loop-rest-smaller c =
    shorter record_field record_lawful record_some c.loop-rest.rest.now c.in_ok-record.record c.in_ok-record.behind.now c.loop-rest.invariant.2 c.in_ok-record.ensures

pub loop-rest-preserved : goal.loop-rest-preserved
loop-rest-preserved c =
    let bytes = c.loop-rest.rest.now in let behind = c.in_ok-record.behind.now in let values = c.loop-rest.records.items in let value = c.in_ok-record.record in
    let left = length c.args.bytes.now - length values in
    let less : length behind < length bytes = shorter record_field record_lawful record_some bytes value behind c.loop-rest.invariant.2 c.in_ok-record.ensures in
    let one_more : length c.args.bytes.now - length (values ++ value ∷ []) ≡ left - 1 = omega (arith, length-append values (value ∷ [])) in
    rw c.in_ok-push.ensures.items (
      rw one_more (goes_on record_field values left bytes value behind (to_end record_field c.args.bytes.now) (omega arith) (omega (arith, c.loop-rest.invariant.1))
          c.in_ok-record.ensures c.loop-rest.invariant.0),
      omega (arith, c.loop-rest.invariant.1, length-append values (value ∷ [])),
      behind_is record_field record_lawful bytes value behind c.loop-rest.invariant.2 c.in_ok-record.ensures,
    )
