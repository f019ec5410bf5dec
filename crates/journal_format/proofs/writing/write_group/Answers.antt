use Rattle.std.proofs.Common.{length, ap, arith, length-append}
use Rattle.std.specs.List.{flat_map}
use Rattle.byte_format.specs.Values.{u64_field}
use Rattle.journal_format.specs.Encoding.{record_field}
use Rattle.journal_format.specs.Image.{group_field}
use Rattle.journal_format.proofs.writing.write_group.Goals as goal

pub returns-clause-fits : goal.returns-clause-fits
unfolding group_field u64_field
returns-clause-fits c =
    let body = flat_map record_field.spelled c.args.entries.now in (
      omega (
        arith,
        c.as_slice.type_inv.0,
        ap length c.as_slice.ensures.value,
        ap length c.in_ok-put_records.ensures.bytes,
        ap length c.new-body.ensures.items,
        length-append c.new-body.result.items body,
      ),
      c.in_ok-put_records.ensures.fits,
      c.requires.some,
    )
