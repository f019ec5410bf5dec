use Rattle.std.proofs.Common.{length, ap, arith, length-append}
use Rattle.byte_format.specs.Values.{path_field}
use Rattle.journal_format.specs.Encoding.{note_field}
use Rattle.journal_format.proofs.Fits.{note_fits}
use Rattle.journal_format.proofs.writing.put_noted.Goals as goal

pub returns-clause-fits : goal.returns-clause-fits
returns-clause-fits c =
    let path = path_field.spelled c.args.path.now in let note = note_field.spelled c.args.note in
    note_fits c.args.path.now c.args.note c.path_fits.ensures c.in_ok-put_note.ensures.fits
    (omega (
      arith,
      c.as_slice.type_inv.0,
      ap length c.as_slice.ensures.value,
      ap length c.in_ok-put_note.ensures.bytes,
      ap length c.in_ok-put_path.ensures,
      ap length c.new-body.ensures.items,
      length-append path note,
      length-append c.new-body.result.items path,
      length-append c.put_path.new.out.items note,
    ))
