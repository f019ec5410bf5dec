use Rattle.std.proofs.Common.{subst, ◌≡◌, true}
use Rattle.std.specs.Str.{is_utf8}
use Rattle.byte_format.specs.Format.{IsBytes}
use Rattle.change_making.proofs.FitsLemmas.{make_fits}
use Rattle.change_making.proofs.writing.new_object.Goals as goal

pub returns-clause-fits : goal.returns-clause-fits
returns-clause-fits c =
    make_fits c.args.path.now c.as_str.ensures.path (subst (λ t. is_utf8 t ≡ true) c.as_str.ensures.text c.text_length-length.ensures.utf8)
    (subst IsBytes c.as_str.ensures.text c.text_length-length.ensures.bytes)
