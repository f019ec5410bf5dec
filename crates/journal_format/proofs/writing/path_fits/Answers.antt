use Rattle.std.proofs.Common.{◌≡◌, true, subst, ◌∙◌}
use Rattle.std.specs.Str.{is_utf8}
use Rattle.std.proofs.lemmas.Str.{is_utf8-from_IsUtf8}
use Rattle.byte_format.specs.Format.{IsBytes}
use Rattle.journal_format.proofs.Fits.{path_fits, short_path}
use Rattle.journal_format.proofs.writing.path_fits.Goals as goal

pub returns : goal.returns
returns c =
    let same : c.as_str-text.result.now ≡ c.args.path.now = c.as_str-text.ensures.text in
    path_fits c.args.path.now (subst IsBytes (c.as_bytes.ensures.value ∙ same) c.are_bytes.ensures)
    (subst (λ b. is_utf8 b ≡ true) same (is_utf8-from_IsUtf8 c.as_str-text.result.now c.as_str-text.utf8)) c.as_str-text.ensures.path
    (short_path c.args.path.now c.as_str-text.ensures.path)
