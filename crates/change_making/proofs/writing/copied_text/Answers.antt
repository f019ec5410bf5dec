use Rattle.std.proofs.Common.{◌≡◌, ◌<◌, ◌++◌, length, Result, Ok, Err, sym, ap, ◌∙◌}
use Rattle.std.specs.Prelude.{encode_utf8_all, OnOk}
use Rattle.std.specs.Str.{all_scalars}
use Rattle.byte_format.specs.Values.{text_field}
use Rattle.change_making.proofs.FitsLemmas.{text_fits}
use Rattle.change_making.proofs.writing.copied_text.Goals as goal

on_any : {T E : Type 0} (P : Type 0) (r : Result T E) → P → OnOk r P
on_any P (Ok x) p = p
on_any P (Err e) p = tt

pub returns-clause-fits : goal.returns-clause-fits
returns-clause-fits c =
    let same : c.as_slice.result.now ≡ c.args.text.now =
    c.as_slice.ensures.value ∙ (c.in_ok-append_to.ensures.ok ∙ ap (λ xs. xs ++ c.args.text.now) c.in_ok-characters.ensures.items) in
    on_any (0 < length c.args.text.now → text_field.Fits c.args.text.now) c.from_vec.result
    (λ some. text_fits c.args.text.now c.in-Some._bytes (c.in-Some.ensures.bytes ∙ ap (λ t. length (encode_utf8_all t)) same) c.in-Some.ensures.few
    (sym (ap all_scalars same) ∙ c.in-Some.ensures.scalars) some)
