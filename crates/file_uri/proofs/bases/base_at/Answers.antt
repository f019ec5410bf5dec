use Rattle.std.proofs.Common.{sym, ◌∙◌, ap, subst, arith}
use Rattle.std.proofs.lemmas.Bool.Decides.{nat_tests}
use Rattle.file_uri.specs.Base.{is_short, IsBase}
use Rattle.file_uri.proofs.BaseLemmas.{IsBase-view_of}
use Rattle.file_uri.proofs.bases.base_at.Goals as goal

pub invariant_of-result : goal.invariant_of-result
invariant_of-result c =
    let text = sym (c.in_ok-text.ensures.ok ∙ c.as_str-text.ensures.value) in
    let path = sym c.in_ok-path.ensures in
    let short = sym (ap is_short c.as_str-text.ensures.value) ∙ grind (arith, nat_tests) in
    let known = IsBase-view_of c.args.uri.now c.args.url.now c.as_str-text.ensures.valid c.requires short (sym c.if-not-is_directory.ensures) in
    subst IsBase (λ i. record { text = text i; path = path i }) known
