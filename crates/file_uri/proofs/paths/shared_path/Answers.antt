use Rattle.std.proofs.Common.{◌≡◌, Err, inl, ap, ◌∙◌}
use Rattle.std.proofs.lemmas.Result.{err_from_is_err_and}
use Rattle.file_uri.specs.declared.faults.UriFault.TheVariants.{NotUtf8}
use Rattle.file_uri.specs.PathOf.{shared_path}
use Rattle.file_uri.proofs.PathLemmas.{shared_path-not_utf8, shared_path-read, shared_path-refused, shared_path-exact, IfErr-each}
use Rattle.file_uri.proofs.paths.shared_path.Goals as goal

pub returns-in-Err-clause-gives : goal.returns-in-Err-clause-gives
returns-in-Err-clause-gives c = inl (shared_path-not_utf8 c.args.bytes.now c.in-Err.ensures.cases.0)

pub returns-in-Err-clause-refused : goal.returns-in-Err-clause-refused
returns-in-Err-clause-refused c =
    let no_text : shared_path c.args.bytes.now ≡ Err NotUtf8 = shared_path-not_utf8 c.args.bytes.now c.in-Err.ensures.cases.0 in
    IfErr-each (shared_path c.args.bytes.now) _ (λ fault is. let same : NotUtf8 ≡ fault = cc in ap Err same)

pub returns-in_err-path-clause-gives : goal.returns-in_err-path-clause-gives
returns-in_err-path-clause-gives c =
    let text = c.in-Ok.ensures.cases in
    let refused = shared_path-refused c.args.bytes.now c.in-Ok.text.now c.in_err-path.field-0.0 text.0 text.1 c.in_err-path.ensures.refused c.in_err-path.ensures.read in
    let p = err_from_is_err_and c.from_residual.result c.from_residual.ensures.1 in
    rw (p.1, p.2) refused

pub returns-in_err-path-clause-refused : goal.returns-in_err-path-clause-refused
returns-in_err-path-clause-refused c =
    let text = c.in-Ok.ensures.cases in
    let p = err_from_is_err_and c.from_residual.result c.from_residual.ensures.1 in
    IfErr-each (shared_path c.args.bytes.now) _
    (λ fault is. p.1 ∙ ap Err (p.2 ∙ shared_path-exact c.args.bytes.now c.in-Ok.text.now c.in_err-path.field-0.0 fault text.0 text.1 c.in_err-path.ensures.refused is))

pub returns-clause-gives : goal.returns-clause-gives
returns-clause-gives c =
    let text = c.in-Ok.ensures.cases in
    shared_path-read c.args.bytes.now c.in-Ok.text.now c.in_ok-path.path text.0 text.1 c.in_ok-path.ensures.refused c.in_ok-path.ensures.read

pub returns-clause-refused : goal.returns-clause-refused
returns-clause-refused c =
    let read = returns-clause-gives c in
    IfErr-each (shared_path c.args.bytes.now) _ (λ fault is. absurd (cc))
