use Rattle.std.proofs.Common.{◌≡◌, ◌++◌, ap, ◌∙◌, subst}
use Rattle.std.proofs.lemmas.Result.{IfOk-weaker}
use Rattle.std.specs.Prelude.{IfOk, Ok}
use Rattle.std.specs.Str.{IsUtf8}
use Rattle.percent_encoding.specs.Percent.{percent_encode}
use Rattle.file_uri.specs.declared.paths.TheConstants.{ESCAPED}
use Rattle.file_uri.specs.PathOf.{path_of}
use Rattle.file_uri.specs.UriOf.{uri_of}
use Rattle.file_uri.proofs.UriLemmas.{percent_encode-ESCAPED, path_of-uri_of}
use Rattle.file_uri.proofs.paths.uri_of.Goals as goal

pub returns-clause-text : goal.returns-clause-text
returns-clause-text c =
    let front = c.in_ok-text.ensures.ok ∙ c.text.ensures in
    let path = c.as_bytes.ensures.value ∙ c.as_str.ensures.text in
    let back = c.percent_encode.ensures.text ∙ ap (percent_encode ESCAPED) path ∙ percent_encode-ESCAPED c.args.path.now in
    let total = c.as_str-2.ensures.value ∙ c.in_ok-append_to.ensures.ok ∙ (λ i. front i ++ back i) in
    subst (λ text. IfOk c.from_str-2.result (λ uri. uri ≡ text)) total c.from_str-2.ensures

pub returns-clause-back : goal.returns-clause-back
returns-clause-back c =
    let text = subst IsUtf8 c.as_str.ensures.text c.as_str.utf8 in
    let back = path_of-uri_of c.args.base.now c.args.path.now c.settled.ensures.base text c.as_str.ensures.path in
    IfOk-weaker c.from_str-2.result (λ uri. uri ≡ uri_of c.args.base.now c.args.path.now) (λ uri. path_of c.args.base.now uri ≡ Ok c.args.path.now) (λ uri same. ap (path_of c.args.base.now) same
    ∙ back) (returns-clause-text c)
