-- What is read as the URI of a directory is a base, and its text is read as that base.
use Rattle.std.proofs.Common.{◌≡◌, ℕ, ◌&&◌, true, List, None, Ok, sym, refl, ap, ◌∙◌}
use Rattle.std.proofs.lemmas.Bool.{cond-true}
use Rattle.url.specs.Parts.{Parts, IsValid, serialize}
use Rattle.url.specs.Parser.{parse_url}
use Rattle.url.proofs.Theorems.{parse_url_idempotent}
use Rattle.tt_base.specs.Answers.{and_then}
use Rattle.file_uri.specs.FileUrl.{local_file, file_url}
use Rattle.file_uri.specs.Base.{BaseView, is_short, is_directory, view_of, base_at, base_of, IsBase}
use Rattle.file_uri.proofs.FileUrlLemmas.{local_reading}

pub IsBase-view_of : (uri : List ℕ) (url : Parts) → IsValid url → file_url uri ≡ Ok url → is_short (serialize url) ≡ true → is_directory url ≡ true → IsBase (view_of url)
IsBase-view_of uri url valid read short directory =
    let reading = local_reading (parse_url None uri) url read in
    record {
      url = url;
      valid = valid;
      parsed = parse_url_idempotent None None uri url tt valid reading.read;
      local = reading.local;
      short = short;
      directory = directory;
      view = refl;
    }

-- the text of a base is read as the base
pub base_of-text : (base : BaseView) → IsBase base → base_of base.text ≡ Ok base
base_of-text base known =
    let read : file_url base.text ≡ Ok known.url = ap local_file known.parsed ∙ known.local in
    let text : base.text ≡ serialize known.url = ap (λ b. b.text) known.view in
    let short : is_short (serialize known.url) ≡ true = sym (ap is_short text) ∙ known.short in
    let fits : (is_short base.text && is_short (serialize known.url) && is_directory known.url) ≡ true =
    (λ i. known.short i && short i && known.directory i) in
    ap (λ r. and_then r (base_at base.text)) read ∙ cond-true _ _ _ fits ∙ ap Ok (sym known.view)
