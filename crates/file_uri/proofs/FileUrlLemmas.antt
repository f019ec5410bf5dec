-- What is known of a text that is the URL of a file on this host.
use Rattle.std.proofs.Common.{◌≡◌, false, cond, Result, Ok, Err, codes, bytes_eq, sym, ap, ◌∙◌, ⊎_elim}
use Rattle.std.proofs.lemmas.Bool.{cases_Bool, cond-true, cond-false}
use Rattle.std.proofs.lemmas.Slice.Eq.{bytes_eq-Decides}
use Rattle.url.specs.Parts.{Parts, has_host}
use Rattle.url.specs.Parser.{Parsed}
use Rattle.file_uri.specs.declared.faults.UriFault.TheVariants.{NotAUri, NotFile, HasHost}
use Rattle.file_uri.specs.declared.faults.UriFault.{UriFault}
use Rattle.file_uri.specs.FileUrl.{on_this_host, local_file}

abbrev accepted : Parts → Result Parts UriFault
accepted url = Ok url

pub record IsLocal (read url : Parts) : Type 0 where
  pub scheme : read.scheme ≡ codes "file"
  pub host : has_host read ≡ false
  pub same : read ≡ url

-- a URL that is accepted has the scheme `file` and no host, and stays as it is
pub local_parts : (read url : Parts) → on_this_host read ≡ Ok url → IsLocal read url
local_parts read url local =
    ⊎_elim
    (λ named.
    let by_host : cond (has_host read) (Err HasHost) (Ok read) ≡ Ok url = rw named at local in
    ⊎_elim
    (λ hosted. let wrong : Err HasHost ≡ Ok url = sym (cond-true _ _ _ hosted) ∙ by_host in cc)
    (λ free.
    let same : accepted read ≡ accepted url = sym (cond-false _ _ _ free) ∙ by_host in
    record { scheme = (bytes_eq-Decides read.scheme (codes "file")).0 named; host = free; same = cc })
    (cases_Bool (has_host read)))
    (λ other. let wrong : Err NotFile ≡ Ok url = rw other at local in cc)
    (cases_Bool (bytes_eq read.scheme (codes "file")))

pub record IsLocalReading (parsed : Parsed Parts) (url : Parts) : Type 0 where
  pub read : parsed ≡ Ok url
  pub local : on_this_host url ≡ Ok url

-- the URL that a text reads as is what the parser gave
pub local_reading : (parsed : Parsed Parts) (url : Parts) → local_file parsed ≡ Ok url → IsLocalReading parsed url
local_reading (Ok read) url local =
    let same = (local_parts read url local).same in
    record { read = ap Ok same; local = ap on_this_host (sym same) ∙ local }
local_reading (Err error) url local = let wrong : Err NotAUri ≡ Ok url = local in cc
