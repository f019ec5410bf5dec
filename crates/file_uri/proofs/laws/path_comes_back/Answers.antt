use Rattle.file_uri.proofs.UriLemmas.{path_of-uri_of}
use Rattle.file_uri.proofs.laws.path_comes_back.Goals as goal

pub returns : goal.returns
returns c = path_of-uri_of
