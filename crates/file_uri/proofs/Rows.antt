-- The definitions on worked examples.
use Rattle.std.proofs.Common.{◌≡◌, Ok, Err, codes, refl}
use Rattle.std.specs.Str.{is_utf8, chars}
use Rattle.percent_encoding.specs.Percent.{percent_encode_byte}
use Rattle.url.proofs.OnLiterals.{url_on_literals}
use Rattle.tt_base.specs.declared.paths.PathFault.TheVariants.{Reserved}
use Rattle.file_uri.specs.declared.faults.UriFault.TheVariants.{NotAUri, NotFile, HasHost, NotABase, OutsideBase, NotUtf8, BadPath}
use Rattle.file_uri.specs.Base.{BaseView, base_of}
use Rattle.file_uri.specs.PathOf.{path_of}
use Rattle.file_uri.specs.UriOf.{uri_of}

abbrev work : BaseView
work = record { text = codes "file:///work/"; path = codes "/work/" }

reads_base : base_of (codes "file:/work/") ≡ Ok work
unfolding url_on_literals
reads_base = refl

no_base : base_of (codes "file:///work") ≡ Err NotABase
unfolding url_on_literals
no_base = refl

reads_path : path_of work (codes "file:///work/a%20b") ≡ Ok (codes "a b")
unfolding url_on_literals is_utf8 chars
reads_path = refl

reads_escaped_base : path_of work (codes "file:///w%6Frk/a") ≡ Ok (codes "a")
unfolding url_on_literals is_utf8 chars
reads_escaped_base = refl

no_uri : path_of work (codes "a b") ≡ Err NotAUri
unfolding url_on_literals
no_uri = refl

other_scheme : path_of work (codes "http://x/a") ≡ Err NotFile
unfolding url_on_literals
other_scheme = refl

other_host : path_of work (codes "file://host/work/a") ≡ Err HasHost
unfolding url_on_literals
other_host = refl

outside : path_of work (codes "file:///other/a") ≡ Err OutsideBase
unfolding url_on_literals
outside = refl

no_text : path_of work (codes "file:///work/%FF") ≡ Err NotUtf8
unfolding url_on_literals is_utf8 chars
no_text = refl

reserved : path_of work (codes "file:///work/.git") ≡ Err (BadPath Reserved)
unfolding url_on_literals is_utf8 chars
reserved = refl

writes_uri : uri_of work (codes "a b") ≡ codes "file:///work/a%20b"
unfolding percent_encode_byte
writes_uri = refl
