-- What the definitions of this crate have to do with each other.
use Rattle.std.specs.Prelude.{◌≡◌, true, ℕ, List, None, Ok}
use Rattle.std.specs.Str.{IsUtf8}
use Rattle.percent_encoding.specs.Percent.{percent_decode}
use Rattle.tt_base.specs.Path.{path_fault}
use Rattle.file_uri.specs.Base.{BaseView, IsBase}
use Rattle.file_uri.specs.PathOf.{path_of, shared_path}
use Rattle.file_uri.specs.UriOf.{uri_of}
use Rattle.file_uri.specs.PlainUri.{is_plain, rest_of}

-- what the URL Standard's parser makes of a plain URI is what can be read off it
abbrev pub PlainReadingAgrees : Type 0
PlainReadingAgrees = (base : BaseView) (uri : List ℕ) → IsBase base → is_plain base uri ≡ true
    → path_of base uri ≡ shared_path (percent_decode (rest_of base uri))

-- the URI of a path names that path
abbrev pub PathComesBack : Type 0
PathComesBack = (base : BaseView) (path : List ℕ) → IsBase base → IsUtf8 path
    → path_fault path ≡ None → path_of base (uri_of base path) ≡ Ok path
