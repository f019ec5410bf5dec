-- Which texts are the URI of a directory, as the base of shared paths.
use Rattle.std.specs.Prelude.{◌≡◌, ◌&&◌, ◌==◌, ◌-◌, true, Bool, not, ℕ, List, length, slice_index, nat_le, is_some, None, Result, Ok, Err, if◌then◌else◌}
use Rattle.url.specs.Parts.{Parts, serialize, IsValid}
use Rattle.url.specs.Parser.{parse_url}
use Rattle.tt_base.specs.Answers.{and_then}
use Rattle.file_uri.specs.declared.faults.UriFault.{UriFault}
use Rattle.file_uri.specs.declared.faults.UriFault.TheVariants.{NotABase}
use Rattle.file_uri.specs.declared.bases.TheConstants.{MAX_BASE_BYTES}
use Rattle.file_uri.specs.FileUrl.{on_this_host, file_url, decoded_path}

-- What contracts see of a base: its text as a URL, and the bytes that its path stands for.
pub record BaseView : Type 0 where
  pub text : List ℕ
  pub path : List ℕ

-- the last byte is a slash
abbrev pub ends_with_slash : List ℕ → Bool
ends_with_slash path = slice_index path (length path - 1) == 47

-- the text has at most as many bytes as the text of a base may have
abbrev pub is_short : List ℕ → Bool
is_short text = nat_le (length text) MAX_BASE_BYTES

-- the URL has a path that ends with a slash, and nothing after it
abbrev pub is_directory : Parts → Bool
is_directory url =
    not (is_some url.query) && not (is_some url.fragment) && ends_with_slash url.path

-- the base that a URL is
abbrev pub view_of : Parts → BaseView
view_of url = record { text = serialize url; path = decoded_path url }

-- the base that a URL is, read of this text, if both are short and the URL is that of a directory
abbrev pub base_at : List ℕ → Parts → Result BaseView UriFault
base_at uri url =
    if is_short uri && is_short (serialize url) && is_directory url then Ok (view_of url)
    else Err NotABase

-- the base that a text is
abbrev pub base_of : List ℕ → Result BaseView UriFault
base_of uri = and_then (file_url uri) (base_at uri)

-- What holds of every base: it is that of a directory's URL, which is what its text reads as, and its text is short.
pub record IsBase (base : BaseView) : Type 0 where
  pub url : Parts
  pub valid : IsValid url
  pub parsed : parse_url None base.text ≡ Ok url
  pub local : on_this_host url ≡ Ok url
  pub short : is_short base.text ≡ true
  pub directory : is_directory url ≡ true
  pub view : base ≡ view_of url
