-- How a shared path is written as a URI.
use Rattle.std.specs.Prelude.{◌==◌, ◌||◌, ◌++◌, ℕ, Bool, List, [], ◌∷◌, flat_map, if◌then◌else◌}
use Rattle.std.specs.Char.{is_ascii_alphanumeric}
use Rattle.percent_encoding.specs.Percent.{percent_encode_byte}
use Rattle.file_uri.specs.Base.{BaseView}

-- an unreserved character of a URI (RFC 3986, section 2.3): a letter, a digit, `-`, `.`, `_` or `~`
abbrev pub is_unreserved : ℕ → Bool
is_unreserved b = is_ascii_alphanumeric b || b == 45 || b == 46 || b == 95 || b == 126

-- the byte stands for itself in a path: it is unreserved, or the slash between parts
abbrev pub is_kept : ℕ → Bool
is_kept b = is_unreserved b || b == 47

-- the byte, as an escape with upper-case digits where it does not stand for itself
abbrev pub written_byte : ℕ → List ℕ
written_byte b = if is_kept b then b ∷ [] else percent_encode_byte b

-- the path, byte by byte
abbrev pub written_path : List ℕ → List ℕ
written_path path = flat_map written_byte path

-- the base's text, and then the path
abbrev pub uri_of : BaseView → List ℕ → List ℕ
uri_of base path = base.text ++ written_path path
