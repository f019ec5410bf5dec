-- Which URIs are plain: what they name can be read off them, with no parser of URLs.
use Rattle.std.specs.Prelude.{◌≡◌, ◌<◌, ◌==◌, ◌&&◌, true, not, ℕ, Bool, List, [], ◌∷◌, length, drop, if◌then◌else◌}
use Rattle.std.specs.List.{starts_with, list_any}
use Rattle.percent_encoding.specs.Percent.{is_escape, percent_decode}
use Rattle.tt_base.specs.Path.{parts, is_dot_part}
use Rattle.file_uri.specs.Base.{BaseView}
use Rattle.file_uri.specs.UriOf.{is_kept}

-- bytes that stand for themselves, and whole escapes
abbrev pub is_plain_text : List ℕ → Bool
is_plain_text [] = true
is_plain_text (b ∷ []) = is_kept b
is_plain_text (b ∷ c ∷ []) = is_kept b && is_kept c
is_plain_text (b ∷ high ∷ low ∷ rest) =
    if is_escape b high low then is_plain_text rest
    else is_kept b && is_plain_text (high ∷ low ∷ rest)

-- a part is `.` or `..`, so that the URL Standard's parser would resolve it
abbrev pub has_dot_part : List ℕ → Bool
has_dot_part path = list_any is_dot_part (parts path)

-- what stands in a URI behind the base's text
abbrev pub rest_of : BaseView → List ℕ → List ℕ
rest_of base uri = drop (length base.text) uri

-- the URI begins with the base's text, and goes on with a plain text that has no dot part
abbrev pub is_plain : BaseView → List ℕ → Bool
is_plain base uri =
    starts_with ◌==◌ uri base.text && is_plain_text (rest_of base uri)
    && not (has_dot_part (percent_decode (rest_of base uri)))

-- The text begins with this byte, as itself or as its escape, and goes on with the rest: so a plain
-- text is read from its front.
pub record BeginsWith (text : List ℕ) (byte : ℕ) (rest : List ℕ) : Type 0 where
  pub decoded : percent_decode text ≡ byte ∷ percent_decode rest
  pub plain : is_plain_text text ≡ is_plain_text rest
  pub shorter : length rest < length text
