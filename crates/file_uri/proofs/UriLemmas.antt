-- The URI of a path is plain, and names that path.
use Rattle.std.proofs.Common.{◌≡◌, ℕ, ◌/◌, ◌%◌, ◌≤◌, true, false, not, List, [], ◌∷◌, ◌++◌, None, Ok, All, sym, refl, ap, ◌∙◌, ⊎_elim, arith}
use Rattle.std.specs.Fmt.{digit_glyph}
use Rattle.std.specs.Str.{IsUtf8, is_utf8}
use Rattle.std.proofs.lemmas.Bool.{cases_Bool, cases_lt, cond-true, cond-false, agree_below, agree_below_at}
use Rattle.std.proofs.lemmas.Bool.Decides.{nat_tests}
use Rattle.std.proofs.lemmas.Str.{is_utf8-from_IsUtf8}
use Rattle.percent_encoding.specs.AsciiSet.{should_percent_encode}
use Rattle.percent_encoding.specs.Percent.{encode_byte, percent_encode_byte, percent_encode, percent_decode, is_escape}
use Rattle.percent_encoding.proofs.PercentLemmas.{IsByte, round_trip}
use Rattle.tt_base.specs.Path.{path_fault}
use Rattle.file_uri.specs.declared.paths.TheConstants.{ESCAPED}
use Rattle.file_uri.specs.Base.{BaseView, IsBase}
use Rattle.file_uri.specs.PathOf.{path_of, shared_path, unless_fault}
use Rattle.file_uri.specs.UriOf.{is_kept, written_byte, written_path, uri_of}
use Rattle.file_uri.specs.PlainUri.{has_dot_part, is_plain_text}
use Rattle.file_uri.proofs.ByteLemmas.{is_plain_text-kept, is_plain_text-escape}
use Rattle.file_uri.proofs.TextLemmas.{bytes_from_IsUtf8}
use Rattle.file_uri.proofs.PlainReading.{path_of-plain}

-- ---- the set of escaped bytes

in_ascii : agree_below (should_percent_encode ESCAPED) (λ b. not (is_kept b)) 128 ≡ true
unfolding should_percent_encode
in_ascii = refl

outside_ascii : (b : ℕ) → 128 ≤ b → should_percent_encode ESCAPED b ≡ not (is_kept b)
unfolding should_percent_encode
outside_ascii b high = grind (arith, nat_tests)

escapes_others : (b : ℕ) → should_percent_encode ESCAPED b ≡ not (is_kept b)
escapes_others b =
    ⊎_elim
    (λ low. agree_below_at (should_percent_encode ESCAPED) (λ x. not (is_kept x)) 128 b in_ascii low)
    (λ high. outside_ascii b high)
    (cases_lt b 128)

encode_byte-ESCAPED : (b : ℕ) → encode_byte ESCAPED b ≡ written_byte b
encode_byte-ESCAPED b =
    ⊎_elim
    (λ kept. cond-false _ _ _ (escapes_others b ∙ ap not kept) ∙ sym (cond-true _ _ _ kept))
    (λ other. cond-true _ _ _ (escapes_others b ∙ ap not other) ∙ sym (cond-false _ _ _ other))
    (cases_Bool (is_kept b))

pub percent_encode-ESCAPED : (path : List ℕ) → percent_encode ESCAPED path ≡ written_path path
unfolding percent_encode
percent_encode-ESCAPED [] = refl
percent_encode-ESCAPED (b ∷ path) = λ i. encode_byte-ESCAPED b i ++ percent_encode-ESCAPED path i

-- ---- a written path is plain, and decodes to the path

pub percent_decode-written : (path : List ℕ) → All IsByte path → percent_decode (written_path path) ≡ path
percent_decode-written path bytes = ap percent_decode (sym (percent_encode-ESCAPED path)) ∙ round_trip ESCAPED path refl bytes

escape_of : (b : ℕ) → is_escape 37 (digit_glyph true (b / 16 % 16)) (digit_glyph true (b % 16)) ≡ true
escape_of b = grind (arith, nat_tests)

pub is_plain_text-written : (path : List ℕ) → is_plain_text (written_path path) ≡ true
unfolding percent_encode_byte
is_plain_text-written [] = refl
is_plain_text-written (b ∷ path) =
    ⊎_elim
    (λ kept. ap (λ l. is_plain_text (l ++ written_path path)) (cond-true _ _ _ kept) ∙ is_plain_text-kept b (written_path path) kept ∙ is_plain_text-written path)
    (λ other.
    ap (λ l. is_plain_text (l ++ written_path path)) (cond-false _ _ _ other)
    ∙ is_plain_text-escape 37 (digit_glyph true (b / 16 % 16)) (digit_glyph true (b % 16)) (written_path path) (escape_of b) ∙ is_plain_text-written path)
    (cases_Bool (is_kept b))

-- ---- the round trip

no_dot_part : (path : List ℕ) → path_fault path ≡ None → has_dot_part path ≡ false
no_dot_part path fine = grind (arith, nat_tests)

shared_path-fine : (path : List ℕ) → is_utf8 path ≡ true → path_fault path ≡ None → shared_path path ≡ Ok path
shared_path-fine path text fine = cond-true _ _ _ text ∙ ap (λ fault. unless_fault fault path) fine

-- The URI of a path names that path.
pub path_of-uri_of : (base : BaseView) (path : List ℕ) → IsBase base → IsUtf8 path → path_fault path ≡ None → path_of base (uri_of base path) ≡ Ok path
path_of-uri_of base path known text fine =
    let decoded = percent_decode-written path (bytes_from_IsUtf8 path text) in
    path_of-plain base (written_path path) known (is_plain_text-written path) (ap has_dot_part decoded ∙ no_dot_part path fine)
    ∙ ap shared_path decoded ∙ shared_path-fine path (is_utf8-from_IsUtf8 path text) fine
