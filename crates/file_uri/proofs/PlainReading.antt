-- A plain URI is read by the URL Standard's parser to what can be read off it.
use Rattle.std.proofs.Common.{◌≡◌, ◌≢◌, ℕ, ◌+◌, ◌-◌, ◌<◌, true, false, cond, not, ◌&&◌, ◌||◌, ◌==◌, List, [], ◌∷◌, ◌++◌, length, get_or, take, drop}
use Rattle.std.proofs.Common.{Option, Some, None, Ok, All, is_some, unwrap_or, codes, sym, refl, ap, ◌∙◌, subst, inl, ⊎_elim, arith, append_assoc, append-nil, drop_at, one-add, length-append}
use Rattle.std.specs.List.{starts_with}
use Rattle.std.specs.Char.{is_ascii_alphabetic}
use Rattle.std.proofs.lemmas.Bool.{cases_Bool, cond-true, cond-false, and_parts, not-true}
use Rattle.std.proofs.lemmas.Bool.Decides.{nat_tests, Decides-eqb}
use Rattle.std.proofs.lemmas.List.{drop_all}
use Rattle.std.proofs.lemmas.List.Elements.{All-nil, All-take}
use Rattle.std.proofs.lemmas.Slice.Eq.{bytes_eq-Decides, starts_is}
use Rattle.percent_encoding.specs.Percent.{percent_decode}
use Rattle.percent_encoding.proofs.PercentLemmas.{percent_decode-nil}
use Rattle.url.specs.declared.scheme.SchemeType.TheVariants.{File}
use Rattle.url.specs.declared.slicing.Position.TheVariants.{AfterPort}
use Rattle.url.specs.Scheme.{scheme_type, is_special, is_slash}
use Rattle.url.specs.Path.{segment_len, is_windows_drive_letter, without_last_segment, IsSegmentList}
use Rattle.url.specs.Parts.{Parts, kind_of, has_authority, serialize, text_before, IsValid}
use Rattle.url.specs.Canonical.{IsCanonical, IsCanonicalAs, IsCanonicalFile, first_segment}
use Rattle.url.specs.Parser.{with_path, parse_url}
use Rattle.url.proofs.InputLemmas.{split_around, rsplit_once_at}
use Rattle.url.proofs.LayoutLemmas.{IsValidHead_same}
use Rattle.url.proofs.ParsedCanonical.{parse_url_canonical}
use Rattle.url.proofs.PathLemmas.{without_last_valid}
use Rattle.url.proofs.SchemeLemmas.{scheme_type_file}
use Rattle.url.proofs.Theorems.{parse_url-serialize}
use Rattle.url.proofs.ValidLemmas.{hierarchical, special_has_authority, base_from_authority}
use Rattle.tt_base.specs.Answers.{and_then}
use Rattle.file_uri.specs.FileUrl.{on_this_host, file_url, local_file, decoded_path}
use Rattle.file_uri.specs.Base.{BaseView, ends_with_slash, is_directory, IsBase}
use Rattle.file_uri.specs.PathOf.{path_below, path_of, shared_path}
use Rattle.file_uri.specs.PlainUri.{has_dot_part, is_plain_text, is_plain, rest_of}
use Rattle.file_uri.proofs.ByteLemmas.{IsPlainByte, All-plain}
use Rattle.file_uri.proofs.FileUrlLemmas.{local_parts}
use Rattle.file_uri.proofs.PlainLemmas.{percent_decode-at_slash, IsSegmentList-plain}

-- ---- what the URL of a directory is

record IsDirectory (url : Parts) : Type 0 where
  query : url.query ≡ None
  fragment : url.fragment ≡ None
  front : List ℕ
  path : url.path ≡ front ++ 47 ∷ []

none_from_not : (part : Option (List ℕ)) → not (is_some part) ≡ true → part ≡ None
none_from_not None _ = refl
none_from_not (Some text) wrong = cc

slash_at_end : (path : List ℕ) → ends_with_slash path ≡ true → path ≡ take (length path - 1) path ++ 47 ∷ []
slash_at_end [] wrong = cc
slash_at_end (b ∷ path) ends =
    let at = length (b ∷ path) - 1 in
    let here : get_or (b ∷ path) at 0 ≡ 47 = grind (arith, nat_tests) in
    split_around (b ∷ path) at 47 (omega arith) here ∙ ap (λ l. take at (b ∷ path) ++ 47 ∷ l) (drop_all (at + 1) (b ∷ path) (omega arith))

directory_parts : (url : Parts) → is_directory url ≡ true → IsDirectory url
directory_parts url directory =
    let outer = and_parts _ _ directory in
    let tail = and_parts _ _ outer.0 in
    record { query = none_from_not url.query tail.0; fragment = none_from_not url.fragment tail.1; front = take (length url.path - 1) url.path; path = slash_at_end url.path outer.1 }

-- ---- the first segment of a longer path

-- the bytes before the first slash
abbrev segment : List ℕ → List ℕ
segment bytes = take (segment_len File bytes) bytes

segment-cons : (b : ℕ) (bytes : List ℕ) → segment (b ∷ bytes) ≡ cond (is_slash File b) [] (b ∷ segment bytes)
segment-cons b bytes =
    ⊎_elim
    (λ slash. ap (λ n. take n (b ∷ bytes)) (cond-false _ _ _ (ap not slash)) ∙ sym (cond-true _ _ _ slash))
    (λ other. ap (λ n. take n (b ∷ bytes)) (cond-true _ _ _ (ap not other) ∙ one-add _) ∙ sym (cond-false _ _ _ other))
    (cases_Bool (is_slash File b))

segment-append : (front back other : List ℕ) → segment (front ++ 47 ∷ back) ≡ segment (front ++ 47 ∷ other)
segment-append [] back other = refl
segment-append (b ∷ front) back other =
    segment-cons b (front ++ 47 ∷ back) ∙ ap (λ s. cond (is_slash File b) [] (b ∷ s)) (segment-append front back other) ∙ sym (segment-cons b (front ++ 47 ∷ other))

no_drive_byte : (b : ℕ) → IsPlainByte b → (b == 58 || b == 124) ≡ true → ⊥
no_drive_byte b plain drive = grind (arith, nat_tests)

no_drive_letter : (text : List ℕ) → All IsPlainByte text → is_windows_drive_letter text ≡ true → ⊥
unfolding is_windows_drive_letter
no_drive_letter text plain drive =
    let parts = and_parts (length text == 2 && is_ascii_alphabetic (get_or text 0 0)) (get_or text 1 0 == 58 || get_or text 1 0 == 124) drive in
    let long : 1 < length text = grind (arith, nat_tests) in
    no_drive_byte (get_or text 1 0) (plain 1 0 long) parts.1

-- a drive letter in front of a path is written with a colon
abbrev WritesDrive : List ℕ → Type 0
WritesDrive path = is_windows_drive_letter (first_segment File path) ≡ true → get_or (first_segment File path) 1 0 ≡ 58

drive-extended : (front rest : List ℕ) → All IsPlainByte rest → WritesDrive (front ++ 47 ∷ []) → WritesDrive (front ++ 47 ∷ rest)
drive-extended [] rest plain own = λ drive. absurd (no_drive_letter (segment rest) (All-take IsPlainByte (segment_len File rest) rest plain) drive)
drive-extended (b ∷ front) rest plain own =
    subst (λ s. is_windows_drive_letter s ≡ true → get_or s 1 0 ≡ 58) (segment-append front [] rest) own

-- ---- the URL with a longer path

serialize-path : (url : Parts) (path : List ℕ) → has_authority url ≡ true → url.query ≡ None → url.fragment ≡ None → serialize (with_path url path) ≡ text_before url AfterPort ++ path
serialize-path url path authority query fragment =
    rw (authority, query, fragment) (simp (append_assoc, append-nil))

serialize-append : (url : Parts) (rest : List ℕ) → has_authority url ≡ true → url.query ≡ None → url.fragment ≡ None → serialize (with_path url (url.path ++ rest)) ≡ serialize url ++ rest
serialize-append url rest authority query fragment =
    let head = text_before url AfterPort in
    serialize-path url (url.path ++ rest) authority query fragment ∙ sym (append_assoc head url.path rest)
    ∙ ap (λ text. text ++ rest) (sym (serialize-path url url.path authority query fragment))

valid-with_path : (url : Parts) (path : List ℕ) → IsValid url → kind_of url ≡ File → IsSegmentList File path → 0 < length path → IsValid (with_path url path)
valid-with_path url path valid kind list long = record {
  head = IsValidHead_same url (with_path url path) refl valid.head;
  path = inl (subst (λ k. IsSegmentList k path) (sym kind) list, λ _. long);
  query = valid.query;
  fragment = valid.fragment;
}

-- what is known of the URL of a base
record IsDirectoryUrl (url : Parts) : Type 0 where
  kind : kind_of url ≡ File
  authority : has_authority url ≡ true
  front : List ℕ
  path : url.path ≡ front ++ 47 ∷ []
  list : IsSegmentList File front
  query : url.query ≡ None
  fragment : url.fragment ≡ None
  canonical : IsCanonicalFile url

kind_of_local : (url : Parts) → on_this_host url ≡ Ok url → kind_of url ≡ File
kind_of_local url local = ap scheme_type (local_parts url url local).scheme ∙ scheme_type_file

front_list : (url : Parts) (front : List ℕ) → url.path ≡ front ++ 47 ∷ [] → IsSegmentList File url.path → IsSegmentList File front
front_list url front path list =
    let cut : without_last_segment url.path ≡ front = ap without_last_segment path ∙ ap (λ r. unwrap_or r.0 []) (rsplit_once_at 47 front [] (All-nil (λ b. b ≢ 47))) in
    subst (IsSegmentList File) cut (without_last_valid File url.path list)

directory_url : (url : Parts) (text : List ℕ) → IsValid url → parse_url None text ≡ Ok url → on_this_host url ≡ Ok url → is_directory url ≡ true → IsDirectoryUrl url
directory_url url text valid parsed local directory =
    let kind = kind_of_local url local in
    let authority = special_has_authority url valid.head (ap is_special kind) in
    let parts = directory_parts url directory in
    let list = subst (λ k. IsSegmentList k url.path) kind (hierarchical url valid.path (base_from_authority url authority)).0 in
    let canonical = subst (λ k. IsCanonicalAs k url) kind (parse_url_canonical None text url tt valid parsed) in
    record {
      kind = kind;
      authority = authority;
      front = parts.front;
      path = parts.path;
      list = front_list url parts.front parts.path list;
      query = parts.query;
      fragment = parts.fragment;
      canonical = canonical;
    }

canonical-longer : (url : Parts) (front rest : List ℕ) → kind_of url ≡ File → url.path ≡ front ++ 47 ∷ [] → All IsPlainByte rest → IsCanonicalFile url
    → IsCanonical (with_path url (front ++ 47 ∷ rest))
canonical-longer url front rest kind path plain canonical =
    let own : WritesDrive (front ++ 47 ∷ []) = subst WritesDrive path canonical.drive in
    subst (λ k. IsCanonicalAs k (with_path url (front ++ 47 ∷ rest))) (sym kind)
    (record { host = canonical.host; drive = drive-extended front rest plain own })

-- the parser reads a plain text behind a directory's URL as a longer path
parse-longer : (url : Parts) (rest : List ℕ) → IsValid url → IsDirectoryUrl url → is_plain_text rest ≡ true → has_dot_part (percent_decode rest) ≡ false
    → parse_url None (serialize url ++ rest) ≡ Ok (with_path url (url.path ++ rest))
parse-longer url rest valid known plain none =
    let bytes = All-plain rest plain in
    let longer : url.path ++ rest ≡ known.front ++ 47 ∷ rest = ap (λ p. p ++ rest) known.path ∙ append_assoc known.front (47 ∷ []) rest in
    let list = IsSegmentList-plain known.front rest known.list bytes none in
    let long : 0 < length (known.front ++ 47 ∷ rest) = simp length-append (omega arith) in
    let read =
    parse_url-serialize (with_path url (known.front ++ 47 ∷ rest)) None (valid-with_path url _ valid known.kind list long)
    (canonical-longer url known.front rest known.kind known.path bytes known.canonical) in
    let read_longer = subst (λ p. parse_url None (serialize (with_path url p)) ≡ Ok (with_path url p)) (sym longer) read in
    rw (serialize-append url rest known.authority known.query known.fragment) at read_longer

-- ---- the path below the base

below_front : (front rest : List ℕ) → path_below (percent_decode (front ++ 47 ∷ [])) (percent_decode (front ++ 47 ∷ rest)) ≡ shared_path (percent_decode rest)
below_front front rest =
    let directory = percent_decode (front ++ 47 ∷ []) in
    let own : directory ≡ percent_decode front ++ 47 ∷ [] = percent_decode-at_slash front [] ∙ ap (λ l. percent_decode front ++ 47 ∷ l) percent_decode-nil in
    let split : percent_decode (front ++ 47 ∷ rest) ≡ directory ++ percent_decode rest =
    percent_decode-at_slash front rest ∙ sym (append_assoc (percent_decode front) (47 ∷ []) (percent_decode rest)) ∙ ap (λ d. d ++ percent_decode rest) (sym own) in
    let begins = (starts_is Decides-eqb (percent_decode (front ++ 47 ∷ rest)) directory _ refl).1 (percent_decode rest) split in
    cond-true _ _ _ begins ∙ ap shared_path (ap (drop (length directory)) split ∙ drop_at directory (percent_decode rest) _ refl)

pub path_of-plain : (base : BaseView) (rest : List ℕ) → IsBase base → is_plain_text rest ≡ true → has_dot_part (percent_decode rest) ≡ false
    → path_of base (base.text ++ rest) ≡ shared_path (percent_decode rest)
path_of-plain base rest known plain none =
    let url = known.url in
    let text : base.text ≡ serialize url = ap (λ b. b.text) known.view in
    let path : base.path ≡ percent_decode url.path = ap (λ b. b.path) known.view in
    let directory = directory_url url base.text known.valid known.parsed known.local known.directory in
    let parsed = ap (λ t. parse_url None (t ++ rest)) text ∙ parse-longer url rest known.valid directory plain none in
    let local = local_parts url url known.local in
    let here : on_this_host (with_path url (url.path ++ rest)) ≡ Ok (with_path url (url.path ++ rest)) =
    cond-false _ _ _ (ap not ((bytes_eq-Decides url.scheme (codes "file")).1 local.scheme)) ∙ cond-false _ _ _ local.host in
    let read : file_url (base.text ++ rest) ≡ Ok (with_path url (url.path ++ rest)) = ap local_file parsed ∙ here in
    ap (λ r. and_then r (λ u. path_below base.path (decoded_path u))) read
    ∙ ap (λ p. path_below p (percent_decode (url.path ++ rest))) path
    ∙ (λ i. path_below (percent_decode (directory.path i)) (percent_decode (directory.path i ++ rest)))
    ∙ ap (λ p. path_below (percent_decode (directory.front ++ 47 ∷ [])) (percent_decode p)) (append_assoc directory.front (47 ∷ []) rest)
    ∙ below_front directory.front rest

-- The reading of a plain URI is that of the URL Standard's parser.
pub path_of-is_plain : (base : BaseView) (uri : List ℕ) → IsBase base → is_plain base uri ≡ true → path_of base uri ≡ shared_path (percent_decode (rest_of base uri))
path_of-is_plain base uri known plain =
    let parts = and_parts (starts_with ◌==◌ uri base.text && is_plain_text (rest_of base uri)) (not (has_dot_part (percent_decode (rest_of base uri)))) plain in
    let front = and_parts (starts_with ◌==◌ uri base.text) (is_plain_text (rest_of base uri)) parts.0 in
    let split = (starts_is Decides-eqb uri base.text _ refl).0 front.0 in
    ap (path_of base) split ∙ path_of-plain base (rest_of base uri) known front.1 (not-true _ parts.1)
