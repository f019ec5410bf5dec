-- A plain text behind a directory's path is a list of segments that the URL Standard's parser
-- leaves as they are.
use Rattle.std.proofs.Common.{◌≡◌, ◌≢◌, ℕ, ◌+◌, ◌*◌, ◌<◌, ◌≤◌, true, false, ◌&&◌, ◌||◌, ◌==◌, ◌⊎◌, List, []}
use Rattle.std.proofs.Common.{◌∷◌, ◌++◌, length, drop, All, sym, refl, ap, ◌∙◌, subst, inl, inr, ⊎_elim, arith, append_assoc, append-nil}
use Rattle.std.specs.List.{list_any}
use Rattle.std.specs.Char.{digit_value}
use Rattle.std.proofs.lemmas.Bool.{cases_Bool, cases_eq, cond-true, cond-false, cond_both, both_ways, ne_eqb}
use Rattle.std.proofs.lemmas.Bool.Decides.{nat_tests}
use Rattle.std.proofs.lemmas.List.{drop_all}
use Rattle.std.proofs.lemmas.List.Elements.{All-nil, All-head, All-tail, All-push, All-weaker}
use Rattle.percent_encoding.specs.Percent.{IsKept, is_escape, percent_decode}
use Rattle.percent_encoding.proofs.PercentLemmas.{percent_decode-nil, percent_decode_not_percent, percent_decode_escape}
use Rattle.url.specs.declared.sets.TheConstants.{PATH}
use Rattle.url.specs.declared.scheme.SchemeType.TheVariants.{File}
use Rattle.url.specs.Input.{is_empty}
use Rattle.url.specs.Path.{dot_len, dot_count, IsSegment, IsSegmentList}
use Rattle.url.proofs.InputLemmas.{is_empty-nil}
use Rattle.url.proofs.PathLemmas.{push_valid, IsNoSlash}
use Rattle.tt_base.specs.Path.{parts, is_dot_part}
use Rattle.file_uri.specs.PlainUri.{has_dot_part}
use Rattle.file_uri.proofs.ByteLemmas.{IsPlainByte, plain_is_kept}
use Rattle.file_uri.proofs.PartLemmas.{IsNotSlash, parts-append, list_any-append}

-- ---- decoding at a slash, which is no part of an escape

slash_second : (b c : ℕ) → is_escape b 47 c ≡ false
slash_second b c = grind (arith, nat_tests)

slash_third : (b c : ℕ) → is_escape b c 47 ≡ false
slash_third b c = grind (arith, nat_tests)

decode-slash : (back : List ℕ) → percent_decode (47 ∷ back) ≡ 47 ∷ percent_decode back
decode-slash back = percent_decode_not_percent 47 back (λ e. omega arith)

decode-one : (b : ℕ) (back : List ℕ) → percent_decode (b ∷ 47 ∷ back) ≡ b ∷ 47 ∷ percent_decode back
unfolding percent_decode
decode-one b [] = refl
decode-one b (c ∷ back) = cond-false _ _ _ (slash_second b c) ∙ ap (λ l. b ∷ l) (decode-slash (c ∷ back))

pub percent_decode-at_slash : (front back : List ℕ) → percent_decode (front ++ 47 ∷ back) ≡ percent_decode front ++ 47 ∷ percent_decode back
unfolding percent_decode
percent_decode-at_slash [] back = decode-slash back
percent_decode-at_slash (b ∷ []) back = decode-one b back
percent_decode-at_slash (b ∷ c ∷ []) back = cond-false _ _ _ (slash_third b c) ∙ ap (λ l. b ∷ l) (decode-one c back)
percent_decode-at_slash (b ∷ high ∷ low ∷ rest) back =
    let after_escape = percent_decode-at_slash rest back in
    let after_byte = percent_decode-at_slash (high ∷ low ∷ rest) back in
    ⊎_elim
    (λ escape.
    cond-true _ _ _ escape ∙ ap (λ l. (16 * digit_value high + digit_value low) ∷ l) after_escape
    ∙ ap (λ l. l ++ 47 ∷ percent_decode back) (sym (cond-true (is_escape b high low) ((16 * digit_value high + digit_value low) ∷ percent_decode rest)
    (b ∷ percent_decode (high ∷ low ∷ rest)) escape)))
    (λ none.
    cond-false _ _ _ none ∙ ap (λ l. b ∷ l) after_byte
    ∙ ap (λ l. l ++ 47 ∷ percent_decode back) (sym (cond-false (is_escape b high low) ((16 * digit_value high + digit_value low) ∷ percent_decode rest) (b ∷ percent_decode (high ∷ low ∷ rest)) none)))
    (cases_Bool (is_escape b high low))

-- ---- dots

-- the text begins with no dot, or it decodes to a dot and what follows
abbrev DotFront : List ℕ → Type 0
DotFront text = (dot_len text ≡ 0) ⊎ (percent_decode text ≡ 46 ∷ percent_decode (drop (dot_len text) text))

record IsDotEscape (b c e : ℕ) : Type 0 where
  percent : b ≡ 37
  first : digit_value c < 16
  second : digit_value e < 16
  value : 16 * digit_value c + digit_value e ≡ 46

dot_escape : (b c e : ℕ) → (b == 37 && c == 50 && (e == 101 || e == 69)) ≡ true → IsDotEscape b c e
dot_escape b c e dot = record { percent = grind (arith, nat_tests); first = grind (arith, nat_tests); second = grind (arith, nat_tests); value = grind (arith, nat_tests) }

escape_front : (b : ℕ) (rest : List ℕ) → b ≢ 46 → DotFront (b ∷ rest)
escape_front b [] other = inl (grind (arith, nat_tests))
escape_front b (c ∷ []) other = inl (grind (arith, nat_tests))
escape_front b (c ∷ e ∷ more) other =
    let first : (b == 46) ≡ false = ne_eqb b 46 other in
    ⊎_elim
    (λ dot.
    let parts = dot_escape b c e dot in
    let len : dot_len (b ∷ c ∷ e ∷ more) ≡ 3 = cond-false _ _ _ first ∙ cond-true _ 3 0 dot in
    inr (percent_decode_escape b c e more parts.percent parts.first parts.second ∙ (λ i. parts.value i ∷ percent_decode (drop (sym len i) (b ∷ c ∷ e ∷ more)))))
    (λ none. inl (cond-false _ _ _ first ∙ cond-false _ 3 0 none))
    (cases_Bool (b == 37 && c == 50 && (e == 101 || e == 69)))

dot_front : (text : List ℕ) → DotFront text
dot_front [] = inl refl
dot_front (b ∷ rest) =
    ⊎_elim
    (λ dot. inr (subst (λ x. percent_decode (x ∷ rest) ≡ 46 ∷ percent_decode (drop (dot_len (x ∷ rest)) (x ∷ rest))) (sym dot) (percent_decode_not_percent 46 rest (λ e. omega arith))))
    (λ other. escape_front b rest other)
    (cases_eq b 46)

one_dot : (text rest : List ℕ) → percent_decode text ≡ 46 ∷ percent_decode rest → is_empty rest ≡ true → has_dot_part (percent_decode text) ≡ true
one_dot text rest first ended =
    let decoded : percent_decode text ≡ 46 ∷ [] = first ∙ ap (λ r. 46 ∷ percent_decode r) (is_empty-nil rest ended) ∙ ap (λ r. 46 ∷ r) percent_decode-nil in
    rw decoded refl

two_dots : (text rest : List ℕ) → percent_decode text ≡ 46 ∷ percent_decode rest → is_empty rest ≡ false → (dot_len rest == length rest) ≡ true → has_dot_part (percent_decode text) ≡ true
two_dots text rest first more last =
    ⊎_elim
    (λ no_dot. absurd (grind (arith, nat_tests)))
    (λ second.
    let len : length rest ≤ dot_len rest = grind (arith, nat_tests) in
    let ended : drop (dot_len rest) rest ≡ [] = drop_all (dot_len rest) rest len in
    let decoded : percent_decode text ≡ 46 ∷ 46 ∷ [] = first ∙ ap (λ r. 46 ∷ r) (second ∙ ap (λ r. 46 ∷ percent_decode r) ended ∙ ap (λ r. 46 ∷ r) percent_decode-nil) in
    rw decoded refl)
    (dot_front rest)

-- a text is no dot segment where it does not decode to a dot part
no_dot_segment : (text : List ℕ) → has_dot_part (percent_decode text) ≡ false → dot_count text ≡ 0
unfolding dot_count
no_dot_segment text none =
    let rest = drop (dot_len text) text in
    ⊎_elim
    (λ no_dot. rw no_dot refl)
    (λ first.
    ⊎_elim
    (λ ended. absurd (both_ways _ none (one_dot text rest first ended)))
    (λ more.
    ⊎_elim
    (λ last. absurd (both_ways _ none (two_dots text rest first more last)))
    (λ longer. cond_both (dot_len text == 0) 0 _ (λ x. x ≡ 0) (λ _. refl) (λ _. cond-false _ _ _ more ∙ cond-false _ 2 0 longer))
    (cases_Bool (dot_len rest == length rest)))
    (cases_Bool (is_empty rest)))
    (dot_front text)

-- ---- segments

no_slash : (b : ℕ) → b ≢ 47 → IsPlainByte b → IsNoSlash File b
no_slash b other plain = grind (arith, nat_tests)

segment_of : (part : List ℕ) → All IsNotSlash part → All IsPlainByte part → has_dot_part (percent_decode part) ≡ false → IsSegment File part
segment_of part whole plain none = record {
  escaped = All-weaker IsPlainByte (IsKept PATH) plain_is_kept part plain;
  whole = λ k d inside. no_slash _ (whole k d inside) (plain k d inside);
  resolved = no_dot_segment part none;
}

-- parts of a path that a slash divides have a dot part where either has one
has_dot_part-append : (front back : List ℕ) → has_dot_part (front ++ 47 ∷ back) ≡ (has_dot_part front || has_dot_part back)
has_dot_part-append front back = ap (list_any is_dot_part) (parts-append front back) ∙ list_any-append is_dot_part (parts front) (parts back)

record NeitherHasDots (front back : List ℕ) : Type 0 where
  front_none : has_dot_part (percent_decode front) ≡ false
  back_none : has_dot_part (percent_decode back) ≡ false

neither : (front back : List ℕ) → has_dot_part (percent_decode (front ++ 47 ∷ back)) ≡ false → NeitherHasDots front back
neither front back none =
    let either = sym (has_dot_part-append (percent_decode front) (percent_decode back)) ∙ ap has_dot_part (sym (percent_decode-at_slash front back)) ∙ none in
    record { front_none = grind (arith, nat_tests); back_none = grind (arith, nat_tests) }

extend : (path part rest : List ℕ) → IsSegmentList File path → All IsNotSlash part → All IsPlainByte part → All IsPlainByte rest
    → has_dot_part (percent_decode (part ++ rest)) ≡ false → IsSegmentList File (path ++ 47 ∷ (part ++ rest))
extend path part [] list whole plain _ none =
    rw append-nil (push_valid File path part list (segment_of part whole plain (rw append-nil at none)))
extend path part (b ∷ rest) list whole plain more none =
    let after = All-tail IsPlainByte b rest more in
    ⊎_elim
    (λ slash.
    let split = neither part rest (rw slash at none) in
    let longer = push_valid File path part list (segment_of part whole plain split.front_none) in
    subst (λ x. IsSegmentList File (path ++ 47 ∷ (part ++ x ∷ rest))) (sym slash)
    (rw append_assoc at (extend (path ++ 47 ∷ part) [] rest longer (All-nil IsNotSlash) (All-nil IsPlainByte) after split.back_none)))
    (λ other.
    let joined = append_assoc part (b ∷ []) rest in
    subst (λ l. IsSegmentList File (path ++ 47 ∷ l)) joined
    (extend path (part ++ b ∷ []) rest list (All-push IsNotSlash part b whole other) (All-push IsPlainByte part b plain (All-head IsPlainByte b rest more)) after
    (ap (λ l. has_dot_part (percent_decode l)) joined ∙ none)))
    (cases_eq b 47)

-- a plain text with no dot part goes on a path as segments of it
pub IsSegmentList-plain : (path rest : List ℕ) → IsSegmentList File path → All IsPlainByte rest → has_dot_part (percent_decode rest) ≡ false → IsSegmentList File (path ++ 47 ∷ rest)
IsSegmentList-plain path rest list plain none =
    extend path [] rest list (All-nil IsNotSlash) (All-nil IsPlainByte) plain none
