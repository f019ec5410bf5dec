-- How the lines of a script grow with its bytes.
use Rattle.std.proofs.Common.{◌≡◌, ℕ, ◌==◌, true, false, not, ◌&&◌, List, [], ◌∷◌, ◌++◌, ◌+◌, ◌<◌, length, take, drop, get_or, suc, Some, None, subst, arith, nat_lt, refl, ap, ◌∙◌, inl, inr}
use Rattle.std.proofs.lemmas.Bool.{cases_Bool}
use Rattle.std.proofs.lemmas.List.Folds.{list_all-append}
use Rattle.std.proofs.lemmas.Bool.{cases_lt}
use Rattle.std.proofs.lemmas.Bool.Decides.{nat_tests}
use Rattle.std.proofs.lemmas.List.{take_all}
use Rattle.std.proofs.lemmas.List.Sums.{split_at_first, passes_at_first}
use Rattle.std.specs.List.{list_all, position, prefix_len}
use Rattle.replay.specs.Script.{lines_of, put_before, is_inner}

inner_head : (b : ℕ) (bytes : List ℕ) → list_all is_inner (b ∷ bytes) ≡ true → (b == 10) ≡ false
inner_head b bytes h =
    elim (cases_Bool (b == 10)) [
      | inr other ↦ other
      | inl newline ↦ let bad : false ≡ true = rw newline at h in cc
    ]

inner_tail : (b : ℕ) (bytes : List ℕ) → list_all is_inner (b ∷ bytes) ≡ true → list_all is_inner bytes ≡ true
inner_tail b bytes h = rw (inner_head b bytes h) at h

-- an LF ends the line begun
pub line_ended : (line bytes : List ℕ) → list_all is_inner line ≡ true → lines_of (line ++ 10 ∷ bytes) ≡ record { whole = line ∷ (lines_of bytes).whole; rest = (lines_of bytes).rest }
line_ended [] bytes h = refl
line_ended (b ∷ line) bytes h = rw (inner_head b line h, line_ended line bytes (inner_tail b line h)) refl

-- bytes without LF are a line begun
pub line_begun : (line : List ℕ) → list_all is_inner line ≡ true → lines_of line ≡ record { whole = []; rest = line }
line_begun [] h = refl
line_begun (b ∷ line) h = rw (inner_head b line h, line_begun line (inner_tail b line h)) refl

pub inner_append : (a b : List ℕ) → list_all is_inner a ≡ true → list_all is_inner b ≡ true → list_all is_inner (a ++ b) ≡ true
inner_append a b ha hb = list_all-append is_inner a b ∙ ap (λ t. t && list_all is_inner b) ha ∙ hb

rest_put : (b : ℕ) (whole : List (List ℕ)) (rest : List ℕ) → (b == 10) ≡ false → list_all is_inner rest ≡ true → list_all is_inner (put_before b whole rest).rest ≡ true
rest_put b [] rest other h = ap (λ t. not t && list_all is_inner rest) other ∙ h
rest_put b (line ∷ lines) rest other h = h

-- what stands behind the last LF has none
pub rest_inner : (bytes : List ℕ) → list_all is_inner (lines_of bytes).rest ≡ true
rest_inner [] = refl
rest_inner (b ∷ bytes) =
    elim (cases_Bool (b == 10)) [
      | inl newline ↦ rw newline (rest_inner bytes)
      | inr other ↦ rw other (rest_put b (lines_of bytes).whole (lines_of bytes).rest other (rest_inner bytes))
    ]

put_more : (b : ℕ) (whole : List (List ℕ)) (rest more : List ℕ) → (b == 10) ≡ false
    → put_before b (whole ++ (lines_of (rest ++ more)).whole) (lines_of (rest ++ more)).rest
    ≡ record { whole = (put_before b whole rest).whole ++ (lines_of ((put_before b whole rest).rest ++ more)).whole; rest = (lines_of ((put_before b whole rest).rest ++ more)).rest }
put_more b [] rest more other = rw other refl
put_more b (line ∷ lines) rest more other = refl

-- more bytes go on with the line begun
pub lines_more : (bytes more : List ℕ)
    → lines_of (bytes ++ more) ≡ record { whole = (lines_of bytes).whole ++ (lines_of ((lines_of bytes).rest ++ more)).whole; rest = (lines_of ((lines_of bytes).rest ++ more)).rest }
lines_more [] more = refl
lines_more (b ∷ bytes) more =
    elim (cases_Bool (b == 10)) [
      | inl newline ↦ rw (newline, lines_more bytes more) refl
      | inr other ↦ rw (other, lines_more bytes more) (put_more b (lines_of bytes).whole (lines_of bytes).rest more other)
    ]

inner_prefix : (bytes : List ℕ) → list_all is_inner (take (prefix_len is_inner bytes) bytes) ≡ true
inner_prefix [] = refl
inner_prefix (b ∷ bytes) =
    elim (cases_Bool (b == 10)) [
      | inl newline ↦ rw newline refl
      | inr other ↦
          let n = prefix_len is_inner bytes in
          let one : 1 + n ≡ suc n = omega arith in
          rw (other, one, other) (inner_prefix bytes)
    ]

-- where no LF was found, there is none
pub no_newline : (bytes : List ℕ) → position (λ b. b == 10) bytes ≡ None → list_all is_inner bytes ≡ true
no_newline bytes none =
    elim (cases_lt (prefix_len is_inner bytes) (length bytes)) [
      | inl found ↦
          let test : nat_lt (prefix_len is_inner bytes) (length bytes) ≡ true = grind (arith, nat_tests) in
          let bad : Some (prefix_len is_inner bytes) ≡ None = rw test at none in
          cc
      | inr past ↦ subst (λ xs. list_all is_inner xs ≡ true) (take_all (prefix_len is_inner bytes) bytes past) (inner_prefix bytes)
    ]

cut_at_first : (bytes : List ℕ) → prefix_len is_inner bytes < length bytes → bytes ≡ take (prefix_len is_inner bytes) bytes ++ 10 ∷ drop (prefix_len is_inner bytes + 1) bytes
cut_at_first bytes within =
    let n = prefix_len is_inner bytes in
    let passes = passes_at_first (λ b. b == 10) bytes 0 within in
    let newline : get_or bytes n 0 ≡ 10 = grind (arith, nat_tests) in
    split_at_first (λ b. b == 10) bytes 0 within ∙ ap (λ b. take n bytes ++ b ∷ drop (n + 1) bytes) newline

-- the first LF cuts the bytes in two
pub newline_cuts : (bytes : List ℕ) (place : ℕ) → position (λ b. b == 10) bytes ≡ Some place → (bytes ≡ take place bytes ++ 10 ∷ drop (place + 1) bytes) × (list_all is_inner (take place bytes) ≡ true)
newline_cuts bytes place found =
    let n = prefix_len is_inner bytes in
    elim (cases_lt n (length bytes)) [
      | inl within ↦
          let test : nat_lt n (length bytes) ≡ true = grind (arith, nat_tests) in
          let here : Some n ≡ Some place = rw test at found in
          let same : n ≡ place = cc in
          subst (λ at. (bytes ≡ take at bytes ++ 10 ∷ drop (at + 1) bytes) × (list_all is_inner (take at bytes) ≡ true)) same (cut_at_first bytes within, inner_prefix bytes)
      | inr past ↦
          let test : nat_lt n (length bytes) ≡ false = grind (arith, nat_tests) in
          let bad : None ≡ Some place = rw test at found in
          cc
    ]
