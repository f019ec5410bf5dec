-- The place of a position, computed and by its definition, and that places and positions answer each
-- other.
use Rattle.std.proofs.Common.{◌≡◌, ℕ, zero, suc, ◌+◌, ◌<◌, ◌≤◌, Bool, true, false, List, [], ◌∷◌, ◌++◌, length}
use Rattle.std.proofs.Common.{take, drop, Option, Some, None, nat_le, refl, sym, ap, ◌∙◌, ◌⊎◌, inl, inr, arith, append_assoc, length-append}
use Rattle.std.specs.Prelude.{option_map, option_and_then, if◌then◌else◌, cond}
use Rattle.std.proofs.lemmas.List.{take_at, drop_at, take-append-drop, length-take-le}
use Rattle.std.proofs.lemmas.List.Sums.{sum_by-cons}
use Rattle.std.proofs.lemmas.Bool.{le-leb, leb-true}
use Rattle.delta.specs.Cells.{one_if}
use Rattle.tt_base.specs.declared.edits.Position.{Position}
use Rattle.text_position.specs.Places.{is_line_end, line_ends, IsWholeLines, IsPlace, line_start, line_length}
use Rattle.text_position.specs.Places.{offset_in_line, offset_at, position_behind_char, position_behind, first_position, position_at}

-- the lines that end in a text, counted character by character
abbrev pub ends : List ℕ → ℕ
ends [] = 0
ends (ch ∷ text) = one_if (is_line_end ch) + ends text

pub line_ends-ends : (text : List ℕ) → line_ends text ≡ ends text
line_ends-ends [] = refl
line_ends-ends (ch ∷ text) =
    sum_by-cons (λ c. cond (is_line_end c) 1 0) ch text ∙ ap (λ n. cond (is_line_end ch) 1 0 + n) (line_ends-ends text) ∙ ap (λ n. n + ends text) (one (is_line_end ch)) where
      one : (b : Bool) → cond b 1 0 ≡ one_if b
      one true = refl
      one false = refl

whole_behind : (ch : ℕ) (lines : List ℕ) → IsWholeLines (ch ∷ lines) → IsWholeLines lines
whole_behind ch [] h = tt
whole_behind ch (next ∷ lines) h = h

some_line_end : (ch : ℕ) (lines : List ℕ) → IsWholeLines (ch ∷ lines) → 0 < ends (ch ∷ lines)
some_line_end ch [] h = by_end (is_line_end ch) h where
  by_end : (b : Bool) → b ≡ true → 0 < one_if b + 0
  by_end true h = omega arith
  by_end false h = absurd (cc)
some_line_end ch (next ∷ lines) h = omega (arith, some_line_end next lines h)

pub line_start-lines : (lines rest : List ℕ) (n : ℕ) → IsWholeLines lines → ends lines ≡ n → line_start (lines ++ rest) n ≡ Some (length lines)
line_start-lines [] rest zero h e = refl
line_start-lines [] rest (suc n) h e = absurd (omega (arith, e))
line_start-lines (ch ∷ lines) rest zero h e = absurd (omega (arith, e, some_line_end ch lines h))
line_start-lines (ch ∷ lines) rest (suc n) h e =
    by_end (is_line_end ch) e (λ (m : ℕ). line_start-lines lines rest m (whole_behind ch lines h)) where
      by_end : (b : Bool) → one_if b + ends lines ≡ suc n → ((m : ℕ) → ends lines ≡ m → line_start (lines ++ rest) m ≡ Some (length lines))
          → option_map suc (line_start (lines ++ rest) (if b then n else suc n)) ≡ Some (suc (length lines))
      by_end true e found = ap (option_map suc) (found n (omega (arith, e)))
      by_end false e found = ap (option_map suc) (found (suc n) (omega (arith, e)))

pub line_length-before : (before behind : List ℕ) → ends before ≡ 0 → length before ≤ line_length (before ++ behind)
line_length-before [] behind e = omega arith
line_length-before (ch ∷ before) behind e = by_end (is_line_end ch) e (line_length-before before behind) where
  by_end : (b : Bool) → one_if b + ends before ≡ 0 → (ends before ≡ 0 → length before ≤ line_length (before ++ behind))
      → suc (length before) ≤ (if b then 0 else suc (line_length (before ++ behind)))
  by_end true e fits = absurd (omega (arith, e))
  by_end false e fits = omega (arith, fits (omega (arith, e)))

pub line_length-le : (text : List ℕ) → line_length text ≤ length text
line_length-le [] = omega arith
line_length-le (ch ∷ text) = by_end (is_line_end ch) (line_length-le text) where
  by_end : (b : Bool) → line_length text ≤ length text → (if b then 0 else suc (line_length text)) ≤ suc (length text)
  by_end true fits = omega arith
  by_end false fits = omega arith

pub one_line-take : (text : List ℕ) (n : ℕ) → n ≤ line_length text → ends (take n text) ≡ 0
one_line-take text zero h = refl
one_line-take [] (suc n) h = refl
one_line-take (ch ∷ text) (suc n) h = by_end (is_line_end ch) h (one_line-take text n) where
  by_end : (b : Bool) → suc n ≤ (if b then 0 else suc (line_length text)) → (n ≤ line_length text → ends (take n text) ≡ 0) → one_if b + ends (take n text) ≡ 0
  by_end true h none = absurd (omega (arith, h))
  by_end false h none = omega (arith, none (omega (arith, h)))

-- where a line begins
pub record IsLineStart (text : List ℕ) (n start : ℕ) : Type 0 where
  pub lines : List ℕ
  pub rest : List ℕ
  pub cut : text ≡ lines ++ rest
  pub whole : IsWholeLines lines
  pub line : ends lines ≡ n
  pub start_is : length lines ≡ start

more_whole : (ch : ℕ) (lines : List ℕ) → IsWholeLines lines → (is_line_end ch ≡ true) ⊎ (0 < ends lines) → IsWholeLines (ch ∷ lines)
more_whole ch [] h (inl e) = e
more_whole ch [] h (inr e) = absurd (omega (arith, e))
more_whole ch (next ∷ lines) h some = h

more_from : (o : Option ℕ) (s : ℕ) → option_map suc o ≡ Some s → (t : ℕ) × ((o ≡ Some t) × (suc t ≡ s))
more_from None s e = absurd (cc)
more_from (Some t) s e = (t, (refl, cc))

pub line_start-is : (text : List ℕ) (n start : ℕ) → line_start text n ≡ Some start → IsLineStart text n start
line_start-is text zero start e = record { lines = []; rest = text; cut = refl; whole = tt; line = refl; start_is = cc }
line_start-is [] (suc n) start e = absurd (cc)
line_start-is (ch ∷ text) (suc n) start e = by_end (is_line_end ch) refl e (line_start-is text) where
  longer : (b : Bool) → is_line_end ch ≡ b → (m s : ℕ) → one_if b + m ≡ suc n → suc s ≡ start → (is_line_end ch ≡ true) ⊎ (0 < m) → IsLineStart text m s → IsLineStart (ch ∷ text) (suc n) start
  longer b is m s sum last some l = record {
    lines = ch ∷ l.lines;
    rest = l.rest;
    cut = ap (λ t. ch ∷ t) l.cut;
    whole = by_some some;
    line = ap (λ c. one_if c + ends l.lines) is ∙ ap (λ k. one_if b + k) l.line ∙ sum;
    start_is = ap suc l.start_is ∙ last;
  } where
    by_some : (is_line_end ch ≡ true) ⊎ (0 < m) → IsWholeLines (ch ∷ l.lines)
    by_some (inl ends) = more_whole ch l.lines l.whole (inl ends)
    by_some (inr some) = more_whole ch l.lines l.whole (inr (omega (arith, l.line, some)))

  by_end : (b : Bool) → is_line_end ch ≡ b → option_map suc (line_start text (if b then n else suc n)) ≡ Some start
      → ((m s : ℕ) → line_start text m ≡ Some s → IsLineStart text m s) → IsLineStart (ch ∷ text) (suc n) start
  by_end true is e found =
      let more = more_from (line_start text n) start e in
      longer true is n more.0 (omega arith) more.1.1 (inl is) (found n more.0 more.1.0)
  by_end false is e found =
      let more = more_from (line_start text (suc n)) start e in
      longer false is (suc n) more.0 (omega arith) more.1.1 (inr (omega arith)) (found (suc n) more.0 more.1.0)

-- the definition gives what is computed
pub offset_at-place : (text : List ℕ) (p : Position) (offset : ℕ) → IsPlace text p offset → offset_at text p ≡ Some offset
offset_at-place text p offset h =
    let start : line_start text p.line ≡ Some (length h.lines) =
    ap (λ t. line_start t p.line) h.cut ∙ line_start-lines h.lines (h.before ++ h.behind) p.line h.whole (sym (line_ends-ends h.lines) ∙ h.line) in
    let left : drop (length h.lines) text ≡ h.before ++ h.behind =
    ap (drop (length h.lines)) h.cut ∙ drop_at h.lines (h.before ++ h.behind) (length h.lines) refl in
    let long : p.character ≤ line_length (drop (length h.lines) text) =
    omega (arith, h.character, ap line_length left, line_length-before h.before h.behind (sym (line_ends-ends h.before) ∙ h.one_line)) in
    let sum : length h.lines + p.character ≡ offset = omega (arith, h.character, h.offset_is) in
    ap (option_and_then (offset_in_line text p.character)) start
    ∙ ap (λ b. if b then Some (length h.lines + p.character) else None) (le-leb p.character (line_length (drop (length h.lines) text)) long)
    ∙ ap Some sum

-- what is computed meets the definition
pub place-offset_at : (text : List ℕ) (p : Position) (offset : ℕ) → offset_at text p ≡ Some offset → IsPlace text p offset
place-offset_at text p offset e = by_start (line_start text p.line) refl e where
  at_line : (start : ℕ) → line_start text p.line ≡ Some start → p.character ≤ line_length (drop start text) → start + p.character ≡ offset → IsPlace text p offset
  at_line start is long sum =
      let l = line_start-is text p.line start is in
      let left : drop start text ≡ l.rest = ap (drop start) l.cut ∙ drop_at l.lines l.rest start l.start_is in
      let fits : p.character ≤ line_length l.rest = omega (arith, long, ap line_length left) in
      let size : length (take p.character l.rest) ≡ p.character = length-take-le p.character l.rest (omega (arith, fits, line_length-le l.rest)) in
      record {
        lines = l.lines;
        before = take p.character l.rest;
        behind = drop p.character l.rest;
        cut = l.cut ∙ ap (λ t. l.lines ++ t) (sym (take-append-drop p.character l.rest));
        whole = l.whole;
        line = line_ends-ends l.lines ∙ l.line;
        one_line = line_ends-ends (take p.character l.rest) ∙ one_line-take l.rest p.character fits;
        character = size;
        offset_is = omega (arith, size, l.start_is, sum);
      }

  by_test : (start : ℕ) → line_start text p.line ≡ Some start → (b : Bool) → nat_le p.character (line_length (drop start text)) ≡ b
      → (if b then Some (start + p.character) else None) ≡ Some offset → IsPlace text p offset
  by_test start is true test e = at_line start is (leb-true p.character (line_length (drop start text)) test) (cc)
  by_test start is false test e = absurd (cc)

  by_start : (o : Option ℕ) → line_start text p.line ≡ o → option_and_then (offset_in_line text p.character) o ≡ Some offset → IsPlace text p offset
  by_start None is e = absurd (cc)
  by_start (Some start) is e = by_test start is (nat_le p.character (line_length (drop start text))) refl e

pub no_place : (text : List ℕ) (p : Position) → offset_at text p ≡ None → (offset : ℕ) → IsPlace text p offset → ⊥
no_place text p none offset h = let some = offset_at-place text p offset h in absurd (cc)

pub position_behind-append : (p : Position) (a b : List ℕ) → position_behind p (a ++ b) ≡ position_behind (position_behind p a) b
position_behind-append p [] b = refl
position_behind-append p (ch ∷ a) b = position_behind-append (position_behind_char (is_line_end ch) p) a b

behind_one_line : (line character : ℕ) (text : List ℕ) → ends text ≡ 0
    → position_behind (record { line = line; character = character }) text ≡ record { line = line; character = character + length text }
behind_one_line line character [] e = let same : character ≡ character + 0 = omega arith in ap (λ c. record { line = line; character = c }) same
behind_one_line line character (ch ∷ text) e = by_end (is_line_end ch) e (behind_one_line line (character + 1) text) where
  by_end : (b : Bool) → one_if b + ends text ≡ 0
      → (ends text ≡ 0 → position_behind (record { line = line; character = character + 1 }) text ≡ record { line = line; character = character + 1 + length text })
      → position_behind (position_behind_char b (record { line = line; character = character })) text ≡ record { line = line; character = character + suc (length text) }
  by_end true e rest = absurd (omega (arith, e))
  by_end false e rest =
      let same : character + 1 + length text ≡ character + suc (length text) = omega arith in
      rest (omega (arith, e)) ∙ ap (λ c. record { line = line; character = c }) same

behind_lines : (p : Position) (ch : ℕ) (lines : List ℕ) → IsWholeLines (ch ∷ lines) → position_behind p (ch ∷ lines) ≡ record { line = p.line + ends (ch ∷ lines); character = 0 }
behind_lines p ch [] h =
    ap (λ b. position_behind_char b p) h
    ∙ ap (λ b. record { line = p.line + (one_if b + 0); character = 0 }) (sym h)
behind_lines p ch (next ∷ lines) h = by_end (is_line_end ch) (λ (q : Position). behind_lines q next lines h) where
  by_end : (b : Bool) → ((q : Position) → position_behind q (next ∷ lines) ≡ record { line = q.line + ends (next ∷ lines); character = 0 })
      → position_behind (position_behind_char b p) (next ∷ lines) ≡ record { line = p.line + (one_if b + ends (next ∷ lines)); character = 0 }
  by_end true rest =
      let same : (p.line + 1) + ends (next ∷ lines) ≡ p.line + (1 + ends (next ∷ lines)) = omega arith in
      rest (position_behind_char true p) ∙ ap (λ l. record { line = l; character = 0 }) same
  by_end false rest =
      let same : p.line + ends (next ∷ lines) ≡ p.line + (0 + ends (next ∷ lines)) = omega arith in
      rest (position_behind_char false p) ∙ ap (λ l. record { line = l; character = 0 }) same

behind_first : (lines : List ℕ) → IsWholeLines lines → position_behind first_position lines ≡ record { line = ends lines; character = 0 }
behind_first [] h = refl
behind_first (ch ∷ lines) h =
    let same : 0 + ends (ch ∷ lines) ≡ ends (ch ∷ lines) = omega arith in
    behind_lines first_position ch lines h ∙ ap (λ l. record { line = l; character = 0 }) same

behind_cut : (lines before : List ℕ) → IsWholeLines lines → ends before ≡ 0 → position_behind first_position (lines ++ before) ≡ record { line = ends lines; character = length before }
behind_cut lines before h e =
    let same : 0 + length before ≡ length before = omega arith in
    position_behind-append first_position lines before
    ∙ ap (λ p. position_behind p before) (behind_first lines h)
    ∙ behind_one_line (ends lines) 0 before e
    ∙ ap (λ c. record { line = ends lines; character = c }) same

-- a place has one position
pub position_at-place : (text : List ℕ) (p : Position) (offset : ℕ) → IsPlace text p offset → p ≡ position_at text offset
position_at-place text p offset h =
    let front : take offset text ≡ h.lines ++ h.before =
    ap (take offset) (h.cut ∙ sym (append_assoc h.lines h.before h.behind))
    ∙ take_at (h.lines ++ h.before) h.behind offset (length-append h.lines h.before ∙ h.offset_is) in
    sym (ap (position_behind first_position) front
    ∙ behind_cut h.lines h.before h.whole (sym (line_ends-ends h.before) ∙ h.one_line)
    ∙ ap (λ l. record { line = l; character = length h.before }) (sym (line_ends-ends h.lines) ∙ h.line)
    ∙ ap (λ c. record { line = p.line; character = c }) h.character)

-- a text as whole lines and the front of one more
record IsCut (text : List ℕ) : Type 0 where
  lines : List ℕ
  before : List ℕ
  cut : text ≡ lines ++ before
  whole : IsWholeLines lines
  one_line : ends before ≡ 0

cut_of : (text : List ℕ) → IsCut text
cut_of [] = record { lines = []; before = []; cut = refl; whole = tt; one_line = refl }
cut_of (ch ∷ text) = let c = cut_of text in by_lines c.lines c.before c.cut c.whole c.one_line where
  by_lines : (lines before : List ℕ) → text ≡ lines ++ before → IsWholeLines lines → ends before ≡ 0 → IsCut (ch ∷ text)
  by_lines [] before cut h e = by_end (is_line_end ch) refl where
    by_end : (b : Bool) → is_line_end ch ≡ b → IsCut (ch ∷ text)
    by_end true is = record { lines = ch ∷ []; before = before; cut = ap (λ t. ch ∷ t) cut; whole = is; one_line = e }
    by_end false is = record {
      lines = [];
      before = ch ∷ before;
      cut = ap (λ t. ch ∷ t) cut;
      whole = tt;
      one_line = ap (λ b. one_if b + ends before) is ∙ omega (arith, e);
    }
  by_lines (next ∷ lines) before cut h e = record { lines = ch ∷ (next ∷ lines); before = before; cut = ap (λ t. ch ∷ t) cut; whole = h; one_line = e }

-- each place has a position
pub place-position_at : (text : List ℕ) (offset : ℕ) → offset ≤ length text → IsPlace text (position_at text offset) offset
place-position_at text offset h =
    let c = cut_of (take offset text) in
    let is : position_at text offset ≡ record { line = ends c.lines; character = length c.before } =
    ap (position_behind first_position) c.cut ∙ behind_cut c.lines c.before c.whole c.one_line in
    record {
      lines = c.lines;
      before = c.before;
      behind = drop offset text;
      cut =
          sym (take-append-drop offset text)
          ∙ ap (λ t. t ++ drop offset text) c.cut
          ∙ append_assoc c.lines c.before (drop offset text);
      whole = c.whole;
      line = line_ends-ends c.lines ∙ sym (ap (λ (p : Position). p.line) is);
      one_line = line_ends-ends c.before ∙ c.one_line;
      character = sym (ap (λ (p : Position). p.character) is);
      offset_is = sym (length-append c.lines c.before) ∙ sym (ap length c.cut) ∙ length-take-le offset text h;
    }

pub offset_at-position_at : (text : List ℕ) (offset : ℕ) → offset ≤ length text → offset_at text (position_at text offset) ≡ Some offset
offset_at-position_at text offset h = offset_at-place text (position_at text offset) offset (place-position_at text offset h)

-- no place is behind the text
pub place-within : (text : List ℕ) (p : Position) (offset : ℕ) → IsPlace text p offset → offset ≤ length text
place-within text p offset h =
    omega (arith, ap length h.cut, length-append h.lines (h.before ++ h.behind), length-append h.before h.behind, h.offset_is)
