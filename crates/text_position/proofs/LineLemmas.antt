-- Positions told by the line ends of a text: where a line begins, and how many end before a place.
use Rattle.std.proofs.Common.{◌≡◌, ℕ, ◌+◌, ◌-◌, ◌<◌, ◌≤◌, Bool, true, false, List, [], ◌∷◌, ◌++◌, length, take, drop, Some, None, nat_le, refl, sym, ap, ap₂, ◌∙◌, ◌⊎◌, inl, inr, arith, append_assoc, length-append}
use Rattle.std.specs.Prelude.{option_and_then, if◌then◌else◌}
use Rattle.std.proofs.Math.Seq.{take-add}
use Rattle.std.proofs.lemmas.Bool.{cases_lt, le-leb, lt-leb}
use Rattle.std.proofs.lemmas.List.{take_at, take-append-drop, length-take-le, length-drop}
use Rattle.paged.proofs.FlatLemmas.{count_by-append}
use Rattle.tt_base.specs.declared.edits.Position.{Position}
use Rattle.text_position.specs.Places.{is_line_end, line_ends, line_start, line_length, offset_in_line, offset_at, position_at}
use Rattle.text_position.proofs.PlacesLemmas.{ends, line_ends-ends, line_start-is, line_start-lines, line_length-before, line_length-le, one_line-take, place-position_at}

-- as many lines end before the start of a line, and it lies in the text
start-parts : (text : List ℕ) (n start : ℕ) → line_start text n ≡ Some start → (start ≤ length text) × (line_ends (take start text) ≡ n)
start-parts text n start is =
    let l = line_start-is text n start is in (
      omega (arith, ap length l.cut, length-append l.lines l.rest, l.start_is),
      ap (λ t. line_ends (take start t)) l.cut ∙ ap line_ends (take_at l.lines l.rest start l.start_is) ∙ line_ends-ends l.lines ∙ l.line,
    )

pub start-within : (text : List ℕ) (n start : ℕ) → line_start text n ≡ Some start → start ≤ length text
start-within text n start is = (start-parts text n start is).0

-- the lines that end before a place behind the start of a line
ends-before : (text : List ℕ) (n start k : ℕ) → line_start text n ≡ Some start → line_ends (take (start + k) text) ≡ n + ends (take k (drop start text))
ends-before text n start k is =
    ap line_ends (take-add start k text)
    ∙ count_by-append is_line_end (take start text) (take k (drop start text))
    ∙ ap (λ m. m + line_ends (take k (drop start text))) (start-parts text n start is).1
    ∙ ap (λ m. n + m) (line_ends-ends (take k (drop start text)))

offset-in : (text : List ℕ) (p : Position) (start : ℕ) (b : Bool) → line_start text p.line ≡ Some start → nat_le p.character (line_length (drop start text)) ≡ b
    → offset_at text p ≡ (if b then Some (start + p.character) else None)
offset-in text p start b is test =
    ap (option_and_then (offset_in_line text p.character)) is ∙ ap (λ t. if t then Some (start + p.character) else None) test

-- past the end of its line a text has no position
past-line : (text : List ℕ) (p : Position) (start : ℕ) → line_start text p.line ≡ Some start → line_length (drop start text) < p.character → offset_at text p ≡ None
past-line text p start is past = offset-in text p start false is (lt-leb p.character (line_length (drop start text)) past)

pub offset-past-text : (text : List ℕ) (p : Position) (start : ℕ) → line_start text p.line ≡ Some start → length text - start < p.character → offset_at text p ≡ None
offset-past-text text p start is past =
    past-line text p start is (omega (arith, line_length-le (drop start text), length-drop start text, past))

-- a position is where as many lines end before the place as it says
pub offset-found : (text : List ℕ) (p : Position) (start : ℕ) → line_start text p.line ≡ Some start → p.character ≤ length text - start
    → line_ends (take (start + p.character) text) ≡ p.line → offset_at text p ≡ Some (start + p.character)
offset-found text p start is fits same =
    let rest = drop start text in
    let none : ends (take p.character rest) ≡ 0 = omega (arith, ends-before text p.line start p.character is, same) in
    let within : p.character ≤ length rest = omega (arith, length-drop start text, fits) in
    let long : p.character ≤ line_length rest =
    omega (arith, line_length-before (take p.character rest) (drop p.character rest) none, ap line_length (take-append-drop p.character rest), length-take-le p.character rest within) in
    offset-in text p start true is (le-leb p.character (line_length rest) long)

pub offset-missed : (text : List ℕ) (p : Position) (start : ℕ) → line_start text p.line ≡ Some start → (line_ends (take (start + p.character) text) ≡ p.line → ⊥)
    → offset_at text p ≡ None
offset-missed text p start is other = by_order (cases_lt (line_length (drop start text)) p.character) where
  by_order : (line_length (drop start text) < p.character) ⊎ (p.character ≤ line_length (drop start text)) → offset_at text p ≡ None
  by_order (inl past) = past-line text p start is past
  by_order (inr fits) = absurd (other (omega (arith, ends-before text p.line start p.character is, one_line-take (drop start text) p.character fits)))

-- the position of a place: its line is told by the line ends before it, its character by where that line begins
pub record HasStart (text : List ℕ) (offset : ℕ) : Type 0 where
  pub start : ℕ
  pub start_is : line_start text (line_ends (take offset text)) ≡ Some start
  pub within : start ≤ offset
  pub position_is : record { line = line_ends (take offset text); character = offset - start } ≡ position_at text offset

pub has-start : (text : List ℕ) (offset : ℕ) → offset ≤ length text → HasStart text offset
has-start text offset within =
    let p = position_at text offset in
    let h = place-position_at text offset within in
    let front : take offset text ≡ h.lines ++ h.before =
    ap (take offset) (h.cut ∙ sym (append_assoc h.lines h.before h.behind)) ∙ take_at (h.lines ++ h.before) h.behind offset (length-append h.lines h.before ∙ h.offset_is) in
    let line : line_ends (take offset text) ≡ p.line =
    omega (arith, ap line_ends front, count_by-append is_line_end h.lines h.before, h.line, h.one_line) in
    let character : offset - length h.lines ≡ p.character = omega (arith, h.offset_is, h.character) in
    record {
      start = length h.lines;
      start_is = ap (line_start text) line ∙ ap (λ t. line_start t p.line) h.cut ∙ line_start-lines h.lines (h.before ++ h.behind) p.line h.whole (sym (line_ends-ends h.lines) ∙ h.line);
      within = omega (arith, h.offset_is);
      position_is = (let make : ℕ → ℕ → Position = λ l k. record { line = l; character = k } in ap₂ make line character);
    }
