-- A stream has one reading: these bodies and this end, and no others.
use Rattle.std.proofs.Common.{◌≡◌, ℕ, ◌+◌, ◌-◌, ◌<◌, ◌≤◌, ◌⊎◌, List, [], ◌∷◌, ◌++◌, length, take, drop, refl, sym, ◌∙◌, ap, ap₂, subst, inl, inr, arith, append_assoc, length-append}
use Rattle.std.proofs.Math.Seq.{take-append-add}
use Rattle.std.proofs.lemmas.Bool.{cases_lt}
use Rattle.std.proofs.lemmas.List.{append-nil, take-append-drop, take-append-le, take-take, length-take-le}
use Rattle.std.specs.List.{AllZip, concat}
use Rattle.rpc_frame.specs.Header.{Field, IsHeader, lengths}
use Rattle.rpc_frame.specs.Scanning.{scan_over, start}
use Rattle.rpc_frame.specs.Stream.{IsHeaderBegun, IsBadAt, BeginsWithHeader, IsFrame, StreamEnd, Begun, Broken, EndsAs, Reads}
use Rattle.rpc_frame.specs.declared.faults.FrameFault.TheVariants.{BadHeader, NoLength, TwoLengths, TooLong}
use Rattle.rpc_frame.specs.declared.headers.Lengths.{Lengths}
use Rattle.rpc_frame.specs.declared.headers.Lengths.TheVariants.{NoneYet, One, Several}
use Rattle.rpc_frame.specs.declared.headers.Scan.{Scan}
use Rattle.rpc_frame.proofs.Rest.{with_all}
use Rattle.rpc_frame.proofs.Complete.{header_read}
use Rattle.rpc_frame.proofs.Viable.{header_is_whole}
use Rattle.rpc_frame.proofs.HeldLemmas.{several_stay}

-- of two fronts of a list the longer goes on where the shorter ends
pub front_of : (a b c d : List ℕ) → a ++ b ≡ c ++ d → length a ≤ length c → (m : List ℕ) × (c ≡ a ++ m) × (b ≡ m ++ d)
front_of [] b c d e h = (c, refl, e)
front_of (x ∷ a) b [] d e h = absurd (omega (arith, h))
front_of (x ∷ a) b (y ∷ c) d e h =
    let same : x ≡ y = cc in
    let tails : a ++ b ≡ c ++ d = cc in
    let later = front_of a b c d tails (omega (arith, h)) in
    (later.0, ap₂ (λ z zs. z ∷ zs) (sym same) later.1, later.2)

-- one header part
one_header : (fields others : List Field) (a b c d : List ℕ) → IsHeader fields a → IsHeader others c → a ++ b ≡ c ++ d → length a ≤ length c → (a ≡ c) × (b ≡ d)
one_header fields others a b c d h k e le =
    let front = front_of a b c d e le in
    let none : front.0 ≡ [] = header_is_whole fields others a front.0 h (subst (IsHeader others) front.1 k) in
    let same : c ≡ a = front.1 ∙ (ap (λ m. a ++ m) none ∙ append-nil a) in
    (sym same, front.2 ∙ ap (λ m. m ++ d) none)

-- its lengths, as a scan keeps them
one_lengths : (fields others : List Field) (a c : List ℕ) → IsHeader fields a → IsHeader others c → a ≡ c → with_all NoneYet (lengths fields) ≡ with_all NoneYet (lengths others)
one_lengths fields others a c h k e =
    ap (λ (s : Scan). s.lengths) (sym (header_read fields a h) ∙ (ap (scan_over start) e ∙ header_read others c k))

pub same_header : (s ns ms r q : List ℕ) → BeginsWithHeader s ns r → BeginsWithHeader s ms q → (r ≡ q) × (with_all NoneYet ns ≡ with_all NoneYet ms)
same_header s ns ms r q h k =
    let e : h.header ++ r ≡ k.header ++ q = sym h.whole ∙ k.whole in
    let both : (h.header ≡ k.header) × (r ≡ q) = elim (cases_lt (length k.header) (length h.header)) [
      | inl longer ↦ let other = one_header k.fields h.fields k.header q h.header r k.is_header h.is_header (sym e) (omega (arith, longer)) in (sym other.0, sym other.1)
      | inr not_longer ↦ one_header h.fields k.fields h.header r k.header q h.is_header k.is_header e not_longer
    ] in
    (both.1, ap (with_all NoneYet) h.numbers_are ∙ (one_lengths h.fields k.fields h.header k.header h.is_header k.is_header both.0 ∙ ap (with_all NoneYet) (sym k.numbers_are)))

-- a header part that is whole is not begun
begun_or_whole : (s ns r : List ℕ) → IsHeaderBegun s → BeginsWithHeader s ns r → ⊥
begun_or_whole s ns r b w =
    let parts : s ++ b.more ≡ w.header ++ (r ++ b.more) = ap (λ xs. xs ++ b.more) w.whole ∙ append_assoc w.header r b.more in
    let none : r ++ b.more ≡ [] = header_is_whole w.fields b.fields w.header (r ++ b.more) w.is_header (subst (IsHeader b.fields) parts b.header) in
    omega (arith, b.goes_on, ap length none, length-append r b.more)

-- a bad byte ends what is begun
begun_or_bad : (place : ℕ) (s : List ℕ) → IsHeaderBegun s → IsBadAt place s → ⊥
begun_or_bad place s b d =
    let parts : s ++ b.more ≡ take (place + 1) s ++ (drop (place + 1) s ++ b.more) = ap (λ xs. xs ++ b.more) (sym (take-append-drop (place + 1) s))
    ∙ append_assoc (take (place + 1) s) (drop (place + 1) s) b.more in
    d.bad b.fields (drop (place + 1) s ++ b.more) (subst (IsHeader b.fields) parts b.header)

-- a whole header part has no bad byte, and ends before one
bad_or_whole : (place : ℕ) (s ns r : List ℕ) → IsBadAt place s → BeginsWithHeader s ns r → ⊥
bad_or_whole place s ns r d w = elim (cases_lt place (length w.header)) [
  | inl inside ↦
      let front : take (place + 1) s ≡ take (place + 1) w.header = ap (take (place + 1)) w.whole ∙ take-append-le (place + 1) w.header r (omega (arith, inside)) in
      let whole : w.header ≡ take (place + 1) s ++ drop (place + 1) w.header = sym (take-append-drop (place + 1) w.header) ∙ ap (λ xs. xs ++ drop (place + 1) w.header) (sym front) in
      d.bad w.fields (drop (place + 1) w.header) (subst (IsHeader w.fields) whole w.is_header)
  | inr behind ↦
      let n = place - length w.header in
      let same : length w.header + n ≡ place = omega (arith, behind) in
      let front : take place s ≡ w.header ++ take n r = ap₂ take (sym same) w.whole ∙ take-append-add w.header r n in
      begun_or_whole (take place s) ns (take n r) d.begun (record { fields = w.fields; header = w.header; is_header = w.is_header; numbers_are = w.numbers_are; whole = front })
]

-- the first bad byte
later_or_bad : (early late : ℕ) (s : List ℕ) → IsBadAt early s → IsBadAt late s → early < late → ⊥
later_or_bad early late s d l before =
    begun_or_bad early (take late s) l.begun (record {
      here = omega (arith, before, l.here, length-take-le late s (omega (arith, l.here)));
      begun = subst IsHeaderBegun (sym (take-take early late s (omega (arith, before)))) d.begun;
      bad = λ fields more h. d.bad fields more (subst (λ xs. IsHeader fields (xs ++ more)) (take-take (early + 1) late s (omega (arith, before))) h);
    })

one_bad : (place other : ℕ) (s : List ℕ) → IsBadAt place s → IsBadAt other s → place ≡ other
one_bad place other s d e = elim (cases_lt place other) [
  | inl before ↦ absurd (later_or_bad place other s d e before)
  | inr not_before ↦ elim (cases_lt other place) [
    | inl before ↦ absurd (later_or_bad other place s e d before)
    | inr not_after ↦ omega (arith, not_before, not_after)
  ]
]

-- what a whole header part with these lengths is, where it is no whole frame
abbrev EndsBehind : ℕ → Lengths → List ℕ → List ℕ → StreamEnd → Type 0
EndsBehind limit NoneYet rest s end = end ≡ Broken NoLength
EndsBehind limit Several rest s end = end ≡ Broken TwoLengths
EndsBehind limit (One n) rest s end = ((limit < n) × (end ≡ Broken (TooLong n))) ⊎ ((n ≤ limit) × (length rest < n) × (end ≡ Begun s))

-- the three shapes of an end
record AtHeader (s : List ℕ) (end : StreamEnd) : Type 0 where
  begun : IsHeaderBegun s
  is : end ≡ Begun s

record AtBad (s : List ℕ) (end : StreamEnd) : Type 0 where
  place : ℕ
  bad : IsBadAt place s
  is : end ≡ Broken (BadHeader place)

record AtWhole (limit : ℕ) (s : List ℕ) (end : StreamEnd) : Type 0 where
  numbers : List ℕ
  rest : List ℕ
  begins : BeginsWithHeader s numbers rest
  is : EndsBehind limit (with_all NoneYet numbers) rest s end

abbrev Shape : ℕ → List ℕ → StreamEnd → Type 0
Shape limit s end = AtHeader s end ⊎ (AtBad s end ⊎ AtWhole limit s end)

shape_of : (limit : ℕ) (s : List ℕ) (end : StreamEnd) → EndsAs limit end s → Shape limit s end
shape_of limit s (Begun bytes) (e, inl header) = inl (record { begun = header; is = ap Begun (sym e) })
shape_of limit s (Begun bytes) (e, inr body) = inr (inr (record { numbers = body.number ∷ []; rest = body.body; begins = body.begins; is = inr (body.within, body.shorter, ap Begun (sym e)) }))
shape_of limit s (Broken (BadHeader place)) h = inr (inl (record { place = place; bad = h; is = refl }))
shape_of limit s (Broken NoLength) h = inr (inr (record { numbers = []; rest = h.0; begins = h.1; is = refl }))
shape_of limit s (Broken TwoLengths) h = inr (inr (record {
  numbers = h.first ∷ h.second ∷ h.others;
  rest = h.rest;
  begins = h.begins;
  is = subst (λ (l : Lengths). EndsBehind limit l h.rest s (Broken TwoLengths)) (sym (several_stay h.others)) refl;
}))
shape_of limit s (Broken (TooLong number)) h = inr (inr (record { numbers = number ∷ []; rest = h.rest; begins = h.begins; is = inl (h.above, refl) }))

-- one end behind a header part
one_behind : (limit : ℕ) (l : Lengths) (rest s : List ℕ) (end other : StreamEnd) → EndsBehind limit l rest s end → EndsBehind limit l rest s other → end ≡ other
one_behind limit NoneYet rest s end other h k = h ∙ sym k
one_behind limit Several rest s end other h k = h ∙ sym k
one_behind limit (One n) rest s end other (inl h) (inl k) = h.1 ∙ sym k.1
one_behind limit (One n) rest s end other (inl h) (inr k) = absurd (omega (arith, h.0, k.0))
one_behind limit (One n) rest s end other (inr h) (inl k) = absurd (omega (arith, h.0, k.0))
one_behind limit (One n) rest s end other (inr h) (inr k) = h.2 ∙ sym k.2

one_shape : (limit : ℕ) (s : List ℕ) (end other : StreamEnd) → Shape limit s end → Shape limit s other → end ≡ other
one_shape limit s end other (inl h) (inl k) = h.is ∙ sym k.is
one_shape limit s end other (inl h) (inr (inl k)) = absurd (begun_or_bad k.place s h.begun k.bad)
one_shape limit s end other (inl h) (inr (inr k)) = absurd (begun_or_whole s k.numbers k.rest h.begun k.begins)
one_shape limit s end other (inr (inl h)) (inl k) = absurd (begun_or_bad h.place s k.begun h.bad)
one_shape limit s end other (inr (inl h)) (inr (inl k)) = h.is ∙ (ap (λ p. Broken (BadHeader p)) (one_bad h.place k.place s h.bad k.bad) ∙ sym k.is)
one_shape limit s end other (inr (inl h)) (inr (inr k)) = absurd (bad_or_whole h.place s k.numbers k.rest h.bad k.begins)
one_shape limit s end other (inr (inr h)) (inl k) = absurd (begun_or_whole s h.numbers h.rest k.begun h.begins)
one_shape limit s end other (inr (inr h)) (inr (inl k)) = absurd (bad_or_whole k.place s h.numbers h.rest k.bad h.begins)
one_shape limit s end other (inr (inr h)) (inr (inr k)) =
    let same = same_header s h.numbers k.numbers h.rest k.rest h.begins k.begins in
    let moved = subst (λ (r : List ℕ). EndsBehind limit (with_all NoneYet h.numbers) r s end) same.0 h.is in
    one_behind limit (with_all NoneYet k.numbers) k.rest s end other (subst (λ (l : Lengths). EndsBehind limit l k.rest s end) same.1 moved) k.is

-- one end
one_end : (limit : ℕ) (s : List ℕ) (end other : StreamEnd) → EndsAs limit end s → EndsAs limit other s → end ≡ other
one_end limit s end other h k = one_shape limit s end other (shape_of limit s end h) (shape_of limit s other k)

-- a frame, and then the rest
frame_begins : (limit : ℕ) (body frame rest : List ℕ) → IsFrame limit body frame → BeginsWithHeader (frame ++ rest) (length body ∷ []) (body ++ rest)
frame_begins limit body frame rest f = record {
  fields = f.begins.fields;
  header = f.begins.header;
  is_header = f.begins.is_header;
  numbers_are = f.begins.numbers_are;
  whole = ap (λ xs. xs ++ rest) f.begins.whole ∙ append_assoc f.begins.header body rest;
}

-- a body that has come whole is not short
behind_or_whole : (limit n : ℕ) (rest s : List ℕ) (end : StreamEnd) → n ≤ limit → n ≤ length rest → EndsBehind limit (One n) rest s end → ⊥
behind_or_whole limit n rest s end within enough (inl h) = omega (arith, within, h.0)
behind_or_whole limit n rest s end within enough (inr h) = omega (arith, enough, h.1)

frame_or_shape : (limit : ℕ) (body frame rest : List ℕ) (end : StreamEnd) → IsFrame limit body frame → Shape limit (frame ++ rest) end → ⊥
frame_or_shape limit body frame rest end f (inl h) = begun_or_whole (frame ++ rest) (length body ∷ []) (body ++ rest) h.begun (frame_begins limit body frame rest f)
frame_or_shape limit body frame rest end f (inr (inl h)) = bad_or_whole h.place (frame ++ rest) (length body ∷ []) (body ++ rest) h.bad (frame_begins limit body frame rest f)
frame_or_shape limit body frame rest end f (inr (inr h)) =
    let same = same_header (frame ++ rest) h.numbers (length body ∷ []) h.rest (body ++ rest) h.begins (frame_begins limit body frame rest f) in
    behind_or_whole limit (length body) h.rest (frame ++ rest) end f.within (omega (arith, ap length same.0, length-append body rest))
    (subst (λ (l : Lengths). EndsBehind limit l h.rest (frame ++ rest) end) same.1 h.is)

-- where a whole frame stands the stream does not end
frame_or_end : (limit : ℕ) (body frame rest : List ℕ) (end : StreamEnd) → IsFrame limit body frame → EndsAs limit end (frame ++ rest) → ⊥
frame_or_end limit body frame rest end f h = frame_or_shape limit body frame rest end f (shape_of limit (frame ++ rest) end h)

-- one number
one_number : (n m : ℕ) → One n ≡ One m → n ≡ m
one_number n m e = cc

-- nothing is behind a list as long
no_more : (a c m : List ℕ) → c ≡ a ++ m → length a ≡ length c → m ≡ []
no_more a c [] e h = refl
no_more a c (x ∷ m) e h = absurd (omega (arith, h, ap length e, length-append a (x ∷ m)))

-- one frame
one_frame : (limit : ℕ) (body other frame last rest more : List ℕ) → IsFrame limit body frame → IsFrame limit other last → frame ++ rest ≡ last ++ more → (body ≡ other) × (rest ≡ more)
one_frame limit body other frame last rest more f g e =
    let same =
    same_header (frame ++ rest) (length body ∷ []) (length other ∷ []) (body ++ rest) (other ++ more) (frame_begins limit body frame rest f)
    (subst (λ (xs : List ℕ). BeginsWithHeader xs (length other ∷ []) (other ++ more)) (sym e) (frame_begins limit other last more g)) in
    let lengths_same : length body ≡ length other = one_number (length body) (length other) same.1 in
    let front = front_of body rest other more same.0 (omega (arith, lengths_same)) in
    let none : front.0 ≡ [] = no_more body other front.0 front.1 lengths_same in
    (sym (front.1 ∙ (ap (λ m. body ++ m) none ∙ append-nil body)), front.2 ∙ ap (λ m. m ++ more) none)

-- one reading
one_reading_of : (limit : ℕ) (bodies frames others lasts : List (List ℕ)) (rest more : List ℕ) (end other : StreamEnd) → AllZip (IsFrame limit) bodies frames
    → AllZip (IsFrame limit) others lasts → concat frames ++ rest ≡ concat lasts ++ more → EndsAs limit end rest → EndsAs limit other more
    → (bodies ≡ others) × (end ≡ other)
one_reading_of limit [] [] [] [] rest more end other h k e x y = (refl, one_end limit more end other (subst (EndsAs limit end) e x) y)
one_reading_of limit [] [] (b ∷ others) (f ∷ lasts) rest more end other h k e x y =
    absurd (frame_or_end limit b f (concat lasts ++ more) end k.0 (subst (EndsAs limit end) (e ∙ append_assoc f (concat lasts) more) x))
one_reading_of limit (b ∷ bodies) (f ∷ frames) [] [] rest more end other h k e x y =
    absurd (frame_or_end limit b f (concat frames ++ rest) other h.0 (subst (EndsAs limit other) (sym e ∙ append_assoc f (concat frames) rest) y))
one_reading_of limit (b ∷ bodies) (f ∷ frames) (c ∷ others) (g ∷ lasts) rest more end other h k e x y =
    let first = one_frame limit b c f g (concat frames ++ rest) (concat lasts ++ more) h.0 k.0 (sym (append_assoc f (concat frames) rest) ∙ (e ∙ append_assoc g (concat lasts) more)) in
    let later = one_reading_of limit bodies frames others lasts rest more end other h.1 k.1 first.1 x y in
    (ap₂ (λ z zs. z ∷ zs) first.0 later.0, later.1)
one_reading_of limit [] (f ∷ frames) others lasts rest more end other h k e x y = absurd h
one_reading_of limit (b ∷ bodies) [] others lasts rest more end other h k e x y = absurd h
one_reading_of limit [] [] [] (g ∷ lasts) rest more end other h k e x y = absurd k
one_reading_of limit [] [] (c ∷ others) [] rest more end other h k e x y = absurd k
one_reading_of limit (b ∷ bodies) (f ∷ frames) [] (g ∷ lasts) rest more end other h k e x y = absurd k
one_reading_of limit (b ∷ bodies) (f ∷ frames) (c ∷ others) [] rest more end other h k e x y = absurd k

pub one_reading : (limit : ℕ) (stream : List ℕ) (bodies others : List (List ℕ)) (end other : StreamEnd) → Reads limit stream bodies end
    → Reads limit stream others other → (bodies ≡ others) × (end ≡ other)
one_reading limit stream bodies others end other r q =
    one_reading_of limit bodies r.frames others q.frames r.rest q.rest end other r.each q.each (sym r.whole ∙ q.whole) r.ends q.ends
