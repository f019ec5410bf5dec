-- Carrying, a part of a step at a time.
use Rattle.std.proofs.Common.{◌≡◌, ℕ, ◌+◌, ◌-◌, ◌^◌, ◌≤◌, ◌<◌, Bool, true, false, List, [], ◌∷◌, ◌++◌, length, take, refl, sym, ap, ◌∙◌, subst, arith}
use Rattle.std.proofs.lemmas.List.{append-nil, take_all}
use Rattle.delta.specs.Cells.{Cells, base_length, result_length, covers, inserts, joined, nothing}
use Rattle.delta.specs.Steps.{after_step, cells_of, MayLead, IsCanonical}
use Rattle.delta.specs.Reading.{front_part, text_ahead, next_of}
use Rattle.delta.specs.declared.steps.DeltaStep.{DeltaStep}
use Rattle.delta.specs.declared.steps.DeltaStep.TheVariants.{Keep, Insert, Delete}
use Rattle.delta.specs.declared.readers.NextStep.TheVariants.{Keep as KeepNext, Insert as InsertNext, Delete as DeleteNext}
use Rattle.delta.proofs.CellsLemmas.{covers-covers, joined_nothing, base_length-joined, base_length-covers, base_length-inserts, result_length-kept, result_length-deleted, result_length-inserts}
use Rattle.delta.proofs.StepsLemmas.{front-covers}
use Rattle.delta.proofs.WriterLemmas.{result_length-after_step}
use Rattle.transform.specs.Carried.{covers_if, daemon_text, editor_text, characters, carried}
use Rattle.transform.specs.Walk.{number_if, room, step_room, Passes, PassesStep}
use Rattle.transform.specs.declared.sides.Side.{Side}
use Rattle.transform.specs.declared.sides.Side.TheVariants.{Editor, Daemon}
use Rattle.transform.proofs.CarriedLemmas.{daemon_text_none, editor_text_none, carried-daemon_text, carried-editor_text, carried-characters}
use Rattle.transform.proofs.CarriedLemmas.{joined-editor_text, joined-daemon_text, joined-characters, base_length-covers_if, other_length, base_length-carried}

result_length-covers : (k : Bool) (n : ℕ) (d : Cells) → result_length (covers k n d) ≡ number_if k n + result_length d
result_length-covers true n d = result_length-kept n d
result_length-covers false n d = omega (arith, result_length-deleted n d)

number_if-split : (k : Bool) (n most left : ℕ) → n + left ≡ most → number_if k n + number_if k left ≡ number_if k most
number_if-split true n most left h = h
number_if-split false n most left h = refl

room-characters : (s : Side) (j k : Bool) (n most left : ℕ) (b a : Cells) → n + left ≡ most
    → base_length (joined b (characters s j k n nothing)) + room s j left a ≡ base_length b + room s j most (covers k n a)
room-characters Editor j k n most left b a h =
    omega (arith, base_length-joined b (covers_if j k n nothing), base_length-covers_if j k n nothing, number_if-split j n most left h)
room-characters Daemon j k n most left b a h =
    omega (arith, base_length-joined b (covers_if k j n nothing), base_length-covers_if k j n nothing, result_length-covers k n a)

-- characters that both deltas cover
Passes-characters : (s : Side) (j k : Bool) (n most left : ℕ) (b a : Cells) → n + left ≡ most → Passes s j most left b (joined b (characters s j k n nothing)) (covers k n a) a
Passes-characters s j k n most left b a h = record {
  gives = λ q.
      joined-characters s j k n b (carried s (covers j left q) a)
      ∙ ap (joined b) (sym (carried-characters s j k n (covers j left q) a))
      ∙ ap (λ e. joined b (carried s e (covers k n a))) (covers-covers j n left q ∙ ap (λ m. covers j m q) h);
  base = omega (arith, base_length-covers k n a, h);
  room = room-characters s j k n most left b a h;
}

room-text : (s : Side) (j : Bool) (most : ℕ) (t : List ℕ) (b a : Cells)
    → base_length (joined b (editor_text s t nothing)) + room s j most a ≡ base_length b + room s j most (inserts t a)
room-text Editor j most t b a =
    omega (arith, base_length-joined b (inserts t nothing), base_length-inserts t nothing)
room-text Daemon j most t b a =
    omega (arith, base_length-joined b (covers true (length t) nothing), base_length-covers true (length t) nothing, result_length-inserts t a)

-- a text of the editor
Passes-text : (s : Side) (j : Bool) (most : ℕ) (t : List ℕ) (b a : Cells) → 0 < most → Passes s j most most b (joined b (editor_text s t nothing)) (inserts t a) a
Passes-text s j most t b a some = record {
  gives = λ q.
      joined-editor_text s t b (carried s (covers j most q) a)
      ∙ ap (joined b) (sym (carried-editor_text s t (covers j most q) a (front-covers j most q some)));
  base = omega (arith, base_length-inserts t a);
  room = room-text s j most t b a;
}

pub Passes-none : (s : Side) (j : Bool) (most : ℕ) (b a : Cells) → Passes s j most most b b a a
Passes-none s j most b a = record { gives = λ q. refl; base = refl; room = refl }

pub Passes-then : (s : Side) (j : Bool) (most mid left : ℕ) (b c d a e f : Cells) → Passes s j most mid b c a e → Passes s j mid left c d e f → Passes s j most left b d a f
Passes-then s j most mid left b c d a e f h k = record {
  gives = λ q. k.gives q ∙ h.gives q;
  base = omega (arith, h.base, k.base);
  room = omega (arith, h.room, k.room);
}

pub part_kept : (s : Side) (j : Bool) (n taken most : ℕ) (ss ts : List DeltaStep) (b c : Cells) → next_of ss ≡ KeepNext n → taken ≤ most
    → c ≡ joined b (characters s j true taken nothing) → cells_of ss ≡ after_step (front_part taken ss) (cells_of ts)
    → Passes s j most (most - taken) b c (cells_of ss) (cells_of ts)
part_kept s j n taken most [] ts b c is le built parts = cc
part_kept s j n taken most (Keep m ∷ ss) ts b c is le built parts =
    subst (λ e. Passes s j most (most - taken) b e (cells_of (Keep m ∷ ss)) (cells_of ts)) (sym built)
    (subst (λ a. Passes s j most (most - taken) b (joined b (characters s j true taken nothing)) a (cells_of ts)) (sym parts)
    (Passes-characters s j true taken most (most - taken) b (cells_of ts) (omega (arith, le))))
part_kept s j n taken most (Insert t ∷ ss) ts b c is le built parts = cc
part_kept s j n taken most (Delete m ∷ ss) ts b c is le built parts = cc

pub part_deleted : (s : Side) (j : Bool) (n taken most : ℕ) (ss ts : List DeltaStep) (b c : Cells) → next_of ss ≡ DeleteNext n → taken ≤ most
    → c ≡ joined b (characters s j false taken nothing) → cells_of ss ≡ after_step (front_part taken ss) (cells_of ts)
    → Passes s j most (most - taken) b c (cells_of ss) (cells_of ts)
part_deleted s j n taken most [] ts b c is le built parts = cc
part_deleted s j n taken most (Keep m ∷ ss) ts b c is le built parts = cc
part_deleted s j n taken most (Insert t ∷ ss) ts b c is le built parts = cc
part_deleted s j n taken most (Delete m ∷ ss) ts b c is le built parts =
    subst (λ e. Passes s j most (most - taken) b e (cells_of (Delete m ∷ ss)) (cells_of ts)) (sym built)
    (subst (λ a. Passes s j most (most - taken) b (joined b (characters s j false taken nothing)) a (cells_of ts)) (sym parts)
    (Passes-characters s j false taken most (most - taken) b (cells_of ts) (omega (arith, le))))

pub part_text : (s : Side) (j : Bool) (n most : ℕ) (u : List ℕ) (ss ts : List DeltaStep) (b c : Cells) → next_of ss ≡ InsertNext n → 0 < most → u ≡ take n (text_ahead ss)
    → c ≡ joined b (editor_text s u nothing) → cells_of ss ≡ after_step (front_part n ss) (cells_of ts)
    → Passes s j most (most - 0) b c (cells_of ss) (cells_of ts)
part_text s j n most u [] ts b c is some text built parts = cc
part_text s j n most u (Keep m ∷ ss) ts b c is some text built parts = cc
part_text s j n most u (Insert t ∷ ss) ts b c is some text built parts =
    let all : most ≡ most - 0 = omega arith in
    let whole : cells_of (Insert t ∷ ss) ≡ inserts u (cells_of ts) = parts ∙ ap (λ l. inserts l (cells_of ts)) (sym text) in
    subst (λ l. Passes s j most l b c (cells_of (Insert t ∷ ss)) (cells_of ts)) all
    (subst (λ e. Passes s j most most b e (cells_of (Insert t ∷ ss)) (cells_of ts)) (sym built)
    (subst (λ a. Passes s j most most b (joined b (editor_text s u nothing)) a (cells_of ts)) (sym whole) (Passes-text s j most u b (cells_of ts) some)))
part_text s j n most u (Delete m ∷ ss) ts b c is some text built parts = cc

pub step_kept : (s : Side) (n : ℕ) (b c a e : Cells) → Passes s true n 0 b c a e → PassesStep s (Keep n) b c a e
step_kept s n b c a e h = record { gives = h.gives; base = omega (arith, h.base) }

pub step_deleted : (s : Side) (n : ℕ) (b c a e : Cells) → Passes s false n 0 b c a e → PassesStep s (Delete n) b c a e
step_deleted s n b c a e h = record { gives = h.gives; base = omega (arith, h.base) }

pub step_text : (s : Side) (t : List ℕ) (b a : Cells) → PassesStep s (Insert t) b (joined b (daemon_text s t nothing)) a a
step_text s t b a = record {
  gives = λ q. joined-daemon_text s t b (carried s q a) ∙ ap (joined b) (sym (carried-daemon_text s t q a));
  base = omega arith;
}

ends_here : (ss : List DeltaStep) → IsCanonical ss → base_length (cells_of ss) ≡ 0 → ((n : ℕ) → next_of ss ≡ InsertNext n → ⊥) → cells_of ss ≡ nothing
ends_here [] h none other = refl
ends_here (Keep m ∷ ss) h none other = absurd (omega (arith, h.0.content, none, base_length-covers true m (cells_of ss)))
ends_here (Insert t ∷ ss) h none other = absurd (other (length t) refl)
ends_here (Delete m ∷ ss) h none other = absurd (omega (arith, h.0.content, none, base_length-covers false m (cells_of ss)))

-- where nothing is left of either delta
pub nothing_left : (s : Side) (ss : List DeltaStep) → IsCanonical ss → base_length (cells_of ss) ≡ 0 → ((n : ℕ) → next_of ss ≡ InsertNext n → ⊥) → (b : Cells)
    → b ≡ joined b (carried s nothing (cells_of ss))
nothing_left s ss h none other b =
    sym (ap (λ a. joined b (carried s nothing a)) (ends_here ss h none other)
    ∙ ap (joined b) (daemon_text_none s (editor_text s [] nothing) ∙ editor_text_none s nothing)
    ∙ joined_nothing b)

-- where a text of the editor is left
pub end_text : (s : Side) (ss : List DeltaStep) (n : ℕ) (u : List ℕ) → next_of ss ≡ InsertNext n → IsCanonical ss → base_length (cells_of ss) ≡ 0 → u ≡ take n (text_ahead ss)
    → editor_text s u nothing ≡ carried s nothing (cells_of ss)
end_text s [] n u is h none text = cc
end_text s (Keep m ∷ ss) n u is h none text = cc
end_text s (Insert t ∷ ss) n u is h none text =
    let long : length t ≡ n = cc in
    let same : u ≡ t = text ∙ take_all n t (omega (arith, long)) in
    let last : cells_of ss ≡ nothing =
    ends_here ss h.1 (omega (arith, none, base_length-inserts t (cells_of ss))) (λ m e. no_more ss m e h.0.leads) in
    ap (λ l. editor_text s l nothing) (same ∙ sym (append-nil t))
    ∙ sym (daemon_text_none s (editor_text s (t ++ []) nothing))
    ∙ ap (λ a. carried s nothing (inserts t a)) (sym last) where
      no_more : (ss : List DeltaStep) (m : ℕ) → next_of ss ≡ InsertNext m → MayLead (Insert t) ss → ⊥
      no_more [] m e lead = cc
      no_more (Keep i ∷ ss) m e lead = cc
      no_more (Insert v ∷ ss) m e lead = lead
      no_more (Delete i ∷ ss) m e lead = cc
end_text s (Delete m ∷ ss) n u is h none text = cc

-- what is built stays within the base of the whole

pub covers_fit : (j k : Bool) (n b : ℕ) → j ≡ true → b + base_length (covers_if j k n nothing) < 2 ^ 64 → b + n < 2 ^ 64
covers_fit j k n b there fits =
    omega (arith, fits, base_length-covers_if j k n nothing, ap (λ i. number_if i n) there)

pub covers_none : (j k : Bool) (n : ℕ) (b : Cells) → j ≡ false → b ≡ joined b (covers_if j k n nothing)
covers_none j k n b none = sym (ap (λ i. joined b (covers_if i k n nothing)) none ∙ joined_nothing b)

base_length-editor_text : (t : List ℕ) → base_length (editor_text Daemon t nothing) ≡ length t
base_length-editor_text t = omega (arith, base_length-covers true (length t) nothing)

pub editor_text_fits : (s : Side) (t : List ℕ) (b : ℕ) → s ≡ Daemon → b + base_length (editor_text s t nothing) < 2 ^ 64 → b + length t < 2 ^ 64
editor_text_fits s t b is fits =
    omega (arith, fits, ap (λ r. base_length (editor_text r t nothing)) is, base_length-editor_text t)

pub daemon_text_fits : (s : Side) (t : List ℕ) (b : ℕ) → s ≡ Editor → b + base_length (daemon_text s t nothing) < 2 ^ 64 → b + length t < 2 ^ 64
daemon_text_fits s t b is fits =
    omega (arith, fits, ap (λ r. base_length (daemon_text r t nothing)) is, base_length-editor_text t)

number_if-le : (j : Bool) (m n : ℕ) → m ≤ n → number_if j m ≤ number_if j n
number_if-le true m n h = h
number_if-le false m n h = omega arith

kept_fits : (s : Side) (j : Bool) (n m most b : ℕ) (d : Cells) → n ≤ m → n ≤ most → b + room s j most (covers true m d) < 2 ^ 64 → b + base_length (characters s j true n nothing) < 2 ^ 64
kept_fits Editor j n m most b d long le fits =
    omega (arith, fits, base_length-covers_if j true n nothing, number_if-le j n most le)
kept_fits Daemon j n m most b d long le fits =
    omega (arith, fits, base_length-covers_if true j n nothing, result_length-kept m d, long)

pub part_kept_fits : (s : Side) (j : Bool) (n taken most b : ℕ) (ss : List DeltaStep) → next_of ss ≡ KeepNext n → taken ≤ n → taken ≤ most
    → b + room s j most (cells_of ss) < 2 ^ 64 → b + base_length (characters s j true taken nothing) < 2 ^ 64
part_kept_fits s j n taken most b [] is long le fits = cc
part_kept_fits s j n taken most b (Keep m ∷ ss) is long le fits =
    let same : m ≡ n = cc in kept_fits s j taken m most b (cells_of ss) (omega (arith, same, long)) le fits
part_kept_fits s j n taken most b (Insert t ∷ ss) is long le fits = cc
part_kept_fits s j n taken most b (Delete m ∷ ss) is long le fits = cc

pub part_deleted_fits : (s : Side) (j : Bool) (taken most b : ℕ) (a : Cells) → taken ≤ most → b + room s j most a < 2 ^ 64 → b + base_length (characters s j false taken nothing) < 2 ^ 64
part_deleted_fits Editor j taken most b a le fits =
    omega (arith, fits, base_length-covers_if j false taken nothing, number_if-le j taken most le)
part_deleted_fits Daemon j taken most b a le fits =
    omega (arith, fits, base_length-covers_if false j taken nothing)

text_fits : (s : Side) (j : Bool) (most b : ℕ) (t u : List ℕ) (d : Cells) → u ≡ t → b + room s j most (inserts t d) < 2 ^ 64 → b + base_length (editor_text s u nothing) < 2 ^ 64
text_fits Editor j most b t u d same fits = omega (arith, fits, base_length-inserts u nothing)
text_fits Daemon j most b t u d same fits =
    omega (arith, fits, base_length-covers true (length u) nothing, ap length same, result_length-inserts t d)

pub part_text_fits : (s : Side) (j : Bool) (n most b : ℕ) (u : List ℕ) (ss : List DeltaStep) → next_of ss ≡ InsertNext n → u ≡ take n (text_ahead ss)
    → b + room s j most (cells_of ss) < 2 ^ 64 → b + base_length (editor_text s u nothing) < 2 ^ 64
part_text_fits s j n most b u [] is text fits = cc
part_text_fits s j n most b u (Keep m ∷ ss) is text fits = cc
part_text_fits s j n most b u (Insert t ∷ ss) is text fits =
    let long : length t ≡ n = cc in
    text_fits s j most b t u (cells_of ss) (text ∙ take_all n t (omega (arith, long))) fits
part_text_fits s j n most b u (Delete m ∷ ss) is text fits = cc

step_text_fits_by : (s : Side) (t : List ℕ) (b : ℕ) (a : Cells) → b + step_room s (Insert t) a < 2 ^ 64 → b + base_length (daemon_text s t nothing) < 2 ^ 64
step_text_fits_by Editor t b a fits = omega (arith, fits, base_length-covers true (length t) nothing)
step_text_fits_by Daemon t b a fits = omega (arith, fits, base_length-inserts t nothing)

pub step_text_fits : (s : Side) (step : DeltaStep) (t u : List ℕ) (b : ℕ) (a : Cells) → step ≡ Insert t → u ≡ t → b + step_room s step a < 2 ^ 64 → b + base_length (daemon_text s u nothing) < 2 ^ 64
step_text_fits s step t u b a is same fits =
    subst (λ v. b + base_length (daemon_text s v nothing) < 2 ^ 64) (sym same)
    (step_text_fits_by s t b a (subst (λ r. b + step_room s r a < 2 ^ 64) is fits))

-- the base of what is built, and the room that is left
pub whole_fits : (s : Side) (b d e q p : Cells) → joined b (carried s d e) ≡ carried s q p → base_length d ≡ base_length e → base_length q ≡ base_length p
    → result_length q < 2 ^ 64 → result_length p < 2 ^ 64 → base_length b + other_length s d e < 2 ^ 64
whole_fits s b d e q p gives left lengths q_fits p_fits =
    omega (arith, ap base_length gives, base_length-joined b (carried s d e), base_length-carried s d e left, base_length-carried s q p lengths, by_side s) where
      by_side : (s : Side) → other_length s q p < 2 ^ 64
      by_side Editor = q_fits
      by_side Daemon = p_fits

pub step_room-le : (s : Side) (r : DeltaStep) (d e a : Cells) → e ≡ after_step r d → step_room s r a ≤ other_length s e a
step_room-le Editor r d e a is = omega (arith, ap result_length is, result_length-after_step r d)
step_room-le Daemon r d e a is = omega arith

pub end_room-le : (s : Side) (a : Cells) → room s false 0 a ≤ other_length s nothing a
end_room-le Editor a = omega arith
end_room-le Daemon a = omega arith
