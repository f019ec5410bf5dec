-- The numbers and the deltas of what is under way to an editor.
use Rattle.std.proofs.Common.{◌≡◌, ◌≢◌, ◌⊎◌, ℕ, ◌+◌, ◌<◌, Bool, true, false, List, [], ◌∷◌, ◌++◌, map, Option, Some, None, inl, inr, refl, sym, ap, ◌∙◌, arith}
use Rattle.std.proofs.lemmas.List.{map-append}
use Rattle.delta.specs.Cells.{Cells}
use Rattle.bridge_world.specs.Lists.{Each}
use Rattle.bridge_world.specs.Plain.{Kind, OpenDone, Done, Failed, New, Old, mark, aged, aged_mark, news}
use Rattle.bridge_world.specs.Counted.{Held, Frame, marks, answer, new_frame, aged_frame}
use Rattle.bridge_world.specs.Tie.{NewFits, FrameFits, delta_if_new, new_deltas}
use Rattle.bridge_world.specs.Facts.{AllBefore}
use Rattle.bridge_world.proofs.ListLemmas.{each-append, each-map, each_weaker, each_image}

-- the marks of frames

pub marks-append : (v w : List Frame) → marks (v ++ w) ≡ marks v ++ marks w
marks-append v w = map-append (λ (f : Frame). f.mark) v w

pub marks-aged : (v : List Frame) → marks (map aged_frame v) ≡ map aged_mark (marks v)
marks-aged [] = refl
marks-aged (f ∷ v) = ap (λ w. aged_mark f.mark ∷ w) (marks-aged v)

pub marks-new : (s n : ℕ) (down : List Cells) → marks (map (new_frame s n) down) ≡ news s down
marks-new s n [] = refl
marks-new s n (d ∷ down) = ap (λ w. mark s New ∷ w) (marks-new s n down)

-- an answer and then all that is to be shown, behind what is there
pub marks-answered : (v : List Frame) (s : ℕ) (k : Kind) (t n : ℕ) (down : List Cells) → marks (v ++ answer s k ∷ map (new_frame t n) down) ≡ marks v ++ mark s k ∷ news t down
marks-answered v s k t n down =
    marks-append v (answer s k ∷ map (new_frame t n) down) ∙ ap (λ w. marks v ++ mark s k ∷ w) (marks-new t n down)

-- the same where what was to be shown is overtaken
pub marks-resent : (v : List Frame) (s : ℕ) (k : Kind) (t n : ℕ) (down : List Cells)
    → marks (map aged_frame v ++ answer s k ∷ map (new_frame t n) down) ≡ map aged_mark (marks v) ++ mark s k ∷ news t down
marks-resent v s k t n down =
    marks-answered (map aged_frame v) s k t n down ∙ ap (λ w. w ++ mark s k ∷ news t down) (marks-aged v)

-- numbers

abbrev pub Numbers : Option Held → Bool → ℕ → ℕ → List Frame → Type 0
Numbers link closed session own wire = Each (FrameFits link closed session own) wire

pub numbers-append : (l : Option Held) (c : Bool) (s own : ℕ) (v w : List Frame) → Numbers l c s own v → Numbers l c s own w → Numbers l c s own (v ++ w)
numbers-append l c s own v w h k = each-append (FrameFits l c s own) v w h k

-- an answer has no number
pub fits_answer : (l : Option Held) (c : Bool) (s own t : ℕ) (k : Kind) → k ≢ New → k ≢ Old → FrameFits l c s own (answer t k)
fits_answer l c s own t k new old = record { new = λ e. absurd (new e); old = λ e d is. absurd (old e) }

-- the editor has made one more delta
pub numbers_later : (l : Option Held) (c : Bool) (s own : ℕ) (v : List Frame) → Numbers l c s own v → Numbers l c s (own + 1) v
numbers_later l c s own v h =
    each_weaker (FrameFits l c s own) (FrameFits l c s (own + 1)) v (λ f g. record { new = g.new; old = λ k d is. omega (arith, g.old k d is) }) h

pub numbers_closed : (l : Option Held) (c : Bool) (s own : ℕ) (v : List Frame) → Numbers l c s own v → Numbers l true s own v
numbers_closed l c s own v h =
    each_weaker (FrameFits l c s own) (FrameFits l true s own) v
    (λ f g. record { new = g.new; old = λ k d is. let never : true ≡ false = d in cc }) h

-- a new session, which no frame is of
pub numbers_reopened : (l : Option Held) (c : Bool) (s own u : ℕ) (v : List Frame) → AllBefore u (marks v) → Numbers l c s own v → Numbers l false u 0 v
numbers_reopened l c s own u [] before h = tt
numbers_reopened l c s own u (f ∷ v) before h = (
  record { new = h.0.new; old = λ k d is. absurd (omega (arith, before.0, is)) },
  numbers_reopened l c s own u v before.1 h.1,
)

-- another link, where what is to be shown fits it too
pub numbers_same : (l m : Option Held) (c : Bool) (s own : ℕ) (v : List Frame) → ((f : Frame) → NewFits l f → NewFits m f) → Numbers l c s own v → Numbers m c s own v
numbers_same l m c s own v fit h =
    each_weaker (FrameFits l c s own) (FrameFits m c s own) v (λ f g. record { new = λ k. fit f (g.new k); old = g.old }) h

not_new : (k : Kind) → aged k ≡ New → ⊥
not_new OpenDone e = cc
not_new Done e = cc
not_new (Failed cause) e = cc
not_new New e = cc
not_new Old e = cc

was_new_or_old : (k : Kind) → aged k ≡ Old → (k ≡ New) ⊎ (k ≡ Old)
was_new_or_old OpenDone e = cc
was_new_or_old Done e = cc
was_new_or_old (Failed cause) e = cc
was_new_or_old New e = inl refl
was_new_or_old Old e = inr refl

-- what was to be shown is overtaken, where the link's number is below the editor's own
pub numbers_aged : (h : Held) (m : Option Held) (c : Bool) (s own : ℕ) (v : List Frame) → (c ≡ false → h.session ≡ s → h.link.taken < own) → Numbers (Some h) c s own v
    → Numbers m c s own (map aged_frame v)
numbers_aged h m c s own v behind n =
    each-map (FrameFits (Some h) c s own) (FrameFits m c s own) aged_frame v
    (λ f g. record {
      new = λ k. absurd (not_new f.mark.kind k);
      old = λ k d is. elim (was_new_or_old f.mark.kind k) [
        | inl new ↦
            let fits : (f.mark.session ≡ h.session) × (f.revision ≡ h.link.taken) = g.new new in
            let mine : h.session ≡ s = sym fits.0 ∙ is in
            omega (arith, fits.1, behind d mine)
        | inr old ↦ g.old old d is
      ];
    }) n

pub numbers_new : (h : Held) (c : Bool) (s own : ℕ) (down : List Cells) → Numbers (Some h) c s own (map (new_frame h.session h.link.taken) down)
numbers_new h c s own down =
    each_image (FrameFits (Some h) c s own) (new_frame h.session h.link.taken) down
    (λ d. record { new = λ k. (refl, refl); old = λ k e is. let never : New ≡ Old = k in cc })

-- the deltas that are to be shown

delta_if_new-append : (k : Kind) (d : Cells) (ds es : List Cells) → delta_if_new k d (ds ++ es) ≡ delta_if_new k d ds ++ es
delta_if_new-append New d ds es = refl
delta_if_new-append Old d ds es = refl
delta_if_new-append OpenDone d ds es = refl
delta_if_new-append Done d ds es = refl
delta_if_new-append (Failed cause) d ds es = refl

pub delta_if_not_new : (k : Kind) (d : Cells) (ds : List Cells) → k ≢ New → delta_if_new k d ds ≡ ds
delta_if_not_new New d ds other = absurd (other refl)
delta_if_not_new Old d ds other = refl
delta_if_not_new OpenDone d ds other = refl
delta_if_not_new Done d ds other = refl
delta_if_not_new (Failed cause) d ds other = refl

pub new_deltas-append : (v w : List Frame) → new_deltas (v ++ w) ≡ new_deltas v ++ new_deltas w
new_deltas-append [] w = refl
new_deltas-append (f ∷ v) w =
    ap (delta_if_new f.mark.kind f.delta) (new_deltas-append v w) ∙ delta_if_new-append f.mark.kind f.delta (new_deltas v) (new_deltas w)

new_deltas-aged : (v : List Frame) → new_deltas (map aged_frame v) ≡ []
new_deltas-aged [] = refl
new_deltas-aged (f ∷ v) =
    delta_if_not_new (aged f.mark.kind) f.delta (new_deltas (map aged_frame v)) (λ e. not_new f.mark.kind e) ∙ new_deltas-aged v

new_deltas-new : (s n : ℕ) (down : List Cells) → new_deltas (map (new_frame s n) down) ≡ down
new_deltas-new s n [] = refl
new_deltas-new s n (d ∷ down) = ap (λ l. d ∷ l) (new_deltas-new s n down)

new_deltas-answered : (v : List Frame) (s t n : ℕ) (k : Kind) (down : List Cells) → k ≢ New → new_deltas v ≡ [] → new_deltas (v ++ answer s k ∷ map (new_frame t n) down) ≡ down
new_deltas-answered v s t n k down other none =
    new_deltas-append v (answer s k ∷ map (new_frame t n) down)
    ∙ ap (λ l. l ++ new_deltas (answer s k ∷ map (new_frame t n) down)) none
    ∙ delta_if_not_new k _ (new_deltas (map (new_frame t n) down)) other
    ∙ new_deltas-new t n down

pub new_deltas-resent : (v : List Frame) (s t n : ℕ) (down : List Cells) → new_deltas (map aged_frame v ++ answer s Done ∷ map (new_frame t n) down) ≡ down
new_deltas-resent v s t n down =
    new_deltas-answered (map aged_frame v) s t n Done down (λ e. cc) (new_deltas-aged v)

-- without a link nothing is to be shown
new_deltas_none : (c : Bool) (s own : ℕ) (v : List Frame) → Numbers None c s own v → new_deltas v ≡ []
new_deltas_none c s own [] h = refl
new_deltas_none c s own (f ∷ v) h =
    delta_if_not_new f.mark.kind f.delta (new_deltas v) (λ k. h.0.new k) ∙ new_deltas_none c s own v h.1

pub new_deltas-opened : (v : List Frame) (c : Bool) (s own t : ℕ) (first : List Cells) → Numbers None c s own v
    → new_deltas (v ++ answer t OpenDone ∷ map (new_frame t 0) first) ≡ first
new_deltas-opened v c s own t first h =
    new_deltas-answered v t t 0 OpenDone first (λ e. cc) (new_deltas_none c s own v h)
