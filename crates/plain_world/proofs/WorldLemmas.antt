-- What every step of the plain machine keeps: each editor stands to the text of its file as it should, and each daemon
-- serves.
use Rattle.std.proofs.Common.{◌≡◌, ℕ, ◌==◌, ◌&&◌, Bool, true, false, List, [], ◌∷◌, length, Some, refl, sym, ap, ◌∙◌, subst}
use Rattle.std.specs.Prelude.{slice_get, slice_set, if◌then◌else◌}
use Rattle.std.proofs.lemmas.Bool.{eqb-true, eqb-false, eq-eqb}
use Rattle.delta.specs.Cells.{base_length, applied, changes_nothing}
use Rattle.delta.proofs.LawLemmas.{applied-nothing}
use Rattle.bridge_world.specs.Plain as P
use Rattle.daemon_core.specs.History.{is_path, text_at, made}
use Rattle.daemon_core.specs.Laws.{IsServing}
use Rattle.daemon_core.specs.Outcome.{Effect, Outcome, effects_of}
use Rattle.daemon_core.specs.State.{State}
use Rattle.daemon_core.proofs.FileLemmas.{text_made, text_elsewhere, path_same, is_path_back}
use Rattle.daemon_core.proofs.StepLemmas.{IsChange, Quiet, Made}
use Rattle.plain_world.specs.Handling.{told_seat, told_seats}
use Rattle.plain_world.specs.World.{Host, Seat, World}
use Rattle.plain_world.proofs.ListLemmas.{at_set, beside_set}
use Rattle.plain_world.proofs.SeatLemmas.{Stands, stands_told}

-- an editor stands to the text of its file at a daemon in this state
abbrev pub StandsAt : State → Seat → Type 0
StandsAt s x = Stands (text_at s.history x.path) x.editor

-- an editor's daemon is there, and the editor stands to its text
pub record IsSeated (hosts : List Host) (x : Seat) : Type 0 where
  pub host : Host
  pub there : slice_get hosts x.daemon ≡ Some host
  pub stands : StandsAt host.state x

pub record IsGood (w : World) : Type 0 where
  pub serve : (d : ℕ) (h : Host) → slice_get w.hosts d ≡ Some h → IsServing h.state
  pub seated : (e : ℕ) (x : Seat) → slice_get w.seats e ≡ Some x → IsSeated w.hosts x

-- ---- one change of a daemon's files, which its editors are told

-- whatever an outcome changes, an editor of the daemon stands to the text after it
pub told_stands : (d : ℕ) (s : State) (o : Outcome) (x : Seat) → IsChange s o → x.daemon ≡ d → StandsAt s x
    → Stands (text_at o.history x.path) (told_seats d o.effects x).editor
told_stands d s o x (Quiet same untold) here h =
    subst (λ (es : List Effect). Stands (text_at o.history x.path) (told_seats d es x).editor) (sym untold)
    (subst (λ history. Stands (text_at history x.path) x.editor) (sym same) h)
told_stands d s o x (Made path δ fits same effects) here h =
    subst (λ (es : List Effect). Stands (text_at o.history x.path) (told_seats d es x).editor) (sym effects)
    (subst (λ history. Stands (text_at history x.path) (told_seats d (effects_of path δ) x).editor) (sym same)
    (by_path (is_path path x.path) refl (changes_nothing δ) refl)) where
      there : is_path path x.path ≡ true → text_at (made s.history path δ) x.path ≡ applied δ (text_at s.history x.path)
      there at = subst (λ p. text_at (made s.history path δ) p ≡ applied δ (text_at s.history p)) (path_same path x.path at) (text_made s.history path δ)

      fits_here : is_path path x.path ≡ true → base_length δ ≡ length (text_at s.history x.path)
      fits_here at = fits ∙ ap (λ p. length (text_at s.history p)) (path_same path x.path at)

      is_here : (x.daemon == d) ≡ true
      is_here = eq-eqb x.daemon d here

      told_if : (b : Bool) → is_path path x.path ≡ b
          → (told_seat d (record { path = path; delta = δ }) x).editor ≡ (if b then P.told δ x.editor else x.editor)
      told_if b at =
          ap (λ c. (if c && is_path path x.path then record x { editor = P.told δ x.editor } else x).editor) is_here
          ∙ ap (λ c. (if c then record x { editor = P.told δ x.editor } else x).editor) at
          ∙ chosen b where
            chosen : (c : Bool) → (if c then record x { editor = P.told δ x.editor } else x).editor ≡ (if c then P.told δ x.editor else x.editor)
            chosen true = refl
            chosen false = refl

      by_path : (b : Bool) → is_path path x.path ≡ b → (n : Bool) → changes_nothing δ ≡ n
          → Stands (text_at (made s.history path δ) x.path)
          (told_seats d (if n then [] else record { path = path; delta = δ } ∷ []) x).editor
      by_path false apart true nothing =
          subst (λ t. Stands t x.editor) (sym (text_elsewhere s.history path x.path δ (is_path_back path x.path apart))) h
      by_path false apart false some =
          subst (λ y. Stands (text_at (made s.history path δ) x.path) y) (sym (told_if false apart))
          (subst (λ t. Stands t x.editor) (sym (text_elsewhere s.history path x.path δ (is_path_back path x.path apart))) h)
      by_path true at true nothing =
          subst (λ t. Stands t x.editor)
          (sym (there at ∙ applied-nothing δ (text_at s.history x.path) nothing (fits_here at))) h
      by_path true at false some =
          subst (λ y. Stands (text_at (made s.history path δ) x.path) y) (sym (told_if true at))
          (subst (λ t. Stands t (P.told δ x.editor)) (sym (there at)) (stands_told (text_at s.history x.path) δ x.editor (fits_here at) h))

-- ---- the editors of other daemons

-- an editor that is told is the same but for what it shows
told_one : (d : ℕ) (effect : Effect) (x : Seat) → told_seat d effect x ≡ record x { editor = (told_seat d effect x).editor }
told_one d effect x = by (x.daemon == d && is_path effect.path x.path) where
  told_so : Bool → Seat
  told_so b = if b then record x { editor = P.told effect.delta x.editor } else x

  by : (b : Bool) → told_so b ≡ record x { editor = (told_so b).editor }
  by true = refl
  by false = refl

pub told_is : (d : ℕ) (effects : List Effect) (x : Seat) → told_seats d effects x ≡ record x { editor = (told_seats d effects x).editor }
told_is d [] x = refl
told_is d (effect ∷ effects) x =
    let one : told_seat d effect x ≡ record x { editor = (told_seat d effect x).editor } = told_one d effect x in
    told_is d effects (told_seat d effect x)
    ∙ ap (λ (y : Seat). record y { editor = (told_seats d effects (told_seat d effect x)).editor }) one

-- an editor of another daemon is not told
pub told_apart : (d : ℕ) (effects : List Effect) (x : Seat) → (x.daemon == d) ≡ false → told_seats d effects x ≡ x
told_apart d [] x apart = refl
told_apart d (effect ∷ effects) x apart =
    ap (told_seats d effects)
    (ap (λ b. if b && is_path effect.path x.path then record x { editor = P.told effect.delta x.editor } else x) apart)
    ∙ told_apart d effects x apart

-- whatever an outcome changes at a daemon, each editor that is told stands as it should
pub seated_told : (hosts : List Host) (d : ℕ) (h next : Host) (o : Outcome) (x : Seat) → slice_get hosts d ≡ Some h
    → IsChange h.state o → next.state.history ≡ o.history → IsSeated hosts x → IsSeated (slice_set hosts d next) (told_seats d o.effects x)
seated_told hosts d h next o x found change after k =
    by (x.daemon == d) refl where
      by : (b : Bool) → (x.daemon == d) ≡ b → IsSeated (slice_set hosts d next) (told_seats d o.effects x)
      by false apart =
          subst (IsSeated (slice_set hosts d next)) (sym (told_apart d o.effects x apart))
          (record {
            host = k.host;
            there = beside_set hosts d x.daemon next (eqb-false x.daemon d apart) ∙ k.there;
            stands = k.stands;
          })
      by true is =
          let here : x.daemon ≡ d = eqb-true x.daemon d is in
          let same : Some k.host ≡ Some h = sym k.there ∙ ap (slice_get hosts) here ∙ found in
          let host : k.host ≡ h = cc in
          let told : Seat = told_seats d o.effects x in
          subst (IsSeated (slice_set hosts d next)) (sym (told_is d o.effects x))
          (record {
            host = next;
            there = ap (slice_get (slice_set hosts d next)) here ∙ at_set hosts d next h found;
            stands = subst (λ history. Stands (text_at history x.path) told.editor) (sym after)
                (told_stands d h.state o x change here (subst (λ (g : Host). StandsAt g.state x) host k.stands));
          })
