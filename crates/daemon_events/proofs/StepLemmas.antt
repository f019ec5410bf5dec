-- What an outcome owes, so that a daemon goes on to serve.
use Rattle.std.proofs.Common.{◌≡◌, ℕ, Bool, true, false, List, [], ◌∷◌, length, refl, sym, subst}
use Rattle.std.specs.Prelude.{if◌then◌else◌}
use Rattle.delta.specs.Cells.{Cells, base_length, changes_nothing}
use Rattle.editor_bridge.specs.Link.{with_pushed}
use Rattle.daemon_core.specs.Outcome.{LinkEvent, Stays, Effect, effects_of, own_links, told_links}
use Rattle.daemon_core.specs.State.{Links}
use Rattle.daemon_core.proofs.FileLemmas.{is_path_itself}
use Rattle.daemon_history.specs.Holding.{Holding, text_at}
use Rattle.daemon_events.specs.Laws.{IsLinked, IsServing}
use Rattle.daemon_events.specs.Outcome.{Outcome}
use Rattle.daemon_events.specs.State.{State, links_of}
use Rattle.daemon_events.proofs.HoldingLemmas.{IsSteady, ChangesText, KeepsTexts, keeps_all}
use Rattle.daemon_events.proofs.LinkLemmas.{linked_kept, linked_told, linked_elsewhere, linked_untold}
use Rattle.daemon_events.proofs.OpenLemmas.{AllOpen, changed_open}

-- each link that is open is as it should be
abbrev pub AllLinked : Holding → Links → Type 0
AllLinked h links = AllOpen (IsLinked h) links

-- an outcome changes no text and tells nobody, or it makes one change, which it tells
pub data IsChange (s : State) (o : Outcome) : Type 0 where
  Quiet : KeepsTexts s.holding o.holding → o.effects ≡ [] → IsChange s o
  Made : (path : List ℕ) (d : Cells) → base_length d ≡ length (text_at s.holding path) → ChangesText s.holding path d o.holding
      → o.effects ≡ effects_of path d → IsChange s o

-- what an outcome owes: one change at most, that what is held stays within bounds, and that the links of its own connection are as they
-- should be
pub record IsSound (s : State) (n : ℕ) (o : Outcome) : Type 0 where
  pub steady : IsSteady o.holding
  pub own : AllLinked o.holding (own_links o.own (links_of s n))
  pub change : IsChange s o

pub steady_of : (s : State) → IsServing s → IsSteady s.holding
steady_of s serving = record { holds = serving.holds; actor_is = serving.actor_is; short = serving.short }

pub all_kept : (h after : Holding) (links : Links) → KeepsTexts h after → AllLinked h links → AllLinked after links
all_kept h after links kept all path link found = linked_kept h after kept path link (all path link found)

-- a change of a text, told to all links of other connections
told_sound : (h : Holding) (path : List ℕ) (d : Cells) (after : Holding) → ChangesText h path d after → base_length d ≡ length (text_at h path)
    → (links : Links) → AllLinked h links → AllLinked after (told_links (effects_of path d) links)
told_sound h path d after changes fits links all = by (changes_nothing d) refl where
  by : (b : Bool) → changes_nothing d ≡ b → AllLinked after (told_links (if b then [] else record { path = path; delta = d } ∷ []) links)
  by true nothing = λ other link found. linked_untold h path d after changes other link (all other link found) nothing fits
  by false some =
      changed_open (IsLinked h) (IsLinked after) path (with_pushed d) links all
      (λ link found l. linked_told h path d after changes path link l (is_path_itself path) fits)
      (λ other link apart l. linked_elsewhere h path d after changes other link l apart)

-- whatever an outcome changes, the links that it tells are as they should be
pub told_all : (s : State) (o : Outcome) → IsChange s o → (links : Links) → AllLinked s.holding links
    → AllLinked o.holding (told_links o.effects links)
told_all s o (Quiet kept untold) links all =
    subst (λ (es : List Effect). AllLinked o.holding (told_links es links)) (sym untold) (all_kept s.holding o.holding links kept all)
told_all s o (Made path d fits changes effects) links all =
    subst (λ (es : List Effect). AllLinked o.holding (told_links es links)) (sym effects)
    (told_sound s.holding path d o.holding changes fits links all)

-- a message that changes no text
pub quiet_sound : (s : State) (n : ℕ) (o : Outcome) → KeepsTexts s.holding o.holding → o.effects ≡ [] → IsSteady o.holding
    → AllLinked o.holding (own_links o.own (links_of s n)) → IsSound s n o
quiet_sound s n o kept untold steady own = record { steady = steady; own = own; change = Quiet kept untold }

-- one that changes nothing at all
pub stays_sound : (s : State) (n : ℕ) (o : Outcome) → o.holding ≡ s.holding → o.effects ≡ [] → o.own ≡ Stays → IsSteady s.holding
    → AllLinked s.holding (links_of s n) → IsSound s n o
stays_sound s n o same untold stays steady all =
    quiet_sound s n o (subst (KeepsTexts s.holding) (sym same) (keeps_all s.holding)) untold (subst IsSteady (sym same) steady)
    (subst (λ (h : Holding). AllLinked h (own_links o.own (links_of s n))) (sym same)
    (subst (λ (own : LinkEvent). AllLinked s.holding (own_links own (links_of s n))) (sym stays) all))
