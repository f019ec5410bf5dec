-- A message of a script's editor is handled.
use Rattle.std.proofs.Common.{◌≡◌, ℕ, Bool, true, false, List, [], ◌∷◌, length, Option, Some, None, Ok, Err, refl, sym, ap, subst}
use Rattle.std.specs.Prelude.{if◌then◌else◌}
use Rattle.std.specs.Option.{unwrap_or}
use Rattle.delta.specs.Cells.{Cells, base_length, applied, inserting, changes_nothing}
use Rattle.transform.specs.Carried.{past_list}
use Rattle.bridge_world.specs.Lists.{unless}
use Rattle.bridge_world.specs.Plain as P
use Rattle.bridge_world.specs.Plain.{Accepts, Refuses}
use Rattle.rpc_message.specs.declared.refusals.Refusal.TheVariants.{NotOpen, AlreadyOpen, TextTooLong}
use Rattle.daemon_core.specs.History.{view_at, text_at}
use Rattle.daemon_core.specs.Outcome.{LinkEvent, Stays, Opened, Outcome}
use Rattle.daemon_core.specs.Refusing.{Step, may_grow}
use Rattle.daemon_core.specs.Serving.{with_change, opening, or_refusal}
use Rattle.daemon_core.specs.State.{State}
use Rattle.daemon_core.proofs.FileLemmas.{text_made}
use Rattle.daemon_core.proofs.StepLemmas.{IsChange, Quiet, Made}
use Rattle.plain_world.specs.Handling.{plain_step, first_step, verdict_of, cause_of}
use Rattle.plain_world.proofs.SeatLemmas.{Stands, stands_told, stands_handled, effect_fits}

-- what a step of a message makes of the editor that sent it, and of the files
pub record IsHandled (s : State) (path : List ℕ) (x : P.Editor) (step : Step Outcome) : Type 0 where
  pub stands : Stands (text_at (or_refusal s step).history path) (P.handled (verdict_of step) (text_at (or_refusal s step).history path) x)
  pub change : IsChange s (or_refusal s step)

-- a text that would be too long is refused, and else the change is made
abbrev grown : State → List ℕ → Cells → LinkEvent → Bool → Step Outcome
grown s path d own b =
    if b then Ok (with_change s path d own)
    else Err (record { refusal = TextTooLong (length (applied d (text_at s.history path))); own = Stays })

-- an editor without a link is not told
untold : (d : Cells) (x : P.Editor) → P.told d (record x { link = None }) ≡ record x { link = None }
untold d x = by (changes_nothing d) where
  by : (b : Bool) → unless b (P.pushed d) (record x { link = None }) ≡ record x { link = None }
  by true = refl
  by false = refl

by_message : (s : State) (path : List ℕ) (k : P.Message) (link : Option P.Link) (session : ℕ) (sent : List P.Sent) (x : P.Editor)
    → Stands (text_at s.history path) (record x { sent = record { session = session; message = k } ∷ sent; link = link })
    → IsHandled s path (record x { sent = record { session = session; message = k } ∷ sent; link = link }) (plain_step s path k link)
by_message s path (P.Opens content) None session sent x h = by_view (view_at s.history path) refl where
  e : P.Editor
  e = record x { sent = record { session = session; message = P.Opens content } ∷ sent; link = None }

  d : Cells
  d = inserting content

  made_view : List ℕ
  made_view = applied d (text_at s.history path)

  by_size : base_length d ≡ length (text_at s.history path) → (b : Bool) → IsHandled s path e (grown s path d (Opened path content []) b)
  by_size fits true =
      let there : Stands made_view e =
      subst (Stands made_view) (untold d e) (stands_told (text_at s.history path) d e fits h) in
      record {
        stands =
            subst (λ t. Stands t (P.handled Accepts t e)) (sym (text_made s.history path d))
            (stands_handled Accepts made_view e there);
        change = Made path d fits refl refl;
      }
  by_size fits false = record {
    stands = stands_handled (Refuses (cause_of (TextTooLong (length made_view)))) (text_at s.history path) e h;
    change = Quiet refl refl;
  }

  by_view : (view : Option (List ℕ)) → view_at s.history path ≡ view → IsHandled s path e (opening s path content view)
  by_view (Some view) is = record { stands = stands_handled Accepts (text_at s.history path) e h; change = Quiet refl refl }
  by_view None is =
      let empty : text_at s.history path ≡ [] = ap (λ (v : Option (List ℕ)). unwrap_or v []) is in
      by_size (sym (ap length empty)) (may_grow (length (text_at s.history path)) (length made_view))
by_message s path (P.Opens content) (Some link) session sent x h = record {
  stands = stands_handled (Refuses (cause_of AlreadyOpen)) (text_at s.history path) _ h;
  change = Quiet refl refl;
}
by_message s path (P.Edits p) None session sent x h = record {
  stands = stands_handled (Refuses (cause_of NotOpen)) (text_at s.history path) _ h;
  change = Quiet refl refl;
}
by_message s path (P.Edits p) (Some link) session sent x h =
    by_size (may_grow (length (text_at s.history path)) (length (applied d (text_at s.history path)))) where
      d : Cells
      d = past_list p link.down

      e : P.Editor
      e = record x { sent = record { session = session; message = P.Edits p } ∷ sent; link = Some link }

      by_size : (b : Bool) → IsHandled s path e (grown s path d Stays b)
      by_size true = record {
        stands =
            subst (λ t. Stands t (P.handled Accepts t e)) (sym (text_made s.history path d))
            (stands_handled Accepts (text_at s.history path) e h);
        change = Made path d (effect_fits Accepts (text_at s.history path) e h) refl refl;
      }
      by_size false = record {
        stands =
            stands_handled (Refuses (cause_of (TextTooLong (length (applied d (text_at s.history path))))))
            (text_at s.history path) e h;
        change = Quiet refl refl;
      }
by_message s path P.Closes None session sent x h = record {
  stands = stands_handled (Refuses (cause_of NotOpen)) (text_at s.history path) _ h;
  change = Quiet refl refl;
}
by_message s path P.Closes (Some link) session sent x h = record {
  stands = stands_handled Accepts (text_at s.history path) _ h;
  change = Quiet refl refl;
}

-- the first message of an editor
pub first_handled : (s : State) (path : List ℕ) (x : P.Editor) → Stands (text_at s.history path) x
    → IsHandled s path x (first_step s path x.sent x.link)
first_handled s path x h = by_sent x.sent h where
  by_sent : (sent : List P.Sent) → Stands (text_at s.history path) (record x { sent = sent })
      → IsHandled s path (record x { sent = sent }) (first_step s path sent x.link)
  by_sent [] h = record { stands = stands_handled Accepts (text_at s.history path) _ h; change = Quiet refl refl }
  by_sent (m ∷ sent) h = by_message s path m.message x.link m.session sent x h
