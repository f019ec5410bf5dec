-- An editor whose first message comes to its daemon is in the machine with counts what it is in the plain one.
use Rattle.std.proofs.Common.{◌≡◌, ℕ, Bool, true, false, List, [], ◌∷◌, length, Option, Some, None, Ok, Err, refl, sym, ap, ◌∙◌, subst}
use Rattle.std.specs.Prelude.{if◌then◌else◌}
use Rattle.std.specs.Option.{option_map}
use Rattle.delta.specs.Cells.{Cells, applied, inserting}
use Rattle.transform.specs.Carried.{past_list}
use Rattle.editor_bridge.specs.Link.{unshown, carried_edit}
use Rattle.bridge_world.specs.Counted as N
use Rattle.bridge_world.specs.Counted.{plain_of, plain_link, plain_message, Held, Sent}
use Rattle.bridge_world.specs.Plain as P
use Rattle.bridge_world.specs.Plain.{Verdict, Accepts}
use Rattle.bridge_world.specs.Room.{changed}
use Rattle.bridge_world.specs.Tie.{LinkFits, IfLinked, Good}
use Rattle.bridge_world.proofs.Delivery.{Both}
use Rattle.bridge_world.proofs.HandledSteps.{good_handled}
use Rattle.bridge_world.proofs.PlainSteps.{plain-handled, IsSeen}
use Rattle.rpc_message.specs.declared.refusals.Refusal.TheVariants.{TextTooLong}
use Rattle.daemon_core.specs.History.{view_at, text_at, made}
use Rattle.daemon_core.specs.Outcome.{LinkEvent, Stays, Opened, Outcome}
use Rattle.daemon_core.specs.Refusing.{Step, may_grow}
use Rattle.daemon_core.specs.Serving.{with_change, opening, or_refusal}
use Rattle.daemon_core.specs.State.{State}
use Rattle.daemon_core.proofs.FileLemmas.{text_made}
use Rattle.plain_world.specs.Handling.{plain_step, verdict_of}
use Rattle.frame_world.specs.Serving.{plain_step_of, editor_after}

-- an editor with a first message
abbrev with_first : N.Editor → ℕ → N.Message → List Sent → Option Held → N.Editor
with_first e session k sent link = record e { sent = record { session = session; message = k } ∷ sent; link = link }

-- an edit that finds its link counts what its editor had shown
seen : (k : N.Message) (link : Option Held) (view : List ℕ) (session : ℕ) (sent : List Sent) (e : N.Editor) → Good view (with_first e session k sent link)
    → IsSeen k link
seen (N.Opens content) link view session sent e h = tt
seen (N.Edits shown p) None view session sent e h = tt
seen (N.Edits shown p) (Some x) view session sent e h = h.sent.0.1.0
seen N.Closes link view session sent e h = tt

-- an editor without a link stands to one text as to another
pub good_unlinked : (view other : List ℕ) (e : N.Editor) → e.link ≡ None → Good view e → Good other e
good_unlinked view other e none h = record {
  low = h.low;
  link = subst (IfLinked (LinkFits other h.low)) (sym none) tt;
  sent = h.sent;
  session = h.session;
  aims = h.aims;
  ordered = h.ordered;
  numbers = h.numbers;
  tells = h.tells;
}

-- the text after a step is what the message makes of a text to which the editor stands
record Leads (s : State) (path : List ℕ) (e : N.Editor) (k : N.Message) (link : Option Held) (step : Step Outcome) : Type 0 where
  view : List ℕ
  good : Good view e
  after : text_at (or_refusal s step).history path ≡ changed (N.effect_by k link (verdict_of step)) view

-- one change, or that the text would be too long
abbrev grown : State → List ℕ → Cells → LinkEvent → Bool → Step Outcome
grown s path d own b =
    if b then Ok (with_change s path d own)
    else Err (record { refusal = TextTooLong (length (applied d (text_at s.history path))); own = Stays })

leads : (s : State) (path : List ℕ) (k : N.Message) (link : Option Held) (session : ℕ) (sent : List Sent) (e : N.Editor)
    → Good (text_at s.history path) (with_first e session k sent link)
    → Leads s path (with_first e session k sent link) k link (plain_step s path (plain_message k) (option_map plain_link link))
leads s path (N.Opens content) None session sent e h = by_view (view_at s.history path) where
  c : N.Editor
  c = with_first e session (N.Opens content) sent None

  d : Cells
  d = inserting content

  by_size : (b : Bool) → Leads s path c (N.Opens content) None (grown s path d (Opened path content []) b)
  by_size true = record { view = text_at (made s.history path d) path; good = good_unlinked (text_at s.history path) _ c refl h; after = refl }
  by_size false = record { view = text_at s.history path; good = h; after = refl }

  by_view : (view : Option (List ℕ)) → Leads s path c (N.Opens content) None (opening s path content view)
  by_view (Some view) = record { view = text_at s.history path; good = h; after = refl }
  by_view None = by_size (may_grow (length (text_at s.history path)) (length (applied d (text_at s.history path))))
leads s path (N.Opens content) (Some q) session sent e h = record { view = text_at s.history path; good = h; after = refl }
leads s path (N.Edits shown p) None session sent e h = record { view = text_at s.history path; good = h; after = refl }
leads s path (N.Edits shown p) (Some q) session sent e h =
    by_size (may_grow (length (text_at s.history path)) (length (applied d (text_at s.history path)))) where
      c : N.Editor
      c = with_first e session (N.Edits shown p) sent (Some q)

      d : Cells
      d = past_list p (N.down_of q)

      same : d ≡ carried_edit shown p q.link
      same = ap (λ n. past_list p (unshown n q.link)) (sym h.sent.0.1.0)

      by_size : (b : Bool) → Leads s path c (N.Edits shown p) (Some q) (grown s path d Stays b)
      by_size true = record {
        view = text_at s.history path;
        good = h;
        after = text_made s.history path d ∙ ap (λ x. applied x (text_at s.history path)) same;
      }
      by_size false = record { view = text_at s.history path; good = h; after = refl }
leads s path N.Closes None session sent e h = record { view = text_at s.history path; good = h; after = refl }
leads s path N.Closes (Some q) session sent e h = record { view = text_at s.history path; good = h; after = refl }

-- a message is handled in both machines
both_first : (k : N.Message) (link : Option Held) (verdict : Verdict) (view after : List ℕ) (session : ℕ) (sent : List Sent) (e : N.Editor)
    → Good view (with_first e session k sent link) → after ≡ changed (N.effect_by k link verdict) view
    → let c : N.Editor = record e { sent = sent; link = link } in
    Both after (P.handled_by (plain_message k) (option_map plain_link link) verdict after session (plain_of c)) (N.handled_by k link verdict after session c)
both_first k link verdict view after session sent e h is =
    let c : N.Editor = record e { sent = sent; link = link } in
    record {
      plain = plain-handled k link verdict after session (record e { sent = sent }) (seen k link view session sent e h);
      good = subst (λ t. Good t (N.handled_by k link verdict t session c)) (sym is) (good_handled k link verdict view session sent e h);
    }

-- the editor after its first message
pub own_turn : (s : State) (path : List ℕ) (e : N.Editor) → Good (text_at s.history path) e
    → let step : Step Outcome = plain_step_of s path e in let after : List ℕ = text_at (or_refusal s step).history path in
    Both after (P.handled (verdict_of step) after (plain_of e)) (editor_after s path e)
own_turn s path e h = by e.sent h where
  by : (sent : List Sent) → let c : N.Editor = record e { sent = sent } in Good (text_at s.history path) c
      → let step : Step Outcome = plain_step_of s path c in let after : List ℕ = text_at (or_refusal s step).history path in
      Both after (P.handled (verdict_of step) after (plain_of c)) (editor_after s path c)
  by [] g = record { plain = refl; good = g }
  by (m ∷ sent) g =
      let step : Step Outcome = plain_step s path (plain_message m.message) (option_map plain_link e.link) in
      let led = leads s path m.message e.link m.session sent e g in
      both_first m.message e.link (verdict_of step) led.view (text_at (or_refusal s step).history path) m.session sent e led.good led.after
