-- Whatever a message comes to is one change at most, and its delta is normal.
use Rattle.std.proofs.Common.{◌≡◌, ℕ, ◌+◌, Bool, true, false, List, [], ◌∷◌, length, Option, Some, None, Result, Ok, Err, refl, subst}
use Rattle.std.specs.Prelude.{if◌then◌else◌}
use Rattle.tt_base.specs.Answers.{and_then}
use Rattle.tt_base.specs.declared.edits.TextEdit.{TextEdit}
use Rattle.delta.specs.Cells.{Cells, applied, inserting, keeping, nothing, IsNormal}
use Rattle.delta.specs.Marks.{composed}
use Rattle.delta.proofs.ComposedLemmas.{IsNormal-composed}
use Rattle.delta.proofs.StepsLemmas.{IsNormal-kept}
use Rattle.transform.proofs.ListLemmas.{IsNormal-past_list}
use Rattle.text_position.specs.Edits.{delta_of_edit, with_edits, delta_of_edits}
use Rattle.text_position.specs.declared.faults.EditsFault.{EditsFault}
use Rattle.editor_bridge.specs.Faults.{revision_fault}
use Rattle.editor_bridge.specs.Link.{Link, editor_text, unshown, carried_edit}
use Rattle.editor_bridge.specs.declared.faults.BridgeFault.{BridgeFault}
use Rattle.file_uri.specs.PathOf.{path_of}
use Rattle.file_uri.specs.declared.faults.UriFault.{UriFault}
use Rattle.rpc_message.specs.declared.faults.MessageFault.{MessageFault}
use Rattle.rpc_message.specs.declared.faults.MessageFault.TheVariants as fault
use Rattle.rpc_message.specs.declared.messages.FromEditor.{FromEditor}
use Rattle.rpc_message.specs.declared.messages.FromEditor.TheVariants.{Open, Close, Edit, Cursor, Shutdown, Response}
use Rattle.rpc_message.specs.declared.messages.Incoming.{Incoming}
use Rattle.rpc_message.specs.declared.refusals.Refusal.TheVariants.{TextTooLong}
use Rattle.daemon_core.specs.History.{view_at, text_at}
use Rattle.daemon_core.specs.Outcome.{LinkEvent, Stays, Opened, Taken, Gone, Success, Outcome, answers}
use Rattle.daemon_core.specs.Outputs.{outcome_of}
use Rattle.daemon_core.specs.Refusing.{Refused, Step, ◌>>=◌, unless_bad_uri, open_link, no_link, unless_bad_revision, unless_bad_edits, may_grow}
use Rattle.daemon_core.specs.Serving.{with_change, changed, opening, on_message, or_refusal}
use Rattle.daemon_core.specs.State.{State, link_of}
use Rattle.frame_world.specs.Serving.{IsOneChange}

-- nobody is told
quiet : (s : State) (o : Outcome) → o.effects ≡ [] → IsOneChange s o
quiet s o none = record { path = []; delta = nothing; effects = none; normal = tt }

-- a change, or that the text would be too long
of_changed : (s : State) (path : List ℕ) (d : Cells) (own if_refused : LinkEvent) → IsNormal d → IsOneChange s (or_refusal s (changed s path d own if_refused))
of_changed s path d own if_refused normal = by (may_grow (length (text_at s.history path)) (length (applied d (text_at s.history path)))) where
  long : Refused
  long = record { refusal = TextTooLong (length (applied d (text_at s.history path))); own = if_refused }

  by : (b : Bool) → IsOneChange s (or_refusal s (if b then Ok (with_change s path d own) else Err long))
  by true = record { path = path; delta = d; effects = refl; normal = normal }
  by false = quiet s (or_refusal s (Err long)) refl

of_opening : (s : State) (path content : List ℕ) (view : Option (List ℕ)) → IsOneChange s (or_refusal s (opening s path content view))
of_opening s path content (Some view) = quiet s (or_refusal s (opening s path content (Some view))) refl
of_opening s path content None = of_changed s path (inserting content) (Opened path content []) Stays tt

-- the delta of edits is normal
normal_with : (index : ℕ) (text : List ℕ) (so_far d : Cells) (edits : List TextEdit) → IsNormal so_far → with_edits index text so_far edits ≡ Ok d → IsNormal d
normal_with index text so_far d [] normal e = let same : so_far ≡ d = cc in subst IsNormal same normal
normal_with index text so_far d (edit ∷ edits) normal e =
    by (delta_of_edit index (applied so_far text) edit) e (λ x. normal_with (index + 1) text (composed so_far x) d edits (IsNormal-composed so_far x)) where
      by : (r : Result Cells EditsFault) → and_then r (λ x. with_edits (index + 1) text (composed so_far x) edits) ≡ Ok d
          → ((x : Cells) → with_edits (index + 1) text (composed so_far x) edits ≡ Ok d → IsNormal d) → IsNormal d
      by (Err fault) e later = cc
      by (Ok x) e later = later x e

pub normal_edits : (text : List ℕ) (edits : List TextEdit) (d : Cells) → delta_of_edits text edits ≡ Ok d → IsNormal d
normal_edits text edits d e = normal_with 0 text (keeping (length text)) d edits (IsNormal-kept (length text) nothing tt) e

-- ---- each message

of_open : (s : State) (n : ℕ) (uri content : List ℕ) → IsOneChange s (or_refusal s (on_message s n (Open uri content)))
of_open s n uri content = by_path (path_of s.base uri) where
  by_link : (path : List ℕ) (link : Option Link) → IsOneChange s (or_refusal s (no_link link >>= λ tell. opening s path content (view_at s.history path)))
  by_link path (Some link) = quiet s (or_refusal s (no_link (Some link) >>= λ tell. opening s path content (view_at s.history path))) refl
  by_link path None = of_opening s path content (view_at s.history path)

  by_path : (r : Result (List ℕ) UriFault)
      → IsOneChange s (or_refusal s (unless_bad_uri r >>= λ path. no_link (link_of s n path) >>= λ tell. opening s path content (view_at s.history path)))
  by_path (Err bad) = quiet s (or_refusal s (unless_bad_uri (Err bad) >>= λ path. no_link (link_of s n path) >>= λ tell. opening s path content (view_at s.history path))) refl
  by_path (Ok path) = by_link path (link_of s n path)

of_close : (s : State) (n : ℕ) (uri : List ℕ) → IsOneChange s (or_refusal s (on_message s n (Close uri)))
of_close s n uri = by_path (path_of s.base uri) where
  by_link : (path : List ℕ) (link : Option Link) → IsOneChange s (or_refusal s (open_link link >>= λ l. Ok (record (answers s Success) { own = Gone path })))
  by_link path None = quiet s (or_refusal s (open_link None >>= λ l. Ok (record (answers s Success) { own = Gone path }))) refl
  by_link path (Some link) = quiet s (or_refusal s (open_link (Some link) >>= λ l. Ok (record (answers s Success) { own = Gone path }))) refl

  by_path : (r : Result (List ℕ) UriFault)
      → IsOneChange s (or_refusal s (unless_bad_uri r >>= λ path. open_link (link_of s n path) >>= λ l. Ok (record (answers s Success) { own = Gone path })))
  by_path (Err bad) = quiet s (or_refusal s (unless_bad_uri (Err bad) >>= λ path. open_link (link_of s n path) >>= λ l. Ok (record (answers s Success) { own = Gone path }))) refl
  by_path (Ok path) = by_link path (link_of s n path)

-- an edit, behind its path
abbrev edit_step : State → ℕ → List TextEdit → List ℕ → Link → Result Cells EditsFault → Step Outcome
edit_step s seen edits path link r = unless_bad_edits path r >>= λ edit. changed s path (carried_edit seen edit link) (Taken path seen edit) (Gone path)

abbrev shown_step : State → ℕ → List TextEdit → List ℕ → Link → Option BridgeFault → Step Outcome
shown_step s seen edits path link known = unless_bad_revision known path seen link >>= λ text. edit_step s seen edits path link (delta_of_edits text edits)

abbrev link_step : State → ℕ → List TextEdit → List ℕ → Option Link → Step Outcome
link_step s seen edits path link = open_link link >>= λ l. shown_step s seen edits path l (revision_fault seen l)

of_edit : (s : State) (n : ℕ) (uri : List ℕ) (seen : ℕ) (edits : List TextEdit) → IsOneChange s (or_refusal s (on_message s n (Edit uri seen edits)))
of_edit s n uri seen edits = by_path (path_of s.base uri) where
  by_edits : (path : List ℕ) (link : Link) (text : List ℕ) (r : Result Cells EditsFault) → delta_of_edits text edits ≡ r → IsOneChange s (or_refusal s (edit_step s seen edits path link r))
  by_edits path link text (Err bad) e = quiet s (or_refusal s (edit_step s seen edits path link (Err bad))) refl
  by_edits path link text (Ok p) e =
      of_changed s path (carried_edit seen p link) (Taken path seen p) (Gone path) (IsNormal-past_list p (unshown seen link) (normal_edits text edits p e))

  by_revision : (path : List ℕ) (link : Link) (known : Option BridgeFault) → IsOneChange s (or_refusal s (shown_step s seen edits path link known))
  by_revision path link (Some bad) = quiet s (or_refusal s (shown_step s seen edits path link (Some bad))) refl
  by_revision path link None = by_edits path link (editor_text seen link) (delta_of_edits (editor_text seen link) edits) refl

  by_link : (path : List ℕ) (link : Option Link) → IsOneChange s (or_refusal s (link_step s seen edits path link))
  by_link path None = quiet s (or_refusal s (link_step s seen edits path None)) refl
  by_link path (Some link) = by_revision path link (revision_fault seen link)

  by_path : (r : Result (List ℕ) UriFault) → IsOneChange s (or_refusal s (unless_bad_uri r >>= λ path. link_step s seen edits path (link_of s n path)))
  by_path (Err bad) = quiet s (or_refusal s (unless_bad_uri (Err bad) >>= λ path. link_step s seen edits path (link_of s n path))) refl
  by_path (Ok path) = by_link path (link_of s n path)

of_message : (s : State) (n : ℕ) (message : FromEditor) → IsOneChange s (or_refusal s (on_message s n message))
of_message s n (Open uri content) = of_open s n uri content
of_message s n (Close uri) = of_close s n uri
of_message s n (Edit uri seen edits) = of_edit s n uri seen edits
of_message s n (Cursor uri ranges) = quiet s (or_refusal s (on_message s n (Cursor uri ranges))) refl
of_message s n Shutdown = quiet s (or_refusal s (on_message s n Shutdown)) refl
of_message s n Response = quiet s (or_refusal s (on_message s n Response)) refl

-- whatever is read of a body
pub one_change : (s : State) (n : ℕ) (read : Result Incoming MessageFault) → IsOneChange s (outcome_of s n read)
one_change s n (Ok m) = of_message s n m.message
one_change s n (Err (fault.Refused id cause)) = quiet s (outcome_of s n (Err (fault.Refused id cause))) refl
one_change s n (Err fault.Memory) = quiet s (outcome_of s n (Err fault.Memory)) refl
