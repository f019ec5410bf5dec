-- What a message comes to hangs on the files and on what is open on its own connection, and not on the other connections.
use Rattle.std.proofs.Common.{◌≡◌, ℕ, true, List, [], ◌∷◌, Option, Some, None, Result, Ok, Err, refl, sym, ap, ◌∙◌}
use Rattle.editor_bridge.specs.Link.{carried_edit}
use Rattle.file_uri.specs.Base.{BaseView}
use Rattle.file_uri.specs.PathOf.{path_of}
use Rattle.file_uri.specs.declared.faults.UriFault.{UriFault}
use Rattle.editor_bridge.specs.Link.{Link}
use Rattle.bridge_world.specs.Plain as P
use Rattle.rpc_message.specs.declared.faults.MessageFault.{MessageFault}
use Rattle.rpc_message.specs.declared.faults.MessageFault.TheVariants as fault
use Rattle.rpc_message.specs.declared.messages.FromEditor.{FromEditor}
use Rattle.rpc_message.specs.declared.messages.FromEditor.TheVariants.{Open, Close, Edit, Cursor, Shutdown, Response}
use Rattle.rpc_message.specs.declared.messages.Incoming.{Incoming}
use Rattle.daemon_core.specs.History.{History, view_at}
use Rattle.daemon_core.specs.Outcome.{Taken, Gone, Silence, Success, Outcome, answers}
use Rattle.daemon_core.specs.Outputs.{outcome_of}
use Rattle.daemon_core.specs.Refusing.{Step, ◌>>=◌, unless_bad_uri, path_named, open_link, no_link, text_shown, good_edits}
use Rattle.daemon_core.specs.Serving.{opening, changed, on_message, or_refusal}
use Rattle.daemon_core.specs.State.{Links, State, link_at, links_of}
use Rattle.plain_world.specs.Handling.{plain_step, first_step}

-- the same daemon with these connections
abbrev beside : State → BaseView → List (ℕ × Links) → State
beside s base cs = record s { base = base; connections = cs }

opening_same : (s : State) (base : BaseView) (cs : List (ℕ × Links)) (path content : List ℕ) (view : Option (List ℕ))
    → opening (beside s base cs) path content view ≡ opening s path content view
opening_same s base cs path content (Some text) = refl
opening_same s base cs path content None = refl

refusal_same : (s : State) (base : BaseView) (cs : List (ℕ × Links)) (step : Step Outcome) → or_refusal (beside s base cs) step ≡ or_refusal s step
refusal_same s base cs (Ok o) = refl
refusal_same s base cs (Err refused) = refl

-- ---- the first message of an editor of the script's own

plain_same : (s : State) (base : BaseView) (cs : List (ℕ × Links)) (path : List ℕ) (m : P.Message) (link : Option P.Link)
    → plain_step (beside s base cs) path m link ≡ plain_step s path m link
plain_same s base cs path (P.Opens content) None = opening_same s base cs path content (view_at s.history path)
plain_same s base cs path (P.Opens content) (Some link) = refl
plain_same s base cs path (P.Edits p) None = refl
plain_same s base cs path (P.Edits p) (Some link) = refl
plain_same s base cs path P.Closes None = refl
plain_same s base cs path P.Closes (Some link) = refl

first_same : (s : State) (base : BaseView) (cs : List (ℕ × Links)) (path : List ℕ) (sent : List P.Sent) (link : Option P.Link)
    → first_step (beside s base cs) path sent link ≡ first_step s path sent link
first_same s base cs path [] link = refl
first_same s base cs path (m ∷ sent) link = plain_same s base cs path m.message link

pub first_alike : (s t : State) (path : List ℕ) (sent : List P.Sent) (link : Option P.Link) → t.history ≡ s.history
    → first_step t path sent link ≡ first_step s path sent link
first_alike s t path sent link files =
    ap (λ (history : History). first_step (record t { history = history }) path sent link) files ∙ first_same s t.base t.connections path sent link

pub refusal_alike : (s t : State) (step : Step Outcome) → t.history ≡ s.history → or_refusal t step ≡ or_refusal s step
refusal_alike s t step files =
    ap (λ (history : History). or_refusal (record t { history = history }) step) files ∙ refusal_same s t.base t.connections step

-- ---- a message of a connection that the script feeds

-- where this is open on its connection
abbrev message_from : State → Links → FromEditor → Step Outcome
message_from s links (Open uri content) =
    path_named s uri >>= λ path. no_link (link_at links path) >>= λ free. opening s path content (view_at s.history path)
message_from s links (Close uri) =
    path_named s uri >>= λ path. open_link (link_at links path) >>= λ link. Ok (record (answers s Success) { own = Gone path })
message_from s links (Edit uri seen edits) =
    path_named s uri >>= λ path. open_link (link_at links path) >>= λ link. text_shown path seen link >>= λ text. good_edits path text edits
    >>= λ edit. changed s path (carried_edit seen edit link) (Taken path seen edit) (Gone path)
message_from s links (Cursor uri ranges) = Ok (answers s Success)
message_from s links Shutdown = Ok (record (answers s Success) { shuts_down = true })
message_from s links Response = Ok (answers s Silence)

message_is : (s : State) (n : ℕ) (m : FromEditor) → on_message s n m ≡ message_from s (links_of s n) m
message_is s n (Open uri content) = refl
message_is s n (Close uri) = refl
message_is s n (Edit uri seen edits) = refl
message_is s n (Cursor uri ranges) = refl
message_is s n Shutdown = refl
message_is s n Response = refl

open_same : (s : State) (cs : List (ℕ × Links)) (links : Links) (content : List ℕ) (r : Result (List ℕ) UriFault)
    → (unless_bad_uri r >>= λ path. no_link (link_at links path) >>= λ free. opening (beside s s.base cs) path content (view_at s.history path))
    ≡ (unless_bad_uri r >>= λ path. no_link (link_at links path) >>= λ free. opening s path content (view_at s.history path))
open_same s cs links content (Err bad) = refl
open_same s cs links content (Ok path) = by (link_at links path) where
  by : (link : Option Link) → (no_link link >>= λ free. opening (beside s s.base cs) path content (view_at s.history path))
      ≡ (no_link link >>= λ free. opening s path content (view_at s.history path))
  by None = opening_same s s.base cs path content (view_at s.history path)
  by (Some link) = refl

message_same : (s : State) (cs : List (ℕ × Links)) (links : Links) (m : FromEditor) → message_from (beside s s.base cs) links m ≡ message_from s links m
message_same s cs links (Open uri content) = open_same s cs links content (path_of s.base uri)
message_same s cs links (Close uri) = refl
message_same s cs links (Edit uri seen edits) = refl
message_same s cs links (Cursor uri ranges) = refl
message_same s cs links Shutdown = refl
message_same s cs links Response = refl

pub message_alike : (s t : State) (n : ℕ) (m : FromEditor) → t.base ≡ s.base → t.history ≡ s.history → links_of t n ≡ links_of s n
    → on_message t n m ≡ on_message s n m
message_alike s t n m base files links =
    message_is t n m
    ∙ ap (λ (b : BaseView). message_from (record t { base = b }) (links_of t n) m) base
    ∙ ap (λ (history : History). message_from (record t { base = s.base; history = history }) (links_of t n) m) files
    ∙ ap (λ ls. message_from (record t { base = s.base; history = s.history }) ls m) links
    ∙ message_same s t.connections (links_of s n) m
    ∙ sym (message_is s n m)

-- whatever is read of a body
pub outcome_alike : (s t : State) (n : ℕ) (read : Result Incoming MessageFault) → t.base ≡ s.base → t.history ≡ s.history → links_of t n ≡ links_of s n
    → outcome_of t n read ≡ outcome_of s n read
outcome_alike s t n (Ok m) base files links =
    ap (or_refusal t) (message_alike s t n m.message base files links) ∙ refusal_alike s t (on_message s n m.message) files
outcome_alike s t n (Err (fault.Refused id cause)) base files links =
    ap (λ (history : History). outcome_of (record t { history = history }) n (Err (fault.Refused id cause))) files
outcome_alike s t n (Err fault.Memory) base files links =
    ap (λ (history : History). outcome_of (record t { history = history }) n (Err fault.Memory)) files
