-- No message is refused because two changes have one name, before its change is made.
use Rattle.std.proofs.Common.{◌≡◌, ℕ, Bool, true, false, List, [], length, Option, Some, None, Result, Ok, Err, refl, subst}
use Rattle.std.specs.Prelude.{if◌then◌else◌}
use Rattle.delta.specs.Cells.{Cells, applied, inserting}
use Rattle.editor_bridge.specs.Faults.{revision_fault}
use Rattle.editor_bridge.specs.Link.{Link, issued, editor_text, carried_edit}
use Rattle.editor_bridge.specs.declared.faults.BridgeFault.{BridgeFault}
use Rattle.file_uri.specs.PathOf.{path_of}
use Rattle.file_uri.specs.declared.faults.UriFault.{UriFault}
use Rattle.rpc_message.specs.declared.messages.FromEditor.{FromEditor}
use Rattle.rpc_message.specs.declared.messages.FromEditor.TheVariants.{Open, Close, Edit, Cursor, Shutdown, Response}
use Rattle.rpc_message.specs.declared.refusals.Refusal.TheVariants.{NotOpen, AlreadyOpen, BadUri, BadRevision, TextTooLong}
use Rattle.text_position.specs.Edits.{delta_of_edits}
use Rattle.text_position.specs.declared.faults.EditsFault.{EditsFault}
use Rattle.text_position.specs.declared.faults.EditsFault.TheVariants as edits
use Rattle.tt_base.specs.declared.edits.TextEdit.{TextEdit}
use Rattle.daemon_core.specs.Outcome.{LinkEvent, Stays, Opened, Taken, Gone, Success}
use Rattle.daemon_core.specs.Refusing.{Refused, ◌>>=◌, uri_cause, unless_bad_uri, open_link, no_link, unless_bad_revision, unless_bad_edits, edits_refusal, may_grow}
use Rattle.daemon_core.specs.State.{link_at}
use Rattle.daemon_events.specs.Serving.{clashes}
use Rattle.daemon_events.specs.Wanting.{Desk, Wanted, wanted, text_on, asks, changing, unless_long, opening}

edits_never : (fault : EditsFault) → clashes (edits_refusal fault) ≡ []
edits_never (edits.BadPosition edit) = refl
edits_never (edits.BackwardRange edit) = refl
edits_never edits.Memory = refl

module _ (d : Desk) (refused : Refused) where
  abbrev Never : Type 0
  Never = clashes refused.refusal ≡ []

  the_one : (one : Refused) → clashes one.refusal ≡ [] → one ≡ refused → Never
  the_one one none same = subst (λ (r : Refused). clashes r.refusal ≡ []) same none

  long_never : (before : List ℕ) (x : Cells) (if_refused : LinkEvent) (next : Cells → Wanted)
      → (unless_long before x if_refused >>= λ e. Ok (next e)) ≡ Err refused → Never
  long_never before x if_refused next = by (may_grow (length before) (length (applied x before))) where
    by : (b : Bool)
        → ((if b then Ok x else Err (record { refusal = TextTooLong (length (applied x before)); own = if_refused })) >>= λ e. Ok (next e)) ≡ Err refused
        → Never
    by true is = cc
    by false is = the_one (record { refusal = TextTooLong (length (applied x before)); own = if_refused }) refl cc

  open_never : (uri content : List ℕ) → wanted d (Open uri content) ≡ Err refused → Never
  open_never uri content = by_path (path_of d.base uri) where
    by_view : (path : List ℕ) (view : Option (List ℕ)) → opening path content view ≡ Err refused → Never
    by_view path (Some view) is = cc
    by_view path None is =
        long_never [] (inserting content) Stays (λ e. record (changing path e (Opened path content []) Stays) { opens = Some path }) is

    by_link : (path : List ℕ) (link : Option Link) → (no_link link >>= λ free. opening path content (d.view path)) ≡ Err refused → Never
    by_link path (Some link) is = the_one (record { refusal = AlreadyOpen; own = Stays }) refl cc
    by_link path None is = by_view path (d.view path) is

    by_path : (r : Result (List ℕ) UriFault)
        → (unless_bad_uri r >>= λ path. no_link (link_at d.links path) >>= λ free. opening path content (d.view path)) ≡ Err refused → Never
    by_path (Err fault) is = the_one (record { refusal = BadUri (uri_cause fault); own = Stays }) refl cc
    by_path (Ok path) is = by_link path (link_at d.links path) is

  close_never : (uri : List ℕ) → wanted d (Close uri) ≡ Err refused → Never
  close_never uri = by_path (path_of d.base uri) where
    by_link : (path : List ℕ) (link : Option Link) → (open_link link >>= λ l. Ok (record (asks Success) { own = Gone path })) ≡ Err refused → Never
    by_link path None is = the_one (record { refusal = NotOpen; own = Stays }) refl cc
    by_link path (Some link) is = cc

    by_path : (r : Result (List ℕ) UriFault)
        → (unless_bad_uri r >>= λ path. open_link (link_at d.links path) >>= λ l. Ok (record (asks Success) { own = Gone path })) ≡ Err refused → Never
    by_path (Err fault) is = the_one (record { refusal = BadUri (uri_cause fault); own = Stays }) refl cc
    by_path (Ok path) is = by_link path (link_at d.links path) is

  edit_never : (uri : List ℕ) (seen : ℕ) (edits : List TextEdit) → wanted d (Edit uri seen edits) ≡ Err refused → Never
  edit_never uri seen edits = by_path (path_of d.base uri) where
    by_edits : (path : List ℕ) (link : Link) (r : Result Cells EditsFault)
        → (unless_bad_edits path r
        >>= λ edit. unless_long (text_on d path) (carried_edit seen edit link) (Gone path)
        >>= λ x. Ok (changing path x (Taken path seen edit) (Gone path))) ≡ Err refused
        → Never
    by_edits path link (Err fault) is = the_one (record { refusal = edits_refusal fault; own = Gone path }) (edits_never fault) cc
    by_edits path link (Ok p) is =
        long_never (text_on d path) (carried_edit seen p link) (Gone path) (λ x. changing path x (Taken path seen p) (Gone path)) is

    by_revision : (path : List ℕ) (link : Link) (fault : Option BridgeFault)
        → (unless_bad_revision fault path seen link
        >>= λ text. unless_bad_edits path (delta_of_edits text edits)
        >>= λ edit. unless_long (text_on d path) (carried_edit seen edit link) (Gone path)
        >>= λ x. Ok (changing path x (Taken path seen edit) (Gone path))) ≡ Err refused
        → Never
    by_revision path link (Some fault) is = the_one (record { refusal = BadRevision link.confirmed (issued link) seen; own = Gone path }) refl cc
    by_revision path link None is = by_edits path link (delta_of_edits (editor_text seen link) edits) is

    by_link : (path : List ℕ) (link : Option Link)
        → (open_link link
        >>= λ l. unless_bad_revision (revision_fault seen l) path seen l
        >>= λ text. unless_bad_edits path (delta_of_edits text edits)
        >>= λ edit. unless_long (text_on d path) (carried_edit seen edit l) (Gone path)
        >>= λ x. Ok (changing path x (Taken path seen edit) (Gone path))) ≡ Err refused
        → Never
    by_link path None is = the_one (record { refusal = NotOpen; own = Stays }) refl cc
    by_link path (Some link) is = by_revision path link (revision_fault seen link) is

    by_path : (r : Result (List ℕ) UriFault)
        → (unless_bad_uri r
        >>= λ path. open_link (link_at d.links path)
        >>= λ l. unless_bad_revision (revision_fault seen l) path seen l
        >>= λ text. unless_bad_edits path (delta_of_edits text edits)
        >>= λ edit. unless_long (text_on d path) (carried_edit seen edit l) (Gone path)
        >>= λ x. Ok (changing path x (Taken path seen edit) (Gone path))) ≡ Err refused
        → Never
    by_path (Err fault) is = the_one (record { refusal = BadUri (uri_cause fault); own = Stays }) refl cc
    by_path (Ok path) is = by_link path (link_at d.links path) is

pub no_clash : (d : Desk) (message : FromEditor) (refused : Refused) → wanted d message ≡ Err refused → clashes refused.refusal ≡ []
no_clash d (Open uri content) refused is = open_never d refused uri content is
no_clash d (Close uri) refused is = close_never d refused uri is
no_clash d (Edit uri revision edits) refused is = edit_never d refused uri revision edits is
no_clash d (Cursor uri ranges) refused is = cc
no_clash d Shutdown refused is = cc
no_clash d Response refused is = cc
