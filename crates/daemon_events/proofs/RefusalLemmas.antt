-- What a refusal does to the link of its message, and what an id decides.
use Rattle.std.proofs.Common.{◌≡◌, ℕ, Bool, true, false, List, [], ◌++◌, map, length, Option, Some, None, Result, Ok, Err, refl, sym, ap, ◌∙◌, subst}
use Rattle.std.specs.Prelude.{if◌then◌else◌}
use Rattle.std.specs.List.{flat_map}
use Rattle.std.proofs.lemmas.List.{append_assoc, map-append}
use Rattle.delta.specs.Cells.{Cells, applied, inserting}
use Rattle.editor_bridge.specs.Faults.{revision_fault}
use Rattle.editor_bridge.specs.Link.{Link, issued, editor_text, carried_edit}
use Rattle.editor_bridge.specs.declared.faults.BridgeFault.{BridgeFault}
use Rattle.file_uri.specs.PathOf.{path_of}
use Rattle.file_uri.specs.declared.faults.UriFault.{UriFault}
use Rattle.tt_base.specs.declared.edits.TextEdit.{TextEdit}
use Rattle.text_position.specs.Edits.{delta_of_edits}
use Rattle.text_position.specs.declared.faults.EditsFault.{EditsFault}
use Rattle.text_position.specs.declared.faults.EditsFault.TheVariants as edits
use Rattle.rpc_message.specs.declared.messages.FromEditor.{FromEditor}
use Rattle.rpc_message.specs.declared.messages.FromEditor.TheVariants.{Open, Close, Edit, Cursor, Shutdown, Response}
use Rattle.rpc_message.specs.declared.messages.MessageId.{MessageId}
use Rattle.rpc_message.specs.declared.messages.ToEditor.{ToEditor}
use Rattle.rpc_message.specs.declared.refusals.Refusal.{Refusal}
use Rattle.rpc_message.specs.declared.refusals.Refusal.TheVariants as refusals
use Rattle.rpc_message.specs.declared.refusals.Refusal.TheVariants.{NotOpen, BadUri, BadRevision, TextTooLong}
use Rattle.daemon_core.specs.Outcome.{LinkEvent, Stays, Gone, Taken, Opened, Success}
use Rattle.daemon_core.specs.Outputs.{reply, own_messages}
use Rattle.daemon_core.specs.Refusing.{Refused, ◌>>=◌, uri_cause, unless_bad_uri, open_link, no_link, unless_bad_revision, unless_bad_edits, edits_refusal, may_grow}
use Rattle.daemon_history.specs.Holding.{Holding, view_at}
use Rattle.daemon_history.specs.Making.{Clash, making}
use Rattle.daemon_events.specs.Laws.{EndsLinkIf, ends_link, EndsSo, DiffersInReply}
use Rattle.daemon_events.specs.Outcome.{Outcome}
use Rattle.daemon_events.specs.Outputs.{send, sent_to_others, told, stop_if, outcome_of}
use Rattle.daemon_events.specs.Serving.{desk_of, unless_clash, done, carried_out, on_message}
use Rattle.daemon_events.specs.Wanting.{text_on, asks, changing, unless_long, opening}
use Rattle.daemon_events.specs.State.{State, links_of, link_of}

-- ---- which refusals end a link

-- what the refusal of an edit does to its link, at a path that the URI names
record IsJudged (path : List ℕ) (refused : Refused) : Type 0 where
  ends : ends_link refused.refusal ≡ true
  gone : refused.own ≡ Gone path

-- it stays, or it is judged
by_judging : (s : State) (uri path : List ℕ) (refused : Refused) → path_of s.base uri ≡ Ok path → IsJudged path refused
    → EndsLinkIf (ends_link refused.refusal) s uri refused
by_judging s uri path refused named judged =
    subst (λ b. EndsLinkIf b s uri refused) (sym judged.ends) (path, (named, judged.gone))

-- a change that is refused ends the link that it was to end then
record EndsAs (if_refused : LinkEvent) (refused : Refused) : Type 0 where
  ends : ends_link refused.refusal ≡ true
  own : refused.own ≡ if_refused

ends_as : (if_refused : LinkEvent) (refused : Refused) (refusal : Refusal) → ends_link refusal ≡ true → record { refusal = refusal; own = if_refused } ≡ refused
    → EndsAs if_refused refused
ends_as if_refused refused refusal ends same =
    let one : EndsAs if_refused (record { refusal = refusal; own = if_refused }) = record { ends = ends; own = refl } in
    subst (EndsAs if_refused) same one

changed_refused : (s : State) (path before : List ℕ) (d : Cells) (own if_refused : LinkEvent) (opens : Option (List ℕ)) (refused : Refused)
    → ((unless_long before d if_refused >>= λ e. Ok (record (changing path e own if_refused) { opens = opens })) >>= carried_out s) ≡ Err refused
    → EndsAs if_refused refused
changed_refused s path before d own if_refused opens refused = by (may_grow (length before) (length (applied d before))) where
  made_refused : (r : Result Holding Clash)
      → (unless_clash if_refused r >>= λ after. Ok (done s (record (changing path d own if_refused) { opens = opens }) after)) ≡ Err refused
      → EndsAs if_refused refused
  made_refused (Ok after) is = cc
  made_refused (Err clash) is = ends_as if_refused refused (refusals.Clash clash.given clash.held) refl cc

  by : (b : Bool)
      → (((if b then Ok d else Err (record { refusal = TextTooLong (length (applied d before)); own = if_refused }))
      >>= λ e. Ok (record (changing path e own if_refused) { opens = opens })) >>= carried_out s) ≡ Err refused
      → EndsAs if_refused refused
  by true is = made_refused (making s.holding path d) is
  by false is = ends_as if_refused refused (TextTooLong (length (applied d before))) refl cc

open_ends : (s : State) (n : ℕ) (uri content : List ℕ) (refused : Refused) → on_message s n (Open uri content) ≡ Err refused → refused.own ≡ Stays
open_ends s n uri content refused = by_path (path_of s.base uri) where
  by_view : (path : List ℕ) (view : Option (List ℕ)) → (opening path content view >>= carried_out s) ≡ Err refused → refused.own ≡ Stays
  by_view path (Some view) is = cc
  by_view path None is = (changed_refused s path [] (inserting content) (Opened path content []) Stays (Some path) refused is).own

  by_link : (path : List ℕ) (link : Option Link)
      → ((no_link link >>= λ free. opening path content (view_at s.holding path)) >>= carried_out s) ≡ Err refused → refused.own ≡ Stays
  by_link path (Some link) is = cc
  by_link path None is = by_view path (view_at s.holding path) is

  by_path : (r : Result (List ℕ) UriFault)
      → ((unless_bad_uri r >>= λ path. no_link (link_of s n path) >>= λ free. opening path content (view_at s.holding path)) >>= carried_out s) ≡ Err refused
      → refused.own ≡ Stays
  by_path (Err fault) is = cc
  by_path (Ok path) is = by_link path (link_of s n path) is

close_ends : (s : State) (n : ℕ) (uri : List ℕ) (refused : Refused) → on_message s n (Close uri) ≡ Err refused → refused.own ≡ Stays
close_ends s n uri refused = by_path (path_of s.base uri) where
  by_link : (path : List ℕ) (link : Option Link)
      → ((open_link link >>= λ l. Ok (record (asks Success) { own = Gone path })) >>= carried_out s) ≡ Err refused → refused.own ≡ Stays
  by_link path None is = cc
  by_link path (Some link) is = cc

  by_path : (r : Result (List ℕ) UriFault)
      → ((unless_bad_uri r >>= λ path. open_link (link_of s n path) >>= λ l. Ok (record (asks Success) { own = Gone path })) >>= carried_out s) ≡ Err refused
      → refused.own ≡ Stays
  by_path (Err fault) is = cc
  by_path (Ok path) is = by_link path (link_of s n path) is

-- an error of the edits ends the link
edits_judged : (path : List ℕ) (fault : EditsFault) → IsJudged path (record { refusal = edits_refusal fault; own = Gone path })
edits_judged path (edits.BadPosition edit) = record { ends = refl; gone = refl }
edits_judged path (edits.BackwardRange edit) = record { ends = refl; gone = refl }
edits_judged path edits.Memory = record { ends = refl; gone = refl }

edit_ends : (s : State) (n : ℕ) (uri : List ℕ) (seen : ℕ) (edits : List TextEdit) (refused : Refused) → on_message s n (Edit uri seen edits) ≡ Err refused
    → EndsLinkIf (ends_link refused.refusal) s uri refused
edit_ends s n uri seen edits refused = by_path (path_of s.base uri) refl where
  the_one : (path : List ℕ) (one : Refused) → path_of s.base uri ≡ Ok path → IsJudged path one → one ≡ refused
      → EndsLinkIf (ends_link refused.refusal) s uri refused
  the_one path one named judged same = by_judging s uri path refused named (subst (IsJudged path) same judged)

  stays : (one : Refused) → ends_link one.refusal ≡ false → one.own ≡ Stays → one ≡ refused
      → EndsLinkIf (ends_link refused.refusal) s uri refused
  stays one not_judged kept same =
      subst (λ (r : Refused). EndsLinkIf (ends_link r.refusal) s uri r) same (subst (λ b. EndsLinkIf b s uri one) (sym not_judged) kept)

  by_edits : (path : List ℕ) (link : Link) → path_of s.base uri ≡ Ok path → (r : Result Cells EditsFault)
      → ((unless_bad_edits path r
      >>= λ edit. unless_long (text_on (desk_of s n) path) (carried_edit seen edit link) (Gone path)
      >>= λ d. Ok (changing path d (Taken path seen edit) (Gone path)))
      >>= carried_out s) ≡ Err refused
      → EndsLinkIf (ends_link refused.refusal) s uri refused
  by_edits path link named (Err fault) is =
      the_one path (record { refusal = edits_refusal fault; own = Gone path }) named (edits_judged path fault) cc
  by_edits path link named (Ok p) is =
      let ends = changed_refused s path (text_on (desk_of s n) path) (carried_edit seen p link) (Taken path seen p) (Gone path) None refused is in
      by_judging s uri path refused named (record { ends = ends.ends; gone = ends.own })

  by_revision : (path : List ℕ) (link : Link) → path_of s.base uri ≡ Ok path → (fault : Option BridgeFault)
      → ((unless_bad_revision fault path seen link
      >>= λ text. unless_bad_edits path (delta_of_edits text edits)
      >>= λ edit. unless_long (text_on (desk_of s n) path) (carried_edit seen edit link) (Gone path)
      >>= λ d. Ok (changing path d (Taken path seen edit) (Gone path)))
      >>= carried_out s) ≡ Err refused
      → EndsLinkIf (ends_link refused.refusal) s uri refused
  by_revision path link named (Some fault) is =
      the_one path (record { refusal = BadRevision link.confirmed (issued link) seen; own = Gone path }) named (record { ends = refl; gone = refl }) cc
  by_revision path link named None is = by_edits path link named (delta_of_edits (editor_text seen link) edits) is

  by_link : (path : List ℕ) → path_of s.base uri ≡ Ok path → (link : Option Link)
      → ((open_link link
      >>= λ l. unless_bad_revision (revision_fault seen l) path seen l
      >>= λ text. unless_bad_edits path (delta_of_edits text edits)
      >>= λ edit. unless_long (text_on (desk_of s n) path) (carried_edit seen edit l) (Gone path)
      >>= λ d. Ok (changing path d (Taken path seen edit) (Gone path)))
      >>= carried_out s) ≡ Err refused
      → EndsLinkIf (ends_link refused.refusal) s uri refused
  by_link path named None is = stays (record { refusal = NotOpen; own = Stays }) refl refl cc
  by_link path named (Some link) is = by_revision path link named (revision_fault seen link) is

  by_path : (r : Result (List ℕ) UriFault) → path_of s.base uri ≡ r
      → ((unless_bad_uri r
      >>= λ path. open_link (link_of s n path)
      >>= λ l. unless_bad_revision (revision_fault seen l) path seen l
      >>= λ text. unless_bad_edits path (delta_of_edits text edits)
      >>= λ edit. unless_long (text_on (desk_of s n) path) (carried_edit seen edit l) (Gone path)
      >>= λ d. Ok (changing path d (Taken path seen edit) (Gone path)))
      >>= carried_out s) ≡ Err refused
      → EndsLinkIf (ends_link refused.refusal) s uri refused
  by_path (Err fault) named is = stays (record { refusal = BadUri (uri_cause fault); own = Stays }) refl refl cc
  by_path (Ok path) named is = by_link path named (link_of s n path) is

pub refusals_end_links_so : (s : State) (n : ℕ) (message : FromEditor) (refused : Refused) → on_message s n message ≡ Err refused
    → EndsSo s message refused
refusals_end_links_so s n (Open uri content) refused is = open_ends s n uri content refused is
refusals_end_links_so s n (Close uri) refused is = close_ends s n uri refused is
refusals_end_links_so s n (Edit uri revision edits) refused is = edit_ends s n uri revision edits refused is
refusals_end_links_so s n (Cursor uri ranges) refused is = cc
refusals_end_links_so s n Shutdown refused is = cc
refusals_end_links_so s n Response refused is = cc

-- ---- what an id decides

pub notifications_do_the_same : (s : State) (n : ℕ) (id : MessageId) (message : FromEditor) → DiffersInReply s n id message
notifications_do_the_same s n id message =
    let o : Outcome = outcome_of s n (Ok (record { id = None; message = message })) in
    let own : List ToEditor = own_messages s.base o.own (links_of s n) in
    let rest = flat_map (sent_to_others n s.base o.effects) s.connections ++ (map told o.notices ++ stop_if o.shuts_down) in
    record {
      state = refl;
      replies = reply (Some id) o.answer;
      replies_are = refl;
      outputs =
          ap (λ sent. sent ++ rest) (map-append (send n) (reply (Some id) o.answer) own)
          ∙ append_assoc (map (send n) (reply (Some id) o.answer)) (map (send n) own) rest;
    }
