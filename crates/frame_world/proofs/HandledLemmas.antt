-- The first body of an editor comes to its daemon, which does what the plain machine does with the message.
use Rattle.std.proofs.Common.{◌≡◌, ℕ, ◌+◌, ◌<◌, ◌≤◌, Bool, true, false, List, [], ◌∷◌, ◌++◌, length, map, Option, Some, None, Result, Ok, Err, inl, inr, refl, sym, ap, ◌∙◌, subst, arith}
use Rattle.std.specs.Prelude.{if◌then◌else◌}
use Rattle.std.specs.Option.{option_map, unwrap_or}
use Rattle.std.specs.Str.{bytes_eq}
use Rattle.std.proofs.lemmas.Bool.Decides.{nat_tests}
use Rattle.std.proofs.lemmas.List.{map-append}
use Rattle.std.proofs.lemmas.Slice.Eq.{bytes_eq-Decides}
use Rattle.delta.specs.Cells.{Cells, applied, inserting, IsNormal}
use Rattle.delta.proofs.StepsLemmas.{IsNormal-replacing_all}
use Rattle.transform.specs.Carried.{past_list}
use Rattle.transform.specs.Carried.{after_editor, list_past}
use Rattle.transform.proofs.ListLemmas.{IsNormal-after_daemon}
use Rattle.editor_bridge.specs.Faults.{revision_fault}
use Rattle.editor_bridge.specs.Link.{Link, issued, new_link, editor_text, unshown, with_edit, carried_edit, first_deltas, replacement_unless}
use Rattle.file_uri.specs.PathOf.{path_of}
use Rattle.file_uri.specs.UriOf.{uri_of}
use Rattle.text_position.specs.Edits.{delta_of_edits}
use Rattle.tt_base.specs.declared.edits.TextEdit.{TextEdit}
use Rattle.bridge_world.specs.Counted as N
use Rattle.bridge_world.specs.Counted.{base_of, down_of, answer, new_frame, aged_frame, plain_link, Held, Frame, Sent}
use Rattle.bridge_world.specs.Lists.{Each}
use Rattle.bridge_world.specs.Plain as P
use Rattle.bridge_world.specs.Plain.{is_closed, Kind, OpenDone, Done, Failed, New, Accepts, Refuses}
use Rattle.bridge_world.specs.Tie.{Place, stand_of, place, edited, after, Good}
use Rattle.bridge_world.proofs.HeldLemmas.{base_of-take}
use Rattle.bridge_world.proofs.ListLemmas.{each-append}
use Rattle.rpc_message.specs.declared.faults.MessageFault.{MessageFault}
use Rattle.rpc_message.specs.declared.messages.FromEditor.{FromEditor}
use Rattle.rpc_message.specs.declared.messages.FromEditor.TheVariants as asks
use Rattle.rpc_message.specs.declared.messages.Incoming.{Incoming}
use Rattle.rpc_message.specs.declared.messages.MessageId.{MessageId}
use Rattle.rpc_message.specs.declared.messages.MessageId.TheVariants.{Number}
use Rattle.rpc_message.specs.declared.messages.ToEditor.{ToEditor}
use Rattle.rpc_message.specs.declared.messages.ToEditor.TheVariants.{Success, Refused}
use Rattle.rpc_message.specs.declared.refusals.Refusal.{Refusal}
use Rattle.rpc_message.specs.declared.refusals.Refusal.TheVariants.{NotOpen, TextTooLong}
use Rattle.daemon_core.specs.History.{view_at, text_at, made}
use Rattle.daemon_core.specs.Outcome.{LinkEvent, Stays, Opened, Taken, Gone, Outcome, answers, own_links, opened_link, state_after}
use Rattle.daemon_core.specs.Outcome as outcome
use Rattle.daemon_core.specs.Outputs.{edit_messages, of_link, own_messages, reply, outputs, outcome_of, id_of, whole_queue}
use Rattle.daemon_core.specs.Refusing.{Step, ◌>>=◌, unless_bad_uri, open_link, no_link, text_shown, unless_bad_revision, unless_bad_edits, may_grow}
use Rattle.daemon_core.specs.Sending.{CanBeSent}
use Rattle.daemon_core.specs.Serving.{with_change, changed, opening, on_message, or_refusal}
use Rattle.daemon_core.specs.State.{Links, State, link_at, links_of, link_of}
use Rattle.daemon_core.proofs.FileLemmas.{text_made}
use Rattle.plain_world.specs.Handling.{plain_step, verdict_of, cause_of}
use Rattle.frame_world.specs.Seats.{Seat}
use Rattle.frame_world.specs.Serving.{sent_on, link_held, IsAt, answer_messages, plain_step_of, editor_after, HandlesAlike}
use Rattle.frame_world.specs.Tie.{Ids, IsOf, Asks, IsBody, AreBodies, Says, AreSaid, AreWritten, frame_of, IsTiedWith, IsTied}
use Rattle.frame_world.proofs.BodyLemmas.{message, bodies_weaker, nowhere}
use Rattle.frame_world.proofs.LookLemmas.{once_found, own_after, opened_at, opened_beside, changed_here, changed_none, gone_at, gone_none}
use Rattle.frame_world.proofs.SentLemmas.{sent_own, said-append, said-aged, said-new, written-new, written_behind, old-aged, old-unlinked}

past_normal : (p : Cells) (list : List Cells) → Each IsNormal (list_past p list)
past_normal p [] = tt
past_normal p (q ∷ list) = (IsNormal-after_daemon q p, past_normal (after_editor p q) list)

first_normal : (content view : List ℕ) → Each IsNormal (first_deltas content view)
first_normal content view = by (bytes_eq content view) where
  by : (b : Bool) → Each IsNormal (replacement_unless b content view)
  by true = tt
  by false = (IsNormal-replacing_all view (length content), tt)

-- ---- what a message comes to

-- the messages that the connection of a message is sent
abbrev messages_of : State → ℕ → Option MessageId → Outcome → List ToEditor
messages_of s n id o = reply id o.answer ++ own_messages s.base o.own (links_of s n)

record Came (uri path : List ℕ) (s : State) (n : ℕ) (up : List (List ℕ)) (x : Seat) (left : N.Editor) (plain : Outcome) (id : Option MessageId) (o : Outcome) : Type 0 where
  history : o.history ≡ plain.history
  effects : o.effects ≡ plain.effects
  goes_on : o.shuts_down ≡ false
  tied : IsTied uri (record x { up = up; down = x.down ++ sent_on n (outputs s n id o) }) left
  at : IsAt (state_after s n o) n path left

abbrev ids_of : {ms : List ToEditor} {uri : List ℕ} {x : Seat} {e : N.Editor} → IsTiedWith ms uri x e → Ids
ids_of {ms} {uri} {x} {e} h = record { opening = h.opening; requests = x.client.requests; session = e.session }

-- an editor with a first message
abbrev with_first : N.Editor → Sent → List Sent → Option Held → N.Editor
with_first e m sent link = record e { sent = m ∷ sent; link = link }

links_are : (s : State) (n : ℕ) (path : List ℕ) (e : N.Editor) (at : IsAt s n path e) → links_of s n ≡ at.links
links_are s n path e at = ap (λ (found : Option Links). unwrap_or found []) (once_found n at.links s.connections at.once)

link_is : (s : State) (n : ℕ) (path : List ℕ) (e : N.Editor) → IsAt s n path e → link_of s n path ≡ option_map link_held e.link
link_is s n path e at = ap (λ ls. link_at ls path) (links_are s n path e at) ∙ at.link

came : (uri path : List ℕ) (s : State) (n : ℕ) (id : Option MessageId) (up : List (List ℕ)) (x : Seat) (e : N.Editor) (m : Sent) (sent : List Sent) (link : Option Held) (ms : List ToEditor)
    → (h : IsTiedWith ms uri x (with_first e m sent link)) → (at : IsAt s n path (with_first e m sent link)) → (o plain : Outcome) → o.history ≡ plain.history
    → o.effects ≡ plain.effects → o.shuts_down ≡ false → (ns : List ToEditor) → messages_of s n id o ≡ ns → Each CanBeSent ns → (next : Option Held) (low : ℕ) (wire : List Frame)
    → AreBodies uri (ids_of h) (place low next) sent up → AreSaid uri (ids_of h) wire (ms ++ ns)
    → (sent ≡ [] → (k : Held) → next ≡ Some k → AreWritten uri (base_of k) wire (ms ++ ns)) → link_at (own_links o.own at.links) path ≡ option_map link_held next
    → ((q : List ℕ) → (q ≡ path → ⊥) → link_at (own_links o.own at.links) q ≡ None)
    → Came uri path s n up x (record e { sent = sent; link = next; wire = wire }) plain id o
came uri path s n id up x e m sent link ms h at o plain history effects goes_on ns are fits next low wire bodies said written here beside =
    let frames : sent_on n (outputs s n id o) ≡ map frame_of ns = sent_own n s.base o.effects s.connections o.shuts_down (messages_of s n id o) ∙ ap (map frame_of) are in
    record {
      history = history;
      effects = effects;
      goes_on = goes_on;
      tied = record {
        messages = ms ++ ns;
        tied = record {
          uri_is = h.uri_is;
          text = h.text;
          state = h.state;
          own = h.own;
          shown = h.shown;
          opening = h.opening;
          last_open = h.last_open;
          within = h.within;
          low = low;
          up = bodies;
          frames = ap (λ l. l ++ sent_on n (outputs s n id o)) h.frames ∙ ap (λ l. map frame_of ms ++ l) frames ∙ sym (map-append frame_of ms ns);
          sent = each-append CanBeSent ms ns h.sent fits;
          down = said;
          written = written;
        };
      };
      at = record { links = own_links o.own at.links; once = own_after s n o at.links at.once; link = here; others = beside };
    }

-- an answer of a session
said_answer : (k : Kind) (uri : List ℕ) (ids : Ids) (t : ℕ) (v : List Frame) (ms : List ToEditor) (m : ToEditor) → AreSaid uri ids v ms → Says uri ids k t 0 m
    → AreSaid uri ids (v ++ answer t k ∷ []) (ms ++ m ∷ [])
said_answer k uri ids t v ms m h says = said-append uri ids v (answer t k ∷ []) ms (m ∷ []) h (says, tt)

-- ---- the message is refused, and no link changes

refused_alone : (uri path : List ℕ) (s : State) (n id : ℕ) (up : List (List ℕ)) (x : Seat) (e : N.Editor) (t : ℕ) (k : N.Message) (sent : List Sent) (ms : List ToEditor)
    → (h : IsTiedWith ms uri x (with_first e (message t k) sent None)) → IsAt s n path (with_first e (message t k) sent None) → (a : Place) → (r : Refusal)
    → IsOf (ids_of h) t id (h.opening ≤ id) → AreBodies uri (ids_of h) a sent up
    → let o : Outcome = record (answers s (outcome.Refuses r)) { own = Stays } in Each CanBeSent (messages_of s n (Some (Number id)) o)
    → Came uri path s n up x (N.answered t (Failed (cause_of r)) (record e { sent = sent; link = None })) o (Some (Number id)) o
refused_alone uri path s n id up x e t k sent ms h at a r of rest fits =
    let o : Outcome = record (answers s (outcome.Refuses r)) { own = Stays } in
    came uri path s n (Some (Number id)) up x e (message t k) sent None ms h at o o refl refl refl (Refused (Number id) r ∷ []) refl fits None 0
    (e.wire ++ answer t (Failed (cause_of r)) ∷ []) (bodies_weaker uri (ids_of h) a (place 0 None) sent up (nowhere 0 a) rest)
    (said_answer (Failed (cause_of r)) uri (ids_of h) t e.wire ms (Refused (Number id) r) h.down (id, (record { refusal = r; is = refl; told = refl }, of)))
    (λ none q linked. cc) at.link at.others

-- ---- the message ends the link

ended_with : (uri path : List ℕ) (s : State) (n id : ℕ) (up : List (List ℕ)) (x : Seat) (e : N.Editor) (t : ℕ) (k : N.Message) (sent : List Sent) (q : Held) (ms : List ToEditor)
    → (h : IsTiedWith ms uri x (with_first e (message t k) sent (Some q))) → IsAt s n path (with_first e (message t k) sent (Some q)) → (a : Place) → (kind : Kind) (m : ToEditor)
    → (o plain : Outcome) → o.history ≡ plain.history → o.effects ≡ plain.effects → o.shuts_down ≡ false → o.own ≡ Gone path → messages_of s n (Some (Number id)) o ≡ m ∷ []
    → Says uri (ids_of h) kind t 0 m → AreBodies uri (ids_of h) a sent up → Each CanBeSent (m ∷ [])
    → Came uri path s n up x (N.ended t kind (record e { sent = sent; link = Some q })) plain (Some (Number id)) o
ended_with uri path s n id up x e t k sent q ms h at a kind m o plain history effects goes_on own are says rest fits =
    came uri path s n (Some (Number id)) up x e (message t k) sent (Some q) ms h at o plain history effects goes_on (m ∷ []) are fits None 0
    (map aged_frame e.wire ++ answer t kind ∷ []) (bodies_weaker uri (ids_of h) a (place 0 None) sent up (nowhere 0 a) rest)
    (said_answer kind uri (ids_of h) t (map aged_frame e.wire) ms m (said-aged uri (ids_of h) e.wire ms h.down) says)
    (λ none y linked. cc)
    (ap (λ w. link_at (own_links w at.links) path) own ∙ gone_at path at.links)
    (λ y apart. ap (λ w. link_at (own_links w at.links) y) own ∙ gone_none path at.links y apart (at.others y apart))

-- ---- a file is opened

opened_with : (uri path : List ℕ) (s : State) (n id : ℕ) (up : List (List ℕ)) (x : Seat) (view : List ℕ) (e : N.Editor) (t : ℕ) (content : List ℕ) (first : List Cells) (sent : List Sent)
    (ms : List ToEditor) → uri_of s.base path ≡ uri → (h : IsTiedWith ms uri x (with_first e (message t (N.Opens content)) sent None))
    → IsAt s n path (with_first e (message t (N.Opens content)) sent None) → Good view (with_first e (message t (N.Opens content)) sent None)
    → IsOf (ids_of h) t id (id ≡ h.opening) → AreBodies uri (ids_of h) (after (message t (N.Opens content)) (place h.low None)) sent up → Each IsNormal first
    → (o : Outcome) → o.shuts_down ≡ false → o.own ≡ Opened path content first → o.answer ≡ outcome.Success → Each CanBeSent (messages_of s n (Some (Number id)) o)
    → Came uri path s n up x (N.linked t content first (record e { sent = sent; link = None })) o (Some (Number id)) o
opened_with uri path s n id up x view e t content first sent ms uri_is h at good of rest normal o goes_on own answer_is fits =
    let new : Held = record { session = t; seen = 0; link = record (new_link content) { unconfirmed = first } } in
    let ns : List ToEditor = Success (Number id) ∷ edit_messages uri 0 content first in
    let are : messages_of s n (Some (Number id)) o ≡ ns =
    ap (λ w. reply (Some (Number id)) w ++ own_messages s.base o.own (links_of s n)) answer_is
    ∙ ap (λ w. Success (Number id) ∷ own_messages s.base w (links_of s n)) own
    ∙ ap (λ u. Success (Number id) ∷ edit_messages u 0 content first) uri_is in
    let old = old-unlinked (is_closed e.state) e.session e.own e.wire good.numbers in
    came uri path s n (Some (Number id)) up x e (message t (N.Opens content)) sent None ms h at o o refl refl goes_on ns are (subst (Each CanBeSent) are fits) (Some new) t
    (e.wire ++ answer t OpenDone ∷ map (new_frame t 0) first) rest
    (said-append uri (ids_of h) e.wire (answer t OpenDone ∷ map (new_frame t 0) first) ms ns h.down
    ((id, (refl, of)), said-new uri content (ids_of h) t 0 first))
    (λ none k linked.
    let same : new ≡ k = cc in
    subst (λ (y : Held). AreWritten uri (base_of y) (e.wire ++ answer t OpenDone ∷ map (new_frame t 0) first) (ms ++ ns)) same
    (written_behind uri content (ids_of h) e.wire (answer t OpenDone ∷ map (new_frame t 0) first) ms ns old h.down
    (tt, written-new uri content t 0 first normal)))
    (ap (λ w. link_at (own_links w at.links) path) own ∙ opened_at path (opened_link content first) at.links)
    (λ y apart. ap (λ w. link_at (own_links w at.links) y) own ∙ opened_beside path (opened_link content first) at.links y apart ∙ at.others y apart)

-- ---- an edit is taken

took_with : (uri path : List ℕ) (s : State) (n id : ℕ) (up : List (List ℕ)) (x : Seat) (view : List ℕ) (e : N.Editor) (t seen : ℕ) (p : Cells) (sent : List Sent) (q : Held) (ms : List ToEditor)
    → uri_of s.base path ≡ uri → (h : IsTiedWith ms uri x (with_first e (message t (N.Edits seen p)) sent (Some q)))
    → IsAt s n path (with_first e (message t (N.Edits seen p)) sent (Some q)) → seen ≡ q.seen
    → IsOf (ids_of h) t id (h.opening < id) → AreBodies uri (ids_of h) (after (message t (N.Edits seen p)) (place h.low (Some q))) sent up
    → (o plain : Outcome) → o.history ≡ plain.history → o.effects ≡ plain.effects → o.shuts_down ≡ false → o.own ≡ Taken path seen p → o.answer ≡ outcome.Success
    → Each CanBeSent (messages_of s n (Some (Number id)) o)
    → Came uri path s n up x (N.took t seen p q (record e { sent = sent; link = Some q })) plain (Some (Number id)) o
took_with uri path s n id up x view e t seen p sent q ms uri_is h at shown of rest o plain history effects goes_on own answer_is fits =
    let l : Link = with_edit seen p q.link in
    let new : Held = record q { link = l } in
    let again : List Frame = answer t Done ∷ map (new_frame q.session l.taken) l.unconfirmed in
    let ns : List ToEditor = Success (Number id) ∷ edit_messages uri l.taken l.base l.unconfirmed in
    let found : link_at (links_of s n) path ≡ Some q.link = link_is s n path (with_first e (message t (N.Edits seen p)) sent (Some q)) at in
    let are : messages_of s n (Some (Number id)) o ≡ ns =
    ap (λ w. reply (Some (Number id)) w ++ own_messages s.base o.own (links_of s n)) answer_is
    ∙ ap (λ w. Success (Number id) ∷ own_messages s.base w (links_of s n)) own
    ∙ ap (λ w. Success (Number id) ∷ of_link w (λ link. whole_queue (uri_of s.base path) (with_edit seen p link))) found
    ∙ ap (λ u. Success (Number id) ∷ edit_messages u l.taken l.base l.unconfirmed) uri_is in
    let base : base_of new ≡ applied p (base_of q) = base_of-take seen p q shown in
    let now : base_of new ≡ l.base = base ∙ ap (λ k. applied p (editor_text k q.link)) (sym shown) in
    let stands : stand_of new ≡ edited p (stand_of q) = ap (λ b. record { text = b; seen = q.seen; own = q.link.taken + 1 }) base in
    came uri path s n (Some (Number id)) up x e (message t (N.Edits seen p)) sent (Some q) ms h at o plain history effects goes_on ns are (subst (Each CanBeSent) are fits) (Some new) h.low
    (map aged_frame e.wire ++ again)
    (bodies_weaker uri (ids_of h) (after (message t (N.Edits seen p)) (place h.low (Some q))) (place h.low (Some new)) sent up
    (λ there is. ap (λ a. Some a) (sym stands) ∙ is) rest)
    (said-append uri (ids_of h) (map aged_frame e.wire) again ms ns (said-aged uri (ids_of h) e.wire ms h.down)
    ((id, (refl, of)), said-new uri l.base (ids_of h) q.session l.taken l.unconfirmed))
    (λ none k linked.
    let same : new ≡ k = cc in
    subst (λ (y : Held). AreWritten uri (base_of y) (map aged_frame e.wire ++ again) (ms ++ ns)) same
    (subst (λ b. AreWritten uri b (map aged_frame e.wire ++ again) (ms ++ ns)) (sym now)
    (written_behind uri l.base (ids_of h) (map aged_frame e.wire) again ms ns (old-aged e.wire) (said-aged uri (ids_of h) e.wire ms h.down)
    (tt, written-new uri l.base q.session l.taken l.unconfirmed (past_normal p (unshown seen q.link))))))
    (ap (λ w. link_at (own_links w at.links) path) own ∙ changed_here path (with_edit seen p) at.links q.link at.link)
    (λ y apart. ap (λ w. link_at (own_links w at.links) y) own ∙ changed_none path (with_edit seen p) at.links y (at.others y apart))

-- ---- the messages

-- where what is sent can be sent, it comes to that
abbrev Claim : List ℕ → List ℕ → State → ℕ → List (List ℕ) → Seat → N.Editor → Outcome → Option MessageId → Outcome → Type 0
Claim uri path s n up x left plain id o = Each CanBeSent (messages_of s n id o) → Came uri path s n up x left plain id o

-- one change, or that the text would be too long
abbrev grows : State → List ℕ → Cells → Bool
grows s path d = may_grow (length (text_at s.history path)) (length (applied d (text_at s.history path)))

abbrev too_long : State → List ℕ → Cells → Refusal
too_long s path d = TextTooLong (length (applied d (text_at s.history path)))

abbrev grown : State → List ℕ → Cells → LinkEvent → LinkEvent → Bool → Step Outcome
grown s path d own if_refused b =
    if b then Ok (with_change s path d own) else Err (record { refusal = too_long s path d; own = if_refused })

-- the editor that is left by a step of its message
abbrev left_by : State → List ℕ → N.Message → ℕ → List Sent → Option Held → N.Editor → Step Outcome → N.Editor
left_by s path k t sent link e step =
    N.handled_by k link (verdict_of step) (text_at (or_refusal s step).history path) t (record e { sent = sent; link = link })

-- the facts of a message that comes
record Comes (uri path : List ℕ) (s : State) (n id : ℕ) (up : List (List ℕ)) (x : Seat) (k : N.Message) (t : ℕ)
    (sent : List Sent) (link : Option Held) (e : N.Editor) (ms : List ToEditor)
    (view : List ℕ) : Type 0 where
  path_is : path_of s.base uri ≡ Ok path
  uri_is : uri_of s.base path ≡ uri
  tied : IsTiedWith ms uri x (with_first e (message t k) sent link)
  at : IsAt s n path (with_first e (message t k) sent link)
  good : Good view (with_first e (message t k) sent link)
  rest : AreBodies uri (ids_of tied) (after (message t k) (place tied.low link)) sent up

of_weaker : {A B : Type 0} (ids : Ids) (t id : ℕ) → (A → B) → IsOf ids t id A → IsOf ids t id B
of_weaker ids t id f of = record {
  sent = of.sent;
  place = elim of.place [ inl mine ↦ inl (mine.0, f mine.1) | inr older ↦ inr older ];
}

module _ (uri path : List ℕ) (s : State) (n id : ℕ) (up : List (List ℕ)) (x : Seat) (t : ℕ) (sent : List Sent) (e : N.Editor) (ms : List ToEditor) (view : List ℕ) where
  -- a file is opened, where its link is not there
  open_claim : (content : List ℕ) → (c : Comes uri path s n id up x (N.Opens content) t sent None e ms view) → IsOf (ids_of c.tied) t id (id ≡ c.tied.opening)
      → let step : Step Outcome = opening s path content (view_at s.history path) in
      Claim uri path s n up x (left_by s path (N.Opens content) t sent None e step) (or_refusal s step) (Some (Number id)) (or_refusal s step)
  open_claim content c of = by_view (view_at s.history path) refl where
    d : Cells
    d = inserting content

    refused_claim : Claim uri path s n up x (left_by s path (N.Opens content) t sent None e (grown s path d (Opened path content []) Stays false))
        (or_refusal s (grown s path d (Opened path content []) Stays false)) (Some (Number id)) (or_refusal s (grown s path d (Opened path content []) Stays false))
    refused_claim fits =
        refused_alone uri path s n id up x e t (N.Opens content) sent ms c.tied c.at (after (message t (N.Opens content)) (place c.tied.low None)) (too_long s path d)
        (of_weaker (ids_of c.tied) t id (λ same. omega (arith, same)) of) c.rest fits

    made_claim : text_at s.history path ≡ [] → Claim uri path s n up x (left_by s path (N.Opens content) t sent None e (grown s path d (Opened path content []) Stays true))
        (or_refusal s (grown s path d (Opened path content []) Stays true)) (Some (Number id)) (or_refusal s (grown s path d (Opened path content []) Stays true))
    made_claim empty fits =
        let o : Outcome = with_change s path d (Opened path content []) in
        let now : text_at (made s.history path d) path ≡ content = text_made s.history path d ∙ ap (applied d) empty in
        let none : first_deltas content (text_at (made s.history path d) path) ≡ [] =
        ap (first_deltas content) now ∙ ap (λ b. replacement_unless b content content) ((bytes_eq-Decides content content).1 refl) in
        subst (λ first. Came uri path s n up x (N.linked t content first (record e { sent = sent; link = None })) o (Some (Number id)) o) (sym none)
        (opened_with uri path s n id up x view e t content [] sent ms c.uri_is c.tied c.at c.good of c.rest tt o refl refl refl fits)

    by_size : text_at s.history path ≡ [] → (b : Bool) → Claim uri path s n up x (left_by s path (N.Opens content) t sent None e (grown s path d (Opened path content []) Stays b))
        (or_refusal s (grown s path d (Opened path content []) Stays b)) (Some (Number id)) (or_refusal s (grown s path d (Opened path content []) Stays b))
    by_size empty true = made_claim empty
    by_size empty false = refused_claim

    by_view : (seen : Option (List ℕ)) → view_at s.history path ≡ seen
        → Claim uri path s n up x (left_by s path (N.Opens content) t sent None e (opening s path content seen)) (or_refusal s (opening s path content seen)) (Some (Number id))
        (or_refusal s (opening s path content seen))
    by_view (Some there) is =
        let text : text_at s.history path ≡ there = ap (λ (v : Option (List ℕ)). unwrap_or v []) is in
        let o : Outcome = record (answers s outcome.Success) { own = Opened path content (first_deltas content there) } in
        λ fits. subst (λ v. Came uri path s n up x (N.linked t content (first_deltas content v) (record e { sent = sent; link = None })) o (Some (Number id)) o) (sym text)
        (opened_with uri path s n id up x view e t content (first_deltas content there) sent ms c.uri_is c.tied c.at c.good of c.rest (first_normal content there) o refl refl refl fits)
    by_view None is = by_size (ap (λ (v : Option (List ℕ)). unwrap_or v []) is) (grows s path d)

  -- an edit comes to its link
  edit_claim : (seen : ℕ) (p : Cells) (q : Held) → (c : Comes uri path s n id up x (N.Edits seen p) t sent (Some q) e ms view) → IsOf (ids_of c.tied) t id (c.tied.opening < id)
      → Claim uri path s n up x (left_by s path (N.Edits seen p) t sent (Some q) e (plain_step s path (P.Edits p) (Some (plain_link q))))
      (or_refusal s (plain_step s path (P.Edits p) (Some (plain_link q)))) (Some (Number id)) (or_refusal s (changed s path (carried_edit seen p q.link) (Taken path seen p) (Gone path)))
  edit_claim seen p q c of =
      subst (λ y. Claim uri path s n up x (left_by s path (N.Edits seen p) t sent (Some q) e (grown s path y Stays Stays (grows s path y)))
      (or_refusal s (grown s path y Stays Stays (grows s path y)))
      (Some (Number id)) (or_refusal s (grown s path d (Taken path seen p) (Gone path) (grows s path d)))) same (by_size (grows s path d)) where
        d : Cells
        d = carried_edit seen p q.link

        shown : seen ≡ q.seen
        shown = c.good.sent.0.1.0

        same : d ≡ past_list p (plain_link q).down
        same = ap (λ k. past_list p (unshown k q.link)) shown

        by_size : (b : Bool) → Claim uri path s n up x (left_by s path (N.Edits seen p) t sent (Some q) e (grown s path d Stays Stays b))
            (or_refusal s (grown s path d Stays Stays b)) (Some (Number id)) (or_refusal s (grown s path d (Taken path seen p) (Gone path) b))
        by_size true = λ fits.
            took_with uri path s n id up x view e t seen p sent q ms c.uri_is c.tied c.at shown of c.rest (with_change s path d (Taken path seen p))
            (with_change s path d Stays) refl refl refl refl refl fits
        by_size false = λ fits.
            ended_with uri path s n id up x e t (N.Edits seen p) sent q ms c.tied c.at
            (after (message t (N.Edits seen p)) (place c.tied.low (Some q))) (Failed (cause_of (too_long s path d)))
            (Refused (Number id) (too_long s path d)) (record (answers s (outcome.Refuses (too_long s path d))) { own = Gone path })
            (record (answers s (outcome.Refuses (too_long s path d))) { own = Stays }) refl refl refl refl refl
            (id, (record { refusal = too_long s path d; is = refl; told = refl }, of_weaker (ids_of c.tied) t id (λ later. omega (arith, later)) of)) c.rest fits

  -- a message for a link that is not there
  not_open_claim : (k : N.Message) → (c : Comes uri path s n id up x k t sent None e ms view) → IsOf (ids_of c.tied) t id (c.tied.opening < id)
      → let o : Outcome = record (answers s (outcome.Refuses NotOpen)) { own = Stays } in
      Claim uri path s n up x (N.answered t (Failed P.NotOpen) (record e { sent = sent; link = None })) o (Some (Number id)) o
  not_open_claim k c of fits =
      refused_alone uri path s n id up x e t k sent ms c.tied c.at (after (message t k) (place c.tied.low None)) NotOpen
      (of_weaker (ids_of c.tied) t id (λ later. omega (arith, later)) of) c.rest fits

  -- a close comes to its link
  close_claim : (q : Held) → (c : Comes uri path s n id up x N.Closes t sent (Some q) e ms view) → IsOf (ids_of c.tied) t id (c.tied.opening < id)
      → Claim uri path s n up x (N.ended t Done (record e { sent = sent; link = Some q })) (answers s outcome.Success) (Some (Number id)) (record (answers s outcome.Success) { own = Gone path })
  close_claim q c of fits =
      ended_with uri path s n id up x e t N.Closes sent q ms c.tied c.at (after (message t N.Closes) (place c.tied.low (Some q))) Done (Success (Number id))
      (record (answers s outcome.Success) { own = Gone path }) (answers s outcome.Success) refl refl refl refl refl (id, (refl, of)) c.rest fits

-- What the daemon's own step is.

open_is : (uri path content : List ℕ) (s : State) (n : ℕ) → path_of s.base uri ≡ Ok path → link_of s n path ≡ None
    → on_message s n (asks.Open uri content) ≡ opening s path content (view_at s.history path)
open_is uri path content s n path_is free =
    ap (λ r. unless_bad_uri r >>= λ p. no_link (link_of s n p) >>= λ tell. opening s p content (view_at s.history p)) path_is
    ∙ ap (λ l. no_link l >>= λ tell. opening s path content (view_at s.history path)) free

-- an edit, behind its path
abbrev edit_from : State → List ℕ → ℕ → List TextEdit → Option Link → Step Outcome
edit_from s path seen edits link =
    open_link link >>= λ l. text_shown path seen l >>= λ text. unless_bad_edits path (delta_of_edits text edits)
    >>= λ edit. changed s path (carried_edit seen edit l) (Taken path seen edit) (Gone path)

edit_is : (uri path : List ℕ) (seen : ℕ) (edits : List TextEdit) (s : State) (n : ℕ) → path_of s.base uri ≡ Ok path
    → on_message s n (asks.Edit uri seen edits) ≡ edit_from s path seen edits (link_of s n path)
edit_is uri path seen edits s n path_is =
    ap (λ r. unless_bad_uri r >>= λ p. edit_from s p seen edits (link_of s n p)) path_is

edit_read : (path : List ℕ) (seen : ℕ) (edits : List TextEdit) (p : Cells) (l : Link) (s : State) → revision_fault seen l ≡ None → delta_of_edits (editor_text seen l) edits ≡ Ok p
    → edit_from s path seen edits (Some l) ≡ changed s path (carried_edit seen p l) (Taken path seen p) (Gone path)
edit_read path seen edits p l s known reads =
    ap (λ fault. unless_bad_revision fault path seen l >>= λ text. unless_bad_edits path (delta_of_edits text edits)
    >>= λ edit. changed s path (carried_edit seen edit l) (Taken path seen edit) (Gone path)) known
    ∙ ap (λ r. unless_bad_edits path r >>= λ edit. changed s path (carried_edit seen edit l) (Taken path seen edit) (Gone path)) reads

close_is : (uri path : List ℕ) (s : State) (n : ℕ) (link : Option Link) → path_of s.base uri ≡ Ok path → link_of s n path ≡ link
    → on_message s n (asks.Close uri) ≡ (open_link link >>= λ l. Ok (record (answers s outcome.Success) { own = Gone path }))
close_is uri path s n link path_is there =
    ap (λ r. unless_bad_uri r >>= λ p. open_link (link_of s n p) >>= λ l. Ok (record (answers s outcome.Success) { own = Gone p })) path_is
    ∙ ap (λ k. open_link k >>= λ l. Ok (record (answers s outcome.Success) { own = Gone path })) there

known_revision : (seen : ℕ) (l : Link) → l.confirmed ≤ seen → seen ≤ issued l → revision_fault seen l ≡ None
known_revision seen l low high = grind (arith, nat_tests)

-- each message
by_message : (uri path : List ℕ) (s : State) (n id : ℕ) (up : List (List ℕ)) (x : Seat) (t : ℕ) (sent : List Sent) (e : N.Editor) (ms : List ToEditor)
    (view : List ℕ) (k : N.Message)
    (link : Option Held) (asked : FromEditor) → (c : Comes uri path s n id up x k t sent link e ms view) → Asks uri (ids_of c.tied) k t id (place c.tied.low link) asked
    → let step : Step Outcome = plain_step s path (N.plain_message k) (option_map plain_link link) in
    Claim uri path s n up x (left_by s path k t sent link e step) (or_refusal s step) (Some (Number id)) (or_refusal s (on_message s n asked))
by_message uri path s n id up x t sent e ms view (N.Opens content) None asked c says =
    let step : Step Outcome = opening s path content (view_at s.history path) in
    let is : on_message s n asked ≡ step =
    ap (on_message s n) says.0 ∙ open_is uri path content s n c.path_is (link_is s n path (with_first e (message t (N.Opens content)) sent None) c.at) in
    subst (λ st. Claim uri path s n up x (left_by s path (N.Opens content) t sent None e step) (or_refusal s step) (Some (Number id)) (or_refusal s st)) (sym is)
    (open_claim uri path s n id up x t sent e ms view content c says.1)
by_message uri path s n id up x t sent e ms view (N.Opens content) (Some q) asked c says = let never : Some (stand_of q) ≡ None = c.good.sent.0.0 in cc
by_message uri path s n id up x t sent e ms view (N.Edits seen p) None asked c says =
    let is : on_message s n asked ≡ edit_from s path seen says.0 None =
    ap (on_message s n) says.1.0 ∙ edit_is uri path seen says.0 s n c.path_is
    ∙ ap (edit_from s path seen says.0) (link_is s n path (with_first e (message t (N.Edits seen p)) sent None) c.at) in
    let o : Outcome = record (answers s (outcome.Refuses NotOpen)) { own = Stays } in
    subst (λ st. Claim uri path s n up x (N.answered t (Failed P.NotOpen) (record e { sent = sent; link = None })) o (Some (Number id)) (or_refusal s st)) (sym is)
    (not_open_claim uri path s n id up x t sent e ms view (N.Edits seen p) c says.1.1.1.1)
by_message uri path s n id up x t sent e ms view (N.Edits seen p) (Some q) asked c says =
    let shown : seen ≡ q.seen = c.good.sent.0.1.0 in
    let known : revision_fault seen q.link ≡ None =
    known_revision seen q.link (omega (arith, shown, c.good.link.confirmed)) (omega (arith, shown, c.good.link.seen)) in
    let reads : delta_of_edits (editor_text seen q.link) says.0 ≡ Ok p =
    ap (λ k. delta_of_edits (editor_text k q.link) says.0) shown ∙ says.1.1.1.0 (stand_of q) refl in
    let is : on_message s n asked ≡ changed s path (carried_edit seen p q.link) (Taken path seen p) (Gone path) =
    ap (on_message s n) says.1.0 ∙ edit_is uri path seen says.0 s n c.path_is
    ∙ ap (edit_from s path seen says.0) (link_is s n path (with_first e (message t (N.Edits seen p)) sent (Some q)) c.at)
    ∙ edit_read path seen says.0 p q.link s known reads in
    let step : Step Outcome = plain_step s path (P.Edits p) (Some (plain_link q)) in
    subst (λ st. Claim uri path s n up x (left_by s path (N.Edits seen p) t sent (Some q) e step) (or_refusal s step) (Some (Number id)) (or_refusal s st)) (sym is)
    (edit_claim uri path s n id up x t sent e ms view seen p q c says.1.1.1.1)
by_message uri path s n id up x t sent e ms view N.Closes None asked c says =
    let is = ap (on_message s n) says.0 ∙ close_is uri path s n None c.path_is (link_is s n path (with_first e (message t N.Closes) sent None) c.at) in
    let o : Outcome = record (answers s (outcome.Refuses NotOpen)) { own = Stays } in
    subst (λ st. Claim uri path s n up x (N.answered t (Failed P.NotOpen) (record e { sent = sent; link = None })) o (Some (Number id)) (or_refusal s st)) (sym is)
    (not_open_claim uri path s n id up x t sent e ms view N.Closes c says.1)
by_message uri path s n id up x t sent e ms view N.Closes (Some q) asked c says =
    let is = ap (on_message s n) says.0 ∙ close_is uri path s n (Some q.link) c.path_is (link_is s n path (with_first e (message t N.Closes) sent (Some q)) c.at) in
    subst (λ st. Claim uri path s n up x (N.ended t Done (record e { sent = sent; link = Some q })) (answers s outcome.Success) (Some (Number id)) (or_refusal s st)) (sym is)
    (close_claim uri path s n id up x t sent e ms view q c says.1)

-- a body that is read as that message
by_sent : (uri path body : List ℕ) (up : List (List ℕ)) (s : State) (n : ℕ) (x : Seat) (e : N.Editor) (ms : List ToEditor) (view : List ℕ) (sent : List Sent)
    → let c : N.Editor = record e { sent = sent } in Good view c → IsTiedWith ms uri (record x { up = body ∷ up }) c → IsAt s n path c → path_of s.base uri ≡ Ok path → uri_of s.base path ≡ uri
    → Each CanBeSent (answer_messages s n body) → HandlesAlike uri s n path body up x c
by_sent uri path body up s n x e ms view [] good h at path_is uri_is fits = absurd h.up
by_sent uri path body up s n x e ms view (m ∷ sent) good h at path_is uri_is fits =
    let b : IsBody uri (ids_of h) (place h.low e.link) m body = h.up.0 in
    let y : Seat = record x { up = body ∷ up } in
    let c : N.Editor = record e { sent = m ∷ sent } in
    let claim = by_message uri path s n b.id up y m.session sent e ms view m.message e.link b.asked
    (record { path_is = path_is; uri_is = uri_is; tied = h; at = at; good = good; rest = h.up.1 }) b.says in
    let came = subst (λ (r : Result Incoming MessageFault). Each CanBeSent (messages_of s n (id_of r) (outcome_of s n r))
    → Came uri path s n up y (editor_after s path c) (or_refusal s (plain_step_of s path c)) (id_of r) (outcome_of s n r)) (sym b.read) claim fits in
    record { history = came.history; effects = came.effects; goes_on = came.goes_on; tied = came.tied; at = came.at }

pub handlings_are_alike : (uri path body : List ℕ) (up : List (List ℕ)) (s : State) (n : ℕ) (x : Seat) (e : N.Editor) → Good (text_at s.history path) e → IsTied uri x e → IsAt s n path e
    → path_of s.base uri ≡ Ok path → uri_of s.base path ≡ uri → x.up ≡ body ∷ up → Each CanBeSent (answer_messages s n body) → HandlesAlike uri s n path body up x e
handlings_are_alike uri path body up s n x e good tied at path_is uri_is first fits =
    by_sent uri path body up s n x e tied.messages (text_at s.history path) e.sent good
    (subst (λ l. IsTiedWith tied.messages uri (record x { up = l }) e) first tied.tied) at path_is uri_is fits
