-- A frame that is served, from its parts.
use Rattle.std.proofs.Common.{◌≡◌, ℕ, ◌<◌, ◌^◌, Bool, true, false, cond, not, List, [], ◌∷◌, ◌++◌, append_assoc, map, filter, refl, sym, ap, ◌∙◌, subst, arith}
use Rattle.std.proofs.Common.{Option, Some, None, is_some, Result, Ok, Err, IsTrue}
use Rattle.std.specs.BTreeMap.{insert_entry}
use Rattle.std.specs.Cmp.{nat_cmp_total}
use Rattle.std.specs.List.{flat_map}
use Rattle.std.specs.List.Sorted.{IsStrictlySortedBy}
use Rattle.std.specs.Map.{lookup, keys_of}
use Rattle.std.specs.Option.{unwrap_or}
use Rattle.std.specs.Prelude.{MatchResult, if◌then◌else◌}
use Rattle.std.specs.Ordering.{nat_cmp}
use Rattle.std.proofs.lemmas.List.{map-append}
use Rattle.editor_bridge.specs.Link.{Link}
use Rattle.file_uri.specs.Base.{BaseView}
use Rattle.replica_store.specs.Store.{StoreView}
use Rattle.rpc_message.specs.Messages.{message_of}
use Rattle.rpc_message.specs.Refusing.{refusal_for}
use Rattle.rpc_message.specs.declared.faults.Cause.{Cause}
use Rattle.rpc_message.specs.declared.faults.Cause.TheVariants as cause
use Rattle.rpc_message.specs.declared.faults.MessageFault.{MessageFault}
use Rattle.rpc_message.specs.declared.faults.MessageFault.TheVariants as fault
use Rattle.rpc_message.specs.declared.messages.FromEditor.{FromEditor}
use Rattle.rpc_message.specs.declared.messages.Incoming.{Incoming}
use Rattle.rpc_message.specs.declared.messages.MessageId.{MessageId}
use Rattle.rpc_message.specs.declared.messages.ToEditor.{ToEditor}
use Rattle.rpc_message.specs.declared.refusals.Refusal.{Refusal}
use Rattle.daemon_core.specs.History.{History, view_at}
use Rattle.daemon_core.specs.Laws.{IsLinked, IsServing}
use Rattle.daemon_core.specs.Outcome as texts_outcome
use Rattle.daemon_core.specs.Outcome.{Effect, Success, own_links, told_links}
use Rattle.daemon_core.specs.Outputs.{reply, own_messages, id_of}
use Rattle.daemon_core.specs.Sending.{CanBeSent, EachCanBeSent, messages_told, messages_to_others}
use Rattle.daemon_core.specs.State.{Links, is_number}
use Rattle.daemon_core.specs.declared.events.Event.TheVariants.{EditorFrame}
use Rattle.daemon_core.specs.declared.events.Output.{Output}
use Rattle.daemon_core.proofs.MapLemmas.{number_same}
use Rattle.daemon_core.proofs.MessageLemmas.{told_all}
use Rattle.daemon_core.proofs.SendingLemmas.{all_appended}
use Rattle.daemon_core.proofs.StepLemmas.{Made}
use Rattle.daemon_history.specs.Holding.{Holding, held}
use Rattle.daemon_history.specs.Shown.{shown}
use Rattle.daemon_events.specs.Outcome.{Outcome}
use Rattle.daemon_events.specs.Outputs.{serve, send, told, told_outputs, sent_to_others, stop_if, outputs, outcome_of}
use Rattle.daemon_events.specs.Sending.{AllCanBeSent}
use Rattle.daemon_events.specs.Serving.{noted}
use Rattle.daemon_events.specs.State.{State, links_of}
use Rattle.daemon_events.proofs.ConnectionLemmas.{AllOpenIn, links_in, after_open}
use Rattle.daemon_events.proofs.OpenLemmas.{AllOpen}
use Rattle.daemon_links.specs.Changing.{AllLinked}
use Rattle.daemon_links.specs.declared.changes.Change.{Change}
use Rattle.daemon_links.proofs.MapLemmas.{put_back, none_there}
use Rattle.daemon_texts.specs.Texts.{AreAtHand}
use Rattle.daemon_texts.proofs.HandLemmas.{changed_at_hand, noted_at_hand}
use Rattle.message_steps.specs.Following.{answer_of, IsNoMessage, Hears}
use Rattle.message_steps.specs.declared.heard.Heard.{Heard}
use Rattle.store_daemon.specs.Daemons.{state_on}
use Rattle.store_daemon.specs.Fetching.{HasMore, FetchesFor, asks_to_open}
use Rattle.store_daemon.specs.Following.{texts_on, IsServed}
use Rattle.store_daemon.specs.Making.{HoldsAtHand, Carries, told_of, made_of, notices_of}
use Rattle.store_daemon.specs.Serving.{CanDo, outcome_asked, IsHeard}
use Rattle.store_daemon.specs.declared.making.Done.{Done}
use Rattle.store_daemon.proofs.ConnectedLemmas.{others_connected}

-- ---- more texts at hand

there_still : (h : Holding) (old new : History) → HasMore h old new → (path : List ℕ) → is_some (view_at old path) ≡ true
    → view_at new path ≡ view_at old path
there_still h old new more path some = by (view_at old path) refl where
  by : (view : Option (List ℕ)) → view_at old path ≡ view → view_at new path ≡ view_at old path
  by (Some text) is = more.kept path text is ∙ sym is
  by None is = let never : false ≡ true = sym (ap is_some is) ∙ some in cc

linked_more : (h : Holding) (old new : History) → HasMore h old new → (path : List ℕ) (link : Link) → IsLinked old path link → IsLinked new path link
linked_more h old new more path link linked =
    let same : view_at new path ≡ view_at old path = there_still h old new more path linked.there in
    record {
      there = ap is_some same ∙ linked.there;
      text = linked.text ∙ sym (ap (λ (v : Option (List ℕ)). unwrap_or v []) same);
      chain = linked.chain;
      issued = omega (arith, linked.issued, more.count);
      taken = omega (arith, linked.taken, more.count);
    }

pub more_serving : (h : Holding) (base : BaseView) (old new : History) (connections : List (ℕ × Links)) → HasMore h old new
    → IsServing (texts_on base old connections) → IsServing (texts_on base new connections)
more_serving h base old new connections more serving = record {
  linked = λ n path link found. linked_more h old new more path link (serving.linked n path link found);
}

pub none_linked : (files : History) (links : Links) → links ≡ [] → AllLinked files links
none_linked files links none =
    subst (AllLinked files) (sym none) (record { linked = λ path link found. let never : None ≡ Some link = found in cc })

-- what a frame finds, once the text that it opens is at hand
pub can_do : (h : Holding) (base : BaseView) (old files : History) (connections others : List (ℕ × Links)) (n : ℕ) (links : Links)
    (asked : Result FromEditor Refusal) → held h < 2 ^ 63 → FetchesFor h old files (asks_to_open base asked)
    → IsServing (texts_on base old connections) → IsStrictlySortedBy nat_cmp (keys_of connections)
    → others ≡ filter (λ c. not (is_number n c.0)) connections → AllLinked files links → CanDo h files base links others asked
can_do h base old files connections others n links asked few fetched serving sorted rest linked = record {
  carry = record {
    linked = linked;
    room = omega (arith, fetched.more.at_hand.count, few);
    hand = fetched.more.at_hand;
    opened = fetched.there;
  };
  connected =
      others_connected base files connections others n (more_serving h base old files connections fetched.more serving) sorted rest;
}

-- ---- a frame, once it is heard and done

-- a body that is no message is refused, and no person is told
refused_same : (s : State) (n : ℕ) (links : Links) (id : Option MessageId) (cause : Cause)
    → outcome_asked s.holding s.base links (Err (refusal_for cause)) ≡ outcome_of s n (Err (fault.Refused id cause))
refused_same s n links id cause.ParseError = refl
refused_same s n links id cause.InvalidRequest = refl
refused_same s n links id cause.UnknownMethod = refl
refused_same s n links id (cause.BadParams member) = refl

-- what was asked is what the body asks of the daemon by connection n
asked_same : (s : State) (n : ℕ) (links : Links) (read : Result Incoming MessageFault) (heard : Heard) → links ≡ links_of s n → Hears read heard
    → outcome_asked s.holding s.base links heard.asked ≡ outcome_of s n read
asked_same s n links read heard is hears = by heard.asked refl hears where
  Heard_as : Result FromEditor Refusal → Type 0
  Heard_as asked = MatchResult asked (λ message. read ≡ Ok (record { id = heard.id; message = message })) (IsNoMessage read heard.id)

  by : (asked : Result FromEditor Refusal) → heard.asked ≡ asked → Hears read heard → outcome_asked s.holding s.base links heard.asked ≡ outcome_of s n read
  by (Ok message) asked h =
      let reads : read ≡ Ok (record { id = heard.id; message = message }) = subst Heard_as asked h in
      ap (outcome_asked s.holding s.base links) asked
      ∙ ap (λ (ls : Links). outcome_asked s.holding s.base ls (Ok message)) is
      ∙ sym (ap (outcome_of s n) reads)
  by (Err refusal) asked h =
      let none : IsNoMessage read heard.id refusal = subst Heard_as asked h in
      ap (outcome_asked s.holding s.base links) asked
      ∙ ap (λ (r : Refusal). outcome_asked s.holding s.base links (Err r)) none.refusal_is
      ∙ refused_same s n links heard.id none.cause
      ∙ sym (ap (outcome_of s n) none.read_is)

id_same : (read : Result Incoming MessageFault) (heard : Heard) → Hears read heard → heard.id ≡ id_of read
id_same read heard hears = by heard.asked refl hears where
  Heard_as : Result FromEditor Refusal → Type 0
  Heard_as asked = MatchResult asked (λ message. read ≡ Ok (record { id = heard.id; message = message })) (IsNoMessage read heard.id)

  by : (asked : Result FromEditor Refusal) → heard.asked ≡ asked → Hears read heard → heard.id ≡ id_of read
  by (Ok message) asked h = sym (ap id_of (subst Heard_as asked h))
  by (Err refusal) asked h = let none : IsNoMessage read heard.id refusal = subst Heard_as asked h in sym (ap id_of none.read_is)

-- what the others are sent is what all are sent but the message's own connection
to_others : (n : ℕ) (base : BaseView) (effects : List Effect) (connections : List (ℕ × Links))
    → flat_map (told_outputs base effects) (filter (λ c. not (is_number n c.0)) connections) ≡ flat_map (sent_to_others n base effects) connections
to_others n base effects [] = refl
to_others n base effects (c ∷ connections) = by (is_number n c.0) (to_others n base effects connections) where
  rest : List (ℕ × Links)
  rest = filter (λ (x : ℕ × Links). not (is_number n x.0)) connections

  by : (b : Bool) → flat_map (told_outputs base effects) rest ≡ flat_map (sent_to_others n base effects) connections
      → flat_map (told_outputs base effects) (cond (not b) (c ∷ rest) rest) ≡ cond b [] (told_outputs base effects c) ++ flat_map (sent_to_others n base effects) connections
  by true later = later
  by false later = ap (λ (o : List Output). told_outputs base effects c ++ o) later

-- so are the messages
read_by_others : (n : ℕ) (base : BaseView) (effects : List Effect) (connections : List (ℕ × Links))
    → flat_map (messages_told base effects) (filter (λ c. not (is_number n c.0)) connections) ≡ flat_map (messages_to_others n base effects) connections
read_by_others n base effects [] = refl
read_by_others n base effects (c ∷ connections) = by (is_number n c.0) (read_by_others n base effects connections) where
  rest : List (ℕ × Links)
  rest = filter (λ (x : ℕ × Links). not (is_number n x.0)) connections

  by : (b : Bool) → flat_map (messages_told base effects) rest ≡ flat_map (messages_to_others n base effects) connections
      → flat_map (messages_told base effects) (cond (not b) (c ∷ rest) rest) ≡ cond b [] (messages_told base effects c) ++ flat_map (messages_to_others n base effects) connections
  by true later = later
  by false later = ap (λ (ms : List ToEditor). messages_told base effects c ++ ms) later

-- a frame of connection n, which has these files open, once it is heard and done
pub record Parts (s : State) (n : ℕ) (body : List ℕ) (heard : Heard) (now : Holding) (files texts : History) (links own : Links)
    (others after : List (ℕ × Links)) (sent : List Output) : Type 0 where
  pub links_are : links ≡ links_of s n
  pub rest : others ≡ filter (λ c. not (is_number n c.0)) s.connections
  pub hears : Hears (message_of body) heard
  pub is_heard : IsHeard s.holding now files texts s.base links own others after n heard.id heard.asked sent
  pub hand : AreAtHand s.holding files
  pub serving : IsServing (texts_on s.base files s.connections)

module _ (s : State) (n : ℕ) (body : List ℕ) (heard : Heard) (now : Holding) (files texts : History) (links own : Links)
    (others after : List (ℕ × Links)) (sent : List Output) (parts : Parts s n body heard now files texts links own others after sent) where
  abbrev o : Outcome
  o = outcome_of s n (message_of body)

  abbrev d : Done
  d = parts.is_heard.done

  abbrev after_making : Holding
  after_making = parts.is_heard.held

  carries : Carries s.holding after_making files s.base (links_of s n) own o d
  carries =
      subst (λ (ls : Links). Carries s.holding after_making files s.base ls own o d) parts.links_are
      (subst (λ (x : Outcome). Carries s.holding after_making files s.base links own x d)
      (asked_same s n links (message_of body) heard parts.links_are parts.hears) parts.is_heard.carries)

  id_is : heard.id ≡ id_of (message_of body)
  id_is = id_same (message_of body) heard parts.hears

  sent_all : sent ≡ outputs s n (id_of (message_of body)) o
  sent_all =
      let replied : List ToEditor = reply heard.id (answer_of d.step.answer) in
      let told_frames : List Output = flat_map (told_outputs s.base (told_of d.step.change)) others in
      let last : List Output = map told (notices_of d.notice) ++ stop_if d.step.shuts_down in
      let told_same : told_frames ≡ flat_map (sent_to_others n s.base o.effects) s.connections =
      (λ i. flat_map (told_outputs s.base (sym carries.effects i)) (parts.rest i)) ∙ to_others n s.base o.effects s.connections in
      parts.is_heard.sent_is
      ∙ (append_assoc (map (send n) replied ++ map (send n) d.step.messages) told_frames last
      ∙ (ap (λ (own_sent : List Output). own_sent ++ (told_frames ++ last)) (sym (map-append (send n) replied d.step.messages))
      ∙ (λ i. map (send n) (reply (id_is i) (sym carries.answer i) ++ carries.messages i)
      ++ (told_same i ++ (map told (sym carries.notices i) ++ stop_if (sym carries.stops i))))))

  read_all : AllCanBeSent s (EditorFrame n body)
  read_all =
      let others_same : flat_map (messages_told s.base (told_of d.step.change)) others ≡ flat_map (messages_to_others n s.base o.effects) s.connections =
      (λ i. flat_map (messages_told s.base (sym carries.effects i)) (parts.rest i)) ∙ read_by_others n s.base o.effects s.connections in
      let own_same : reply heard.id (answer_of d.step.answer) ++ d.step.messages
      ≡ reply (id_of (message_of body)) o.answer ++ own_messages s.base o.own (links_of s n) =
      (λ i. reply (id_is i) (sym carries.answer i) ++ carries.messages i) in
      all_appended CanBeSent (reply (id_of (message_of body)) o.answer ++ own_messages s.base o.own (links_of s n))
      (flat_map (messages_to_others n s.base o.effects) s.connections)
      (subst EachCanBeSent own_same
      (all_appended CanBeSent (reply heard.id (answer_of d.step.answer)) d.step.messages parts.is_heard.read.reply parts.is_heard.read.own))
      (subst EachCanBeSent others_same parts.is_heard.read.told)

  told_after : after ≡ map (λ c. (c.0, told_links o.effects c.1)) (filter (λ c. not (is_number n c.0)) s.connections)
  told_after = parts.is_heard.told_are ∙ (λ i. map (λ c. (c.0, told_links (sym carries.effects i) c.1)) (parts.rest i))

  held_is : now ≡ o.holding
  held_is = parts.is_heard.noted_is ∙ sym carries.holding

  -- the links of the message's own connection lead to the texts at hand
  own_open : AllOpen (IsLinked texts) (own_links o.own (links_in s.connections n))
  own_open =
      subst (λ (f : History). AllOpen (IsLinked f) (own_links o.own (links_of s n))) (sym parts.is_heard.files_are)
      (subst (AllOpen (IsLinked (made_of d.step.change files))) carries.own_is carries.linked.linked)

  -- a change that is told, for the texts at hand
  made_told : (held_after : Holding) (change : Option Change) → HoldsAtHand s.holding held_after files change → (ls : Links) → AllOpen (IsLinked files) ls
      → AllOpen (IsLinked (made_of change files)) (told_links (told_of change) ls)
  made_told held_after None same ls all = all
  made_told held_after (Some change) is ls all =
      told_all (texts_on s.base files []) (record (texts_outcome.answers (texts_on s.base files []) Success) {
        history = made_of (Some change) files;
        effects = told_of (Some change);
      })
      (Made change.path change.delta is.fits refl refl) ls all

  told_open : (ls : Links) → AllOpen (IsLinked files) ls → AllOpen (IsLinked texts) (told_links o.effects ls)
  told_open ls all =
      subst (λ (es : List Effect). AllOpen (IsLinked texts) (told_links es ls)) (sym carries.effects)
      (subst (λ (f : History). AllOpen (IsLinked f) (told_links (told_of d.step.change) ls)) (sym parts.is_heard.files_are)
      (made_told after_making d.step.change carries.change ls all))

  made_hand : (held_after : Holding) (change : Option Change) → HoldsAtHand s.holding held_after files change → AreAtHand held_after (made_of change files)
  made_hand held_after None same = subst (λ (x : Holding). AreAtHand x files) (sym same) parts.hand
  made_hand held_after (Some change) is =
      changed_at_hand s.holding held_after files change.path change.delta is.one is.here parts.hand

  hand_after : AreAtHand now texts
  hand_after =
      subst (λ (x : Holding). AreAtHand x texts) (sym parts.is_heard.noted_is)
      (subst (AreAtHand (noted d.step.opens after_making)) (sym parts.is_heard.files_are)
      (noted_at_hand d.step.opens after_making (made_of d.step.change files) (made_hand after_making d.step.change carries.change)))

  -- the frame is served, where the connections are those of the definition
  pub served : {D : Type 0} (old new : StoreView D) (connections : List (ℕ × Links)) → state_on s.base old s.connections ≡ s → shown new ≡ now → IsTrue new.live
      → connections ≡ map (λ c. (c.0, if is_number n c.0 then own_links o.own c.1 else told_links o.effects c.1)) s.connections
      → IsServed s.base old new n body s.connections connections texts sent
  served old new connections before holds live are = record {
    is =
        ap (λ x. serve x (EditorFrame n body)) before
        ∙ (λ i. record {
          state = record { base = s.base; holding = (sym held_is ∙ sym holds) i; connections = sym are i };
          outputs = sym sent_all i;
        });
    read = subst (λ x. AllCanBeSent x (EditorFrame n body)) (sym before) read_all;
    live = live;
    serves = record {
      linked =
          subst (λ (cs : List (ℕ × Links)). AllOpenIn (IsLinked texts) cs) (sym are)
          (after_open (IsLinked files) (IsLinked texts) n o.own o.effects s.connections parts.serving.linked own_open told_open);
    };
    at_hand = subst (λ (x : Holding). AreAtHand x texts) (sym holds) hand_after;
  }

  -- a frame of a connection that is there, which is put back
  pub served_there : {D : Type 0} (old new : StoreView D) (connections : List (ℕ × Links)) → state_on s.base old s.connections ≡ s → shown new ≡ now → IsTrue new.live
      → IsStrictlySortedBy nat_cmp (keys_of s.connections) → Some links ≡ lookup (is_number n) s.connections
      → connections ≡ insert_entry nat_cmp after n own → IsServed s.base old new n body s.connections connections texts sent
  served_there old new connections before holds live sorted found put =
      served old new connections before holds live
      (put
      ∙ ((λ i. insert_entry nat_cmp (told_after i) n ((carries.own_is ∙ ap (own_links o.own) (sym parts.links_are)) i))
      ∙ put_back nat_cmp nat_cmp_total n (own_links o.own) (told_links o.effects) (number_same n) s.connections links sorted found))

  -- a frame of one that is not
  pub served_nowhere : {D : Type 0} (old new : StoreView D) → state_on s.base old s.connections ≡ s → shown new ≡ now → IsTrue new.live
      → None ≡ lookup (is_number n) s.connections → IsServed s.base old new n body s.connections after texts sent
  served_nowhere old new before holds live none =
      served old new after before holds live
      (told_after ∙ none_there nat_cmp nat_cmp_total n (own_links o.own) (told_links o.effects) s.connections none)
