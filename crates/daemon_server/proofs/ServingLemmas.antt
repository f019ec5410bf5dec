-- A frame that is served, from its parts.
use Rattle.std.proofs.Common.{◌≡◌, ℕ, Bool, true, false, cond, not, List, [], ◌∷◌, ◌++◌, append_assoc, map, filter, refl, sym, ap, ◌∙◌, subst}
use Rattle.std.proofs.Common.{Option, Some, None, Result, Ok, Err}
use Rattle.std.specs.BTreeMap.{insert_entry}
use Rattle.std.specs.Cmp.{nat_cmp_total}
use Rattle.std.specs.List.{flat_map}
use Rattle.std.specs.List.Sorted.{IsStrictlySortedBy}
use Rattle.std.specs.Map.{lookup, keys_of}
use Rattle.std.specs.Ordering.{nat_cmp}
use Rattle.std.proofs.lemmas.List.{map-append}
use Rattle.file_uri.specs.Base.{BaseView}
use Rattle.rpc_message.specs.Messages.{message_of}
use Rattle.rpc_message.specs.declared.faults.MessageFault.{MessageFault}
use Rattle.rpc_message.specs.declared.faults.MessageFault.TheVariants as fault
use Rattle.rpc_message.specs.declared.messages.FromEditor.{FromEditor}
use Rattle.rpc_message.specs.declared.messages.FromEditor.TheVariants.{Open, Close, Edit, Cursor, Shutdown, Response}
use Rattle.rpc_message.specs.declared.messages.Incoming.{Incoming}
use Rattle.rpc_message.specs.declared.messages.ToEditor.{ToEditor}
use Rattle.daemon_core.specs.History.{History}
use Rattle.daemon_core.specs.Outcome.{Effect, Outcome, own_links, told_links}
use Rattle.daemon_core.specs.Outputs.{send, reply, told_outputs, sent_to_others, stop_if, outputs, id_of, outcome_of}
use Rattle.daemon_core.specs.Sending.{CanBeSent, EachCanBeSent, AllCanBeSent, messages_told, messages_to_others, messages_back}
use Rattle.daemon_core.specs.Serving.{on_message, or_refusal}
use Rattle.daemon_core.specs.State.{Links, State, is_number, links_of}
use Rattle.daemon_core.specs.declared.events.Event.TheVariants.{EditorFrame}
use Rattle.daemon_core.specs.declared.events.Output.{Output}
use Rattle.daemon_core.proofs.MapLemmas.{number_same}
use Rattle.daemon_core.proofs.SendingLemmas.{all_appended}
use Rattle.daemon_links.specs.declared.changes.Change.{Change}
use Rattle.daemon_links.proofs.MapLemmas.{put_back, none_there}
use Rattle.daemon_server.specs.Following.{answer_of, desk, Changes, Handles}
use Rattle.daemon_server.specs.Telling.{effects_if, made_if, AreRead, Serves}
use Rattle.daemon_server.specs.declared.frames.Served.{Served}
use Rattle.daemon_server.specs.declared.messages.Heard.{Heard}

-- for a message of connection n no more is looked at than what is open there
message_at_desk : (s : State) (n : ℕ) (m : FromEditor)
    → or_refusal s (on_message s n m) ≡ or_refusal (desk s.base s.history (links_of s n)) (on_message (desk s.base s.history (links_of s n)) 0 m)
message_at_desk s n (Open uri content) = refl
message_at_desk s n (Close uri) = refl
message_at_desk s n (Edit uri revision edits) = refl
message_at_desk s n (Cursor uri ranges) = refl
message_at_desk s n Shutdown = refl
message_at_desk s n Response = refl

at_desk : (s : State) (n : ℕ) (r : Result Incoming MessageFault) → outcome_of (desk s.base s.history (links_of s n)) 0 r ≡ outcome_of s n r
at_desk s n (Ok m) = sym (message_at_desk s n m.message)
at_desk s n (Err (fault.Refused id cause)) = refl
at_desk s n (Err fault.Memory) = refl

effects_same : (s : State) (o : Outcome) (change : Option Change) → Changes s o change → effects_if change ≡ o.effects
effects_same s o None h = sym h.effects
effects_same s o (Some change) h = sym h.effects

pub history_same : (s : State) (o : Outcome) (change : Option Change) → Changes s o change → made_if change s.history ≡ o.history
history_same s o None h = sym h.history
history_same s o (Some change) h = sym h.history

-- what the others are sent is what all are sent but the message's own connection
to_others : (n : ℕ) (base : BaseView) (effects : List Effect) (connections : List (ℕ × Links))
    → flat_map (told_outputs base effects) (filter (λ c. not (is_number n c.0)) connections) ≡ flat_map (sent_to_others n base effects) connections
to_others n base effects [] = refl
to_others n base effects (c ∷ connections) = by (is_number n c.0) (to_others n base effects connections) where
  rest : List (ℕ × Links)
  rest = filter (λ (x : ℕ × Links). not (is_number n x.0)) connections

  by : (b : Bool) → flat_map (told_outputs base effects) rest ≡ flat_map (sent_to_others n base effects) connections
      → flat_map (told_outputs base effects) (cond (not b) (c ∷ rest) rest) ≡ cond b [] (told_outputs base effects c) ++ flat_map (sent_to_others n base effects) connections
  by true later = later
  by false later = ap (λ (o : List Output). told_outputs base effects c ++ o) later

-- what was heard of a body, and what was sent for it
pub record Sends (base : BaseView) (n : ℕ) (heard : Heard) (others after : List (ℕ × Links)) (served : Served) : Type 0 where
  pub links : after ≡ map (λ c. (c.0, told_links (effects_if heard.handled.change) c.1)) others
  pub change : served.change ≡ heard.handled.change
  pub sent : served.sent ≡ map (send n) (reply heard.id (answer_of heard.handled.answer)) ++ map (send n) heard.handled.messages
      ++ flat_map (told_outputs base (effects_if heard.handled.change)) others ++ stop_if heard.handled.shuts_down

pub record Hears (base : BaseView) (history : History) (links own : Links) (body : List ℕ) (heard : Heard) : Type 0 where
  pub id : heard.id ≡ id_of (message_of body)
  pub handled : Handles (desk base history links) (outcome_of (desk base history links) 0 (message_of body)) own heard.handled

-- the same at the desk of connection n
handled_there : (s : State) (n : ℕ) (links own : Links) (body : List ℕ) (heard : Heard) → links ≡ links_of s n → Hears s.base s.history links own body heard
    → Handles (desk s.base s.history (links_of s n)) (outcome_of s n (message_of body)) own heard.handled
handled_there s n links own body heard is h =
    subst (λ (x : Outcome). Handles (desk s.base s.history (links_of s n)) x own heard.handled) (at_desk s n (message_of body))
    (subst (λ (ls : Links). Handles (desk s.base s.history ls) (outcome_of (desk s.base s.history ls) 0 (message_of body)) own heard.handled) is h.handled)

-- a change of a desk is one of the daemon
change_of_all : (s : State) (links : Links) (o : Outcome) (change : Option Change) → Changes (desk s.base s.history links) o change → Changes s o change
change_of_all s links o None h = record { history = h.history; effects = h.effects }
change_of_all s links o (Some change) h = record { history = h.history; effects = h.effects; fits = h.fits }

-- a frame of connection n, which has these files open, once it is heard and sent
pub record Begun (s : State) (n : ℕ) (links own : Links) (body : List ℕ) (heard : Heard) (others after : List (ℕ × Links)) (served : Served) : Type 0 where
  pub links_are : links ≡ links_of s n
  pub rest : others ≡ filter (λ c. not (is_number n c.0)) s.connections
  pub hears : Hears s.base s.history links own body heard
  pub sends : Sends s.base n heard others after served
  pub read : AreRead s.base heard others

begun_change : (s : State) (n : ℕ) (links own : Links) (body : List ℕ) (heard : Heard) (others after : List (ℕ × Links)) (served : Served)
    → Begun s n links own body heard others after served → Changes s (outcome_of s n (message_of body)) heard.handled.change
begun_change s n links own body heard others after served h =
    change_of_all s (links_of s n) (outcome_of s n (message_of body)) heard.handled.change (handled_there s n links own body heard h.links_are h.hears).change

sent_all : (s : State) (n : ℕ) (links own : Links) (body : List ℕ) (heard : Heard) (others after : List (ℕ × Links)) (served : Served)
    → Begun s n links own body heard others after served → served.sent ≡ outputs s n (id_of (message_of body)) (outcome_of s n (message_of body))
sent_all s n links own body heard others after served h =
    let o : Outcome = outcome_of s n (message_of body) in
    let handles : Handles (desk s.base s.history (links_of s n)) o own heard.handled = handled_there s n links own body heard h.links_are h.hears in
    let replied : List ToEditor = reply heard.id (answer_of heard.handled.answer) in
    let told : List Output = flat_map (told_outputs s.base (effects_if heard.handled.change)) others in
    let told_same : told ≡ flat_map (sent_to_others n s.base o.effects) s.connections =
    (λ i. flat_map (told_outputs s.base (effects_same s o heard.handled.change (begun_change s n links own body heard others after served h) i)) (h.rest i))
    ∙ to_others n s.base o.effects s.connections in
    h.sends.sent
    ∙ (append_assoc (map (send n) replied ++ map (send n) heard.handled.messages) told (stop_if heard.handled.shuts_down)
    ∙ (ap (λ (own_sent : List Output). own_sent ++ (told ++ stop_if heard.handled.shuts_down)) (sym (map-append (send n) replied heard.handled.messages))
    ∙ (λ i. map (send n) (reply (h.hears.id i) (sym handles.answer i) ++ handles.messages i) ++ (told_same i ++ stop_if (sym handles.stops i)))))

-- what all are told but the message's own connection
read_by_others : (n : ℕ) (base : BaseView) (effects : List Effect) (connections : List (ℕ × Links))
    → flat_map (messages_told base effects) (filter (λ c. not (is_number n c.0)) connections) ≡ flat_map (messages_to_others n base effects) connections
read_by_others n base effects [] = refl
read_by_others n base effects (c ∷ connections) = by (is_number n c.0) (read_by_others n base effects connections) where
  rest : List (ℕ × Links)
  rest = filter (λ (x : ℕ × Links). not (is_number n x.0)) connections

  by : (b : Bool) → flat_map (messages_told base effects) rest ≡ flat_map (messages_to_others n base effects) connections
      → flat_map (messages_told base effects) (cond (not b) (c ∷ rest) rest) ≡ cond b [] (messages_told base effects c) ++ flat_map (messages_to_others n base effects) connections
  by true later = later
  by false later = ap (λ (ms : List ToEditor). messages_told base effects c ++ ms) later

read_all : (s : State) (n : ℕ) (links own : Links) (body : List ℕ) (heard : Heard) (others after : List (ℕ × Links)) (served : Served)
    → Begun s n links own body heard others after served → AllCanBeSent s (EditorFrame n body)
read_all s n links own body heard others after served h =
    let o : Outcome = outcome_of s n (message_of body) in
    let handles : Handles (desk s.base s.history (links_of s n)) o own heard.handled = handled_there s n links own body heard h.links_are h.hears in
    let told_same : flat_map (messages_told s.base (effects_if heard.handled.change)) others ≡ flat_map (messages_to_others n s.base o.effects) s.connections =
    (λ i. flat_map (messages_told s.base (effects_same s o heard.handled.change (begun_change s n links own body heard others after served h) i)) (h.rest i))
    ∙ read_by_others n s.base o.effects s.connections in
    let back_same : reply heard.id (answer_of heard.handled.answer) ++ heard.handled.messages ≡ messages_back s n (id_of (message_of body)) o =
    λ i. reply (h.hears.id i) (sym handles.answer i) ++ handles.messages i in
    all_appended CanBeSent (messages_back s n (id_of (message_of body)) o) (flat_map (messages_to_others n s.base o.effects) s.connections)
    (subst EachCanBeSent back_same (all_appended CanBeSent (reply heard.id (answer_of heard.handled.answer)) heard.handled.messages h.read.reply h.read.own))
    (subst EachCanBeSent told_same h.read.told)

told_after : (s : State) (n : ℕ) (links own : Links) (body : List ℕ) (heard : Heard) (others after : List (ℕ × Links)) (served : Served)
    → Begun s n links own body heard others after served
    → after ≡ map (λ c. (c.0, told_links (outcome_of s n (message_of body)).effects c.1)) (filter (λ c. not (is_number n c.0)) s.connections)
told_after s n links own body heard others after served h =
    h.sends.links
    ∙ (λ i.
    map (λ c. (c.0, told_links (effects_same s (outcome_of s n (message_of body)) heard.handled.change (begun_change s n links own body heard others after served h) i) c.1))
    (h.rest i))

changed_all : (s : State) (n : ℕ) (links own : Links) (body : List ℕ) (heard : Heard) (others after : List (ℕ × Links)) (served : Served)
    → Begun s n links own body heard others after served → Changes s (outcome_of s n (message_of body)) served.change
changed_all s n links own body heard others after served h =
    subst (Changes s (outcome_of s n (message_of body))) (sym h.sends.change) (begun_change s n links own body heard others after served h)

-- a frame of a connection that is there, which is put back
pub serves_there : (s : State) (n : ℕ) (links own : Links) (body : List ℕ) (heard : Heard) (others after now : List (ℕ × Links)) (served : Served)
    → Begun s n links own body heard others after served
    → IsStrictlySortedBy nat_cmp (keys_of s.connections) → Some links ≡ lookup (is_number n) s.connections
    → now ≡ insert_entry nat_cmp after n own → Serves s n body now served
serves_there s n links own body heard others after now served h sorted found put =
    let o : Outcome = outcome_of s n (message_of body) in
    let handles : Handles (desk s.base s.history (links_of s n)) o own heard.handled = handled_there s n links own body heard h.links_are h.hears in
    record {
      outputs_are = sent_all s n links own body heard others after served h;
      connections_are =
          put
          ∙ ((λ i. insert_entry nat_cmp (told_after s n links own body heard others after served h i) n ((handles.own_is ∙ ap (own_links o.own) (sym h.links_are)) i))
          ∙ put_back nat_cmp nat_cmp_total n (own_links o.own) (told_links o.effects) (number_same n) s.connections links sorted found);
      change = changed_all s n links own body heard others after served h;
      read = read_all s n links own body heard others after served h;
    }

-- a frame of one that is not
pub serves_nowhere : (s : State) (n : ℕ) (links own : Links) (body : List ℕ) (heard : Heard) (others after : List (ℕ × Links)) (served : Served)
    → Begun s n links own body heard others after served → None ≡ lookup (is_number n) s.connections → Serves s n body after served
serves_nowhere s n links own body heard others after served h none = record {
  outputs_are = sent_all s n links own body heard others after served h;
  connections_are =
      told_after s n links own body heard others after served h
      ∙ none_there nat_cmp nat_cmp_total n (own_links (outcome_of s n (message_of body)).own) (told_links (outcome_of s n (message_of body)).effects) s.connections none;
  change = changed_all s n links own body heard others after served h;
  read = read_all s n links own body heard others after served h;
}
