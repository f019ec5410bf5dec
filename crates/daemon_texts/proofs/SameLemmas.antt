-- A daemon over a store and one that has its texts do the same with each event.
use Rattle.std.proofs.Common.{◌≡◌, ℕ, ◌<◌, ◌^◌, not, List, [], ◌++◌, map, filter, Option, Some, None, Result, Ok, Err, refl, sym, ap, ◌∙◌, subst}
use Rattle.std.specs.BTreeMap.{insert_entry}
use Rattle.std.specs.List.{flat_map}
use Rattle.std.specs.Map.{lookup}
use Rattle.std.specs.Option.{unwrap_or}
use Rattle.std.specs.Ordering.{nat_cmp}
use Rattle.std.specs.Prelude.{if◌then◌else◌}
use Rattle.editor_texts.specs.Scalars.{SaysScalars}
use Rattle.editor_texts.proofs.MessageScalars.{message_says}
use Rattle.rpc_message.specs.Messages.{message_of}
use Rattle.rpc_message.specs.declared.faults.MessageFault.{MessageFault}
use Rattle.rpc_message.specs.declared.faults.MessageFault.TheVariants as fault
use Rattle.rpc_message.specs.declared.messages.FromEditor.{FromEditor}
use Rattle.rpc_message.specs.declared.messages.Incoming.{Incoming}
use Rattle.rpc_message.specs.declared.messages.MessageId.{MessageId}
use Rattle.daemon_core.specs.Outcome as texts
use Rattle.daemon_core.specs.Outcome.{Effect, own_links, told_links}
use Rattle.daemon_core.specs.Outputs as texts_out
use Rattle.daemon_core.specs.Outputs.{reply, own_messages, id_of}
use Rattle.daemon_core.specs.Refusing.{Step, ◌>>=◌}
use Rattle.daemon_core.specs.Sending as texts_sent
use Rattle.daemon_core.specs.Sending.{messages_to_others}
use Rattle.daemon_core.specs.Serving as texts_serving
use Rattle.daemon_core.specs.State as texts_state
use Rattle.daemon_core.specs.State.{is_number}
use Rattle.daemon_core.specs.declared.events.Event.{Event}
use Rattle.daemon_core.specs.declared.events.Event.TheVariants.{EditorBegan, Ended, EditorFrame}
use Rattle.daemon_history.specs.Holding.{Holding, held}
use Rattle.daemon_history.specs.Making.{Clash, making}
use Rattle.daemon_history.specs.Shown.{ChangesOne}
use Rattle.daemon_events.specs.Laws.{IsServing}
use Rattle.daemon_events.specs.Outcome.{Outcome, state_after}
use Rattle.daemon_events.specs.Outputs.{outputs, outcome_of, send, sent_to_others, told, stop_if}
use Rattle.daemon_events.specs.Sending as events_sent
use Rattle.daemon_events.specs.Serving as events
use Rattle.daemon_events.specs.Serving.{noted, unless_clash, made, carried_out, or_refusal, on_message}
use Rattle.daemon_events.specs.State.{State, links_of}
use Rattle.daemon_events.specs.Wanting.{Wanted, wanted}
use Rattle.daemon_events.proofs.HoldingLemmas.{IsSteady, changes_one}
use Rattle.daemon_events.proofs.MessageLemmas.{CanBeDone, IsSoundlyWanted, WantsSoundly, message_wanted}
use Rattle.daemon_events.proofs.StepLemmas.{AllLinked, steady_of}
use Rattle.daemon_texts.specs.Same.{DoesTheSame, clashes_of}
use Rattle.daemon_texts.specs.Texts.{AreAll, HasTextsOf, desk_of, made_if, done}
use Rattle.daemon_texts.proofs.HandLemmas.{changed_all, noted_all}
use Rattle.daemon_texts.proofs.WantedLemmas.{does, as_wanted}

-- what a message comes to for the one and for the other
record AreAlike (o : Outcome) (p : texts.Outcome) : Type 0 where
  answer : o.answer ≡ p.answer
  own : o.own ≡ p.own
  effects : o.effects ≡ p.effects
  stops : o.shuts_down ≡ p.shuts_down
  files : AreAll o.holding p.history

desk_same : (s : State) (t : texts_state.State) (n : ℕ) → HasTextsOf s t → desk_of t n ≡ events.desk_of s n
desk_same s t n has = λ i. record {
  base = has.base i;
  view = λ path. has.files.each path i;
  links = unwrap_or (lookup (is_number n) (has.connections i)) [];
}

module _ (s : State) (t : texts_state.State) (n : ℕ) (has : HasTextsOf s t) (steady : IsSteady s.holding) (few : held s.holding < 2 ^ 63)
    (h : AllLinked s.holding (links_of s n)) where
  made_alike : (w : Wanted) (change : Effect) → w.change ≡ Some change → CanBeDone s n steady few h w change
      → (r : Result Holding Clash) → making s.holding change.path change.delta ≡ r
      → (or_refusal s (unless_clash w.if_refused r >>= λ after. Ok (events.done s w after))).notices ≡ []
      → AreAlike (or_refusal s (unless_clash w.if_refused r >>= λ after. Ok (events.done s w after))) (done t w)
  made_alike w change is can (Err clash) makes none = cc
  made_alike w change is can (Ok after) makes none =
      let one : ChangesOne s.holding change.path change.delta after =
      changes_one s.holding after change.path change.delta can.can makes in
      record {
        answer = refl;
        own = refl;
        effects = refl;
        stops = refl;
        files =
            subst (λ (c : Option Effect). AreAll (noted w.opens after) (made_if c t.history)) (sym is)
            (noted_all w.opens after _
            (changed_all s.holding after t.history change.path change.delta one (has.files.each change.path) has.files));
      }

  done_alike : (w : Wanted) (change : Option Effect) → w.change ≡ change → IsSoundlyWanted s n steady few h w change
      → (or_refusal s (made s w.if_refused change >>= λ after. Ok (events.done s w after))).notices ≡ []
      → AreAlike (or_refusal s (made s w.if_refused change >>= λ after. Ok (events.done s w after))) (done t w)
  done_alike w None is sound none = record {
    answer = refl;
    own = refl;
    effects = refl;
    stops = refl;
    files =
        subst (λ (c : Option Effect). AreAll (noted w.opens s.holding) (made_if c t.history)) (sym is)
        (noted_all w.opens s.holding t.history has.files);
  }
  done_alike w (Some change) is sound none = made_alike w change is sound (making s.holding change.path change.delta) refl none

  wanted_alike : (r : Step Wanted) → WantsSoundly s n steady few h r → (or_refusal s (r >>= carried_out s)).notices ≡ []
      → AreAlike (or_refusal s (r >>= carried_out s)) (texts_serving.or_refusal t (r >>= does t))
  wanted_alike (Ok w) sound none = done_alike w w.change refl sound none
  wanted_alike (Err refused) sound none = record { answer = refl; own = refl; effects = refl; stops = refl; files = has.files }

  message_alike : (message : FromEditor) → SaysScalars message → (or_refusal s (on_message s n message)).notices ≡ []
      → AreAlike (or_refusal s (on_message s n message)) (texts_serving.or_refusal t (texts_serving.on_message t n message))
  message_alike message says none =
      subst (λ (r : Step texts.Outcome). AreAlike (or_refusal s (on_message s n message)) (texts_serving.or_refusal t r))
      (sym (as_wanted t n message ∙ ap (λ desk. wanted desk message >>= does t) (desk_same s t n has)))
      (wanted_alike (wanted (events.desk_of s n) message) (message_wanted s n steady few h message says) none)

  read_alike : (read : Result Incoming MessageFault) → ((m : Incoming) → read ≡ Ok m → SaysScalars m.message)
      → (outcome_of s n read).notices ≡ [] → AreAlike (outcome_of s n read) (texts_out.outcome_of t n read)
  read_alike (Ok m) says none = message_alike m.message (says m refl) none
  read_alike (Err (fault.Refused id cause)) says none =
      record { answer = refl; own = refl; effects = refl; stops = refl; files = has.files }
  read_alike (Err fault.Memory) says none =
      record { answer = refl; own = refl; effects = refl; stops = refl; files = has.files }

module _ (s : State) (t : texts_state.State) (n : ℕ) (has : HasTextsOf s t) (o : Outcome) (p : texts.Outcome) (alike : AreAlike o p) where
  after_alike : HasTextsOf (state_after s n o) (texts.state_after t n p)
  after_alike = record {
    base = has.base;
    files = alike.files;
    connections =
        λ i. map (λ c. (c.0, if is_number n c.0 then own_links (sym alike.own i) c.1 else told_links (sym alike.effects i) c.1)) (has.connections i);
  }

  outputs_alike : (id : Option MessageId) → o.notices ≡ [] → outputs s n id o ≡ texts_out.outputs t n id p
  outputs_alike id none = λ i.
      map (send n)
      (reply id (alike.answer i)
      ++ own_messages (sym has.base i) (alike.own i) (unwrap_or (lookup (is_number n) (sym has.connections i)) []))
      ++ (flat_map (sent_to_others n (sym has.base i) (alike.effects i)) (sym has.connections i)
      ++ (map told (none i) ++ stop_if (alike.stops i)))

  sent_alike : (id : Option MessageId) → events_sent.messages_sent s n id o ≡ texts_sent.messages_sent t n id p
  sent_alike id = λ i.
      (reply id (alike.answer i)
      ++ own_messages (sym has.base i) (alike.own i) (unwrap_or (lookup (is_number n) (sym has.connections i)) []))
      ++ flat_map (messages_to_others n (sym has.base i) (alike.effects i)) (sym has.connections i)

pub does_the_same : (s : State) (t : texts_state.State) (event : Event) → HasTextsOf s t → IsServing s → held s.holding < 2 ^ 63
    → clashes_of s event ≡ [] → DoesTheSame s t event
does_the_same s t (EditorBegan n) has serving few none = record {
  texts = record { base = has.base; files = has.files; connections = ap (λ cs. insert_entry nat_cmp cs n []) has.connections };
  outputs = refl;
  sent = refl;
}
does_the_same s t (Ended n) has serving few none = record {
  texts = record { base = has.base; files = has.files; connections = ap (filter (λ c. not (is_number n c.0))) has.connections };
  outputs = refl;
  sent = refl;
}
does_the_same s t (EditorFrame n body) has serving few none =
    let o : Outcome = outcome_of s n (message_of body) in
    let p : texts.Outcome = texts_out.outcome_of t n (message_of body) in
    let alike : AreAlike o p =
    read_alike s t n has (steady_of s serving) few (serving.linked n) (message_of body) (λ m is. message_says body m is) none in
    record {
      texts = after_alike s t n has o p alike;
      outputs = outputs_alike s t n has o p alike (id_of (message_of body)) none;
      sent = sent_alike s t n has o p alike (id_of (message_of body));
    }
