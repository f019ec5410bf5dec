-- Whatever comes, a daemon goes on to serve, and what it holds stays.
use Rattle.std.proofs.Common.{◌≡◌, ℕ, ◌+◌, ◌≤◌, ◌<◌, ◌^◌, not, List, [], ◌∷◌, length, filter, is_some, Result, Ok, Err, IsTrue, refl, sym, ap, ◌∙◌, subst, arith}
use Rattle.std.specs.BTreeMap.{insert_entry}
use Rattle.std.specs.Ordering.{nat_cmp}
use Rattle.change_graph.specs.History.{change_at, is_held}
use Rattle.tt_base.specs.declared.ids.Name.{Name}
use Rattle.editor_texts.specs.Scalars.{SaysScalars}
use Rattle.editor_texts.proofs.MessageScalars.{message_says}
use Rattle.rpc_message.specs.Messages.{message_of}
use Rattle.rpc_message.specs.declared.faults.MessageFault.{MessageFault}
use Rattle.rpc_message.specs.declared.faults.MessageFault.TheVariants as fault
use Rattle.rpc_message.specs.declared.messages.Incoming.{Incoming}
use Rattle.daemon_core.specs.State.{Links, is_number}
use Rattle.daemon_core.specs.declared.events.Event.{Event}
use Rattle.daemon_core.specs.declared.events.Event.TheVariants.{EditorBegan, Ended, EditorFrame}
use Rattle.tt_base.specs.declared.ids.Actor.{Actor}
use Rattle.change_codec.specs.WellFormed.{IsActor}
use Rattle.file_uri.specs.Base.{BaseView}
use Rattle.journal_format.specs.Image.{actor_is_first}
use Rattle.journal_format.specs.declared.records.Record.{Record}
use Rattle.replica_views.specs.Views as views
use Rattle.replica_store.specs.Records.{AreTaken}
use Rattle.daemon_history.specs.Holding.{Holding, text_at, held}
use Rattle.daemon_history.proofs.HoldingLemmas.{holding_started, restarted}
use Rattle.daemon_history.specs.Shown.{KeepsNames}
use Rattle.daemon_events.specs.Laws.{IsLinked, IsServing, IsBehind, RestartsSo}
use Rattle.daemon_events.specs.Outcome.{Outcome, state_after}
use Rattle.daemon_events.specs.Outputs.{outcome_of, serve, serves}
use Rattle.daemon_events.specs.State.{State, started_on}
use Rattle.daemon_events.proofs.ConnectionLemmas.{AllOpenIn, after_open, began_open, ended_open}
use Rattle.daemon_events.proofs.HoldingLemmas.{keeps_all, keeps_count, still_behind}
use Rattle.daemon_events.proofs.MessageLemmas.{message_sound}
use Rattle.daemon_events.proofs.StepLemmas.{IsSound, IsChange, Quiet, Made, steady_of, stays_sound, told_all}

after_sound : (s : State) (n : ℕ) (o : Outcome) → IsServing s → IsSound s n o → IsServing (state_after s n o)
after_sound s n o h sound = record {
  holds = sound.steady.holds;
  actor_is = sound.steady.actor_is;
  short = sound.steady.short;
  linked =
      after_open (IsLinked s.holding) (IsLinked o.holding) n o.own o.effects s.connections h.linked sound.own (told_all s o sound.change);
}

-- the same with other connections
connected : (s : State) (connections : List (ℕ × Links)) → IsServing s → AllOpenIn (IsLinked s.holding) connections
    → IsServing (record s { connections = connections })
connected s connections h linked = record { holds = h.holds; actor_is = h.actor_is; short = h.short; linked = linked }

began : (s : State) (n : ℕ) → IsServing s → IsServing (serve s (EditorBegan n)).state
began s n h =
    connected s (insert_entry nat_cmp s.connections n []) h (began_open (IsLinked s.holding) n s.connections h.linked)

ended : (s : State) (n : ℕ) → IsServing s → IsServing (serve s (Ended n)).state
ended s n h =
    connected s (filter (λ c. not (is_number n c.0)) s.connections) h (ended_open (IsLinked s.holding) n s.connections h.linked)

-- whatever a body comes to
heard_sound : (s : State) (n : ℕ) (r : Result Incoming MessageFault) → ((m : Incoming) → r ≡ Ok m → SaysScalars m.message) → IsServing s
    → held s.holding < 2 ^ 63 → IsSound s n (outcome_of s n r)
heard_sound s n (Ok m) says h few = message_sound s n (steady_of s h) few (h.linked n) m.message (says m refl)
heard_sound s n (Err (fault.Refused id cause)) says h few = stays_sound s n _ refl refl refl (steady_of s h) (h.linked n)
heard_sound s n (Err fault.Memory) says h few = stays_sound s n _ refl refl refl (steady_of s h) (h.linked n)

outcome_sound : (s : State) (n : ℕ) (body : List ℕ) → IsServing s → held s.holding < 2 ^ 63 → IsSound s n (outcome_of s n (message_of body))
outcome_sound s n body h few = heard_sound s n (message_of body) (λ m is. message_says body m is) h few

pub goes_on : (s : State) (event : Event) → IsServing s → held s.holding < 2 ^ 63 → IsServing (serve s event).state
goes_on s (EditorBegan n) h few = began s n h
goes_on s (Ended n) h few = ended s n h
goes_on s (EditorFrame n body) h few =
    after_sound s n (outcome_of s n (message_of body)) h (outcome_sound s n body h few)

-- ---- what an event adds

-- one change at most, and each that is held stays
record Adds (h after : Holding) : Type 0 where
  count : held after ≤ held h + 1
  names : KeepsNames h after
  records : IsBehind h.recorded after.recorded

adds_change : (s : State) (o : Outcome) → IsChange s o → Adds s.holding o.holding
adds_change s o (Quiet kept untold) = record {
  count = omega (arith, keeps_count s.holding o.holding kept);
  names = λ name held. ap (λ history. change_at history name) kept.history;
  records = kept.records;
}
adds_change s o (Made path d fits changes effects) = record {
  count = omega (arith, changes.count);
  names = changes.names;
  records = changes.records;
}

adds_nothing : (h : Holding) → Adds h h
adds_nothing h = record { count = omega arith; names = λ name held. refl; records = (keeps_all h).records }

event_adds : (s : State) (event : Event) → IsServing s → held s.holding < 2 ^ 63 → Adds s.holding (serve s event).state.holding
event_adds s (EditorBegan n) h few = adds_nothing s.holding
event_adds s (Ended n) h few = adds_nothing s.holding
event_adds s (EditorFrame n body) h few =
    adds_change s (outcome_of s n (message_of body)) (outcome_sound s n body h few).change

-- ---- lists of events

pub always_serves : (s : State) (events : List Event) → IsServing s → held s.holding + length events ≤ 2 ^ 63 → IsServing (serves s events).state
always_serves s [] h few = h
always_serves s (event ∷ events) h few =
    let room : held s.holding < 2 ^ 63 = omega (arith, few) in
    let adds = event_adds s event h room in
    always_serves (serve s event).state events (goes_on s event h room) (omega (arith, few, adds.count))

-- a name that is held is held later
still_held : (h after : Holding) (name : Name) → KeepsNames h after → IsTrue (is_held h.history name) → IsTrue (is_held after.history name)
still_held h after name names held = ap is_some (names name held) ∙ held

pub changes_stay : (s : State) (events : List Event) → IsServing s → held s.holding + length events ≤ 2 ^ 63
    → KeepsNames s.holding (serves s events).state.holding
changes_stay s [] h few = λ name held. refl
changes_stay s (event ∷ events) h few = λ name is.
    let room : held s.holding < 2 ^ 63 = omega (arith, few) in
    let adds = event_adds s event h room in
    let next : State = (serve s event).state in
    changes_stay next events (goes_on s event h room) (omega (arith, few, adds.count)) name (still_held s.holding next.holding name adds.names is)
    ∙ adds.names name is

pub records_stay : (s : State) (events : List Event) → IsServing s → held s.holding + length events ≤ 2 ^ 63
    → IsBehind s.holding.recorded (serves s events).state.holding.recorded
records_stay s [] h few = (keeps_all s.holding).records
records_stay s (event ∷ events) h few =
    let room : held s.holding < 2 ^ 63 = omega (arith, few) in
    let adds = event_adds s event h room in
    let next : State = (serve s event).state in
    still_behind s.holding.recorded next.holding.recorded (serves next events).state.holding.recorded adds.records
    (records_stay next events (goes_on s event h room) (omega (arith, few, adds.count)))

-- ---- starting

pub starts_serving : (base : BaseView) (given : Actor) (recorded : List Record) → IsTrue (actor_is_first recorded) → AreTaken views.beginning recorded
    → IsActor (started_on base given recorded).holding.actor
    → ((path : List ℕ) → length (text_at (started_on base given recorded).holding path) < 2 ^ 62) → IsServing (started_on base given recorded)
starts_serving base given recorded first taken actor_is short = record {
  holds = holding_started given recorded first taken;
  actor_is = actor_is;
  short = short;
  linked = λ n path link none. cc;
}

pub restarts : (s : State) (given : Actor) → IsServing s → RestartsSo s given
restarts s given h =
    let same : started_on s.base given s.holding.recorded ≡ record s { connections = [] } =
    ap (λ (holding : Holding). record s { holding = holding; connections = [] }) (restarted s.holding given h.holds) in
    record {
      same = same;
      serves = subst IsServing (sym same) (connected s [] h (λ n path link none. cc));
    }
