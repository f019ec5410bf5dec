-- The first body under way from an editor comes to its daemon in both worlds.
use Rattle.std.proofs.Common.{◌≡◌, ℕ, ◌<◌, ◌≤◌, false, List, ◌∷◌, map, filter, flat_map, Some, Result, refl, sym, ap, ◌∙◌, subst, arith}
use Rattle.std.specs.Prelude.{slice_set, if◌then◌else◌}
use Rattle.std.specs.List.{AllZip, list_any}
use Rattle.std.proofs.lemmas.Bool.{eq-eqb, lt-leb}
use Rattle.file_uri.specs.Base.{BaseView}
use Rattle.file_uri.specs.PathOf.{path_of}
use Rattle.file_uri.specs.UriOf.{uri_of}
use Rattle.bridge_world.specs.Counted as N
use Rattle.bridge_world.specs.Counted.{plain_of}
use Rattle.bridge_world.specs.Lists.{one_and_others}
use Rattle.bridge_world.specs.Plain as bridge
use Rattle.bridge_world.specs.Tie.{Good}
use Rattle.bridge_world.proofs.Delivery.{Both}
use Rattle.rpc_message.specs.Messages.{message_of}
use Rattle.rpc_message.specs.declared.faults.MessageFault.{MessageFault}
use Rattle.rpc_message.specs.declared.messages.Incoming.{Incoming}
use Rattle.daemon_core.specs.History.{History, text_at}
use Rattle.daemon_core.specs.Outcome.{Effect, Outcome, links_after, told_links, state_after, state_told}
use Rattle.daemon_core.specs.Outputs.{told_outputs, outputs, outcome_of, id_of}
use Rattle.daemon_core.specs.Refusing.{Step}
use Rattle.daemon_core.specs.Serving.{or_refusal}
use Rattle.daemon_core.specs.State.{Links, State}
use Rattle.daemon_core.specs.declared.events.Event.TheVariants.{EditorFrame}
use Rattle.daemon_core.specs.declared.events.Output.{Output}
use Rattle.daemon_core.proofs.ServeLemmas.{after_sound, outcome_sound}
use Rattle.plain_world.specs.Handling.{told_seats, handled_seat, handled_so, verdict_of}
use Rattle.plain_world.specs.Lines.{told_lines}
use Rattle.plain_world.specs.World as P
use Rattle.plain_world.specs.declared.TheConstants.{FIRST_OWN}
use Rattle.plain_world.proofs.ListLemmas.{at_set, beside_set}
use Rattle.frame_world.specs.Seats.{Seat}
use Rattle.frame_world.specs.Serving as serving
use Rattle.frame_world.specs.Serving.{IsAt, plain_step_of, editor_after, HandlesAlike, received}
use Rattle.frame_world.specs.Tie.{IsTied}
use Rattle.frame_world.proofs.ChangeLemmas.{one_change}
use Rattle.frame_world.proofs.HandledLemmas.{handlings_are_alike}
use Rattle.kept_world.specs.Events.{received_on, told_editor, is_stop, stops_if, after_event}
use Rattle.kept_world.specs.Tie.{is_fed_one, ConnectedAs, IsTiedEditor, Ties}
use Rattle.kept_world.specs.Worlds.{KeptHost, KeptEditor, KeptWorld, next_connection, running, editor_of, with_host, with_seat}
use Rattle.kept_world.proofs.AfterLemmas.{fed_after, fed_told}
use Rattle.kept_world.proofs.Alike.{Alike}
use Rattle.kept_world.proofs.EventLemmas.{IsSendable, zip_one, host_after, told_had}
use Rattle.kept_world.proofs.HostLemmas.{hosts_set, running_set, running_beside}
use Rattle.kept_world.proofs.NumberLemmas.{other_number}
use Rattle.kept_world.proofs.PrintedLemmas.{printed_own, stops_alike}
use Rattle.kept_world.proofs.TieLemmas.{RunsAlike, own_again, had_before}
use Rattle.kept_world.proofs.ToldLemmas.{Tells, tied_here, told_each}
use Rattle.kept_world.proofs.TurnLemmas.{own_turn}

-- the plain editor that is tied to one with counts
abbrev pub plain_seat : KeptEditor → N.Editor → P.Seat
plain_seat x counted = record { daemon = x.daemon; path = x.path; connection = x.connection; editor = plain_of counted }

-- A body comes first from an editor that is connected, and each message that its daemon then sends can be sent.
pub record Turn (base : BaseView) (k : KeptWorld) (w : P.World) (e n : ℕ) (body : List ℕ) (rest : List (List ℕ)) (x : KeptEditor) (h : KeptHost) (counted : N.Editor) : Type 0 where
  pub ties : Ties base k w
  pub there : editor_of k e ≡ Some x
  pub connection : x.connection ≡ Some n
  pub first : x.seat.up ≡ body ∷ rest
  pub runs : running k x.daemon ≡ Some h
  pub sends : IsSendable h.state n body
  pub across : RunsAlike base k w x.daemon h
  pub seated : P.seat_of w e ≡ Some (plain_seat x counted)
  pub self : IsTiedEditor base k w x (plain_seat x counted)
  pub good : Good (text_at h.state.history x.path) counted
  pub tied : IsTied (uri_of base x.path) x.seat counted
  pub at : IsAt h.state n x.path counted
  pub own : FIRST_OWN ≤ n
  pub below : n < next_connection k

module _ (base : BaseView) (k : KeptWorld) (w : P.World) (e n : ℕ) (body : List ℕ) (rest : List (List ℕ)) (x : KeptEditor) (h : KeptHost) (counted : N.Editor)
    (turn : Turn base k w e n body rest x h counted) where
  abbrev s : State
  s = h.state

  abbrev d : ℕ
  d = x.daemon

  abbrev read : Result Incoming MessageFault
  read = message_of body

  abbrev o : Outcome
  o = outcome_of s n read

  abbrev sent : List Output
  sent = outputs s n (id_of read) o

  -- what it comes to in the plain machine
  abbrev step : Step Outcome
  step = plain_step_of s x.path counted

  abbrev plain_o : Outcome
  plain_o = or_refusal s step

  alike : HandlesAlike (uri_of base x.path) s n x.path body rest x.seat counted
  alike =
      handlings_are_alike (uri_of base x.path) x.path body rest s n x.seat counted turn.good turn.tied turn.at
      (ap (λ b. path_of b (uri_of base x.path)) turn.across.tied.base_is ∙ turn.self.path_is) (ap (λ b. uri_of b x.path) turn.across.tied.base_is)
      turn.first turn.sends.own

  -- the worlds afterwards
  abbrev left : Seat
  left = record x.seat { up = rest }

  abbrev k' : KeptWorld
  k' = with_seat k e x left

  abbrev h' : KeptHost
  h' = record h { state = state_after s n o }

  abbrev l : KeptWorld
  l = with_host (record k' { editors = map (told_editor d sent) k'.editors }) d h'

  abbrev g' : P.Host
  g' = record turn.across.plain { state = state_told turn.across.plain.state plain_o }

  abbrev v : List Effect → P.World
  v effects = record w {
    hosts = slice_set w.hosts d g';
    seats = one_and_others (handled_seat step (text_at plain_o.history x.path)) (told_seats d effects) e w.seats;
  }

  tells : Tells base k l w (v o.effects) d n o h
  tells = record {
    runs = turn.runs;
    base_is = turn.across.tied.base_is;
    change = (outcome_sound s n read turn.across.tied.serves).change;
    one = one_change s n read;
    fits = turn.sends.others;
    plain = turn.across.plain;
    there = turn.across.there;
    files = turn.across.tied.history;
    kept_after = h';
    runs_after = running_set k l d h h' turn.runs refl;
    state_is = refl;
    plain_after = g';
    there_after = at_set w.hosts d g' turn.across.plain turn.across.there;
    files_after = sym alike.history;
    beside = λ c apart. running_beside k l d c (Some h') apart refl;
    plain_beside = λ c apart. beside_set w.hosts d c g' apart;
    connections = refl;
  }

  -- the editor itself
  itself : IsTiedEditor base l (v o.effects) (told_editor d sent (record x { seat = left })) (handled_seat step (text_at plain_o.history x.path) (plain_seat x counted))
  itself =
      let view : List ℕ = text_at plain_o.history x.path in
      let after : N.Editor = editor_after s x.path counted in
      let seat : Seat = serving.handled s n body rest x.seat in
      let editor : bridge.Editor = bridge.handled (verdict_of step) view (plain_of counted) in
      let both : Both (text_at o.history x.path) editor after =
      subst (λ (history : History). Both (text_at history x.path) editor after) (sym alike.history) (own_turn s x.path counted turn.good) in
      let connected : ConnectedAs l (record x { seat = seat }) after x.connection =
      subst (ConnectedAs l (record x { seat = seat }) after) (sym turn.connection)
      (record { host = h'; runs = running_set k l d h h' turn.runs refl; at = alike.at; own = turn.own; below = turn.below }) in
      let is : told_editor d sent (record x { seat = left }) ≡ record x { seat = seat } =
      ap (λ b. if b then received_on x.connection sent (record x { seat = left }) else record x { seat = left }) (eq-eqb d d refl)
      ∙ ap (λ c. received_on c sent (record x { seat = left })) turn.connection in
      subst (λ z. IsTiedEditor base l (v o.effects) z (handled_seat step view (plain_seat x counted))) (sym is)
      (tied_here base k l w (v o.effects) d n (id_of read) o h tells x (plain_seat x counted) seat editor after refl turn.self both alike.tied connected)

  -- each other one, on a connection of its own
  beside : (i : ℕ) (z : KeptEditor) (y : P.Seat) → (i ≡ e → ⊥) → editor_of k i ≡ Some z → IsTiedEditor base k w z y
      → IsTiedEditor base l (v o.effects) (told_editor d sent z) (told_seats d o.effects y)
  beside i z y apart at t =
      told_each base k l w (v o.effects) d n (id_of read) o h tells z y
      (λ m of_d connection.
      other_number n m (λ same. apart (turn.ties.on_their_own i e n z x at turn.there (connection ∙ ap (λ c. Some c) (sym same)) turn.connection))) t

  editors_tied : AllZip (IsTiedEditor base l (v o.effects)) (map (told_editor d sent) (slice_set k.editors e (record x { seat = left })))
      (one_and_others (handled_seat step (text_at plain_o.history x.path)) (told_seats d o.effects) e w.seats)
  editors_tied =
      zip_one (IsTiedEditor base k w) (IsTiedEditor base l (v o.effects)) (told_editor d sent) (handled_seat step (text_at plain_o.history x.path)) (told_seats d o.effects)
      e (record x { seat = left }) k.editors w.seats
      (λ z y at across t.
      let one : Some (plain_seat x counted) ≡ Some y = sym turn.seated ∙ across in
      let same : plain_seat x counted ≡ y = cc in
      subst (λ u. IsTiedEditor base l (v o.effects) (told_editor d sent (record x { seat = left })) (handled_seat step (text_at plain_o.history x.path) u)) same itself)
      beside turn.ties.editors

  -- the connections of the daemon
  connections_are : g'.state.connections ≡ filter is_fed_one (state_after s n o).connections
  connections_are =
      ap (λ (effects : List Effect). map {B = ℕ × Links} (λ c. (c.0, told_links effects c.1)) turn.across.plain.state.connections) (sym alike.effects)
      ∙ ap (λ cs. map {B = ℕ × Links} (λ c. (c.0, told_links o.effects c.1)) cs) turn.across.tied.connections
      ∙ sym (fed_told n o s.connections (lt-leb _ _ (omega (arith, turn.own))))
      ∙ sym (fed_after (links_after n o) s.connections)

  worlds_tied : Ties base l (v o.effects)
  worlds_tied =
      let m : ℕ = next_connection k in
      record {
        hosts =
            hosts_set base m m k.hosts w.hosts d (Some h') g' (omega arith)
            (host_after base m h turn.across.plain n o (state_told turn.across.plain.state plain_o) turn.across.tied turn.across.tied.plain_base (sym alike.history) connections_are
            (after_sound s n o turn.across.tied.serves (outcome_sound s n read turn.across.tied.serves)))
            turn.ties.hosts;
        editors = editors_tied;
        connections = turn.ties.connections;
        on_their_own =
            own_again k l
            (λ f m had. had_before k k' e x (record x { seat = left }) turn.there refl (λ m is. is) f m (told_had k' l d sent refl f m had)) turn.ties.on_their_own;
      }

  -- the body does alike
  pub turn_alike : Alike base (after_event k' d h (EditorFrame n body)) (handled_so w e (plain_seat x counted) turn.across.plain step plain_o)
  turn_alike =
      let g : P.Host = turn.across.plain in
      let goes_on : list_any is_stop sent ≡ false = stops_alike s n (id_of read) o ∙ alike.goes_on in
      record {
        tied =
            subst (λ b. Ties base (stops_if b d h' (record k' { editors = map (told_editor d sent) k'.editors })) (v plain_o.effects)) (sym goes_on)
            (subst (λ effects. Ties base l (v effects)) alike.effects worlds_tied);
        printed =
            printed_own d s n (id_of read) o (lt-leb _ _ (omega (arith, turn.own)))
            ∙ ap (λ effects. told_lines d (flat_map (told_outputs s.base effects) (filter is_fed_one s.connections))) alike.effects
            ∙ ap (λ b. told_lines d (flat_map (told_outputs b plain_o.effects) (filter is_fed_one s.connections))) (turn.across.tied.base_is ∙ sym turn.across.tied.plain_base)
            ∙ ap (λ cs. told_lines d (flat_map (told_outputs g.state.base plain_o.effects) cs)) (sym turn.across.tied.connections);
      }
