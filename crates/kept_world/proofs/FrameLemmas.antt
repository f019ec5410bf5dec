-- What comes on a connection that a script feeds does in both worlds alike.
use Rattle.std.proofs.Common.{◌≡◌, ℕ, Bool, true, false, nat_lt, List, map, Some, None, Result, refl, sym, ap, ◌∙◌, subst, arith}
use Rattle.std.proofs.lemmas.Bool.{ltb-true}
use Rattle.file_uri.specs.Base.{BaseView}
use Rattle.rpc_message.specs.Messages.{message_of}
use Rattle.rpc_message.specs.declared.faults.MessageFault.{MessageFault}
use Rattle.rpc_message.specs.declared.messages.Incoming.{Incoming}
use Rattle.daemon_core.specs.Outcome.{Outcome, links_after, state_after}
use Rattle.daemon_core.specs.Outputs.{outputs, outcome_of, id_of}
use Rattle.daemon_core.specs.State.{Links, is_number, links_of}
use Rattle.daemon_core.specs.declared.events.Event.TheVariants.{EditorFrame}
use Rattle.daemon_core.specs.declared.events.Output.{Output}
use Rattle.daemon_core.proofs.ServeLemmas.{after_sound, outcome_sound}
use Rattle.plain_world.specs.Handling.{told_seats}
use Rattle.plain_world.specs.Lines.{told_lines}
use Rattle.plain_world.specs.RawFrames as plain
use Rattle.plain_world.specs.World as P
use Rattle.plain_world.specs.declared.TheConstants.{FIRST_OWN}
use Rattle.plain_world.proofs.ListLemmas.{at_set, beside_set}
use Rattle.frame_world.proofs.ChangeLemmas.{one_change}
use Rattle.kept_world.specs.Events.{told_editor, stops_if, after_event}
use Rattle.kept_world.specs.Tie.{IsConnectedAt, ConnectedAs, IsTiedEditor, Ties}
use Rattle.kept_world.specs.Worlds.{KeptHost, KeptEditor, KeptWorld, next_connection, running, with_host, without_host}
use Rattle.kept_world.proofs.AfterLemmas.{fed_after, links_fed}
use Rattle.kept_world.proofs.Alike.{Alike}
use Rattle.kept_world.proofs.EventLemmas.{IsSendable, zip_map, set_again, host_after, told_had, plain_stopped, stopped_tied}
use Rattle.kept_world.proofs.FeedLemmas.{fed_apart}
use Rattle.kept_world.proofs.HostLemmas.{hosts_set, running_set, running_beside}
use Rattle.kept_world.proofs.PrintedLemmas.{printed_fed, stops_alike}
use Rattle.kept_world.proofs.SameLemmas.{outcome_alike}
use Rattle.kept_world.proofs.TieLemmas.{RunsAlike, runs_alike, own_again}
use Rattle.kept_world.proofs.ToldLemmas.{Tells, told_each}

module _ (base : BaseView) (k : KeptWorld) (w : P.World) (d n : ℕ) (body : List ℕ) (h : KeptHost) (ties : Ties base k w) (runs : running k d ≡ Some h)
    (fed : nat_lt n FIRST_OWN ≡ true) (sends : IsSendable h.state n body) where
  abbrev read : Result Incoming MessageFault
  read = message_of body

  abbrev o : Outcome
  o = outcome_of h.state n read

  abbrev sent : List Output
  sent = outputs h.state n (id_of read) o

  abbrev h' : KeptHost
  h' = record h { state = state_after h.state n o }

  abbrev l : KeptWorld
  l = with_host (record k { editors = map (told_editor d sent) k.editors }) d h'

  r : RunsAlike base k w d h
  r = runs_alike base k w d h ties runs

  abbrev g' : P.Host → P.Host
  g' g = record g { state = state_after g.state n o }

  abbrev v : P.Host → P.World
  v g = plain.with_host (record w { seats = map (told_seats d o.effects) w.seats }) d (g' g)

  tells : (q : RunsAlike base k w d h) → Tells base k l w (v q.plain) d n o h
  tells q = record {
    runs = runs;
    base_is = q.tied.base_is;
    change = (outcome_sound h.state n read q.tied.serves).change;
    one = one_change h.state n read;
    fits = sends.others;
    plain = q.plain;
    there = q.there;
    files = q.tied.history;
    kept_after = h';
    runs_after = running_set k l d h h' runs refl;
    state_is = refl;
    plain_after = g' q.plain;
    there_after = at_set w.hosts d (g' q.plain) q.plain q.there;
    files_after = refl;
    beside = λ c apart. running_beside k l d c (Some h') apart refl;
    plain_beside = λ c apart. beside_set w.hosts d c (g' q.plain) apart;
    connections = refl;
  }

  -- no editor of a script has the connection
  others : (x : KeptEditor) (y : P.Seat) → IsTiedEditor base k w x y → (m : ℕ) → x.daemon ≡ d → x.connection ≡ Some m → is_number n m ≡ false
  others x y t m here connected =
      let at : IsConnectedAt k x m t.counted = subst (ConnectedAs k x t.counted) connected t.connected in
      fed_apart n m (ltb-true n FIRST_OWN fed) at.own

  event_tied : (q : RunsAlike base k w d h) → Ties base l (v q.plain)
  event_tied q =
      let m : ℕ = next_connection k in
      record {
        hosts =
            hosts_set base m m k.hosts w.hosts d (Some h') (g' q.plain) (omega arith)
            (host_after base m h q.plain n o (state_after q.plain.state n o) q.tied q.tied.plain_base refl
            (ap (λ cs. map {B = ℕ × Links} (λ c. (c.0, links_after n o c.0 c.1)) cs) q.tied.connections ∙ sym (fed_after (links_after n o) h.state.connections))
            (after_sound h.state n o q.tied.serves (outcome_sound h.state n read q.tied.serves)))
            ties.hosts;
        editors =
            zip_map (IsTiedEditor base k w) (IsTiedEditor base l (v q.plain)) (told_editor d sent) (told_seats d o.effects) k.editors w.seats
            (λ i x y at t. told_each base k l w (v q.plain) d n (id_of read) o h (tells q) x y (others x y t) t) ties.editors;
        connections = ties.connections;
        on_their_own = own_again k l (told_had k l d sent refl) ties.on_their_own;
      }

  -- the daemon goes on, or it stops
  abbrev told_kept : KeptWorld
  told_kept = record k { editors = map (told_editor d sent) k.editors }

  abbrev told_plain : P.World
  told_plain = record w { seats = map (told_seats d o.effects) w.seats }

  ends_tied : (q : RunsAlike base k w d h) (b : Bool) → Ties base (stops_if b d h' told_kept) (plain.stops_if b d (g' q.plain) told_plain)
  ends_tied q false = event_tied q
  ends_tied q true =
      let stopped : P.Host = plain.stopped (g' q.plain) in
      subst (λ hosts. Ties base (without_host told_kept d) (record told_plain { hosts = hosts; seats = map (plain.lost_with d) told_plain.seats }))
      (set_again w.hosts d (g' q.plain) stopped)
      (subst (λ hosts. Ties base (record (without_host told_kept d) { hosts = hosts }) (plain_stopped (v q.plain) d (g' q.plain)))
      (set_again k.hosts d (Some h') None)
      (stopped_tied base l (v q.plain) d (g' q.plain) (event_tied q) (at_set w.hosts d (g' q.plain) q.plain q.there)))

  -- a body does alike
  pub frame_alike : (q : RunsAlike base k w d h) → Alike base (after_event k d h (EditorFrame n body)) (plain.raw_frame w d q.plain n body)
  frame_alike q =
      let g : P.Host = q.plain in
      let bases : g.state.base ≡ h.state.base = q.tied.plain_base ∙ sym q.tied.base_is in
      let links : links_of g.state n ≡ links_of h.state n = links_fed h.state g.state n fed q.tied.connections in
      subst (λ x. Alike base (after_event k d h (EditorFrame n body))
      (record { world = plain.after_outcome w d g n x; printed = told_lines d (outputs g.state n (id_of read) x) }))
      (sym (outcome_alike h.state g.state n read bases q.tied.history links))
      (record {
        tied =
            subst (λ b. Ties base (stops_if b d h' told_kept) (plain.stops_if o.shuts_down d (g' g) told_plain)) (sym (stops_alike h.state n (id_of read) o))
            (ends_tied q o.shuts_down);
        printed = printed_fed d h.state g.state n (id_of read) o fed bases q.tied.connections links;
      })
