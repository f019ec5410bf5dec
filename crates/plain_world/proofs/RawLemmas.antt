-- What comes on a connection that a script feeds keeps what every step keeps.
use Rattle.std.proofs.Common.{◌≡◌, inl, inr, ℕ, ◌==◌, Bool, true, false, List, [], ◌∷◌, ◌++◌, map, Option, Some, None, refl, sym, ap, ◌∙◌, subst}
use Rattle.std.specs.Prelude.{slice_get, slice_set, if◌then◌else◌}
use Rattle.std.specs.Map.{set_value}
use Rattle.std.proofs.lemmas.Bool.{eqb-true, eqb-false}
use Rattle.rpc_frame.specs.Stream.{StreamEnd, Begun, Broken}
use Rattle.rpc_message.specs.Messages.{message_of}
use Rattle.daemon_core.specs.History.{text_at}
use Rattle.daemon_core.specs.Laws.{IsServing}
use Rattle.daemon_core.specs.Outcome.{Outcome, state_after}
use Rattle.daemon_core.specs.Outputs.{outcome_of}
use Rattle.daemon_core.specs.State.{is_number}
use Rattle.daemon_core.proofs.ServeLemmas.{began, ended, after_sound, outcome_sound}
use Rattle.plain_world.specs.Handling.{Played, told_seats}
use Rattle.plain_world.specs.Lines.{hung_line}
use Rattle.plain_world.specs.Playing.{quietly, cut_off}
use Rattle.plain_world.specs.RawFrames.{Reading, Reader, read_behind, heard_so, kept_of, with_host, raw_begins, without_raw, raw_ends, stopped, lost_with, stops_if, raw_frame, if_runs, raw_frames, keeps, raw_hears}
use Rattle.plain_world.specs.World.{Host, Seat, World, running, host_of}
use Rattle.plain_world.proofs.ListLemmas.{from_set, from_map, at_set, beside_set}
use Rattle.plain_world.proofs.StepLemmas.{Keeps, found_then, allowed_if, there_running, shown_good}
use Rattle.plain_world.proofs.SeatLemmas.{Stands, stands_lost}
use Rattle.plain_world.proofs.WorldLemmas.{IsSeated, IsGood, seated_told}

-- the files of a daemon are as before
seated_same : (hosts : List Host) (d : ℕ) (h next : Host) (x : Seat) → slice_get hosts d ≡ Some h
    → next.state.history ≡ h.state.history → IsSeated hosts x → IsSeated (slice_set hosts d next) x
seated_same hosts d h next x found same k = by (x.daemon == d) refl where
  by : (b : Bool) → (x.daemon == d) ≡ b → IsSeated (slice_set hosts d next) x
  by false apart =
      record { host = k.host; there = beside_set hosts d x.daemon next (eqb-false x.daemon d apart) ∙ k.there; stands = k.stands }
  by true is =
      let here : x.daemon ≡ d = eqb-true x.daemon d is in
      let one : Some k.host ≡ Some h = sym k.there ∙ ap (slice_get hosts) here ∙ found in
      let host : k.host ≡ h = cc in
      record {
        host = next;
        there = ap (slice_get (slice_set hosts d next)) here ∙ at_set hosts d next h found;
        stands =
            subst (λ history. Stands (text_at history x.path) x.editor)
            (ap (λ (g : Host). g.state.history) host ∙ sym same) k.stands;
      }

-- a daemon's state has changed, and not its files
pub host_good : (w : World) (d : ℕ) (h next : Host) → IsGood w → host_of w d ≡ Some h → next.state.history ≡ h.state.history
    → IsServing next.state → IsGood (with_host w d next)
host_good w d h next good there same serving = record {
  serve = λ k g is. elim (from_set w.hosts d k next g is) [
    | inl kept ↦ good.serve k g kept
    | inr new ↦ subst (λ (f : Host). IsServing f.state) (sym new.1) serving
  ];
  seated = λ e x is. seated_same w.hosts d h next x there same (good.seated e x is);
}

pub raw_begins_good : (w : World) (d c : ℕ) → IsGood w → Keeps (raw_begins w d c)
raw_begins_good w d c good next played =
    let h = found_then (running w d) _ next played in
    let there : host_of w d ≡ Some h.item = there_running w d h.item h.is in
    let allowed = allowed_if _ _ next h.next in
    subst (λ (p : Played). IsGood p.world) allowed.is
    (host_good w d h.item _ good there refl (began h.item.state c (good.serve d h.item there)))

-- a connection is gone
without_good : (w : World) (d c : ℕ) (h : Host) → IsGood w → host_of w d ≡ Some h → IsGood (with_host w d (without_raw c h))
without_good w d c h good there = host_good w d h (without_raw c h) good there refl (ended h.state c (good.serve d h there))

pub raw_ends_good : (w : World) (d c : ℕ) → IsGood w → Keeps (raw_ends w d c)
raw_ends_good w d c good next played =
    let h = found_then (running w d) _ next played in
    let kept = found_then (kept_of h.item c) _ next h.next in
    shown_good (with_host w d (without_raw c h.item)) [] next
    (without_good w d c h.item good (there_running w d h.item h.is)) kept.next

-- ---- bodies

-- the daemon has stopped
stopped_good : (w : World) (d : ℕ) (before h : Host) (seats : List Seat) → host_of w d ≡ Some before
    → ((k : ℕ) (g : Host) → slice_get w.hosts k ≡ Some g → IsServing g.state)
    → ((e : ℕ) (x : Seat) → slice_get seats e ≡ Some x → IsSeated (slice_set w.hosts d h) x)
    → IsGood (record w { hosts = slice_set w.hosts d (stopped h); seats = map (lost_with d) seats })
stopped_good w d before h seats there serve seated = record {
  serve = λ k g is. elim (from_set w.hosts d k (stopped h) g is) [
    | inl kept ↦ serve k g kept
    | inr new ↦ subst (λ (f : Host). IsServing f.state) (sym new.1) (record { linked = λ n path link none. cc })
  ];
  seated = λ e x is.
      let came = from_map (lost_with d) seats e x is in
      let k = seated e came.item came.there in
      subst (IsSeated (slice_set w.hosts d (stopped h))) (sym came.was) (by came.item k (came.item.daemon == d) refl);
} where
  by : (x : Seat) → IsSeated (slice_set w.hosts d h) x → (b : Bool) → (x.daemon == d) ≡ b
      → IsSeated (slice_set w.hosts d (stopped h)) (if b then cut_off x else x)
  by x k false apart = record {
    host = k.host;
    there = beside_set w.hosts d x.daemon (stopped h) (eqb-false x.daemon d apart)
        ∙ sym (beside_set w.hosts d x.daemon h (eqb-false x.daemon d apart)) ∙ k.there;
    stands = k.stands;
  }
  by x k true is =
      record {
        host = stopped h;
        there = ap (slice_get (slice_set w.hosts d (stopped h))) (eqb-true x.daemon d is) ∙ at_set w.hosts d (stopped h) before there;
        stands = stands_lost (text_at k.host.state.history x.path) (text_at h.state.history x.path) x.editor k.stands;
      }

pub frame_good : (w : World) (d : ℕ) (h : Host) (c : ℕ) (body : List ℕ) → IsGood w → host_of w d ≡ Some h
    → IsGood (raw_frame w d h c body).world
frame_good w d h c body good there = by o.shuts_down where
  o : Outcome
  o = outcome_of h.state c (message_of body)

  next : Host
  next = record h { state = state_after h.state c o }

  told : World
  told = record w { seats = map (told_seats d o.effects) w.seats }

  serving : IsServing h.state
  serving = good.serve d h there

  seated : (e : ℕ) (x : Seat) → slice_get (map (told_seats d o.effects) w.seats) e ≡ Some x → IsSeated (slice_set w.hosts d next) x
  seated e x is =
      let came = from_map (told_seats d o.effects) w.seats e x is in
      subst (IsSeated (slice_set w.hosts d next)) (sym came.was)
      (seated_told w.hosts d h next o came.item there (outcome_sound h.state c (message_of body) serving).change refl
      (good.seated e came.item came.there))

  by : (b : Bool) → IsGood (stops_if b d next told)
  by false = record {
    serve = λ k g is. elim (from_set w.hosts d k next g is) [
      | inl kept ↦ good.serve k g kept
      | inr new ↦ subst (λ (f : Host). IsServing f.state) (sym new.1)
          (after_sound h.state c o serving (outcome_sound h.state c (message_of body) serving))
    ];
    seated = seated;
  }
  by true = stopped_good w d h next (map (told_seats d o.effects) w.seats) there good.serve seated

pub frames_good : (bodies : List (List ℕ)) (d c : ℕ) (w : World) → IsGood w → IsGood (raw_frames bodies d c w).world
frames_good [] d c w good = good
frames_good (body ∷ bodies) d c w good = by (λ v. frames_good bodies d c v) (running w d) refl where
  by : ((v : World) → IsGood v → IsGood (raw_frames bodies d c v).world) → (h : Option Host) → running w d ≡ h
      → IsGood
      (if_runs h
      (λ h. let first = raw_frame w d h c body in
      let rest = raw_frames bodies d c first.world in
      record { world = rest.world; printed = first.printed ++ rest.printed })
      w).world
  by more None is = good
  by more (Some h) is = more (raw_frame w d h c body).world (frame_good w d h c body good (there_running w d h is))

keeps_good : (kept : StreamEnd) (d c : ℕ) (w : World) → IsGood w → IsGood (keeps kept d c w).world
keeps_good (Begun bytes) d c w good = by (running w d) refl where
  by : (h : Option Host) → running w d ≡ h
      → IsGood
      (if_runs h (λ h. quietly (with_host w d (record h { readers = set_value (is_number c) h.readers (Begun bytes) }))) w).world
  by None is = good
  by (Some h) is =
      let there : host_of w d ≡ Some h = there_running w d h is in host_good w d h _ good there refl (good.serve d h there)
keeps_good (Broken fault) d c w good = by (running w d) refl where
  by : (h : Option Host) → running w d ≡ h
      → IsGood (if_runs h (λ h. record { world = with_host w d (without_raw c h); printed = hung_line d c }) w).world
  by None is = good
  by (Some h) is = without_good w d c h good (there_running w d h is)

pub raw_hears_good : (reader : Reader) (w : World) (d c : ℕ) (piece : List ℕ) → IsGood w → Keeps (raw_hears reader w d c piece)
raw_hears_good reader w d c piece good next played =
    let h = found_then (running w d) _ next played in
    let kept = found_then (kept_of h.item c) _ next h.next in
    let reading : Reading = read_behind reader kept.item piece in
    let heard : Played = raw_frames reading.bodies d c w in
    let after : IsGood (keeps reading.kept d c heard.world).world = keeps_good reading.kept d c heard.world (frames_good reading.bodies d c w good) in
    let same : Some (heard_so w d c reading) ≡ Some next = kept.next in
    let one : heard_so w d c reading ≡ next = cc in
    subst (λ (p : Played). IsGood p.world) one after
