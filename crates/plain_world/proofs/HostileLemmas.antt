-- What comes of a body that is no message, and of a fault of frames.
use Rattle.std.proofs.Common.{◌≡◌, ℕ, zero, suc, Bool, true, false, cond, not, List, [], ◌∷◌, map, filter, Some, Result, Err, refl, sym, ap, ◌∙◌}
use Rattle.std.specs.Prelude.{slice_get, slice_set, if◌then◌else◌}
use Rattle.std.specs.Map.{lookup}
use Rattle.std.specs.Option.{unwrap_or}
use Rattle.rpc_message.specs.declared.faults.MessageFault.{MessageFault}
use Rattle.rpc_message.specs.declared.faults.MessageFault.TheVariants as fault
use Rattle.rpc_message.specs.declared.messages.Incoming.{Incoming}
use Rattle.daemon_core.specs.Outputs.{outcome_of}
use Rattle.daemon_core.specs.State.{Links, is_number}
use Rattle.daemon_core.proofs.MapLemmas.{none_left, number_same}
use Rattle.plain_world.specs.Handling.{told_seats}
use Rattle.plain_world.specs.Laws.{NoMessageChangesNothing, BadFramesEndOneConnection}
use Rattle.plain_world.specs.RawFrames.{after_outcome}
use Rattle.plain_world.specs.World.{Host, World, running}
use Rattle.plain_world.proofs.StepLemmas.{there_running}

-- ---- a body that is no message

-- each item stays
map_same : {A : Type 0} (f : A → A) → ((x : A) → f x ≡ x) → (xs : List A) → map f xs ≡ xs
map_same f same [] = refl
map_same f same (x ∷ xs) = ap (λ y. y ∷ map f xs) (same x) ∙ ap (λ ys. x ∷ ys) (map_same f same xs)

-- what is put in its own place changes nothing
set_same : {A : Type 0} (xs : List A) (i : ℕ) (x : A) → slice_get xs i ≡ Some x → slice_set xs i x ≡ xs
set_same [] i x found = refl
set_same (y ∷ xs) zero x found = let same : Some y ≡ Some x = found in let one : x ≡ y = cc in ap (λ z. z ∷ xs) one
set_same (y ∷ xs) (suc i) x found = ap (λ ys. y ∷ ys) (set_same xs i x found)

-- a connection keeps what it has open, whichever it is
kept_either : (c : ℕ) (k : ℕ × Links) → (k.0, if is_number c k.0 then k.1 else k.1) ≡ k
kept_either c k = by (is_number c k.0) where
  by : (b : Bool) → (k.0, if b then k.1 else k.1) ≡ k
  by true = refl
  by false = refl

-- a fault changes nothing, whichever it is
fault_changes_nothing : (w : World) (d : ℕ) (h : Host) (c : ℕ) (met : MessageFault) → running w d ≡ Some h
    → after_outcome w d h c (outcome_of h.state c (Err met)) ≡ w
fault_changes_nothing w d h c met runs = by met where
  connections : map (λ (k : ℕ × Links). (k.0, if is_number c k.0 then k.1 else k.1)) h.state.connections ≡ h.state.connections
  connections = map_same (λ (k : ℕ × Links). (k.0, if is_number c k.0 then k.1 else k.1)) (kept_either c) h.state.connections

  seats : map (told_seats d []) w.seats ≡ w.seats
  seats = map_same (told_seats d []) (λ x. refl) w.seats

  whole : record w {
    hosts = slice_set w.hosts d (record h {
      state = record h.state {
        connections = map (λ (k : ℕ × Links). (k.0, if is_number c k.0 then k.1 else k.1)) h.state.connections;
      };
    });
    seats = map (told_seats d []) w.seats;
  } ≡ w
  whole =
      ap (λ cs. record w { hosts = slice_set w.hosts d (record h { state = record h.state { connections = cs } }); seats = map (told_seats d []) w.seats }) connections
      ∙ ap (λ hs. record w { hosts = hs; seats = map (told_seats d []) w.seats }) (set_same w.hosts d h (there_running w d h runs))
      ∙ ap (λ xs. record w { seats = xs }) seats

  by : (met : MessageFault) → after_outcome w d h c (outcome_of h.state c (Err met)) ≡ w
  by (fault.Refused id cause) = whole
  by fault.Memory = whole

pub no_message_changes_nothing : NoMessageChangesNothing
no_message_changes_nothing w d h c body met runs is =
    ap (λ (read : Result Incoming MessageFault). after_outcome w d h c (outcome_of h.state c read)) is ∙ fault_changes_nothing w d h c met runs

-- ---- a fault of frames

-- without the entries of a key, what is found at another is what was found
beside_left : {X : Type 0} (c k : ℕ) → is_number c k ≡ false → (es : List (ℕ × X))
    → lookup (is_number k) (filter (λ e. not (is_number c e.0)) es) ≡ lookup (is_number k) es
beside_left c k apart [] = refl
beside_left {X} c k apart (e ∷ es) = by (beside_left c k apart es) (is_number k e.0) refl (is_number c e.0) refl where
  rest : List (ℕ × X)
  rest = filter (λ (f : ℕ × X). not (is_number c f.0)) es

  by : lookup (is_number k) rest ≡ lookup (is_number k) es → (here : Bool) → is_number k e.0 ≡ here → (gone : Bool) → is_number c e.0 ≡ gone
      → lookup (is_number k) (cond (not gone) (e ∷ rest) rest) ≡ cond here (Some e.1) (lookup (is_number k) es)
  by later true is true gone =
      let same : is_number c k ≡ true = ap (is_number c) (number_same k e.0 is) ∙ gone in
      let never : true ≡ false = sym same ∙ apart in cc
  by later true is false gone = ap (λ b. cond b (Some e.1) (lookup (is_number k) rest)) is
  by later false is true gone = later
  by later false is false gone = ap (λ b. cond b (Some e.1) (lookup (is_number k) rest)) is ∙ later

pub bad_frames_end_one_connection : BadFramesEndOneConnection
bad_frames_end_one_connection h c = record {
  gone = none_left (is_number c) h.readers;
  files = refl;
  links = λ k apart. ap (λ found. unwrap_or found []) (beside_left c k apart h.state.connections);
  readers = λ k apart. beside_left c k apart h.readers;
}
