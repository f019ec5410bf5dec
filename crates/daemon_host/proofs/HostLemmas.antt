-- A daemon of its parts, whose streams are changed at one number.
use Rattle.std.proofs.Common.{◌≡◌, ℕ, not, filter, List, Some, sym, ap, ◌∙◌}
use Rattle.std.specs.BTreeMap.{insert_entry}
use Rattle.std.specs.Cmp.{nat_cmp_total}
use Rattle.std.specs.List.Sorted.{IsStrictlySortedBy}
use Rattle.std.specs.Map.{lookup, keys_of, set_value}
use Rattle.std.specs.Ordering.{nat_cmp}
use Rattle.rpc_frame.specs.Stream.{StreamEnd}
use Rattle.daemon_core.specs.Outputs.{serve}
use Rattle.daemon_core.specs.State.{State, is_number}
use Rattle.daemon_core.specs.declared.events.Event.TheVariants.{Ended}
use Rattle.kept_world.specs.Steps.{without_raw}
use Rattle.kept_world.specs.Worlds.{KeptHost}
use Rattle.daemon_host.specs.Hosts.{without_stream}
use Rattle.daemon_core.proofs.MapLemmas.{number_same}
use Rattle.daemon_links.proofs.MapLemmas.{set_here, put_here}

-- both parts are without a connection
pub without_raw_is : (c : ℕ) (s : State) (es : List (ℕ × StreamEnd)) (h : KeptHost) (t : State) (rest : List (ℕ × StreamEnd))
    → ◌≡◌ {A = KeptHost} (record { state = s; readers = es }) h → t ≡ (serve s (Ended c)).state → rest ≡ filter (λ r. not (is_number c r.0)) es
    → ◌≡◌ {A = KeptHost} (record { state = t; readers = rest }) (without_raw c h)
without_raw_is c s es h t rest same ended gone = ap (λ (r : List (ℕ × StreamEnd)). record { state = t; readers = r }) gone
    ∙ ap (λ (u : State). record { state = u; readers = filter (λ r. not (is_number c r.0)) es }) ended
    ∙ ap (without_raw c) same

-- its streams are without one
pub without_stream_is : (c : ℕ) (s : State) (es : List (ℕ × StreamEnd)) (h : KeptHost) (rest : List (ℕ × StreamEnd))
    → ◌≡◌ {A = KeptHost} (record { state = s; readers = es }) h → rest ≡ filter (λ r. not (is_number c r.0)) es
    → ◌≡◌ {A = KeptHost} (record { state = s; readers = rest }) (without_stream c h)
without_stream_is c s es h rest same gone = ap (λ (r : List (ℕ × StreamEnd)). record { state = s; readers = r }) gone ∙ ap (without_stream c) same

-- a stream that was taken out and is put back otherwise stands where it stood
put_again : (c : ℕ) (es : List (ℕ × StreamEnd)) (v w : StreamEnd) → IsStrictlySortedBy nat_cmp (keys_of es) → Some v ≡ lookup (is_number c) es
    → insert_entry nat_cmp (filter (λ r. not (is_number c r.0)) es) c w ≡ set_value (is_number c) es w
put_again c es v w sorted found =
    put_here nat_cmp nat_cmp_total c (λ old. w) (number_same c) es v sorted found ∙ sym (set_here nat_cmp nat_cmp_total c (λ old. w) es v sorted found)

pub kept_again : (c : ℕ) (s : State) (es : List (ℕ × StreamEnd)) (h : KeptHost) (v w : StreamEnd) (rest after : List (ℕ × StreamEnd))
    → ◌≡◌ {A = KeptHost} (record { state = s; readers = es }) h → IsStrictlySortedBy nat_cmp (keys_of es) → Some v ≡ lookup (is_number c) es
    → rest ≡ filter (λ r. not (is_number c r.0)) es → after ≡ insert_entry nat_cmp rest c w
    → ◌≡◌ {A = KeptHost} (record { state = s; readers = after }) (record h { readers = set_value (is_number c) h.readers w })
kept_again c s es h v w rest after same sorted found gone put =
    ap (λ (r : List (ℕ × StreamEnd)). record { state = s; readers = r })
    (put ∙ ap (λ (r : List (ℕ × StreamEnd)). insert_entry nat_cmp r c w) gone ∙ put_again c es v w sorted found)
    ∙ ap (λ (g : KeptHost). record g { readers = set_value (is_number c) g.readers w }) same
