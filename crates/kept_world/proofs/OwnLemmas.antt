-- What an editor does itself leaves the two worlds tied.
use Rattle.std.proofs.Common.{◌≡◌, ℕ, ◌+◌, ◌≤◌, true, false, ◌&&◌, not, List, length, Option, Some, is_some, nat_le, refl, sym, ap, ◌∙◌, subst, arith}
use Rattle.std.specs.Prelude.{option_and_then}
use Rattle.std.proofs.lemmas.Bool.{leb-true, and_parts}
use Rattle.delta.specs.Cells.{Cells, base_length}
use Rattle.bridge_world.specs.Counted as N
use Rattle.bridge_world.specs.Lists.{only_if}
use Rattle.bridge_world.specs.Plain as P
use Rattle.bridge_world.specs.Plain.{is_closed}
use Rattle.bridge_world.proofs.GoodSteps.{good_typed, good_closed}
use Rattle.bridge_world.proofs.PlainSteps.{plain-typed, plain-closed}
use Rattle.file_uri.specs.Base.{BaseView}
use Rattle.file_uri.specs.UriOf.{uri_of}
use Rattle.text_position.specs.Changes.{Change}
use Rattle.text_position.specs.Edits.{replacing}
use Rattle.text_position.proofs.EditLemmas.{base_length-replacing}
use Rattle.daemon_core.specs.History.{text_at}
use Rattle.editor_client.specs.Editor.{change_at, delta_of}
use Rattle.frame_world.specs.Seats as seat
use Rattle.frame_world.specs.Seats.{Seat}
use Rattle.frame_world.proofs.OwnLemmas.{own_steps}
use Rattle.plain_world.specs.Handling.{Played}
use Rattle.plain_world.specs.Playing as plain
use Rattle.plain_world.specs.World.{World, seat_of, is_connected}
use Rattle.plain_world.specs.World as world
use Rattle.plain_world.specs.declared.TheConstants.{LONGEST_SENT}
use Rattle.plain_world.proofs.StepLemmas.{found_then, allowed_if}
use Rattle.kept_world.specs.Events.{KeptPlayed}
use Rattle.kept_world.specs.Moves.{IsTyped, IsClosed}
use Rattle.kept_world.specs.Steps.{quietly}
use Rattle.kept_world.specs.Tie.{IsTiedEditor, IsApart, Ties}
use Rattle.kept_world.specs.Worlds.{KeptEditor, KeptWorld, editor_of, with_seat}
use Rattle.kept_world.proofs.Alike.{Comes, comes_to}
use Rattle.kept_world.proofs.StillLemmas.{typed_link, connected_next, closed_apart, is_closed_alike}
use Rattle.kept_world.proofs.TieLemmas.{sits_alike, seat_tied}

-- what the plain machine makes of a change of an editor
abbrev typed_plain : World → ℕ → world.Seat → ℕ → ℕ → List ℕ → ℕ → P.Editor → Option Played
typed_plain w e y place gone text size editor =
    only_if (nat_le (place + gone) size && nat_le (length text) LONGEST_SENT)
    (plain.quietly (plain.with_editor w e y (P.typed (replacing size place (place + gone) text) editor)))

-- an editor without a connection types as one that has closed its text
apart_typed : (view : List ℕ) (k : KeptWorld) (x : KeptEditor) (s : Seat) (d : Cells) (e : N.Editor) → IsApart x e → is_closed e.state ≡ true
    → IsApart (record x { seat = s }) (N.typed d e)
apart_typed view k x s d e apart closed =
    subst (λ b. IsApart (record x { seat = s }) (N.typed_where b d e)) (sym closed)
    (record { link = apart.link; sent = apart.sent; wire = apart.wire })

pub types_alike : (base : BaseView) (k : KeptWorld) (w : World) (e place gone : ℕ) (text : List ℕ) (p : KeptPlayed) → Ties base k w
    → IsTyped k e place gone text p → Comes base (plain.types w e place gone text) p
types_alike base k w e place gone text p ties typed =
    let found = found_then (editor_of k e) _ p typed.is in
    let x : KeptEditor = found.item in
    let allowed = allowed_if _ _ p found.next in
    let across = sits_alike base k w e x ties found.is in
    let y : world.Seat = across.item in
    let t : IsTiedEditor base k w x y = across.tied in
    let c : N.Editor = t.counted in
    let view : List ℕ = text_at t.host.state.history x.path in
    let change : Change = change_at place gone text in
    let size : length x.seat.client.text ≡ length c.text = ap length t.tied.tied.text in
    let within : place + gone ≤ length x.seat.client.text =
    leb-true (place + gone) (length x.seat.client.text) (and_parts (nat_le (place + gone) (length x.seat.client.text)) _ allowed.passes).0 in
    let d = delta_of change x.seat.client.text in
    let next : N.Editor = N.typed d c in
    let s : Seat = seat.typed change x.seat in
    let fits : base_length d ≡ length c.text =
    base_length-replacing (length x.seat.client.text) place (place + gone) text (omega arith) within ∙ size in
    let answer = typed_plain w e y place gone text in
    let steps : plain.types w e place gone text ≡ Some (plain.quietly (plain.with_editor w e y (N.plain_of next))) =
    ap (option_and_then (λ (q : world.Seat). typed_plain w e q place gone text (length q.editor.text) q.editor)) across.there
    ∙ ap (λ editor. answer (length editor.text) editor) t.plain
    ∙ ap (λ n. answer n (N.plain_of c)) (sym size)
    ∙ ap (λ b. only_if b (plain.quietly (plain.with_editor w e y (P.typed d (N.plain_of c))))) allowed.passes
    ∙ ap (λ editor. Some (plain.quietly (plain.with_editor w e y editor))) (sym (plain-typed (is_closed c.state) d c)) in
    comes_to base (plain.types w e place gone text) p (quietly (with_seat k e x s)) (plain.quietly (plain.with_editor w e y (N.plain_of next))) allowed.is steps
    (record {
      tied =
          seat_tied base k w e x y s next ties found.is t (good_typed view (is_closed c.state) d c fits refl t.good)
          ((own_steps (uri_of base x.path) view).types change x.seat c (typed.tells x found.is) t.good t.tied)
          (connected_next k x s c next x.connection (typed_link (is_closed c.state) d c)
          (λ none apart. apart_typed view k x s d c apart (closed_apart view x c t.good apart)) t.connected);
      printed = refl;
    })

-- An editor closes its text.

abbrev closed_plain : World → ℕ → world.Seat → Option ℕ → P.Editor → Option Played
closed_plain w e y connection editor =
    only_if (is_some connection && not (is_closed editor.state)) (plain.quietly (plain.with_editor w e y (P.closed editor)))

pub closes_alike : (base : BaseView) (k : KeptWorld) (w : World) (e : ℕ) (p : KeptPlayed) → Ties base k w → IsClosed k e p
    → Comes base (plain.closes w e) p
closes_alike base k w e p ties closed =
    let found = found_then (editor_of k e) _ p closed.is in
    let x : KeptEditor = found.item in
    let allowed = allowed_if _ _ p found.next in
    let across = sits_alike base k w e x ties found.is in
    let y : world.Seat = across.item in
    let t : IsTiedEditor base k w x y = across.tied in
    let c : N.Editor = t.counted in
    let view : List ℕ = text_at t.host.state.history x.path in
    let next : N.Editor = N.closed c in
    let s : Seat = seat.closed x.seat in
    let connected : is_some x.connection ≡ true = (and_parts (is_some x.connection) _ allowed.passes).0 in
    let steps : plain.closes w e ≡ Some (plain.quietly (plain.with_editor w e y (N.plain_of next))) =
    ap (option_and_then (λ (q : world.Seat). closed_plain w e q q.connection q.editor)) across.there
    ∙ ap (closed_plain w e y y.connection) t.plain
    ∙ ap (λ connection. closed_plain w e y connection (N.plain_of c)) t.connection
    ∙ ap (λ b. only_if (is_some x.connection && not b) (plain.quietly (plain.with_editor w e y (P.closed (N.plain_of c)))))
    (sym (is_closed_alike (uri_of base x.path) x.seat c t.tied))
    ∙ ap (λ b. only_if b (plain.quietly (plain.with_editor w e y (P.closed (N.plain_of c))))) allowed.passes
    ∙ ap (λ editor. Some (plain.quietly (plain.with_editor w e y editor))) (sym (plain-closed c)) in
    comes_to base (plain.closes w e) p (quietly (with_seat k e x s)) (plain.quietly (plain.with_editor w e y (N.plain_of next))) allowed.is steps
    (record {
      tied =
          seat_tied base k w e x y s next ties found.is t (good_closed view c t.good)
          ((own_steps (uri_of base x.path) view).closes x.seat c (closed.read x found.is) t.tied)
          (connected_next k x s c next x.connection refl
          (λ none. let both : false ≡ true = ap is_some (sym none) ∙ connected in cc) t.connected);
      printed = refl;
    })
