-- The first frame under way to an editor comes to it in both worlds.
use Rattle.std.proofs.Common.{◌≡◌, ℕ, true, List, ◌∷◌, length, Option, Some, nat_lt, sym, ap, ◌∙◌, arith}
use Rattle.std.specs.Prelude.{option_and_then}
use Rattle.std.proofs.lemmas.Bool.{lt-ltb}
use Rattle.bridge_world.specs.Counted as N
use Rattle.bridge_world.specs.Lists.{only_if}
use Rattle.bridge_world.specs.Plain as P
use Rattle.bridge_world.proofs.Delivery.{both_delivered}
use Rattle.file_uri.specs.Base.{BaseView}
use Rattle.file_uri.specs.UriOf.{uri_of}
use Rattle.daemon_core.specs.History.{text_at}
use Rattle.frame_world.specs.Lines.{note_line}
use Rattle.frame_world.proofs.DeliveryLemmas.{deliveries_are_alike}
use Rattle.plain_world.specs.Handling.{Played}
use Rattle.plain_world.specs.Lines.{first_line}
use Rattle.plain_world.specs.Playing as plain
use Rattle.plain_world.specs.World as world
use Rattle.plain_world.specs.World.{World}
use Rattle.kept_world.specs.Events.{KeptPlayed}
use Rattle.kept_world.specs.Moves.{IsDown}
use Rattle.kept_world.specs.Tie.{IsTiedEditor, IsApart, Ties}
use Rattle.kept_world.specs.Worlds.{KeptEditor, KeptWorld, with_seat}
use Rattle.kept_world.proofs.Alike.{Comes, comes_to}
use Rattle.kept_world.proofs.StillLemmas.{delivered_link, connected_next, down_length}
use Rattle.kept_world.proofs.TieLemmas.{sits_alike, seat_tied}

-- a list that begins has items
pub some_items : {A : Type 0} (xs rest : List A) (x : A) → xs ≡ x ∷ rest → nat_lt 0 (length xs) ≡ true
some_items xs rest x is = lt-ltb 0 (length xs) (omega (arith, ap length is))

abbrev delivered_plain : World → ℕ → world.Seat → P.Editor → Option Played
delivered_plain w e y editor =
    only_if (nat_lt 0 (length editor.wire))
    (record { world = plain.with_editor w e y (P.delivered editor); printed = first_line e editor.wire })

pub down_alike : (base : BaseView) (k : KeptWorld) (w : World) (e : ℕ) (p : KeptPlayed) → Ties base k w → IsDown k e p
    → Comes base (plain.goes_down w e) p
down_alike base k w e p ties down =
    let x : KeptEditor = down.editor in
    let across = sits_alike base k w e x ties down.there in
    let y : world.Seat = across.item in
    let t : IsTiedEditor base k w x y = across.tied in
    let c : N.Editor = t.counted in
    let uri : List ℕ = uri_of base x.path in
    let view : List ℕ = text_at t.host.state.history x.path in
    let came = deliveries_are_alike uri view e x.seat down.after down.note c t.good t.tied down.delivered in
    let both = both_delivered view c t.good in
    let some : nat_lt 0 (length (N.plain_of c).wire) ≡ true =
    ap (nat_lt 0) (sym (down_length uri x.seat c t.tied)) ∙ some_items x.seat.down down.delivered.rest down.delivered.frame down.delivered.first in
    let next : Played = record { world = plain.with_editor w e y (N.plain_of (N.delivered c)); printed = first_line e (N.marks c.wire) } in
    let steps : plain.goes_down w e ≡ Some next =
    ap (option_and_then (λ (q : world.Seat). delivered_plain w e q q.editor)) across.there
    ∙ ap (delivered_plain w e y) t.plain
    ∙ ap (λ b. only_if b (record { world = plain.with_editor w e y (P.delivered (N.plain_of c)); printed = first_line e (N.marks c.wire) })) some
    ∙ ap (λ editor. Some (record { world = plain.with_editor w e y editor; printed = first_line e (N.marks c.wire) })) (sym both.plain) in
    comes_to base (plain.goes_down w e) p (record { world = with_seat k e x down.after; printed = note_line e down.note }) next (sym down.is) steps
    (record {
      tied =
          seat_tied base k w e x y down.after (N.delivered c) ties down.there t both.good came.tied
          (connected_next k x down.after c (N.delivered c) x.connection (delivered_link c) (λ none apart. absurd (never apart some)) t.connected);
      printed = came.printed;
    }) where
      never : {x : KeptEditor} {c : N.Editor} → IsApart x c → nat_lt 0 (length (N.plain_of c).wire) ≡ true → ⊥
      never {x} {c} apart some =
          let both : nat_lt 0 0 ≡ true = ap (λ (wire : List N.Frame). nat_lt 0 (length (N.marks wire))) (sym apart.wire) ∙ some in cc
