-- What is delivered from an editor, and to it.
use Rattle.std.proofs.Common.{◌≡◌, ℕ, true, false, List, [], ◌∷◌, length, nat_lt, Option, Some, None, is_some, refl, sym, ap, ◌∙◌, subst}
use Rattle.editor_client.specs.declared.notes.HeardNote.{HeardNote}
use Rattle.daemon_core.specs.declared.events.Event.TheVariants.{EditorFrame}
use Rattle.frame_world.specs.Lines.{note_line}
use Rattle.frame_world.specs.Seats.{Seat, IsDelivered}
use Rattle.kept_world.specs.Events.{KeptPlayed, IsEvent}
use Rattle.kept_world.specs.Moves.{IsUp, IsDown, has_up, has_down}
use Rattle.kept_world.specs.Worlds.{KeptEditor, KeptWorld, running, editor_of, with_editor, with_seat}
use Rattle.daemon_world.specs.Order.{IsConnectedOn, IsApart, IsOrderly}
use Rattle.daemon_world.proofs.OrderLemmas.{editor_set, seat_set}

pub up_sits : (o : Option KeptEditor) → has_up o ≡ true → is_some o ≡ true
up_sits None up = cc
up_sits (Some x) up = refl

pub down_sits : (o : Option KeptEditor) → has_down o ≡ true → is_some o ≡ true
down_sits None down = cc
down_sits (Some x) down = refl

-- ---- to the daemon

-- something is under way from an editor that is there
pub up_some : (k : KeptWorld) (e : ℕ) (x : KeptEditor) → editor_of k e ≡ Some x → has_up (editor_of k e) ≡ true → x.seat.up ≡ [] → ⊥
up_some k e x at up none =
    let no : nat_lt 0 (length x.seat.up) ≡ true = ap has_up (sym at) ∙ up in
    let never : false ≡ true = ap (λ (bodies : List (List ℕ)). nat_lt 0 (length bodies)) (sym none) ∙ no in cc

-- so it is connected
pub up_connected : (k : KeptWorld) (owners : List ℕ) (e : ℕ) (x : KeptEditor) → IsOrderly k owners → editor_of k e ≡ Some x → has_up (editor_of k e) ≡ true
    → x.connection ≡ None → ⊥
up_connected k owners e x orderly at up off = up_some k e x at up (orderly.apart e x at off).up

-- its daemon runs, with another seat too
pub up_runs : (k : KeptWorld) (owners : List ℕ) (e n : ℕ) (x y : KeptEditor) → IsOrderly k owners → editor_of k e ≡ Some x → x.connection ≡ Some n
    → is_some (running (with_editor k e y) x.daemon) ≡ true
up_runs k owners e n x y orderly at on = (orderly.connected e n x at on).runs

pub taken_in_order : (k : KeptWorld) (owners : List ℕ) (e n : ℕ) (x y : KeptEditor) (s : Seat) → editor_of k e ≡ Some x → x.connection ≡ Some n
    → y ≡ record x { seat = s } → IsOrderly k owners → IsOrderly (with_editor k e y) owners
taken_in_order k owners e n x y s at on is orderly =
    subst (λ (z : KeptEditor). IsOrderly (with_editor k e z) owners) (sym is) (seat_set k owners e n x s at on orderly)

pub up_made : (k : KeptWorld) (e n : ℕ) (x y : KeptEditor) (body : List ℕ) (p : KeptPlayed) → editor_of k e ≡ Some x → x.connection ≡ Some n
    → x.seat.up ≡ body ∷ y.seat.up → y ≡ record x { seat = record x.seat { up = y.seat.up } }
    → IsEvent (with_editor k e y) x.daemon (EditorFrame n body) p → IsUp k e p
up_made k e n x y body p at on first is event = record {
  editor = x;
  there = at;
  number = n;
  connection = on;
  body = body;
  rest = y.seat.up;
  first = first;
  event = subst (λ (z : KeptEditor). IsEvent (with_editor k e z) x.daemon (EditorFrame n body) p) is event;
}

-- ---- to the editor

-- one to whom something comes is connected
pub delivered_in_order : (k : KeptWorld) (owners : List ℕ) (e : ℕ) (x y : KeptEditor) (note : HeardNote) → editor_of k e ≡ Some x
    → y ≡ record x { seat = y.seat } → IsDelivered x.seat note y.seat → IsOrderly k owners → IsOrderly (with_editor k e y) owners
delivered_in_order k owners e x y note at is delivered orderly =
    subst (λ (z : KeptEditor). IsOrderly (with_editor k e z) owners) (sym is) (by x.connection refl) where
      never : x.connection ≡ None → IsApart (record x { seat = y.seat })
      never off =
          let none : x.seat.down ≡ [] = (orderly.apart e x at off).down in
          let no : [] ≡ delivered.frame ∷ delivered.rest = sym none ∙ delivered.first in cc

      by : (c : Option ℕ) → x.connection ≡ c → IsOrderly (with_seat k e x y.seat) owners
      by (Some n) on = seat_set k owners e n x y.seat at on orderly
      by None off =
          editor_set k owners e (record x { seat = y.seat })
          (record { connected = λ n on. nothing n off on; apart = never }) orderly where
            nothing : (n : ℕ) → x.connection ≡ None → x.connection ≡ Some n → IsConnectedOn k owners e (record x { seat = y.seat }) n
            nothing n off on = let no : None ≡ Some n = sym off ∙ on in cc

pub down_made : (k : KeptWorld) (e : ℕ) (x y : KeptEditor) (note : HeardNote) (line : List ℕ) → editor_of k e ≡ Some x → y ≡ record x { seat = y.seat }
    → IsDelivered x.seat note y.seat → line ≡ note_line e note → IsDown k e (record { world = with_editor k e y; printed = line })
down_made k e x y note line at is delivered printed = record {
  editor = x;
  there = at;
  note = note;
  after = y.seat;
  delivered = delivered;
  is = λ i. record { world = with_editor k e (is i); printed = printed i };
}
