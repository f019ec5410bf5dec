-- What a step of an editor leaves of its connection, and how much is under way.
use Rattle.std.proofs.Common.{◌≡◌, inl, inr, ℕ, suc, Bool, true, false, List, [], ◌∷◌, length, Option, Some, None, refl, sym, ap, ◌∙◌, subst}
use Rattle.std.specs.Option.{option_map}
use Rattle.std.proofs.lemmas.List.{length-map}
use Rattle.delta.specs.Cells.{Cells}
use Rattle.editor_bridge.specs.Link.{Link}
use Rattle.bridge_world.specs.Counted as N
use Rattle.bridge_world.specs.Counted.{Frame, Held, Sent, with_one_shown}
use Rattle.bridge_world.specs.Facts.{HasFailed}
use Rattle.bridge_world.specs.Plain.{State, Kind, Opening, Open, Closed, OpenDone, Done, Failed, New, Old, is_closed}
use Rattle.bridge_world.specs.Tie.{Place, place, after, reached, Aims, client_of, Good}
use Rattle.rpc_message.specs.declared.messages.ToEditor.{ToEditor}
use Rattle.editor_client.specs.Editor as client
use Rattle.editor_client.specs.declared.states.ClientState.{ClientState}
use Rattle.editor_client.specs.declared.states.ClientState.TheVariants as client_state
use Rattle.frame_world.specs.Seats.{Seat}
use Rattle.frame_world.specs.Serving.{link_held}
use Rattle.frame_world.specs.Tie.{Ids, AreBodies, AreSaid, frame_of, state_of, IsTied}
use Rattle.kept_world.specs.Tie.{IsApart, ConnectedAs}
use Rattle.kept_world.specs.Worlds.{KeptEditor, KeptWorld}

-- The link of an editor as its daemon has it.

abbrev pub link_there : N.Editor → Option Link
link_there e = option_map link_held e.link

pub typed_link : (closed : Bool) (p : Cells) (e : N.Editor) → link_there (N.typed_where closed p e) ≡ link_there e
typed_link true p e = refl
typed_link false p e = refl

shown_link : (b : Bool) (d : Cells) (e : N.Editor) → link_there (N.shown_if b d e) ≡ link_there e
shown_link false d e = refl
shown_link true d e = by e.link where
  by : (link : Option Held) → option_map link_held (option_map with_one_shown link) ≡ option_map link_held link
  by None = refl
  by (Some h) = refl

heard_link : (k : Kind) (state : State) (present : Bool) (f : Frame) (e : N.Editor) → link_there (N.heard k state present f e) ≡ link_there e
heard_link New Open present f e = shown_link _ f.delta e
heard_link New Opening present f e = refl
heard_link New Closed present f e = refl
heard_link Old Open present f e = shown_link _ f.delta e
heard_link Old Opening present f e = refl
heard_link Old Closed present f e = refl
heard_link OpenDone Opening true f e = refl
heard_link OpenDone Opening false f e = refl
heard_link OpenDone Open present f e = refl
heard_link OpenDone Closed present f e = refl
heard_link Done state present f e = refl
heard_link (Failed cause) state true f e = refl
heard_link (Failed cause) state false f e = refl

pub delivered_link : (e : N.Editor) → link_there (N.delivered e) ≡ link_there e
delivered_link e = by e.wire where
  by : (wire : List Frame) → link_there (N.delivered_first wire (record e { wire = wire })) ≡ link_there e
  by [] = refl
  by (f ∷ wire) = heard_link f.mark.kind e.state _ f (record e { wire = wire })

-- an editor whose link is as it was is connected as it was
pub connected_next : (k : KeptWorld) (x : KeptEditor) (s : Seat) (e f : N.Editor) (c : Option ℕ) → link_there f ≡ link_there e
    → (c ≡ None → IsApart x e → IsApart (record x { seat = s }) f) → ConnectedAs k x e c → ConnectedAs k (record x { seat = s }) f c
connected_next k x s e f None same apart at = apart refl at
connected_next k x s e f (Some n) same apart at = record {
  host = at.host;
  runs = at.runs;
  at = record { links = at.at.links; once = at.at.once; link = at.at.link ∙ sym same; others = at.at.others };
  own = at.own;
  below = at.below;
}

-- an editor without a connection has closed its text
pub closed_apart : (view : List ℕ) (x : KeptEditor) (e : N.Editor) → Good view e → IsApart x e → is_closed e.state ≡ true
closed_apart view x e good apart = by (is_closed e.state) good.aims where
  target : (reached e.sent (place good.low e.link)).stand ≡ None
  target =
      ap (λ (sent : List Sent). (reached sent (place good.low e.link)).stand) apart.sent
      ∙ ap (λ (link : Option Held). (place good.low link).stand) apart.link

  never : HasFailed e.session (N.marks e.wire) → ⊥
  never failed = subst (λ (wire : List Frame). HasFailed e.session (N.marks wire)) apart.wire failed

  by : (b : Bool) → Aims b (reached e.sent (place good.low e.link)).stand e.link good.low e.session (client_of e) (N.marks e.wire) → b ≡ true
  by true aims = refl
  by false aims = elim aims [
    | inl ahead ↦ let both : None ≡ Some (client_of e) = sym target ∙ ahead.meets in cc
    | inr given_up ↦ absurd (never given_up.failed)
  ]

-- How much is under way.

said_length : (uri : List ℕ) (ids : Ids) (wire : List Frame) (ms : List ToEditor) → AreSaid uri ids wire ms → length ms ≡ length wire
said_length uri ids [] [] said = refl
said_length uri ids (f ∷ wire) (m ∷ ms) said = ap (λ n. suc n) (said_length uri ids wire ms said.1)
said_length uri ids [] (m ∷ ms) said = absurd said
said_length uri ids (f ∷ wire) [] said = absurd said

bodies_length : (uri : List ℕ) (ids : Ids) (sent : List Sent) (up : List (List ℕ)) (a : Place) → AreBodies uri ids a sent up → length up ≡ length sent
bodies_length uri ids [] [] a are = refl
bodies_length uri ids (m ∷ sent) (body ∷ up) a are = ap (λ n. suc n) (bodies_length uri ids sent up (after m a) are.1)
bodies_length uri ids [] (body ∷ up) a are = absurd are
bodies_length uri ids (m ∷ sent) [] a are = absurd are

pub up_length : (uri : List ℕ) (x : Seat) (e : N.Editor) → IsTied uri x e → length x.up ≡ length (N.plain_of e).sent
up_length uri x e tied = bodies_length uri _ e.sent x.up _ tied.tied.up ∙ sym (length-map e.sent N.plain_sent)

pub down_length : (uri : List ℕ) (x : Seat) (e : N.Editor) → IsTied uri x e → length x.down ≡ length (N.plain_of e).wire
down_length uri x e tied =
    ap length tied.tied.frames ∙ length-map tied.messages frame_of ∙ said_length uri _ e.wire tied.messages tied.tied.down
    ∙ sym (length-map e.wire (λ (f : Frame). f.mark))

-- The state of the text.

pub closed_alike : (state : ClientState) → client.is_closed state ≡ is_closed (state_of state)
closed_alike client_state.Opening = refl
closed_alike client_state.Open = refl
closed_alike client_state.Closed = refl

pub is_closed_alike : (uri : List ℕ) (x : Seat) (e : N.Editor) → IsTied uri x e → client.is_closed x.client.state ≡ is_closed e.state
is_closed_alike uri x e tied = closed_alike x.client.state ∙ ap is_closed tied.tied.state
