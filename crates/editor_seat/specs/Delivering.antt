-- Why the first frame under way to an editor does not come to it. The project's own; frames are those of the base protocol of the
-- Language Server Protocol.
use Rattle.std.specs.Prelude.{◌≡◌, ℕ, ◌-◌, ◌^◌, List, [], ◌∷◌}
use Rattle.rpc_frame.specs.Stream.{StreamEnd, Reads}
use Rattle.rpc_message.specs.Replies.{IsReply}
use Rattle.rpc_message.specs.declared.messages.ToEditor.{ToEditor}
use Rattle.frame_world.specs.Seats.{Seat}
use Rattle.editor_seat.specs.declared.faults.DeliverFault.{DeliverFault}
use Rattle.editor_seat.specs.declared.faults.DeliverFault.TheVariants.{NoFrame, NotOneBody, NoMessage, Memory}

-- a frame is read as just this body
pub record IsOneBody (frame body : List ℕ) : Type 0 where
  pub left : StreamEnd
  pub reads : Reads (2 ^ 64 - 1) frame (body ∷ []) left

-- a frame is not read as one body
abbrev pub IsNoBody : List ℕ → Type 0
IsNoBody frame = (body : List ℕ) → IsOneBody frame body → ⊥

-- a body is no message to an editor
abbrev pub IsNoMessage : List ℕ → Type 0
IsNoMessage body = (message : ToEditor) → IsReply body message → ⊥

-- why a frame is not read as one body
abbrev pub IsFaultOfFrame : List ℕ → DeliverFault → Type 0
IsFaultOfFrame frame NotOneBody = IsNoBody frame
IsFaultOfFrame frame Memory = Unit {0}
IsFaultOfFrame frame NoFrame = ⊥
IsFaultOfFrame frame NoMessage = ⊥

-- the first frame under way is no body
pub record BeginsWithNoBody (down : List (List ℕ)) : Type 0 where
  pub frame : List ℕ
  pub rest : List (List ℕ)
  pub first : down ≡ frame ∷ rest
  pub not_one : IsNoBody frame

-- the first frame under way is a body that is no message
pub record BeginsWithNoMessage (down : List (List ℕ)) : Type 0 where
  pub frame : List ℕ
  pub rest : List (List ℕ)
  pub first : down ≡ frame ∷ rest
  pub body : List ℕ
  pub one : IsOneBody frame body
  pub no_message : IsNoMessage body

-- what a fault says of what is under way to an editor
abbrev pub IsFaultOf : Seat → DeliverFault → Type 0
IsFaultOf seat NoFrame = seat.down ≡ []
IsFaultOf seat NotOneBody = BeginsWithNoBody seat.down
IsFaultOf seat NoMessage = BeginsWithNoMessage seat.down
IsFaultOf seat Memory = Unit {0}
