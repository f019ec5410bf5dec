-- What a frame is read as, and what comes to the client.
use Rattle.std.proofs.Common.{◌≡◌, ◌-◌, ◌^◌, ℕ, List, [], ◌∷◌, Option, append-nil, refl, sym, ap, ◌∙◌, subst}
use Rattle.std.specs.List.{concat}
use Rattle.rpc_frame.specs.Pieces.{HasRead}
use Rattle.rpc_frame.specs.Stream.{StreamEnd, Reads}
use Rattle.rpc_frame.specs.declared.faults.FrameFault.{FrameFault}
use Rattle.rpc_frame.proofs.OneReading.{one_reading}
use Rattle.rpc_message.specs.Replies.{IsReply}
use Rattle.rpc_message.specs.declared.messages.ToEditor.{ToEditor}
use Rattle.editor_client.specs.Editor.{Editor}
use Rattle.editor_client.specs.Hearing.{heard, note_of}
use Rattle.editor_client.specs.declared.notes.HeardNote.{HeardNote}
use Rattle.frame_world.specs.Seats.{Seat, IsDelivered}
use Rattle.editor_seat.specs.Delivering.{IsOneBody, IsFaultOfFrame, IsFaultOf}
use Rattle.editor_seat.specs.declared.faults.DeliverFault.{DeliverFault}
use Rattle.editor_seat.specs.declared.faults.DeliverFault.TheVariants.{NoFrame, NotOneBody, NoMessage, Memory}

-- a frame is one body at most
pub one_body : (frame body other : List ℕ) → IsOneBody frame body → IsOneBody frame other → body ≡ other
one_body frame body other one also =
    let same : body ∷ [] ≡ other ∷ [] = (one_reading (2 ^ 64 - 1) frame (body ∷ []) (other ∷ []) one.left also.left one.reads also.reads).0 in cc

-- the body that comes with a delivery
comes : (before : Seat) (note : HeardNote) (after : Seat) (frame : List ℕ) (rest : List (List ℕ)) → before.down ≡ frame ∷ rest → (d : IsDelivered before note after) → IsOneBody frame d.body
comes before note after frame rest first d =
    let same : d.frame ≡ frame = let e : d.frame ∷ d.rest ≡ frame ∷ rest = sym d.first ∙ first in cc in
    subst (λ f. IsOneBody f d.body) same (record { left = d.left; reads = d.reads })

-- nothing comes where a fault says why
pub not_delivered : (before : Seat) (fault : DeliverFault) → IsFaultOf before fault → (note : HeardNote) (after : Seat) → IsDelivered before note after → fault ≡ Memory
not_delivered before NoFrame none note after d = absurd (let e : [] ≡ d.frame ∷ d.rest = sym none ∙ d.first in cc)
not_delivered before NotOneBody why note after d = absurd (why.not_one d.body (comes before note after why.frame why.rest why.first d))
not_delivered before NoMessage why note after d =
    let same = one_body why.frame d.body why.body (comes before note after why.frame why.rest why.first d) why.one in
    absurd (why.no_message d.heard.message (subst (λ b. IsReply b d.heard.message) same d.heard.reply))
not_delivered before Memory why note after d = refl

-- what comes is what the client has heard
pub only_delivered : (before : Seat) (frame body : List ℕ) (rest : List (List ℕ)) (told : HeardNote) (client : Editor) → before.down ≡ frame ∷ rest → IsOneBody frame body
    → ((message : ToEditor) → IsReply body message → (told ≡ note_of message before.client) × (client ≡ heard message before.client))
    → (note : HeardNote) (after : Seat) → IsDelivered before note after
    → (told ≡ note) × (record { client = client; up = before.up; down = rest } ≡ after)
only_delivered before frame body rest told client first one hears note after d =
    let same_rest : rest ≡ d.rest = let e : frame ∷ rest ≡ d.frame ∷ d.rest = sym first ∙ d.first in cc in
    let same_body = one_body frame d.body body (comes before note after frame rest first d) one in
    let so = hears d.heard.message (subst (λ b. IsReply b d.heard.message) same_body d.heard.reply) in
    let client_is : client ≡ after.client = so.1 ∙ sym d.heard.left in
    let seat : Editor → List (List ℕ) → List (List ℕ) → Seat = λ c u w. record { client = c; up = u; down = w } in (
      so.0 ∙ sym d.heard.told,
      ap (λ c. seat c before.up rest) client_is ∙ ap (λ u. seat after.client u rest) (sym d.up)
          ∙ ap (seat after.client after.up) (same_rest ∙ sym d.down),
    )

-- why the first frame is no body is why it does not come
pub fault_of_first : (before : Seat) (frame : List ℕ) (rest : List (List ℕ)) (fault : DeliverFault) → before.down ≡ frame ∷ rest → IsFaultOfFrame frame fault → IsFaultOf before fault
fault_of_first before frame rest NotOneBody first why = record { frame = frame; rest = rest; first = first; not_one = why }
fault_of_first before frame rest Memory first why = tt
fault_of_first before frame rest NoFrame first why = absurd why
fault_of_first before frame rest NoMessage first why = absurd why

-- a frame that is read alone
alone : (frame : List ℕ) (pieces : List (List ℕ)) → pieces ≡ frame ∷ [] → concat pieces ≡ frame
alone frame pieces is = ap concat is ∙ append-nil frame

-- a frame that is one body has no other reading
pub no_other : (frame : List ℕ) (pieces bodies : List (List ℕ)) → pieces ≡ frame ∷ []
    → ((others : List (List ℕ)) (end : StreamEnd) → Reads (2 ^ 64 - 1) (concat pieces) others end → others ≡ bodies)
    → (body : List ℕ) → IsOneBody frame body → body ∷ [] ≡ bodies
no_other frame pieces bodies is only body one =
    only (body ∷ []) one.left (subst (λ s. Reads (2 ^ 64 - 1) s (body ∷ []) one.left) (sym (alone frame pieces is)) one.reads)

-- a frame of which one body was read is that body
pub one_read : (frame body : List ℕ) (pieces bodies : List (List ℕ)) (fault : Option FrameFault) → pieces ≡ frame ∷ [] → HasRead (2 ^ 64 - 1) (concat pieces) bodies fault
    → bodies ≡ body ∷ [] → IsOneBody frame body
one_read frame body pieces bodies fault is read so =
    record {
      left = read.end;
      reads = subst (λ (b : List (List ℕ)). Reads (2 ^ 64 - 1) frame b read.end) so (subst (λ s. Reads (2 ^ 64 - 1) s bodies read.end) (alone frame pieces is) read.reads);
    }
