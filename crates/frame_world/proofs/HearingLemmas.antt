-- What a client makes of a message, by what is known of its id or its edits.
use Rattle.std.proofs.Common.{◌≡◌, ◌≢◌, ℕ, ◌+◌, ◌<◌, ◌≤◌, ◌==◌, ◌&&◌, ◌^◌, ◌-◌}
use Rattle.std.proofs.Common.{Bool, true, false, List, [], ◌∷◌, ◌++◌, length, Option, Some, None, refl, sym, ap, ◌∙◌, subst, arith, nat_le, eq-eqb, le-leb, ne_eqb, append-nil, append_assoc, codes, decimal}
use Rattle.std.specs.Prelude.{if◌then◌else◌}
use Rattle.std.specs.Str.{bytes_eq}
use Rattle.std.proofs.lemmas.Bool.{lt-leb}
use Rattle.delta.specs.Cells.{Cells, applied, base_length, IsNormal}
use Rattle.text_position.specs.Changes.{edits_of}
use Rattle.text_position.specs.Edits.{delta_of_edits}
use Rattle.tt_base.specs.declared.edits.TextEdit.{TextEdit}
use Rattle.rpc_frame.specs.Stream.{StreamEnd, Begun, Reads}
use Rattle.rpc_frame.specs.Written.{frame_bytes}
use Rattle.rpc_frame.proofs.HeldLemmas.{nothing_begun}
use Rattle.rpc_frame.proofs.OneReading.{one_reading}
use Rattle.rpc_frame.proofs.Readings.{reads_none, reads_behind}
use Rattle.rpc_frame.proofs.WrittenLemmas.{written_frame}
use Rattle.rpc_message.specs.Answers.{value}
use Rattle.rpc_message.specs.Candidates.{candidate}
use Rattle.rpc_message.specs.Codes.{code, signed_code}
use Rattle.rpc_message.specs.Json.{json_of}
use Rattle.rpc_message.specs.Replies.{IsReply}
use Rattle.rpc_message.specs.declared.messages.MessageId.TheVariants.{Number}
use Rattle.rpc_message.specs.declared.messages.ToEditor.{ToEditor}
use Rattle.rpc_message.specs.declared.messages.ToEditor.TheVariants.{Edit}
use Rattle.rpc_message.specs.declared.refusals.Refusal.{Refusal}
use Rattle.rpc_message.specs.declared.refusals.Refusal.TheVariants.{ParseError, InvalidRequest, UnknownMethod, BadParams, NotOpen, AlreadyOpen}
use Rattle.rpc_message.specs.declared.refusals.Refusal.TheVariants.{BadUri, BadPosition, BadRevision, TextTooLong, Clash, BackwardRange}
use Rattle.rpc_message.proofs.AgainLemmas.{some_is, candidate_is}
use Rattle.editor_client.specs.Editor.{Editor}
use Rattle.editor_client.specs.Hearing.{if_fitting, to_show, with_shown, note_of_shown, is_last_open, is_of_session, admitted, with_success, with_refusal, heard}
use Rattle.editor_client.specs.declared.notes.HeardNote.TheVariants.{RefusedBy, Replied, Other}
use Rattle.editor_client.specs.declared.states.ClientState.TheVariants.{Open, Closed}
use Rattle.editor_client.proofs.HearingLemmas.{written_is_shown}
use Rattle.plain_world.specs.Handling.{cause_of}
use Rattle.plain_world.specs.Lines.{refused_line}
use Rattle.frame_world.specs.Lines.{note_line}

-- ---- frames and messages

-- the frame of a body is read as that body
read_alone : (body : List ℕ) → length body < 2 ^ 64 → Reads (2 ^ 64 - 1) (frame_bytes body) (body ∷ []) (Begun [])
read_alone body small =
    let limit : ℕ = 2 ^ 64 - 1 in
    subst (λ s. Reads limit s (body ∷ []) (Begun [])) (append-nil (frame_bytes body))
    (reads_behind limit body (frame_bytes body) [] [] (Begun []) (written_frame limit body (omega (arith, small)) small)
    (reads_none limit [] (nothing_begun limit)))

-- and as no other
pub one_body : (a b : List ℕ) (left : StreamEnd) → length b < 2 ^ 64 → Reads (2 ^ 64 - 1) (frame_bytes b) (a ∷ []) left → a ≡ b
one_body a b left small reads =
    let same : a ∷ [] ≡ b ∷ [] = (one_reading (2 ^ 64 - 1) (frame_bytes b) (a ∷ []) (b ∷ []) left (Begun []) reads (read_alone b small)).0 in
    cc

-- a body is one message at most
pub one_message : (body : List ℕ) (m k : ToEditor) → IsReply body m → IsReply body k → m ≡ k
one_message body m k r s =
    some_is (candidate (value m)) m k (candidate_is (json_of body) (value m) m r.value_is r.is_message r.value_is)
    (candidate_is (json_of body) (value m) k r.value_is s.is_message s.value_is)

-- ---- answers

-- a success of the last open, and of any other request
pub success_of_last : (id opening : ℕ) (c : Editor) → c.last_open ≡ Some opening → id ≡ opening
    → with_success (Number id) c ≡ record c { state = admitted c.state }
success_of_last id opening c last is =
    ap (λ o. if is_last_open (Number id) o then record c { state = admitted c.state } else c) last
    ∙ ap (λ b. if b then record c { state = admitted c.state } else c) (eq-eqb id opening is)

pub success_of_other : (id opening : ℕ) (c : Editor) → c.last_open ≡ Some opening → id ≢ opening → with_success (Number id) c ≡ c
success_of_other id opening c last other =
    ap (λ o. if is_last_open (Number id) o then record c { state = admitted c.state } else c) last
    ∙ ap (λ b. if b then record c { state = admitted c.state } else c) (ne_eqb id opening other)

-- a refusal of a request of the session, and of an older one
pub refusal_of_session : (id opening : ℕ) (c : Editor) → c.last_open ≡ Some opening → opening ≤ id → id ≤ c.requests
    → with_refusal (Number id) c ≡ record c { state = Closed }
refusal_of_session id opening c last from to =
    ap (λ o. if is_of_session (Number id) o c.requests then record c { state = Closed } else c) last
    ∙ ap (λ b. if b && nat_le id c.requests then record c { state = Closed } else c) (le-leb opening id from)
    ∙ ap (λ b. if b then record c { state = Closed } else c) (le-leb id c.requests to)

pub refusal_of_older : (id opening : ℕ) (c : Editor) → c.last_open ≡ Some opening → id < opening → with_refusal (Number id) c ≡ c
refusal_of_older id opening c last older =
    ap (λ o. if is_of_session (Number id) o c.requests then record c { state = Closed } else c) last
    ∙ ap (λ b. if b && nat_le id c.requests then record c { state = Closed } else c) (lt-leb opening id older)

-- ---- edits

-- an edit of another number than the editor's own is passed over
pub other_number : (uri : List ℕ) (revision : ℕ) (edits : List TextEdit) (c : Editor) → (revision == c.own) ≡ false
    → heard (Edit uri revision edits) (record c { state = Open }) ≡ record c { state = Open }
other_number uri revision edits c other =
    let o : Editor = record c { state = Open } in
    ap (λ b. with_shown (if b && bytes_eq uri c.uri then if_fitting (delta_of_edits c.text edits) else None) o) other

-- a delta that is written on the text of an open editor, with its own number, is shown
pub own_number : (uri : List ℕ) (revision : ℕ) (d : Cells) (c : Editor) → uri ≡ c.uri → revision ≡ c.own → IsNormal d → base_length d ≡ length c.text
    → heard (Edit uri revision (edits_of c.text d)) (record c { state = Open }) ≡ record c { state = Open; text = applied d c.text; shown = c.shown + 1 }
own_number uri revision d c uri_is same normal long =
    let o : Editor = record c { state = Open } in
    ap (λ u. with_shown (to_show u revision (edits_of c.text d) o) o) uri_is
    ∙ ap (λ r. with_shown (to_show c.uri r (edits_of c.text d) o) o) same
    ∙ ap (λ s. with_shown s o) (written_is_shown o d refl normal long)

-- ---- lines

pub success_prints_nothing : (n : ℕ) (b : Bool) → note_line n (if b then Replied else Other) ≡ []
success_prints_nothing n true = refl
success_prints_nothing n false = refl

pub edit_prints_nothing : (n : ℕ) (o : Option Cells) → note_line n (note_of_shown o) ≡ []
edit_prints_nothing n None = refl
edit_prints_nothing n (Some d) = refl

-- the sign stands with the digits or before them
sign_before : (front digits behind : List ℕ) → ((front ++ 32 ∷ []) ++ 45 ∷ digits) ++ behind ≡ ((front ++ 32 ∷ 45 ∷ []) ++ digits) ++ behind
sign_before front digits behind =
    ap (λ l. l ++ behind) (append_assoc front (32 ∷ []) (45 ∷ digits) ∙ sym (append_assoc front (32 ∷ 45 ∷ []) digits))

signed_line : (n : ℕ) (r : Refusal) → ((codes "refused " ++ decimal n ++ 32 ∷ []) ++ 45 ∷ decimal (code r)) ++ codes "\n"
    ≡ ((codes "refused " ++ decimal n ++ 32 ∷ 45 ∷ []) ++ decimal (code r)) ++ codes "\n"
signed_line n r = sign_before (codes "refused " ++ decimal n) (decimal (code r)) (codes "\n")

pub refusal_is_printed : (n : ℕ) (r : Refusal) → note_line n (RefusedBy (signed_code r)) ≡ refused_line n (cause_of r)
refusal_is_printed n ParseError = signed_line n ParseError
refusal_is_printed n InvalidRequest = signed_line n InvalidRequest
refusal_is_printed n UnknownMethod = signed_line n UnknownMethod
refusal_is_printed n (BadParams m) = signed_line n (BadParams m)
refusal_is_printed n NotOpen = signed_line n NotOpen
refusal_is_printed n AlreadyOpen = signed_line n AlreadyOpen
refusal_is_printed n (BadUri c) = signed_line n (BadUri c)
refusal_is_printed n (BadPosition edit) = signed_line n (BadPosition edit)
refusal_is_printed n (BadRevision confirmed issued seen) = signed_line n (BadRevision confirmed issued seen)
refusal_is_printed n (TextTooLong size) = signed_line n (TextTooLong size)
refusal_is_printed n (Clash given held) = signed_line n (Clash given held)
refusal_is_printed n (BackwardRange edit) = signed_line n (BackwardRange edit)
