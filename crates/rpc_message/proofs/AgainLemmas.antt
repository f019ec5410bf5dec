-- Reading the value of a message gives that message.
use Rattle.std.proofs.Common.{◌≡◌, ℕ, pos, negsuc, false, List, [], ◌∷◌, Option, Some, Ok, refl, map, option_map, ap, ap₂, sym, ◌∙◌, arith, ltb-true}
use Rattle.std.specs.List.{AllByRecursion}
use Rattle.std.specs.Result.{result_ok}
use Rattle.hex.proofs.HexLemmas.{decode_of-encode_lower}
use Rattle.hex.specs.Hex.{IsBytes, encode_lower}
use Rattle.serde_json.specs.Data.{Data}
use Rattle.tt_base.specs.declared.edits.TextEdit.{TextEdit}
use Rattle.tt_base.specs.declared.edits.TextRange.{TextRange}
use Rattle.rpc_message.specs.Answers.{error, value}
use Rattle.rpc_message.specs.Candidates.{refusal, candidate}
use Rattle.rpc_message.specs.Characters.{HasCharacters}
use Rattle.rpc_message.specs.Forms.{◌>>=◌, items, decoded}
use Rattle.rpc_message.specs.Forms as form
use Rattle.rpc_message.specs.Ids.{IsId}
use Rattle.rpc_message.specs.Messages.{id_form, message_in}
use Rattle.rpc_message.specs.Replies.{IsEdit, IsRefusal, IsToEditor}
use Rattle.rpc_message.specs.Requests.{request, is_response}
use Rattle.rpc_message.specs.Values.{id, edit, range, items_of}
use Rattle.rpc_message.proofs.CharacterLemmas.{characters_again}
use Rattle.rpc_message.specs.declared.causes.UriCause.TheVariants.{NotAUri, NotFile, HasHost, OutsideBase, NotUtf8, TooLong, NulByte, Absolute, Empty, DotPart, Reserved, TooDeep}
use Rattle.rpc_message.specs.declared.members.Member.TheVariants.{Params, Uri, Content, Revision, Delta, Ranges}
use Rattle.rpc_message.specs.declared.messages.FromEditor.{FromEditor}
use Rattle.rpc_message.specs.declared.messages.FromEditor.TheVariants as asks
use Rattle.rpc_message.specs.declared.messages.MessageId.{MessageId}
use Rattle.rpc_message.specs.declared.messages.MessageId.TheVariants.{Words, Below, Number, Null}
use Rattle.rpc_message.specs.declared.messages.ToEditor.{ToEditor}
use Rattle.rpc_message.specs.declared.messages.ToEditor.TheVariants.{Success, Refused, Edit}
use Rattle.rpc_message.specs.declared.refusals.Refusal.{Refusal}
use Rattle.rpc_message.specs.declared.refusals.Refusal.TheVariants.{ParseError, InvalidRequest, UnknownMethod, BadParams, NotOpen, AlreadyOpen}
use Rattle.rpc_message.specs.declared.refusals.Refusal.TheVariants.{BadUri, BadPosition, BadRevision, TextTooLong, Clash, BackwardRange}

id_again : (i : MessageId) → IsId i → id_form (id i) ≡ Some i
id_again (Words cs) is = ap (option_map Words) (characters_again cs is)
id_again (Below (pos n)) is = absurd (omega (arith, ltb-true n 0 is))
id_again (Below (negsuc n)) is = refl
id_again (Number n) is = refl
id_again Null is = refl

bytes_again : (bs : List ℕ) → IsBytes bs → decoded (encode_lower bs) ≡ Some bs
bytes_again bs is = ap result_ok (decode_of-encode_lower bs is)

refusal_again : (r : Refusal) → IsRefusal r → refusal (error r) ≡ Some r
refusal_again ParseError is = refl
refusal_again InvalidRequest is = refl
refusal_again UnknownMethod is = refl
refusal_again (BadParams Params) is = refl
refusal_again (BadParams Uri) is = refl
refusal_again (BadParams Content) is = refl
refusal_again (BadParams Revision) is = refl
refusal_again (BadParams Delta) is = refl
refusal_again (BadParams Ranges) is = refl
refusal_again NotOpen is = refl
refusal_again AlreadyOpen is = refl
refusal_again (BadUri NotAUri) is = refl
refusal_again (BadUri NotFile) is = refl
refusal_again (BadUri HasHost) is = refl
refusal_again (BadUri OutsideBase) is = refl
refusal_again (BadUri NotUtf8) is = refl
refusal_again (BadUri TooLong) is = refl
refusal_again (BadUri NulByte) is = refl
refusal_again (BadUri Absolute) is = refl
refusal_again (BadUri Empty) is = refl
refusal_again (BadUri DotPart) is = refl
refusal_again (BadUri Reserved) is = refl
refusal_again (BadUri TooDeep) is = refl
refusal_again (BadPosition edit) is = refl
refusal_again (BadRevision confirmed issued seen) is = refl
refusal_again (TextTooLong length) is = refl
refusal_again (Clash given held) is = rw (bytes_again given is.0, bytes_again held is.1) refl
refusal_again (BackwardRange edit) is = refl

edit_again : (e : TextEdit) → IsEdit e → form.edit (edit e) ≡ Some e
edit_again e is = ap (λ found. found >>= λ t. Some (record e { replacement = t })) (characters_again e.replacement is)

edits_again : (es : List TextEdit) → AllByRecursion IsEdit es → items form.edit (items_of (map edit es)) ≡ Some es
edits_again [] is = refl
edits_again (e ∷ es) is =
    ap₂ (λ one others. one >>= λ first. others >>= λ rest. Some (first ∷ rest)) (edit_again e is.0) (edits_again es is.1)

ranges_again : (rs : List TextRange) → items form.range (items_of (map range rs)) ≡ Some rs
ranges_again [] = refl
ranges_again (r ∷ rs) = ap (λ others. others >>= λ rest. Some (r ∷ rest)) (ranges_again rs)

-- the candidate for the value of a message is that message
pub candidate_again : (m : ToEditor) → IsToEditor m → candidate (value m) ≡ Some m
candidate_again (Success i) is = rw (id_again i is) refl
candidate_again (Refused i r) is = rw (id_again i is.0, refusal_again r is.1) refl
candidate_again (Edit uri revision es) is = rw (edits_again es is) refl

-- the value of a request is read as that request
pub request_again : (i : ℕ) (m : FromEditor) → is_response m ≡ false → HasCharacters m → message_in (Some (request i m)) ≡ Ok (record { id = Some (Number i); message = m })
request_again i (asks.Open uri content) asked is = rw (characters_again content is) refl
request_again i (asks.Close uri) asked is = refl
request_again i (asks.Edit uri revision es) asked is = rw (edits_again es is) refl
request_again i (asks.Cursor uri rs) asked is = rw (ranges_again rs) refl
request_again i asks.Shutdown asked is = refl
request_again i asks.Response asked is = cc

pub some_is : {T : Type 0} (o : Option T) (x y : T) → o ≡ Some x → o ≡ Some y → x ≡ y
some_is o x y e f = let both : Some x ≡ Some y = sym e ∙ f in cc

-- a body that is a message has that message as its candidate
pub candidate_is : (o : Option Data) (d : Data) (m : ToEditor) → o ≡ Some d → IsToEditor m → o ≡ Some (value m) → candidate d ≡ Some m
candidate_is o d m e is f = ap candidate (some_is o d (value m) e f) ∙ candidate_again m is
