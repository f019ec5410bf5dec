-- The bytes that are said to be written for a message are the compact text of its value.
use Rattle.std.proofs.Common.{◌≡◌, true, List, [], ◌∷◌, ◌++◌, refl, map, ap, ap₂, sym, append-nil, ◌∙◌, codes, decimal, pos, negsuc}
use Rattle.std.specs.List.{concat}
use Rattle.json.specs.Print.{quoted}
use Rattle.serde_json.proofs.OnLiterals.{serde_json_on_literals}
use Rattle.serde_json.specs.Written.{compact_text, items_text}
use Rattle.tt_base.specs.declared.edits.TextEdit.{TextEdit}
use Rattle.rpc_message.specs.Answers as answer
use Rattle.rpc_message.specs.Values as value
use Rattle.rpc_message.specs.Written as text
use Rattle.rpc_message.specs.declared.messages.MessageId.{MessageId}
use Rattle.rpc_message.specs.declared.messages.MessageId.TheVariants.{Words, Below, Number, Null}
use Rattle.rpc_message.specs.declared.messages.ToEditor.{ToEditor}
use Rattle.rpc_message.specs.declared.messages.ToEditor.TheVariants.{Success, Refused, Edit}
use Rattle.rpc_message.specs.declared.refusals.Refusal.{Refusal}
use Rattle.rpc_message.specs.declared.refusals.Refusal.TheVariants.{ParseError, InvalidRequest, UnknownMethod, BadParams, NotOpen, AlreadyOpen}
use Rattle.rpc_message.specs.declared.refusals.Refusal.TheVariants.{BadUri, BadPosition, BadRevision, TextTooLong, Clash, BackwardRange}

id_text : (i : MessageId) → compact_text (value.id i) ≡ text.id i
id_text (Words characters) = refl
id_text (Below (pos n)) = refl
id_text (Below (negsuc n)) = refl
id_text (Number n) = refl
id_text Null = refl

edit_text : (e : TextEdit) → compact_text (value.edit e) ≡ text.edit e
unfolding serde_json_on_literals
edit_text e = refl

later_edits : (es : List TextEdit) → items_text true (value.items_of (map value.edit es)) ≡ text.later_items (map text.edit es)
later_edits [] = refl
later_edits (e ∷ es) = ap₂ (λ first rest. 44 ∷ (first ++ rest)) (edit_text e) (later_edits es ∙ sym (append-nil _))

edits_text : (es : List TextEdit) → compact_text (value.array (map value.edit es)) ≡ text.array (map text.edit es)
edits_text [] = refl
edits_text (e ∷ es) = ap₂ (λ first rest. 91 ∷ (first ++ rest)) (edit_text e) (later_edits es ∙ sym (append-nil _))

error_text : (r : Refusal) → compact_text (answer.error r) ≡ text.error r
unfolding serde_json_on_literals
error_text ParseError = refl
error_text InvalidRequest = refl
error_text UnknownMethod = refl
error_text (BadParams m) = refl
error_text NotOpen = refl
error_text AlreadyOpen = refl
error_text (BadUri c) = refl
error_text (BadPosition edit) = refl
error_text (BadRevision confirmed issued seen) = refl
error_text (TextTooLong length) = refl
error_text (Clash given held) = refl
error_text (BackwardRange edit) = refl

pub value_text : (m : ToEditor) → compact_text (answer.value m) ≡ text.written m
unfolding serde_json_on_literals
value_text (Success i) = ap (λ id. concat (codes "{\"id\":" ∷ id ∷ codes ",\"jsonrpc\":\"2.0\",\"result\":\"success\"}" ∷ [])) (id_text i)
value_text (Refused i r) =
    ap₂ (λ error id. concat (codes "{\"error\":" ∷ error ∷ codes ",\"id\":" ∷ id ∷ codes ",\"jsonrpc\":\"2.0\"}" ∷ [])) (error_text r) (id_text i)
value_text (Edit uri revision es) =
    ap (λ delta. concat (
    codes "{\"jsonrpc\":\"2.0\",\"method\":\"edit\",\"params\":"
    ∷ concat (
    codes "{\"delta\":" ∷ delta ∷ codes ",\"revision\":" ∷ decimal revision
    ∷ codes ",\"uri\":" ∷ quoted uri ∷ codes "}" ∷ [])
    ∷ codes "}" ∷ [])) (edits_text es)
