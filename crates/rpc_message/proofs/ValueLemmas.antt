-- No message's value has a float, and none nests deeply.
use Rattle.std.proofs.Common.{◌≡◌, ℕ, ◌≤◌, ◌||◌, false, List, [], ◌∷◌, refl, map, ap₂, arith, pos, negsuc}
use Rattle.serde_json.specs.Data.{depth, items_depth}
use Rattle.serde_json.specs.Read.{max_depth}
use Rattle.serde_json.specs.Written.{has_float, items_have_float}
use Rattle.tt_base.specs.declared.edits.TextEdit.{TextEdit}
use Rattle.tt_base.specs.declared.edits.TextRange.{TextRange}
use Rattle.rpc_message.specs.Answers.{error, value}
use Rattle.rpc_message.specs.Requests.{request}
use Rattle.rpc_message.specs.Values.{id, edit, range, items_of}
use Rattle.rpc_message.specs.declared.messages.FromEditor.{FromEditor}
use Rattle.rpc_message.specs.declared.messages.FromEditor.TheVariants as asks
use Rattle.rpc_message.specs.declared.messages.MessageId.{MessageId}
use Rattle.rpc_message.specs.declared.messages.MessageId.TheVariants.{Words, Below, Number, Null}
use Rattle.rpc_message.specs.declared.messages.ToEditor.{ToEditor}
use Rattle.rpc_message.specs.declared.messages.ToEditor.TheVariants.{Success, Refused, Edit}
use Rattle.rpc_message.specs.declared.refusals.Refusal.{Refusal}
use Rattle.rpc_message.specs.declared.refusals.Refusal.TheVariants.{ParseError, InvalidRequest, UnknownMethod, BadParams, NotOpen, AlreadyOpen}
use Rattle.rpc_message.specs.declared.refusals.Refusal.TheVariants.{BadUri, BadPosition, BadRevision, TextTooLong, Clash, BackwardRange}

-- ---- no floats

id_float : (i : MessageId) → has_float (id i) ≡ false
id_float (Words characters) = refl
id_float (Below (pos n)) = refl
id_float (Below (negsuc n)) = refl
id_float (Number n) = refl
id_float Null = refl

error_float : (r : Refusal) → has_float (error r) ≡ false
error_float ParseError = refl
error_float InvalidRequest = refl
error_float UnknownMethod = refl
error_float (BadParams m) = refl
error_float NotOpen = refl
error_float AlreadyOpen = refl
error_float (BadUri c) = refl
error_float (BadPosition edit) = refl
error_float (BadRevision confirmed issued seen) = refl
error_float (TextTooLong length) = refl
error_float (Clash given held) = refl
error_float (BackwardRange edit) = refl

edits_float : (es : List TextEdit) → items_have_float (items_of (map edit es)) ≡ false
edits_float [] = refl
edits_float (e ∷ es) = edits_float es

ranges_float : (rs : List TextRange) → items_have_float (items_of (map range rs)) ≡ false
ranges_float [] = refl
ranges_float (r ∷ rs) = ranges_float rs

pub value_float : (m : ToEditor) → has_float (value m) ≡ false
value_float (Success i) = rw (id_float i) refl
value_float (Refused i r) = ap₂ (λ error id. error || (id || false)) (error_float r) (id_float i)
value_float (Edit uri revision es) = rw (edits_float es) refl

pub request_float : (i : ℕ) (m : FromEditor) → has_float (request i m) ≡ false
request_float i (asks.Open uri content) = refl
request_float i (asks.Close uri) = refl
request_float i (asks.Edit uri revision es) = rw (edits_float es) refl
request_float i (asks.Cursor uri rs) = rw (ranges_float rs) refl
request_float i asks.Shutdown = refl
request_float i asks.Response = refl

-- ---- depths

id_depth : (i : MessageId) → depth (id i) ≡ 0
id_depth (Words characters) = refl
id_depth (Below (pos n)) = refl
id_depth (Below (negsuc n)) = refl
id_depth (Number n) = refl
id_depth Null = refl

error_depth : (r : Refusal) → depth (error r) ≤ 2
error_depth ParseError = omega arith
error_depth InvalidRequest = omega arith
error_depth UnknownMethod = omega arith
error_depth (BadParams m) = omega arith
error_depth NotOpen = omega arith
error_depth AlreadyOpen = omega arith
error_depth (BadUri c) = omega arith
error_depth (BadPosition edit) = omega arith
error_depth (BadRevision confirmed issued seen) = omega arith
error_depth (TextTooLong length) = omega arith
error_depth (Clash given held) = omega arith
error_depth (BackwardRange edit) = omega arith

edits_depth : (es : List TextEdit) → items_depth (items_of (map edit es)) ≤ 3
edits_depth [] = omega arith
edits_depth (e ∷ es) = omega (arith, edits_depth es)

ranges_depth : (rs : List TextRange) → items_depth (items_of (map range rs)) ≤ 2
ranges_depth [] = omega arith
ranges_depth (r ∷ rs) = omega (arith, ranges_depth rs)

pub value_depth : (m : ToEditor) → depth (value m) ≤ max_depth
value_depth (Success i) = omega (arith, id_depth i)
value_depth (Refused i r) = omega (arith, id_depth i, error_depth r)
value_depth (Edit uri revision es) = omega (arith, edits_depth es)

pub request_depth : (i : ℕ) (m : FromEditor) → depth (request i m) ≤ max_depth
request_depth i (asks.Open uri content) = omega arith
request_depth i (asks.Close uri) = omega arith
request_depth i (asks.Edit uri revision es) = omega (arith, edits_depth es)
request_depth i (asks.Cursor uri rs) = omega (arith, ranges_depth rs)
request_depth i asks.Shutdown = omega arith
request_depth i asks.Response = omega arith
