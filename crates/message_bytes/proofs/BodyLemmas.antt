-- The bytes of a message are read as that message.
use Rattle.std.proofs.Common.{◌≡◌, ℕ, zero, suc, ◌^◌, ◌<◌, ◌/◌, ◌%◌, pos, negsuc, true, false, List, [], ◌∷◌, Some, Ok, refl, map, sym, ap, ◌∙◌, arith, codes, ltb-true}
use Rattle.std.specs.Prelude.{IsUtf8, IsAscii, slice_index}
use Rattle.std.specs.List.{AllByRecursion}
use Rattle.std.specs.Str.{all_scalars}
use Rattle.std.proofs.lemmas.Bool.{and_parts}
use Rattle.std.proofs.lemmas.Str.{IsUtf8-from_ascii}
use Rattle.json.proofs.Printed.Utf8.{are_ascii, IsUtf8-are_ascii}
use Rattle.hex.specs.Hex.{encode_lower, encode_with, lower_digits}
use Rattle.serde_json.specs.Data.{Data, object, number, string, negative}
use Rattle.serde_json.specs.Written.{compact_text}
use Rattle.tt_base.specs.declared.edits.Position.{Position}
use Rattle.tt_base.specs.declared.edits.TextEdit.{TextEdit}
use Rattle.tt_base.specs.declared.edits.TextRange.{TextRange}
use Rattle.rpc_message.specs.Answers.{error, value}
use Rattle.rpc_message.specs.Causes as cause
use Rattle.rpc_message.specs.Characters.{HasCharacters}
use Rattle.message_bytes.specs.Fitting.{IsCount, IsPosition, IsRange, IsTextEdit, IsIdFitting, IsRefusalFitting, IsAnswerFitting, IsRequestFitting}
use Rattle.rpc_message.specs.Ids.{IsId}
use Rattle.rpc_message.specs.Json.{json_of}
use Rattle.rpc_message.specs.Members as member
use Rattle.rpc_message.specs.Messages.{message_of, message_in}
use Rattle.rpc_message.specs.Replies.{IsEdit, IsRefusal, IsToEditor, IsReply}
use Rattle.rpc_message.specs.Requests.{request, is_response}
use Rattle.rpc_message.specs.Values.{members_of, items_of, whole, text, bytes, id, position, range, edit, edit_params, version}
use Rattle.rpc_message.specs.Written.{written}
use Rattle.rpc_message.specs.declared.causes.UriCause.{UriCause}
use Rattle.rpc_message.specs.declared.causes.UriCause.TheVariants.{NotAUri, NotFile, HasHost, OutsideBase, NotUtf8, TooLong, NulByte, Absolute, Empty, DotPart, Reserved, TooDeep}
use Rattle.rpc_message.specs.declared.members.Member.{Member}
use Rattle.rpc_message.specs.declared.members.Member.TheVariants.{Params, Uri, Content, Revision, Delta, Ranges}
use Rattle.rpc_message.specs.declared.messages.FromEditor.{FromEditor}
use Rattle.rpc_message.specs.declared.messages.FromEditor.TheVariants as asks
use Rattle.rpc_message.specs.declared.messages.MessageId.{MessageId}
use Rattle.rpc_message.specs.declared.messages.MessageId.TheVariants.{Words, Below, Number, Null}
use Rattle.rpc_message.specs.declared.messages.ToEditor.{ToEditor}
use Rattle.rpc_message.specs.declared.messages.ToEditor.TheVariants.{Success, Refused, Edit}
use Rattle.rpc_message.specs.declared.refusals.Refusal.{Refusal}
use Rattle.rpc_message.specs.declared.refusals.Refusal.TheVariants.{ParseError, InvalidRequest, UnknownMethod, BadParams, NotOpen, AlreadyOpen}
use Rattle.rpc_message.specs.declared.refusals.Refusal.TheVariants.{BadUri, BadPosition, BadRevision, TextTooLong, Clash, BackwardRange}
use Rattle.rpc_message.proofs.AgainLemmas.{request_again}
use Rattle.message_bytes.proofs.SaidLemmas.{IsSaid, AreSaid, said_again}
use Rattle.rpc_message.proofs.ValueLemmas.{value_depth, request_depth}
use Rattle.rpc_message.proofs.WrittenLemmas.{value_text}

-- ---- parts

text_said : (cs : List ℕ) → all_scalars cs ≡ true → IsSaid (text cs)
text_said cs is = (cs, (is, refl))

-- bytes that are all ASCII, wherever they are read
ascii_at : (bs : List ℕ) → are_ascii bs ≡ true → (k : ℕ) → slice_index bs k < 128
ascii_at [] is k = omega arith
ascii_at (b ∷ bs) is zero = ltb-true b 128 (and_parts _ _ is).0
ascii_at (b ∷ bs) is (suc k) = ascii_at bs (and_parts _ _ is).1 k

digits_ascii : (bs : List ℕ) → IsAscii (encode_lower bs)
unfolding encode_with
digits_ascii [] k = omega arith
digits_ascii (b ∷ bs) zero = ascii_at lower_digits refl (b / 16)
digits_ascii (b ∷ bs) (suc zero) = ascii_at lower_digits refl (b % 16)
digits_ascii (b ∷ bs) (suc (suc k)) = digits_ascii bs k

bytes_said : (bs : List ℕ) → IsSaid (bytes bs)
bytes_said bs = IsUtf8-from_ascii (encode_lower bs) (digits_ascii bs)

-- a name in ASCII
named : (bs : List ℕ) → are_ascii bs ≡ true → IsUtf8 bs
named bs is = IsUtf8-are_ascii bs is

position_said : (p : Position) → IsPosition p → IsSaid (position p)
position_said p is = ((named (codes "character") refl, (is.1, (named (codes "line") refl, (is.0, tt)))), refl)

range_said : (r : TextRange) → IsRange r → IsSaid (range r)
range_said r is =
    ((named (codes "end") refl, (position_said r.end is.1, (named (codes "start") refl, (position_said r.start is.0, tt)))), refl)

edit_said : (e : TextEdit) → IsTextEdit e → IsSaid (edit e)
edit_said e is = (
  (
    named (codes "range") refl,
    (
      range_said (record { start = e.start; end = e.end }) (is.0, is.1.0),
      (named (codes "replacement") refl, (text_said e.replacement is.1.1, tt)),
    ),
  ),
  refl,
)

edits_said : (es : List TextEdit) → AllByRecursion IsTextEdit es → AreSaid (items_of (map edit es))
edits_said [] is = tt
edits_said (e ∷ es) is = (edit_said e is.0, edits_said es is.1)

ranges_said : (rs : List TextRange) → AllByRecursion IsRange rs → AreSaid (items_of (map range rs))
ranges_said [] is = tt
ranges_said (r ∷ rs) is = (range_said r is.0, ranges_said rs is.1)

params_said : (uri : List ℕ) (revision : ℕ) (es : List TextEdit) → IsUtf8 uri → IsCount revision → AllByRecursion IsTextEdit es
    → IsSaid (edit_params uri revision es)
params_said uri revision es utf8 small is =
    ((named (codes "delta") refl, (edits_said es is, (named (codes "revision") refl, (small, (named (codes "uri") refl, (utf8, tt)))))), refl)

id_said : (i : MessageId) → IsIdFitting i → IsSaid (id i)
id_said (Words characters) is = text_said characters is
id_said (Below (pos n)) is = absurd is
id_said (Below (negsuc n)) is = is
id_said (Number n) is = is
id_said Null is = tt

-- ---- requests

-- an id, the version, a method and parameters
asked_said : (i : ℕ) (method : List ℕ) (params : Data) → IsCount i → IsUtf8 method → IsSaid params
    → IsSaid (object (members_of ((codes "id", whole i) ∷ version ∷ (codes "method", string method) ∷ (codes "params", params) ∷ [])))
asked_said i method params small utf8 said = (
  (
    named (codes "id") refl,
    (
      small,
      (
        named (codes "jsonrpc") refl,
        (
          named (codes "2.0") refl,
          (named (codes "method") refl, (utf8, (named (codes "params") refl, (said, tt)))),
        ),
      ),
    ),
  ),
  refl,
)

request_said : (i : ℕ) (m : FromEditor) → IsCount i → IsRequestFitting m → IsSaid (request i m)
request_said i (asks.Open uri content) small is =
    asked_said i (codes "open") _ small (named (codes "open") refl)
    ((named (codes "content") refl, (text_said content is.1, (named (codes "uri") refl, (is.0, tt)))), refl)
request_said i (asks.Close uri) small is =
    asked_said i (codes "close") _ small (named (codes "close") refl) ((named (codes "uri") refl, (is, tt)), refl)
request_said i (asks.Edit uri revision es) small is =
    asked_said i (codes "edit") _ small (named (codes "edit") refl) (params_said uri revision es is.0 is.1.0 is.1.1)
request_said i (asks.Cursor uri rs) small is =
    asked_said i (codes "cursor") _ small (named (codes "cursor") refl)
    ((named (codes "ranges") refl, (ranges_said rs is.1, (named (codes "uri") refl, (is.0, tt)))), refl)
request_said i asks.Shutdown small is = asked_said i (codes "shutdown") _ small (named (codes "shutdown") refl) (tt, refl)
request_said i asks.Response small is = absurd is

no_response : (m : FromEditor) → IsRequestFitting m → is_response m ≡ false
no_response (asks.Open uri content) is = refl
no_response (asks.Close uri) is = refl
no_response (asks.Edit uri revision es) is = refl
no_response (asks.Cursor uri rs) is = refl
no_response asks.Shutdown is = refl
no_response asks.Response is = absurd is

edits_are : (es : List TextEdit) → AllByRecursion IsTextEdit es → AllByRecursion IsEdit es
edits_are [] is = tt
edits_are (e ∷ es) is = (is.0.1.1, edits_are es is.1)

has_characters : (m : FromEditor) → IsRequestFitting m → HasCharacters m
has_characters (asks.Open uri content) is = is.1
has_characters (asks.Close uri) is = tt
has_characters (asks.Edit uri revision es) is = edits_are es is.1.1
has_characters (asks.Cursor uri rs) is = tt
has_characters asks.Shutdown is = tt
has_characters asks.Response is = tt

pub request_comes_back : (i : ℕ) (m : FromEditor) → IsCount i → IsRequestFitting m
    → message_of (compact_text (request i m)) ≡ Ok (record { id = Some (Number i); message = m })
request_comes_back i m small is =
    ap message_in (said_again (request i m) (request_said i m small is) (request_depth i m))
    ∙ request_again i m (no_response m is) (has_characters m is)

-- ---- messages to an editor

member_utf8 : (m : Member) → IsUtf8 (member.name m)
member_utf8 Params = named _ refl
member_utf8 Uri = named _ refl
member_utf8 Content = named _ refl
member_utf8 Revision = named _ refl
member_utf8 Delta = named _ refl
member_utf8 Ranges = named _ refl

cause_utf8 : (c : UriCause) → IsUtf8 (cause.name c)
cause_utf8 NotAUri = named _ refl
cause_utf8 NotFile = named _ refl
cause_utf8 HasHost = named _ refl
cause_utf8 OutsideBase = named _ refl
cause_utf8 NotUtf8 = named _ refl
cause_utf8 TooLong = named _ refl
cause_utf8 NulByte = named _ refl
cause_utf8 Absolute = named _ refl
cause_utf8 Empty = named _ refl
cause_utf8 DotPart = named _ refl
cause_utf8 Reserved = named _ refl
cause_utf8 TooDeep = named _ refl

-- an error without data, and with some
plain_error : (n : ℕ) (words : List ℕ) → n < 2 ^ 63 → IsUtf8 words
    → IsSaid (object (members_of ((codes "code", number (negative (negsuc n))) ∷ (codes "message", string words) ∷ [])))
plain_error n words small utf8 = ((named (codes "code") refl, (small, (named (codes "message") refl, (utf8, tt)))), refl)

error_with : (n : ℕ) (words : List ℕ) (facts : Data) → n < 2 ^ 63 → IsUtf8 words → IsSaid facts
    → IsSaid (object (members_of ((codes "code", number (negative (negsuc n))) ∷ (codes "data", facts) ∷ (codes "message", string words) ∷ [])))
error_with n words facts small utf8 said =
    ((named (codes "code") refl, (small, (named (codes "data") refl, (said, (named (codes "message") refl, (utf8, tt)))))), refl)

error_said : (r : Refusal) → IsRefusalFitting r → IsSaid (error r)
error_said ParseError is = plain_error 32699 (codes "parse error") (omega arith) (named _ refl)
error_said InvalidRequest is = plain_error 32599 (codes "invalid request") (omega arith) (named _ refl)
error_said UnknownMethod is = plain_error 32600 (codes "method not found") (omega arith) (named _ refl)
error_said (BadParams m) is =
    error_with 32601 (codes "invalid params") _ (omega arith) (named _ refl) ((named (codes "member") refl, (member_utf8 m, tt)), refl)
error_said NotOpen is = plain_error 32000 (codes "file is not open") (omega arith) (named _ refl)
error_said AlreadyOpen is = plain_error 32001 (codes "file is already open") (omega arith) (named _ refl)
error_said (BadUri c) is =
    error_with 32002 (codes "bad uri") _ (omega arith) (named _ refl) ((named (codes "cause") refl, (cause_utf8 c, tt)), refl)
error_said (BadPosition edit) is =
    error_with 32003 (codes "bad position") _ (omega arith) (named _ refl) ((named (codes "edit") refl, (is, tt)), refl)
error_said (BadRevision confirmed issued seen) is =
    error_with 32004 (codes "bad revision") _ (omega arith) (named _ refl)
    ((named (codes "confirmed") refl, (is.0, (named (codes "issued") refl, (is.1.0, (named (codes "seen") refl, (is.1.1, tt)))))), refl)
error_said (TextTooLong length) is =
    error_with 32005 (codes "text too long") _ (omega arith) (named _ refl) ((named (codes "length") refl, (is, tt)), refl)
error_said (Clash given held) is =
    error_with 32006 (codes "two changes have one name") _ (omega arith) (named _ refl)
    ((named (codes "given") refl, (bytes_said given, (named (codes "held") refl, (bytes_said held, tt)))), refl)
error_said (BackwardRange edit) is =
    error_with 32007 (codes "backward range") _ (omega arith) (named _ refl) ((named (codes "edit") refl, (is, tt)), refl)

value_said : (m : ToEditor) → IsAnswerFitting m → IsSaid (value m)
value_said (Success i) is = (
  (
    named (codes "id") refl,
    (
      id_said i is,
      (
        named (codes "jsonrpc") refl,
        (
          named (codes "2.0") refl,
          (named (codes "result") refl, (named (codes "success") refl, tt)),
        ),
      ),
    ),
  ),
  refl,
)
value_said (Refused i refusal) is = (
  (
    named (codes "error") refl,
    (
      error_said refusal is.1,
      (
        named (codes "id") refl,
        (
          id_said i is.0,
          (named (codes "jsonrpc") refl, (named (codes "2.0") refl, tt)),
        ),
      ),
    ),
  ),
  refl,
)
value_said (Edit uri revision es) is = (
  (
    named (codes "jsonrpc") refl,
    (
      named (codes "2.0") refl,
      (
        named (codes "method") refl,
        (
          named (codes "edit") refl,
          (named (codes "params") refl, (params_said uri revision es is.0 is.1.0 is.1.1, tt)),
        ),
      ),
    ),
  ),
  refl,
)

id_is : (i : MessageId) → IsIdFitting i → IsId i
id_is (Words characters) is = is
id_is (Below (pos n)) is = absurd is
id_is (Below (negsuc n)) is = refl
id_is (Number n) is = tt
id_is Null is = tt

refusal_is : (r : Refusal) → IsRefusalFitting r → IsRefusal r
refusal_is ParseError is = tt
refusal_is InvalidRequest is = tt
refusal_is UnknownMethod is = tt
refusal_is (BadParams m) is = tt
refusal_is NotOpen is = tt
refusal_is AlreadyOpen is = tt
refusal_is (BadUri c) is = tt
refusal_is (BadPosition edit) is = tt
refusal_is (BadRevision confirmed issued seen) is = tt
refusal_is (TextTooLong length) is = tt
refusal_is (Clash given held) is = is
refusal_is (BackwardRange edit) is = tt

message_is : (m : ToEditor) → IsAnswerFitting m → IsToEditor m
message_is (Success i) is = id_is i is
message_is (Refused i refusal) is = (id_is i is.0, refusal_is refusal is.1)
message_is (Edit uri revision es) is = edits_are es is.1.1

pub answer_comes_back : (m : ToEditor) → IsAnswerFitting m → IsReply (written m) m
answer_comes_back m is = record {
  value_is = ap json_of (sym (value_text m)) ∙ said_again (value m) (value_said m is) (value_depth m);
  is_message = message_is m is;
}
