-- The codes of refusals, and their messages.
use Rattle.std.specs.Prelude.{ℕ, ℤ, pos, neg_ℤ, List, [], ◌∷◌, unwrap_or, codes}
use Rattle.name_table.specs.Rows.{word_of}
use Rattle.rpc_message.specs.declared.codes.TheConstants.{PARSE_ERROR, INVALID_REQUEST, UNKNOWN_METHOD, BAD_PARAMS, NOT_OPEN, ALREADY_OPEN}
use Rattle.rpc_message.specs.declared.codes.TheConstants.{BAD_URI, BAD_POSITION, BAD_REVISION, TEXT_TOO_LONG, CLASH, BACKWARD_RANGE}
use Rattle.rpc_message.specs.declared.refusals.Refusal.{Refusal}
use Rattle.rpc_message.specs.declared.refusals.Refusal.TheVariants.{ParseError, InvalidRequest, UnknownMethod, BadParams, NotOpen, AlreadyOpen}
use Rattle.rpc_message.specs.declared.refusals.Refusal.TheVariants.{BadUri, BadPosition, BadRevision, TextTooLong, Clash, BackwardRange}

-- each code without its sign, and its message; the first four are those of JSON-RPC 2.0, section 5.1
abbrev pub table : List (ℕ × List ℕ)
table =
    (PARSE_ERROR, codes "parse error") ∷ (INVALID_REQUEST, codes "invalid request") ∷ (UNKNOWN_METHOD, codes "method not found")
    ∷ (BAD_PARAMS, codes "invalid params") ∷ (NOT_OPEN, codes "file is not open") ∷ (ALREADY_OPEN, codes "file is already open")
    ∷ (BAD_URI, codes "bad uri") ∷ (BAD_POSITION, codes "bad position") ∷ (BAD_REVISION, codes "bad revision")
    ∷ (TEXT_TOO_LONG, codes "text too long") ∷ (CLASH, codes "two changes have one name") ∷ (BACKWARD_RANGE, codes "backward range") ∷ []

-- the row of a refusal
abbrev pub code : Refusal → ℕ
code ParseError = PARSE_ERROR
code InvalidRequest = INVALID_REQUEST
code UnknownMethod = UNKNOWN_METHOD
code (BadParams member) = BAD_PARAMS
code NotOpen = NOT_OPEN
code AlreadyOpen = ALREADY_OPEN
code (BadUri cause) = BAD_URI
code (BadPosition edit) = BAD_POSITION
code (BadRevision confirmed issued seen) = BAD_REVISION
code (TextTooLong length) = TEXT_TOO_LONG
code (Clash given held) = CLASH
code (BackwardRange edit) = BACKWARD_RANGE

-- each code is below 0
abbrev pub signed_code : Refusal → ℤ
signed_code refusal = neg_ℤ (pos (code refusal))

-- the text beside the code
abbrev pub message : Refusal → List ℕ
message refusal = unwrap_or (word_of (code refusal) table) []
