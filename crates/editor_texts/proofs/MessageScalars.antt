-- What a message says, by the forms that its members have.
use Rattle.std.proofs.Common.{◌≡◌, ℕ, true, false, Bool, List, [], ◌∷◌, Option, Some, None, Ok, Err, codes, if◌then◌else◌, refl, ap, ◌∙◌, subst}
use Rattle.serde_json.specs.Data.{Data}
use Rattle.serde_json.specs.Find.{get, as_str}
use Rattle.rpc_message.specs.Forms as form
use Rattle.rpc_message.specs.Json.{json_of, member}
use Rattle.rpc_message.specs.Members.{name}
use Rattle.rpc_message.specs.Messages.{message_of, message_in, with_id, request_in, by_method, unless_unknown, is_valid}
use Rattle.rpc_message.specs.Methods.{method_named}
use Rattle.rpc_message.specs.Params as params
use Rattle.rpc_message.specs.Params.{Row, Meanings, wanted, unless_bad, read_rows, params_for, rows, made, called}
use Rattle.rpc_message.specs.Reading.{Reading, ◌>>=◌}
use Rattle.rpc_message.specs.declared.faults.Cause.TheVariants.{InvalidRequest}
use Rattle.rpc_message.specs.declared.members.Member.{Member}
use Rattle.rpc_message.specs.declared.members.Member.TheVariants.{Uri, Content, Revision, Delta}
use Rattle.rpc_message.specs.declared.messages.FromEditor.{FromEditor}
use Rattle.rpc_message.specs.declared.messages.FromEditor.TheVariants as message
use Rattle.rpc_message.specs.declared.messages.Incoming.{Incoming}
use Rattle.rpc_message.specs.declared.methods.Method.{Method}
use Rattle.rpc_message.specs.declared.methods.Method.TheVariants.{Open, Close, Edit, Cursor, Shutdown}
use Rattle.editor_texts.specs.Scalars.{SaysScalars}
use Rattle.editor_texts.proofs.FormScalars.{Found, found_then, text_scalars, edits_scalars}
use Rattle.editor_texts.proofs.Steps.{ok_is}

-- ---- steps that were not refused

record Gave (A B : Type 0) (read : Reading A) (next : A → Reading B) (end : B) : Type 0 where
  value : A
  is : read ≡ Ok value
  rest : next value ≡ Ok end

gave : {A B : Type 0} (read : Reading A) (next : A → Reading B) (end : B) → (read >>= next) ≡ Ok end → Gave A B read next end
gave (Ok value) next end is = record { value = value; is = refl; rest = is }
gave (Err cause) next end is = cc

-- ---- members

good : {T : Type 0} (m : Member) (found : Option T) (value : T) → unless_bad m found ≡ Ok value → found ≡ Some value
good m (Some x) value is = cc
good m None value is = cc

wanted_is : {T : Type 0} (m : Member) (read : Data → Option T) (d : Data) (value : T) → wanted m read d ≡ Ok value → Found Data T (get (name m) d) read value
wanted_is m read d value is = found_then (get (name m) d) read value (good m (member (name m) read d) value is)

-- ---- requests

-- the rows of members whose texts are looked for
abbrev content_row : Row
content_row = record { member = Content; form = params.text }

abbrev revision_row : Row
revision_row = record { member = Revision; form = params.whole }

abbrev delta_row : Row
delta_row = record { member = Delta; form = params.edits }

open_says : (d : Data) (asked : FromEditor) → called Open d ≡ Ok asked → SaysScalars asked
open_says d asked is =
    let params = gave (params_for (rows Open) d) (λ found. read_rows (rows Open) found >>= λ members. Ok (made Open members)) asked is in
    let members = gave (read_rows (rows Open) params.value) (λ found. Ok (made Open found)) asked params.rest in
    let uri = gave (wanted Uri as_str params.value) (λ first. read_rows (content_row ∷ []) params.value >>= λ rest. Ok (first, rest)) members.value members.is in
    let others = gave (read_rows (content_row ∷ []) params.value) (λ rest. Ok (uri.value, rest)) members.value uri.rest in
    let content = gave (wanted Content form.text params.value) (λ first. Ok (first, tt)) others.value others.is in
    let same : message.Open uri.value content.value ≡ asked =
    ap (λ rest. made Open (uri.value, rest)) (ok_is (content.value, tt) others.value content.rest)
    ∙ ap (made Open) (ok_is (uri.value, others.value) members.value others.rest)
    ∙ ok_is (made Open members.value) asked members.rest in
    let string = wanted_is Content form.text params.value content.value content.is in
    subst SaysScalars same (text_scalars string.value content.value string.rest)

edit_says : (d : Data) (asked : FromEditor) → called Edit d ≡ Ok asked → SaysScalars asked
edit_says d asked is =
    let params = gave (params_for (rows Edit) d) (λ found. read_rows (rows Edit) found >>= λ members. Ok (made Edit members)) asked is in
    let members = gave (read_rows (rows Edit) params.value) (λ found. Ok (made Edit found)) asked params.rest in
    let uri = gave (wanted Uri as_str params.value) (λ first. read_rows (revision_row ∷ delta_row ∷ []) params.value >>= λ rest. Ok (first, rest)) members.value members.is in
    let others = gave (read_rows (revision_row ∷ delta_row ∷ []) params.value) (λ rest. Ok (uri.value, rest)) members.value uri.rest in
    let revision = gave (wanted Revision form.whole params.value) (λ first. read_rows (delta_row ∷ []) params.value >>= λ rest. Ok (first, rest)) others.value others.is in
    let last = gave (read_rows (delta_row ∷ []) params.value) (λ rest. Ok (revision.value, rest)) others.value revision.rest in
    let edits = gave (wanted Delta (form.array form.edit) params.value) (λ first. Ok (first, tt)) last.value last.is in
    let same : message.Edit uri.value revision.value edits.value ≡ asked =
    ap (λ rest. made Edit (uri.value, (revision.value, rest))) (ok_is (edits.value, tt) last.value edits.rest)
    ∙ ap (λ rest. made Edit (uri.value, rest)) (ok_is (revision.value, last.value) others.value last.rest)
    ∙ ap (made Edit) (ok_is (uri.value, others.value) members.value others.rest)
    ∙ ok_is (made Edit members.value) asked members.rest in
    let array = wanted_is Delta (form.array form.edit) params.value edits.value edits.is in
    subst SaysScalars same (edits_scalars array.value edits.value array.rest)

-- the other requests have no texts
other_says : (m : Method) → ((members : Meanings (rows m)) → SaysScalars (made m members)) → (d : Data) (asked : FromEditor)
    → called m d ≡ Ok asked → SaysScalars asked
other_says m says d asked is =
    let params = gave (params_for (rows m) d) (λ found. read_rows (rows m) found >>= λ members. Ok (made m members)) asked is in
    let members = gave (read_rows (rows m) params.value) (λ found. Ok (made m found)) asked params.rest in
    subst SaysScalars (ok_is (made m members.value) asked members.rest) (says members.value)

called_says : (m : Method) (d : Data) (asked : FromEditor) → called m d ≡ Ok asked → SaysScalars asked
called_says Open d asked is = open_says d asked is
called_says Close d asked is = other_says Close (λ members. tt) d asked is
called_says Edit d asked is = edit_says d asked is
called_says Cursor d asked is = other_says Cursor (λ members. tt) d asked is
called_says Shutdown d asked is = other_says Shutdown (λ members. tt) d asked is

method_says : (m : Option Method) (d : Data) (asked : FromEditor) → unless_unknown m d ≡ Ok asked → SaysScalars asked
method_says (Some m) d asked is = called_says m d asked is
method_says None d asked is = cc

named_says : (found : Option (List ℕ)) (d : Data) (asked : FromEditor) → by_method found d ≡ Ok asked → SaysScalars asked
named_says (Some word) d asked is = method_says (method_named word) d asked is
named_says None d asked is = subst SaysScalars (ok_is message.Response asked is) tt

valid_says : (valid : Bool) (d : Data) (asked : FromEditor)
    → (if valid then by_method (member (codes "method") as_str d) d else Err InvalidRequest) ≡ Ok asked → SaysScalars asked
valid_says true d asked is = named_says (member (codes "method") as_str d) d asked is
valid_says false d asked is = cc

with_id_says : (d : Data) (read : Reading FromEditor) (incoming : Incoming) → ((asked : FromEditor) → read ≡ Ok asked → SaysScalars asked)
    → with_id d read ≡ Ok incoming → SaysScalars incoming.message
with_id_says d (Ok asked) incoming says is =
    let same : asked ≡ incoming.message = cc in subst SaysScalars same (says asked refl)
with_id_says d (Err cause) incoming says is = cc

value_says : (found : Option Data) (incoming : Incoming) → message_in found ≡ Ok incoming → SaysScalars incoming.message
value_says (Some d) incoming is = with_id_says d (request_in d) incoming (λ asked read. valid_says (is_valid d) d asked read) is
value_says None incoming is = cc

pub message_says : (body : List ℕ) (incoming : Incoming) → message_of body ≡ Ok incoming → SaysScalars incoming.message
message_says body incoming is = value_says (json_of body) incoming is
