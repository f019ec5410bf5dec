-- The parameters of a request, by the table of methods: each has members, in the order of checking, and
-- each member a form.
use Rattle.std.specs.Prelude.{⊤, ℕ, List, [], ◌∷◌, Option, Some, None, option_map, Ok, Err}
use Rattle.serde_json.specs.Data.{Data}
use Rattle.serde_json.specs.Find.{as_str, as_object}
use Rattle.tt_base.specs.declared.edits.TextEdit.{TextEdit}
use Rattle.tt_base.specs.declared.edits.TextRange.{TextRange}
use Rattle.rpc_message.specs.Forms as form
use Rattle.rpc_message.specs.Json.{member}
use Rattle.rpc_message.specs.Members.{name}
use Rattle.rpc_message.specs.Reading.{Reading, ◌>>=◌}
use Rattle.rpc_message.specs.declared.faults.Cause.TheVariants.{BadParams}
use Rattle.rpc_message.specs.declared.members.Member.{Member}
use Rattle.rpc_message.specs.declared.members.Member.TheVariants.{Params, Uri, Content, Revision, Delta, Ranges}
use Rattle.rpc_message.specs.declared.messages.FromEditor.{FromEditor}
use Rattle.rpc_message.specs.declared.messages.FromEditor.TheVariants as message
use Rattle.rpc_message.specs.declared.methods.Method.{Method}
use Rattle.rpc_message.specs.declared.methods.Method.TheVariants.{Open, Close, Edit, Cursor, Shutdown}

-- the forms of members
pub data Form : Type 0 where
  uri : Form
  text : Form
  whole : Form
  edits : Form
  ranges : Form

-- what a member of a form says; a URI is its bytes
abbrev pub Meaning : Form → Type 0
Meaning uri = List ℕ
Meaning text = List ℕ
Meaning whole = ℕ
Meaning edits = List TextEdit
Meaning ranges = List TextRange

-- what a value of the form says
abbrev pub read_form : (f : Form) → Data → Option (Meaning f)
read_form uri d = as_str d
read_form text d = form.text d
read_form whole d = form.whole d
read_form edits d = form.array form.edit d
read_form ranges d = form.array form.range d

-- a member that must be there, with its form
pub record Row : Type 0 where
  pub member : Member
  pub form : Form

-- the members of each method, in the order of checking
abbrev pub rows : Method → List Row
rows Open = record { member = Uri; form = uri } ∷ record { member = Content; form = text } ∷ []
rows Close = record { member = Uri; form = uri } ∷ []
rows Edit = record { member = Uri; form = uri } ∷ record { member = Revision; form = whole } ∷ record { member = Delta; form = edits } ∷ []
rows Cursor = record { member = Uri; form = uri } ∷ record { member = Ranges; form = ranges } ∷ []
rows Shutdown = []

-- the value, unless the member is missing or of another form
abbrev pub unless_bad : {T : Type 0} → Member → Option T → Reading T
unless_bad m (Some value) = Ok value
unless_bad m None = Err (BadParams m)

-- the member of this name, which must be there and have the form
abbrev pub wanted : {T : Type 0} → Member → (Data → Option T) → Data → Reading T
wanted m read d = unless_bad m (member (name m) read d)

-- what the members of the rows say
abbrev pub Meanings : List Row → Type 0
Meanings [] = ⊤
Meanings (row ∷ rows) = Meaning row.form × Meanings rows

-- the members of the rows in turn, or the first that is bad
abbrev pub read_rows : (rows : List Row) → Data → Reading (Meanings rows)
read_rows [] d = Ok tt
read_rows (row ∷ rows) d = do
  first ← wanted row.member (read_form row.form) d
  rest ← read_rows rows d
  Ok (first, rest)

-- the request that the members make
abbrev pub made : (m : Method) → Meanings (rows m) → FromEditor
made Open (file, (content, _)) = message.Open file content
made Close (file, _) = message.Close file
made Edit (file, (revision, (delta, _))) = message.Edit file revision delta
made Cursor (file, (selected, _)) = message.Cursor file selected
made Shutdown _ = message.Shutdown

-- the value itself, where it is an object
abbrev pub object : Data → Option Data
object d = option_map (λ members. d) (as_object d)

-- the parameters, which must be an object where the method has members
abbrev pub params_for : List Row → Data → Reading Data
params_for [] d = Ok d
params_for (row ∷ rows) d = wanted Params object d

-- the request of a method in a value
abbrev pub called : Method → Data → Reading FromEditor
called m d = do
  params ← params_for (rows m) d
  members ← read_rows (rows m) params
  Ok (made m members)
