-- What a body is as JSON (RFC 8259), by the reading of `serde_json`.
use Rattle.std.specs.Prelude.{ℕ, Bool, List, Option, None, option_and_then, is_some, if◌then◌else◌}
use Rattle.std.specs.Str.{is_utf8}
use Rattle.serde_json.specs.Data.{Data}
use Rattle.serde_json.specs.Read.{read}
use Rattle.serde_json.specs.Find.{get}

-- the value of the bytes, where they are UTF-8 and `serde_json` takes them
abbrev pub json_of : List ℕ → Option Data
json_of body = if is_utf8 body then read body else None

-- the value's member of this name, where it is there and has the form
abbrev pub member : {T : Type 0} → List ℕ → (Data → Option T) → Data → Option T
member name form d = option_and_then form (get name d)

-- whether the value has a member of this name
abbrev pub has : List ℕ → Data → Bool
has name d = is_some (get name d)
