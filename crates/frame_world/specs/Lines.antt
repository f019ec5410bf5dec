-- The line that is printed of what a client tells.
use Rattle.std.specs.Prelude.{ℕ, List, [], ◌++◌, codes, decimal}
use Rattle.std.specs.Fmt.{signed_decimal}
use Rattle.editor_client.specs.declared.notes.HeardNote.{HeardNote}
use Rattle.editor_client.specs.declared.notes.HeardNote.TheVariants.{Shown, Ignored, Replied, RefusedBy, Other}

-- editor e has heard of a refusal, with this code
abbrev pub note_line : ℕ → HeardNote → List ℕ
note_line e (RefusedBy code) = codes "refused " ++ decimal e ++ codes " " ++ signed_decimal code ++ codes "\n"
note_line e Shown = []
note_line e Ignored = []
note_line e Replied = []
note_line e Other = []
