-- The lines that a world prints, each with its LF.
use Rattle.std.specs.Prelude.{ℕ, ◌==◌, Bool, ◌||◌, not, List, [], ◌∷◌, ◌++◌, length, Option, Some, None, codes, decimal, flat_map, if◌then◌else◌}
use Rattle.hex.specs.Hex.{encode_lower}
use Rattle.bridge_world.specs.Plain as P
use Rattle.bridge_world.specs.Plain.{is_closed, Cause, Kind, Failed, Mark}
use Rattle.replay_script.specs.Grammar.{path_text}
use Rattle.replay_script.specs.Texts.{quoted}
use Rattle.rpc_message.specs.Codes.{code}
use Rattle.rpc_message.specs.declared.refusals.Refusal.TheVariants as refusal
use Rattle.daemon_core.specs.declared.events.Output.{Output}
use Rattle.daemon_core.specs.declared.events.Output.TheVariants.{Send, HangUp, Notice, Shutdown}
use Rattle.plain_world.specs.World.{Seat, is_connected}

-- whether something is under way between an editor and its daemon
abbrev pub is_busy : P.Editor → Bool
is_busy e = not (length e.sent == 0) || not (length e.wire == 0)

-- what is told of an editor: it is not connected; something is under way; it has closed its text; or none of these
abbrev pub word_of : Seat → List ℕ
word_of x =
    if not (is_connected x) then codes "lost"
    else (if is_busy x.editor then codes "busy"
    else (if is_closed x.editor.state then codes "closed"
    else codes "quiet"))

abbrev pub show_line : ℕ → Seat → List ℕ
show_line e x =
    codes "show " ++ decimal e ++ codes " " ++ word_of x ++ codes " " ++ quoted x.editor.text ++ codes "\n"

abbrev pub text_or_absent : Option (List ℕ) → List ℕ
text_or_absent None = codes "absent"
text_or_absent (Some text) = quoted text

abbrev pub file_line : ℕ → List ℕ → Option (List ℕ) → List ℕ
file_line d path view =
    codes "file " ++ decimal d ++ codes " " ++ path_text path ++ codes " " ++ text_or_absent view ++ codes "\n"

abbrev pub held_line : ℕ → ℕ → List ℕ
held_line d held = codes "held " ++ decimal d ++ codes " " ++ decimal held ++ codes "\n"

-- the code of an error without its sign, by its cause
abbrev pub cause_code : Cause → ℕ
cause_code P.NotOpen = code refusal.NotOpen
cause_code P.AlreadyOpen = code refusal.AlreadyOpen
cause_code P.BadRevision = code (refusal.BadRevision 0 0 0)
cause_code (P.Other number) = number

-- an editor is told that a request of it was refused
abbrev pub refused_line : ℕ → Cause → List ℕ
refused_line e cause = codes "refused " ++ decimal e ++ codes " -" ++ decimal (cause_code cause) ++ codes "\n"

-- the line of a mark that is delivered: an error's
abbrev pub kind_line : ℕ → Kind → List ℕ
kind_line e (Failed cause) = refused_line e cause
kind_line e kind = []

-- the line of the first mark
abbrev pub first_line : ℕ → List Mark → List ℕ
first_line e [] = []
first_line e (m ∷ wire) = kind_line e m.kind

-- a frame that a daemon sends on a connection that the script feeds; of nothing else that it asks for is a line told
abbrev pub told_line : ℕ → Output → List ℕ
told_line d (Send number frame) =
    codes "told " ++ decimal d ++ codes " " ++ decimal number ++ codes " " ++ encode_lower frame ++ codes "\n"
told_line d (HangUp number) = []
told_line d (Notice notice) = []
told_line d Shutdown = []

abbrev pub told_lines : ℕ → List Output → List ℕ
told_lines d outputs = flat_map (told_line d) outputs

-- such a connection has ended, by a fault of its frames
abbrev pub hung_line : ℕ → ℕ → List ℕ
hung_line d number = codes "hung " ++ decimal d ++ codes " " ++ decimal number ++ codes "\n"
