-- Worked rows, which compute: an editor of "ab" that types Y at gap 1 once it was admitted.
use Rattle.std.proofs.Common.{◌≡◌, [], ◌∷◌, Some, refl}
use Rattle.std.specs.Prelude.{codes}
use Rattle.tt_base.specs.declared.edits.TextEdit.{TextEdit}
use Rattle.rpc_message.specs.declared.messages.FromEditor.TheVariants as message
use Rattle.rpc_message.specs.declared.messages.MessageId.TheVariants.{Number}
use Rattle.rpc_message.specs.declared.messages.ToEditor.TheVariants.{Success, Refused, Edit}
use Rattle.rpc_message.specs.declared.refusals.Refusal.TheVariants.{NotOpen}
use Rattle.editor_client.specs.Editor.{Editor, new_editor, opened, closed, change_at, typed}
use Rattle.editor_client.specs.Requests.{edit_request}
use Rattle.editor_client.specs.Faults.{range_fault}
use Rattle.editor_client.specs.Hearing.{heard, note_of}
use Rattle.editor_client.specs.declared.faults.TypeFault.TheVariants.{OutOfRange}
use Rattle.editor_client.specs.declared.notes.HeardNote.TheVariants.{Shown, Ignored, Other}
use Rattle.editor_client.specs.declared.states.ClientState.TheVariants.{Open, Closed}

abbrev admitted : Editor
admitted = heard (Success (Number 1)) (opened (new_editor (codes "u") (codes "ab")))

abbrev edited : Editor
edited = typed (change_at 1 0 (codes "Y")) admitted

-- X at gap 1, put there before the daemon had Y, and behind Y afterwards
abbrev at_one : TextEdit
at_one = record { start = record { line = 0; character = 1 }; end = record { line = 0; character = 1 }; replacement = codes "X" }

opens : admitted.state ≡ Open
opens = refl

types : edited.text ≡ codes "aYb"
types = refl

asks : edit_request (change_at 1 0 (codes "Y")) admitted ≡ message.Edit (codes "u") 0 (record { start = record { line = 0; character = 1 }; end = record { line = 0; character = 1 }; replacement = codes "Y" } ∷ [])
asks = refl

passes_over : note_of (Edit (codes "u") 0 (at_one ∷ [])) edited ≡ Ignored
passes_over = refl

shows : note_of (Edit (codes "u") 1 (at_one ∷ [])) edited ≡ Shown
shows = refl

shown : (heard (Edit (codes "u") 1 (at_one ∷ [])) edited).text ≡ codes "aXYb"
shown = refl

-- a success or an error of the first session changes nothing in the second
abbrev again : Editor
again = opened (closed edited)

older_success : note_of (Success (Number 1)) again ≡ Other
older_success = refl

older_error : heard (Refused (Number 3) NotOpen) again ≡ again
older_error = refl

own_error : (heard (Refused (Number 4) NotOpen) again).state ≡ Closed
own_error = refl

out_of_range : range_fault 9 1 ≡ Some (OutOfRange 1)
out_of_range = refl
