-- Worked sessions, which compute: what two editors of one file are sent.
use Rattle.std.proofs.Common.{◌≡◌, ℕ, List, [], ◌∷◌, ◌++◌, codes, Some, refl}
use Rattle.std.specs.Str.{is_utf8, chars}
use Rattle.url.proofs.OnLiterals.{url_on_literals}
use Rattle.file_uri.specs.Base.{BaseView}
use Rattle.tt_base.specs.declared.edits.Position.{Position}
use Rattle.tt_base.specs.declared.edits.TextEdit.{TextEdit}
use Rattle.rpc_message.specs.declared.causes.UriCause.TheVariants as cause
use Rattle.rpc_message.specs.declared.messages.FromEditor.{FromEditor}
use Rattle.rpc_message.specs.declared.messages.FromEditor.TheVariants as message
use Rattle.rpc_message.specs.declared.messages.MessageId.TheVariants.{Number}
use Rattle.rpc_message.specs.declared.messages.ToEditor.{ToEditor}
use Rattle.rpc_message.specs.declared.messages.ToEditor.TheVariants as to_editor
use Rattle.rpc_message.specs.declared.refusals.Refusal.TheVariants as refusal
use Rattle.daemon_core.specs.declared.TheConstants.{LONGEST_TEXT}
use Rattle.daemon_core.specs.declared.events.Output.{Output}
use Rattle.daemon_core.specs.declared.events.Output.TheVariants.{Shutdown}
use Rattle.daemon_core.specs.History.{view_at}
use Rattle.daemon_core.specs.Outputs.{Served, served, send}
use Rattle.daemon_core.specs.Serving.{on_message, or_refusal}
use Rattle.daemon_core.specs.State.{State, new_state}

-- the limit on the length of texts
pub longest_text : LONGEST_TEXT ≡ 1048576
longest_text = refl

abbrev work : BaseView
work = record { text = codes "file:///work/"; path = codes "/work/" }

-- a daemon with two editors, 1 and 2
abbrev two_editors : State
two_editors = record (new_state work) { connections = (1, []) ∷ (2, []) ∷ [] }

-- a message of an editor, as a request
pub record Asked : Type 0 where
  pub editor : ℕ
  pub id : ℕ
  pub message : FromEditor

abbrev served_by : State → Asked → Served
served_by s a = served s a.editor (Some (Number a.id)) (or_refusal s (on_message s a.editor a.message))

-- the state after these messages
abbrev after : State → List Asked → State
after s [] = s
after s (a ∷ asked) = after (served_by s a).state asked

-- what the last of them is answered with, and what else is sent then
abbrev sent_at : State → List Asked → Asked → List Output
sent_at s before a = (served_by (after s before) a).outputs

abbrev f : List ℕ
f = codes "file:///work/f"

abbrev at : ℕ → Position
at character = record { line = 0; character = character }

abbrev inserted : ℕ → List ℕ → TextEdit
inserted character text = record { start = at character; end = at character; replacement = text }

abbrev opens : ℕ → List ℕ → Asked
opens editor text = record { editor = editor; id = 1; message = message.Open f text }

abbrev types : ℕ → ℕ → ℕ → List ℕ → Asked
types editor revision character text =
    record { editor = editor; id = 2; message = message.Edit f revision (inserted character text ∷ []) }

-- both have the text "ab"
abbrev both_open : List Asked
both_open = opens 1 (codes "ab") ∷ opens 2 (codes "ab") ∷ []

first_opens : sent_at two_editors [] (opens 1 (codes "ab")) ≡ send 1 (to_editor.Success (Number 1)) ∷ []
unfolding url_on_literals is_utf8 chars
first_opens = refl

-- the second editor has another text: the daemon's comes behind the reply, as one replacement
abbrev the_edit : ℕ → ℕ → ℕ → List ℕ → ToEditor
the_edit revision from to text =
    to_editor.Edit f revision (record { start = at from; end = at to; replacement = text } ∷ [])

second_has_another_text : sent_at two_editors (opens 1 (codes "ab") ∷ []) (opens 2 (codes "xyz"))
    ≡ send 2 (to_editor.Success (Number 1)) ∷ send 2 (the_edit 0 0 3 (codes "ab")) ∷ []
unfolding url_on_literals is_utf8 chars
second_has_another_text = refl

-- the first editor's "X" goes to the second
first_types : sent_at two_editors both_open (types 1 0 1 (codes "X"))
    ≡ send 1 (to_editor.Success (Number 2)) ∷ send 2 (the_edit 0 1 1 (codes "X")) ∷ []
unfolding url_on_literals is_utf8 chars
first_types = refl

-- The second editor had typed "Y" at the same gap before it showed "X": the daemon sends "X" again, for the text with "Y", and
-- the first editor gets "Y" behind its "X".
second_types : sent_at two_editors (both_open ++ types 1 0 1 (codes "X") ∷ []) (types 2 0 1 (codes "Y"))
    ≡ send 2 (to_editor.Success (Number 2)) ∷ send 2 (the_edit 1 1 1 (codes "X")) ∷ send 1 (the_edit 1 2 2 (codes "Y")) ∷ []
unfolding url_on_literals is_utf8 chars
second_types = refl

both_are_there : view_at (after two_editors (both_open ++ types 1 0 1 (codes "X") ∷ types 2 0 1 (codes "Y") ∷ [])).history (codes "f")
    ≡ Some (codes "aXYb")
unfolding url_on_literals is_utf8 chars
both_are_there = refl

-- a revision that the daemon has not issued ends the link, so that the next edit finds none
ahead : sent_at two_editors both_open (types 1 5 0 (codes "X"))
    ≡ send 1 (to_editor.Refused (Number 2) (refusal.BadRevision 0 0 5)) ∷ []
unfolding url_on_literals is_utf8 chars
ahead = refl

not_open_then : sent_at two_editors (both_open ++ types 1 5 0 (codes "X") ∷ []) (types 1 0 0 (codes "X"))
    ≡ send 1 (to_editor.Refused (Number 2) refusal.NotOpen) ∷ []
unfolding url_on_literals is_utf8 chars
not_open_then = refl

-- a place that the text lacks
out_of_text : sent_at two_editors both_open (types 1 0 9 (codes "X"))
    ≡ send 1 (to_editor.Refused (Number 2) (refusal.BadPosition 0)) ∷ []
unfolding url_on_literals is_utf8 chars
out_of_text = refl

opened_twice : sent_at two_editors both_open (opens 1 (codes "ab"))
    ≡ send 1 (to_editor.Refused (Number 1) refusal.AlreadyOpen) ∷ []
unfolding url_on_literals is_utf8 chars
opened_twice = refl

elsewhere : sent_at two_editors [] (record { editor = 1; id = 1; message = message.Close (codes "http://x/a") })
    ≡ send 1 (to_editor.Refused (Number 1) (refusal.BadUri cause.NotFile)) ∷ []
unfolding url_on_literals is_utf8 chars
elsewhere = refl

stops : sent_at two_editors [] (record { editor = 1; id = 1; message = message.Shutdown })
    ≡ send 1 (to_editor.Success (Number 1)) ∷ Shutdown ∷ []
unfolding url_on_literals is_utf8 chars
stops = refl
