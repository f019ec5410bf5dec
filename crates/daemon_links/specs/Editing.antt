-- What an edit makes of the link that it comes by.
use Rattle.std.specs.Prelude.{◌≡◌, ℕ, List, length, None, Ok}
use Rattle.delta.specs.Cells.{Cells, base_length}
use Rattle.editor_bridge.specs.Faults.{revision_fault}
use Rattle.editor_bridge.specs.Frames.{frames}
use Rattle.editor_bridge.specs.Link.{Link, editor_text, with_edit, carried_edit}
use Rattle.rpc_message.specs.declared.refusals.Refusal.{Refusal}
use Rattle.text_position.specs.Edits.{delta_of_edits}
use Rattle.tt_base.specs.declared.edits.TextEdit.{TextEdit}
use Rattle.daemon_core.specs.Refusing.{Step, ◌>>=◌, closed, text_shown, good_edits}
use Rattle.daemon_links.specs.declared.link_edits.LinkEdit.{LinkEdit}
use Rattle.daemon_links.specs.declared.stops.Stop.{Stop}
use Rattle.daemon_links.specs.declared.stops.Stop.TheVariants.{Refused, Memory}

-- a refusal is as told; want of memory tells nothing
abbrev pub Stops : (Refusal → Type 0) → Stop → Type 0
Stops Told (Refused refusal) = Told refusal
Stops Told Memory = Unit {0}

-- the delta of an edit on the text that its editor shows, which has shown so many of the daemon's deltas
abbrev pub edit_read : List ℕ → ℕ → List TextEdit → Link → Step Cells
edit_read path seen edits link = text_shown path seen link >>= λ text. good_edits path text edits

-- the refusal is that of the edit, and ends the link, at whatever path this is
abbrev pub IsEditRefused : Link → ℕ → List TextEdit → Refusal → Type 0
IsEditRefused link seen edits refusal = (path : List ℕ) → edit_read path seen edits link ≡ closed path refusal

-- the edit that a link has taken: the editor's delta, which is for the text that the editor shows
pub record IsTaken (link : Link) (seen : ℕ) (edits : List TextEdit) (taken : LinkEdit) : Type 0 where
  pub edit : Cells
  pub revision : revision_fault seen link ≡ None
  pub read : delta_of_edits (editor_text seen link) edits ≡ Ok edit
  pub fits : base_length edit ≡ length (editor_text seen link)
  pub link_is : taken.link ≡ with_edit seen edit link
  pub carried : taken.carried ≡ carried_edit seen edit link
  pub again : taken.again ≡ frames taken.link.taken taken.link.unconfirmed
