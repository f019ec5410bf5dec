-- A daemon's link to one editor of one text, with the two counts that its revisions are.
--
-- An editor's edit carries how many of the daemon's deltas the editor had shown, and a frame of the
-- daemon how many of the editor's deltas the daemon had taken. These are the two message numbers of the
-- Jupiter system (Nichols, Curtis, Dixon and Lamping, 1995). Both count from 0 when the link begins.
use Rattle.std.specs.Prelude.{ℕ, ◌+◌, ◌-◌, Bool, true, false, List, [], ◌∷◌, ◌++◌, length, take, drop}
use Rattle.std.specs.Str.{bytes_eq}
use Rattle.delta.specs.Cells.{Cells, applied, inserts, deleting}
use Rattle.transform.specs.Carried.{applied_all, list_past, past_list}

-- a link: the editor's text when it had shown as many of the daemon's deltas as it has confirmed, the
-- daemon's deltas since then, how many the editor has confirmed, and how many of its own were taken
pub record Link : Type 0 where
  pub base : List ℕ
  pub unconfirmed : List Cells
  pub confirmed : ℕ
  pub taken : ℕ

-- the link to an editor that opens with this text
abbrev pub new_link : List ℕ → Link
new_link text = record { base = text; unconfirmed = []; confirmed = 0; taken = 0 }

-- how many deltas the daemon has sent
abbrev pub issued : Link → ℕ
issued l = l.confirmed + length l.unconfirmed

-- the daemon's text
abbrev pub daemon_text : Link → List ℕ
daemon_text l = applied_all l.unconfirmed l.base

-- its length
abbrev pub daemon_length : Link → ℕ
daemon_length l = length (daemon_text l)

-- the editor's text once it has shown so many of the daemon's deltas
abbrev pub editor_text : ℕ → Link → List ℕ
editor_text seen l = applied_all (take (seen - l.confirmed) l.unconfirmed) l.base

-- the daemon's deltas that an editor has not shown which has shown so many
abbrev pub unshown : ℕ → Link → List Cells
unshown seen l = drop (seen - l.confirmed) l.unconfirmed

-- the link once the daemon's text has changed by d
abbrev pub with_pushed : Cells → Link → Link
with_pushed d l = record l { unconfirmed = l.unconfirmed ++ d ∷ [] }

-- the link once the editor has confirmed so many of the daemon's deltas
abbrev pub with_confirmed : ℕ → Link → Link
with_confirmed seen l =
    record { base = editor_text seen l; unconfirmed = unshown seen l; confirmed = seen; taken = l.taken }

-- the link once the editor's p is taken, which applies to the base
abbrev pub with_taken : Cells → Link → Link
with_taken p l =
    record {
      base = applied p l.base;
      unconfirmed = list_past p l.unconfirmed;
      confirmed = l.confirmed;
      taken = l.taken + 1;
    }

-- the link once the editor's p is taken, made when it had shown so many of the daemon's deltas
abbrev pub with_edit : ℕ → Cells → Link → Link
with_edit seen p l = with_taken p (with_confirmed seen l)

-- what that p is in the daemon's text
abbrev pub carried_edit : ℕ → Cells → Link → Cells
carried_edit seen p l = past_list p (unshown seen l)

-- one replacement by the daemon's text, or nothing
abbrev pub replacement_unless : Bool → List ℕ → List ℕ → List Cells
replacement_unless true content view = []
replacement_unless false content view = inserts view (deleting (length content)) ∷ []

-- what follows an open at once: one replacement by the daemon's text, unless the editor has that text
abbrev pub first_deltas : List ℕ → List ℕ → List Cells
first_deltas content view = replacement_unless (bytes_eq content view) content view
