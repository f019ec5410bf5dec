-- The normal form and the base of what editors edit, and the paths that they name.
use Rattle.std.proofs.Common.{◌≡◌, ℕ, ◌+◌, Bool, true, false, ◌==◌, List, [], ◌∷◌, length, drop, if◌then◌else◌, Option, Some, None, Ok, Err, refl, subst, sym, ap, ◌∙◌, arith}
use Rattle.std.specs.Str.{is_utf8}
use Rattle.std.specs.List.{starts_with}
use Rattle.std.proofs.lemmas.Str.{IsUtf8-from_is_utf8}
use Rattle.tt_base.specs.Path.{path_fault}
use Rattle.tt_base.specs.declared.edits.TextEdit.{TextEdit}
use Rattle.tt_base.specs.declared.paths.PathFault.{PathFault}
use Rattle.change_codec.specs.WellFormed.{IsPath}
use Rattle.delta.specs.Cells.{Cells, base_length, IsNormal, keeping, nothing, applied}
use Rattle.delta.proofs.CellsLemmas.{base_length-covers}
use Rattle.delta.proofs.ComposedLemmas.{IsNormal-composed, base_length-composed}
use Rattle.delta.proofs.StepsLemmas.{IsNormal-kept}
use Rattle.delta.specs.Marks.{composed}
use Rattle.editor_bridge.specs.Link.{Link, carried_edit, unshown}
use Rattle.file_uri.specs.Base.{BaseView}
use Rattle.file_uri.specs.FileUrl.{file_url, decoded_path}
use Rattle.file_uri.specs.PathOf.{path_of, path_below, shared_path, unless_fault}
use Rattle.file_uri.specs.declared.faults.UriFault.TheVariants.{OutsideBase, NotUtf8}
use Rattle.text_position.specs.Edits.{delta_of_edit, with_edits, delta_of_edits}
use Rattle.transform.specs.Carried.{past_list, after_editor}
use Rattle.editor_texts.proofs.Steps.{ok_is, then_ended}
use Rattle.transform.proofs.ListLemmas.{IsNormal-after_editor}

keeping_normal : (n : ℕ) → IsNormal (keeping n)
keeping_normal n = IsNormal-kept n nothing tt

more_normal : (index : ℕ) (text : List ℕ) (so_far : Cells) (edits : List TextEdit) (d : Cells) → IsNormal so_far
    → with_edits index text so_far edits ≡ Ok d → IsNormal d
more_normal index text so_far [] d is same = subst IsNormal (ok_is so_far d same) is
more_normal index text so_far (edit ∷ edits) d is same =
    then_ended (delta_of_edit index (applied so_far text) edit) (λ e. with_edits (index + 1) text (composed so_far e) edits) d (IsNormal d)
    (λ e found rest. more_normal (index + 1) text (composed so_far e) edits d (IsNormal-composed so_far e) rest) same

pub edits_normal : (text : List ℕ) (edits : List TextEdit) (d : Cells) → delta_of_edits text edits ≡ Ok d → IsNormal d
edits_normal text edits d is = more_normal 0 text (keeping (length text)) edits d (keeping_normal (length text)) is

past_normal : (d : Cells) (list : List Cells) → IsNormal d → IsNormal (past_list d list)
past_normal d [] is = is
past_normal d (q ∷ list) is = past_normal (after_editor d q) list (IsNormal-after_editor d q)

pub carried_edit_normal : (seen : ℕ) (d : Cells) (link : Link) → IsNormal d → IsNormal (carried_edit seen d link)
carried_edit_normal seen d link is = past_normal d (unshown seen link) is

-- the delta of edits is for their text
more_fits : (index : ℕ) (text : List ℕ) (so_far : Cells) (edits : List TextEdit) (d : Cells) → with_edits index text so_far edits ≡ Ok d
    → base_length d ≡ base_length so_far
more_fits index text so_far [] d same = ap base_length (sym (ok_is so_far d same))
more_fits index text so_far (edit ∷ edits) d same =
    then_ended (delta_of_edit index (applied so_far text) edit) (λ e. with_edits (index + 1) text (composed so_far e) edits) d (base_length d ≡ base_length so_far)
    (λ e found rest. more_fits (index + 1) text (composed so_far e) edits d rest ∙ base_length-composed so_far e) same

pub edits_fit : (text : List ℕ) (edits : List TextEdit) (d : Cells) → delta_of_edits text edits ≡ Ok d → base_length d ≡ length text
edits_fit text edits d is =
    more_fits 0 text (keeping (length text)) edits d is ∙ omega (arith, base_length-covers true (length text) nothing)

-- ---- paths

kept_path : (fault : Option PathFault) (bytes path : List ℕ) → is_utf8 bytes ≡ true → path_fault bytes ≡ fault → unless_fault fault bytes ≡ Ok path → IsPath path
kept_path None bytes path utf8 rules is =
    subst IsPath (ok_is bytes path is) (record { utf8 = IsUtf8-from_is_utf8 bytes utf8; rules = rules })
kept_path (Some fault) bytes path utf8 rules is = cc

read_path : (utf8 : Bool) (bytes path : List ℕ) → is_utf8 bytes ≡ utf8
    → (if utf8 then unless_fault (path_fault bytes) bytes else Err NotUtf8) ≡ Ok path → IsPath path
read_path true bytes path utf8 is = kept_path (path_fault bytes) bytes path utf8 refl is
read_path false bytes path utf8 is = cc

below_path : (below : Bool) (bytes path : List ℕ) → (if below then shared_path bytes else Err OutsideBase) ≡ Ok path → IsPath path
below_path true bytes path is = read_path (is_utf8 bytes) bytes path refl is
below_path false bytes path is = cc

pub path_named : (base : BaseView) (uri path : List ℕ) → path_of base uri ≡ Ok path → IsPath path
path_named base uri path is =
    then_ended (file_url uri) (λ url. path_below base.path (decoded_path url)) path (IsPath path)
    (λ url read found. below_path (starts_with ◌==◌ (decoded_path url) base.path) (drop (length base.path) (decoded_path url)) path found) is
