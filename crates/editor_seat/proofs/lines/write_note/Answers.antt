-- The parts of the format are those of the line.
use Rattle.std.proofs.Common.{◌≡◌, List, [], ℕ, ◌++◌, codes, sym, ap, append_assoc, ◌∙◌, rules, w64}
use Rattle.std.proofs.lemmas.Int.{to_z-of_z}
use Rattle.std.proofs.lemmas.Result.{IfOk-weaker}
use Rattle.std.specs.Fmt.{signed_decimal}
use Rattle.std.specs.String.{string_bytes}
use Rattle.editor_client.specs.declared.notes.HeardNote.TheVariants.{RefusedBy}
use Rattle.frame_world.specs.Lines.{note_line}
use Rattle.editor_seat.proofs.lines.write_note.Goals as goal
use mir.Val.{SFits}

regroup : (a b c d e : List ℕ) → a ++ b ++ c ++ d ++ e ≡ a ++ (b ++ (c ++ (d ++ e)))
regroup a b c d e = simp append_assoc

parts : (number code code' : List ℕ) → code ≡ code'
    → codes "refused " ++ (number ++ (codes " " ++ (code ++ codes "\n"))) ≡ codes "refused " ++ number ++ codes " " ++ code' ++ codes "\n"
parts number code code' same = rw same (sym (regroup (codes "refused ") number (codes " ") code' (codes "\n")))

pub returns-in-RefusedBy-clause-line : goal.returns-in-RefusedBy-clause-line
returns-in-RefusedBy-clause-line c =
    let code = c.in-RefusedBy.code in
    let fits : SFits w64 code = search rules in
    IfOk-weaker c.format.result _ (λ line. string_bytes line ≡ note_line c.args.number c.args.note)
    (λ s h. h ∙ (parts _ _ _ (ap signed_decimal (to_z-of_z w64 code fits)) ∙ ap (note_line c.args.number) (sym c.in-RefusedBy.is))) c.format.ensures.ok

-- a refusal has a line
pub returns-in-RefusedBy-clause-silent : goal.returns-in-RefusedBy-clause-silent
returns-in-RefusedBy-clause-silent c = λ none.
    let told : note_line c.args.number (RefusedBy c.in-RefusedBy.code) ≡ [] = ap (note_line c.args.number) (sym c.in-RefusedBy.is) ∙ none in cc
