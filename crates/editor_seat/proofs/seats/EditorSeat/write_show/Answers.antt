-- The parts of the format are those of the line.
use Rattle.std.proofs.Common.{◌≡◌, List, ℕ, ◌++◌, codes, sym, ap, append_assoc, ◌∙◌}
use Rattle.std.proofs.lemmas.Result.{IfOk-weaker}
use Rattle.std.specs.String.{string_bytes}
use Rattle.replay_script.specs.Texts.{quoted}
use Rattle.kept_world.specs.Steps.{show_line}
use Rattle.editor_seat.proofs.seats.EditorSeat.write_show.Goals as goal

regroup : (a b c d e f g : List ℕ) → a ++ b ++ c ++ d ++ e ++ f ++ g ≡ a ++ (b ++ (c ++ (d ++ (e ++ (f ++ g)))))
regroup a b c d e f g = simp append_assoc

parts : (number word word' text text' : List ℕ) → word ≡ word' → text ≡ text'
    → codes "show " ++ (number ++ (codes " " ++ (word ++ (codes " " ++ (text ++ codes "\n")))))
    ≡ codes "show " ++ number ++ codes " " ++ word' ++ codes " " ++ text' ++ codes "\n"
parts number word word' text text' same_word same_text =
    rw (same_word, same_text) (sym (regroup (codes "show ") number (codes " ") word' (codes " ") text' (codes "\n")))

pub returns : goal.returns
returns c =
    IfOk-weaker c.format.result _ (λ line. string_bytes line ≡ show_line c.args.number c.args.self.now)
    (λ s h. h ∙ parts _ _ _ _ _ c.word-word.ensures (c.in_ok-text.ensures ∙ ap quoted c.shown.ensures)) c.format.ensures.ok
