-- Bytes that are UTF-8 ask for what their text asks for, and others are outside the grammar.
use Rattle.std.proofs.Common.{◌≡◌, ℕ, List, Option, None, refl, ap, subst, inl, inr}
use Rattle.std.specs.Str.{IsUtf8, is_utf8}
use Rattle.std.proofs.lemmas.Bool.{cases_Bool}
use Rattle.std.proofs.lemmas.Str.{IsUtf8-from_is_utf8, is_utf8-from_IsUtf8}
use Rattle.replay_script.specs.Lines.{line_asks}
use Rattle.replay_script.specs.Reads.{ReadsLine}
use Rattle.replay_script.specs.declared.moves.Move.{Move}
use Rattle.replay.specs.Script.{bytes_ask}
use Rattle.replay.proofs.player.read_bytes.Goals as goal

text_asks : (line text : List ℕ) → text ≡ line → IsUtf8 line → line_asks text ≡ bytes_ask line
text_asks line text same utf8 = rw (is_utf8-from_IsUtf8 line utf8) (ap line_asks same)

no_text_asks : (line : List ℕ) → (IsUtf8 line → ⊥) → bytes_ask line ≡ None
no_text_asks line none =
    elim (cases_Bool (is_utf8 line)) [
      | inl good ↦ absurd (none (IsUtf8-from_is_utf8 line good))
      | inr bad ↦ rw bad refl
    ]

pub returns-in-Ok : goal.returns-in-Ok
returns-in-Ok c =
    let asks = text_asks c.args.line.now c.in-Ok.text.now c.in-Ok.ensures.cases.0 c.in-Ok.ensures.cases.1 in
    subst (λ (asked : Option (Option Move)). ReadsLine c.read_line.result asked) asks c.read_line.ensures.computed

pub returns-in-Err : goal.returns-in-Err
returns-in-Err c = no_text_asks c.args.line.now c.in-Err.ensures.cases.0
