use Rattle.std.proofs.Common.{◌≡◌, ◌++◌, List, ℕ, string_bytes, OnOk, sym, ap, ◌∙◌, subst}
use Rattle.replay_script.specs.Texts.{escape_of}
use Rattle.replay_script.proofs.EscapeLemmas.{encodes-escape}
use Rattle.replay_script.proofs.escapes.push_escaped.Goals as goal

pub returns-in-None : goal.returns-in-None
returns-in-None c =
    let bytes = encodes-escape c.args.ch (sym c.is_plain.ensures ∙ c.if-is_plain.false) ∙ ap (escape_of c.args.ch) (sym c.in-None.ensures) in
    subst (λ (t : List ℕ). OnOk c.push_code.result (string_bytes c.push_code.new.out ≡ string_bytes c.args.out.now ++ t)) (sym bytes) c.push_code.ensures
