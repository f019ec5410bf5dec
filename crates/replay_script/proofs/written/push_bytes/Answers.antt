use Rattle.std.proofs.Common.{◌≡◌, ◌++◌, List, ℕ, OnOk, string_bytes, codes, refl, sym, ap, ◌∙◌, subst, append_assoc, inl, inr}
use Rattle.std.specs.Str.{IsUtf8, chars, is_utf8}
use Rattle.std.proofs.lemmas.Bool.{cases_Bool}
use Rattle.std.proofs.lemmas.Str.{is_utf8-from_IsUtf8, IsUtf8-from_is_utf8}
use Rattle.hex.specs.Hex.{encode_lower}
use Rattle.replay_script.specs.Grammar.{file_text}
use Rattle.replay_script.specs.Texts.{quoted}
use Rattle.replay_script.proofs.written.push_bytes.Goals as goal

bytes_quoted : (bytes text : List ℕ) → text ≡ bytes → IsUtf8 bytes → file_text bytes ≡ quoted (chars text)
bytes_quoted bytes text same utf8 = rw (is_utf8-from_IsUtf8 bytes utf8) (ap (λ t. quoted (chars t)) (sym same))

bytes_in_hex : (bytes : List ℕ) → (IsUtf8 bytes → ⊥) → file_text bytes ≡ codes "hex " ++ encode_lower bytes
bytes_in_hex bytes none =
    elim (cases_Bool (is_utf8 bytes)) [
      | inl good ↦ absurd (none (IsUtf8-from_is_utf8 bytes good))
      | inr bad ↦ rw bad refl
    ]

pub returns-in-Ok : goal.returns-in-Ok
returns-in-Ok c =
    let utf8 = subst (λ (t : List ℕ). IsUtf8 t) c.as_slice.ensures c.in-Ok.ensures.cases.1 in
    let written = bytes_quoted c.args.bytes.now c.in-Ok.text.now (c.in-Ok.ensures.cases.0 ∙ c.as_slice.ensures) utf8 in
    subst (λ (t : List ℕ). OnOk c.push_quoted.result (string_bytes c.push_quoted.new.out ≡ string_bytes c.args.out.now ++ t)) (sym written) c.push_quoted.ensures

pub returns-in_ok-push_str-in-Err : goal.returns-in_ok-push_str-in-Err
returns-in_ok-push_str-in-Err c =
    let digits = encode_lower c.args.bytes.now in
    let written = bytes_in_hex c.args.bytes.now (λ utf8. c.in-Err.ensures.cases.0 (subst (λ (t : List ℕ). IsUtf8 t) (sym c.as_slice.ensures) utf8)) in
    let before = string_bytes c.args.out.now in
    let whole = ap (λ t. t ++ digits) c.in_ok-push_str-in-Err.ensures.bytes ∙ append_assoc before (codes "hex ") digits ∙ ap (λ t. before ++ t) (sym written) in
    subst (λ (t : List ℕ). OnOk c.push_hexadecimal.result (string_bytes c.push_hexadecimal.new.out ≡ t)) whole c.push_hexadecimal.ensures
