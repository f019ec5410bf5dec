use Rattle.std.proofs.Common.{◌≡◌, ℕ, List, Some, rules}
use Rattle.std.specs.Str.{IsUtf8, chars}
use Rattle.serde_json.specs.Find.{as_str}
use Rattle.serde_json.specs.View.{view}
use Rattle.rpc_message.proofs.CharacterLemmas.{characters_read}
use Rattle.rpc_message.proofs.forms.text_of.Goals as goal

pub returns-in_ok-from_str-in-Some : goal.returns-in_ok-from_str-in-Some
returns-in_ok-from_str-in-Some c =
    let bytes : List ℕ = c.in-Some.text.now in
    let found : as_str (view c.args.value.now) ≡ Some bytes = search rules in
    let utf8 : IsUtf8 bytes = search rules in
    let spelled : c.in_ok-from_str-in-Some.field-0 ≡ chars bytes = search rules in
    characters_read (as_str (view c.args.value.now)) bytes c.in_ok-from_str-in-Some.field-0 found utf8 spelled
