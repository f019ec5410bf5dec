-- The texts that the forms of members have are of Unicode scalar values, since they are read from UTF-8 (RFC 8259, section 8.1).
use Rattle.std.proofs.Common.{◌≡◌, ℕ, true, false, Bool, List, [], ◌∷◌, Option, Some, None, codes, option_and_then, if◌then◌else◌, refl, subst}
use Rattle.std.specs.List.{AllByRecursion}
use Rattle.std.specs.Str.{chars, is_utf8, all_scalars}
use Rattle.std.proofs.lemmas.Str.{scalars-chars, IsUtf8-from_is_utf8}
use Rattle.serde_json.specs.Data.{Data, Items, no_items, item}
use Rattle.serde_json.specs.Find.{get, as_str, as_array}
use Rattle.tt_base.specs.declared.edits.TextEdit.{TextEdit}
use Rattle.rpc_message.specs.Forms.{◌>>=◌}
use Rattle.rpc_message.specs.Forms as form
use Rattle.rpc_message.specs.Json.{member}
use Rattle.editor_texts.specs.Scalars.{ReplacesByScalars}

-- something was found, and the next step came to an end
pub record Found (A B : Type 0) (found : Option A) (next : A → Option B) (end : B) : Type 0 where
  pub value : A
  pub is : found ≡ Some value
  pub rest : next value ≡ Some end

pub found_then : {A B : Type 0} (found : Option A) (next : A → Option B) (end : B) → option_and_then next found ≡ Some end → Found A B found next end
found_then (Some value) next end is = record { value = value; is = refl; rest = is }
found_then None next end is = cc

-- the same for the steps of forms
formed : {A B : Type 0} (found : Option A) (next : A → Option B) (end : B) → (found >>= next) ≡ Some end → Found A B found next end
formed (Some value) next end is = record { value = value; is = refl; rest = is }
formed None next end is = cc

-- ---- forms

spelled_scalars : (bytes cs : List ℕ) (utf8 : Bool) → is_utf8 bytes ≡ utf8 → form.characters bytes ≡ Some cs → all_scalars cs ≡ true
spelled_scalars bytes cs true is read =
    let given : Some (chars bytes) ≡ Some cs = subst (λ (b : Bool). (if b then Some (chars bytes) else None) ≡ Some cs) is read in
    let same : chars bytes ≡ cs = cc in
    subst (λ (text : List ℕ). all_scalars text ≡ true) same (scalars-chars bytes (IsUtf8-from_is_utf8 bytes is))
spelled_scalars bytes cs false is read =
    let given : None ≡ Some cs = subst (λ (b : Bool). (if b then Some (chars bytes) else None) ≡ Some cs) is read in cc

pub text_scalars : (d : Data) (cs : List ℕ) → form.text d ≡ Some cs → all_scalars cs ≡ true
text_scalars d cs is =
    let string = found_then (as_str d) form.characters cs is in spelled_scalars string.value cs (is_utf8 string.value) refl string.rest

edit_scalars : (d : Data) (edit : TextEdit) → form.edit d ≡ Some edit → ReplacesByScalars edit
edit_scalars d edit is =
    let range = formed (member (codes "range") form.range d) _ edit is in
    let replacement = formed (member (codes "replacement") form.text d) _ edit range.rest in
    let same : record { start = range.value.start; end = range.value.end; replacement = replacement.value } ≡ edit = cc in
    let text = found_then (get (codes "replacement") d) form.text replacement.value replacement.is in
    subst ReplacesByScalars same (text_scalars text.value replacement.value text.rest)

items_scalars : (ds : Items) (edits : List TextEdit) → form.items form.edit ds ≡ Some edits → AllByRecursion ReplacesByScalars edits
items_scalars no_items edits is =
    let same : [] ≡ edits = cc in subst (AllByRecursion ReplacesByScalars) same tt
items_scalars (item d ds) edits is =
    let first = formed (form.edit d) _ edits is in
    let rest = formed (form.items form.edit ds) _ edits first.rest in
    let same : (first.value ∷ rest.value) ≡ edits = cc in
    subst (AllByRecursion ReplacesByScalars) same (edit_scalars d first.value first.is, items_scalars ds rest.value rest.is)

pub edits_scalars : (d : Data) (edits : List TextEdit) → form.array form.edit d ≡ Some edits → AllByRecursion ReplacesByScalars edits
edits_scalars d edits is =
    let items = found_then (as_array d) (form.items form.edit) edits is in items_scalars items.value edits items.rest
