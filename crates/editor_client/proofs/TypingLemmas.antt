-- What typing makes of an editor.
use Rattle.std.proofs.Common.{◌≡◌, ◌+◌, ◌≤◌, true, false, List, ℕ, length, Some, sym, ap, ◌∙◌}
use Rattle.std.specs.List.{splice}
use Rattle.delta.specs.Cells.{applied}
use Rattle.text_position.specs.Changes.{Change}
use Rattle.text_position.proofs.LawLemmas.{applied-replacing}
use Rattle.editor_client.specs.Editor.{Editor, is_closed, delta_of, typed_where, typed}
use Rattle.editor_client.specs.Requests.{edit_request, body_of, unless_closed, edit_body}

-- a change replaces the characters between its places
text_is : (change : Change) (e : Editor) (text : List ℕ) → change.start ≤ change.end → change.end ≤ length e.text → text ≡ splice e.text change.start change.end change.text
    → text ≡ applied (delta_of change e.text) e.text
text_is change e text forward within is = is ∙ sym (applied-replacing e.text change.start change.end change.text forward within)

pub typed_closed : (change : Change) (e : Editor) (text : List ℕ) → change.start ≤ change.end → change.end ≤ length e.text → text ≡ splice e.text change.start change.end change.text
    → is_closed e.state ≡ true → record e { text = text } ≡ typed change e
typed_closed change e text forward within is closed =
    ap (λ t. record e { text = t }) (text_is change e text forward within is)
    ∙ ap (λ b. typed_where b (delta_of change e.text) e) (sym closed)

pub typed_open : (change : Change) (e : Editor) (text : List ℕ) → change.start ≤ change.end → change.end ≤ length e.text → text ≡ splice e.text change.start change.end change.text
    → is_closed e.state ≡ false → record e { text = text; requests = e.requests + 1; own = e.own + 1 } ≡ typed change e
typed_open change e text forward within is not_closed =
    ap (λ t. record e { text = t; requests = e.requests + 1; own = e.own + 1 }) (text_is change e text forward within is)
    ∙ ap (λ b. typed_where b (delta_of change e.text) e) (sym not_closed)

-- and the body that it gives
pub body_typed : (change : Change) (e : Editor) (body : List ℕ) → body ≡ body_of (edit_request change e) e → is_closed e.state ≡ false → Some body ≡ edit_body change e
body_typed change e body is not_closed =
    ap Some is ∙ ap (λ b. unless_closed b (body_of (edit_request change e) e)) (sym not_closed)
