-- What is under way, first things first, and what typing tells.
use Rattle.std.proofs.Common.{◌≡◌, ◌<◌, ◌≤◌, ℕ, List, [], ◌∷◌, ◌++◌, length, get_or, drop, Option, Some, refl, sym, ap, ◌∙◌, subst, arith}
use Rattle.std.specs.Prelude.{IfSome}
use Rattle.text_position.specs.Changes.{Change}
use Rattle.text_position.proofs.LawLemmas.{delta_of_one_edit}
use Rattle.editor_client.specs.Editor.{Editor}
use Rattle.editor_client.specs.Requests.{edit_request, body_of, unless_closed, edit_body, IsNextRequest}
use Rattle.frame_world.specs.Laws.{TellsOf}

-- a list that is not empty begins with its first item
pub begins_with : {X : Type 0} (xs : List X) (x : X) → 0 < length xs → x ≡ get_or xs 0 x → xs ≡ x ∷ drop 1 xs
begins_with [] x long is = absurd (omega arith)
begins_with (y ∷ xs) x long is = ap (λ z. z ∷ xs) (sym is)

-- what is left when nothing stands before the last item
pub only_item : {X : Type 0} (front : List X) (x : X) → length front ≡ 0 → front ++ x ∷ [] ≡ x ∷ []
only_item [] x none = refl
only_item (y ∷ front) x none = absurd (omega arith)

-- the body that is sent for a change, if there is one, tells the change
pub tells_of : (c : Editor) (change : Change) (body : Option (List ℕ)) → change.start ≤ change.end → change.end ≤ length c.text → body ≡ edit_body change c
    → IfSome body (IsNextRequest c (edit_request change c)) → TellsOf c change
tells_of c change body forward within is back = λ not_closed.
    let sent : body ≡ Some (body_of (edit_request change c) c) = is ∙ ap (λ b. unless_closed b (body_of (edit_request change c) c)) not_closed in
    record {
      edit = subst (λ (o : Option (List ℕ)). IfSome o (IsNextRequest c (edit_request change c))) sent back;
      delta = delta_of_one_edit c.text change forward within;
    }
