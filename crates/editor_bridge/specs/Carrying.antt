-- How a link moves on, in the contracts of private functions alone.
use Rattle.std.specs.Prelude.{◌≡◌, ℕ, ◌+◌, ◌-◌, ◌≤◌, List, [], ◌∷◌, ◌++◌, length, take}
use Rattle.delta.specs.Cells.{Cells, base_length, result_length, applied}
use Rattle.transform.specs.Carried.{IsChain, applied_all, chain_end, list_past}
use Rattle.editor_bridge.specs.Link.{Link, editor_text, unshown, carried_edit}
use Rattle.editor_bridge.specs.Frames.{frames}
use Rattle.editor_bridge.specs.declared.carrying.Carried.{Carried}

-- each delta but the first applies to the result of the one before it
abbrev pub AreInTurn : List Cells → Type 0
AreInTurn [] = Unit {0}
AreInTurn (q ∷ list) = IsChain (result_length q) list

-- one delta does what the list of deltas does, one after the other
pub record StandsFor (list : List Cells) (all : Cells) : Type 0 where
  pub chain : IsChain (base_length all) list
  pub result : result_length all ≡ chain_end (base_length all) list
  pub text : (text : List ℕ) → base_length all ≡ length text → applied all text ≡ applied_all list text

-- what a bridge keeps of its parts: no more deltas than it has given, which apply one after the other,
-- and the length of the daemon's text
pub record IsBridge (base : List ℕ) (queue : List Cells) (issued daemon_length : ℕ) : Type 0 where
  pub few : length queue ≤ issued
  pub chain : IsChain (length base) queue
  pub long : daemon_length ≡ chain_end (length base) queue

-- an edit can be taken: its revision and its length are those of a text of the editor
pub record CanTake (l : Link) (seen : ℕ) (p : Cells) : Type 0 where
  pub back : l.confirmed ≤ seen
  pub within : seen - l.confirmed ≤ length l.unconfirmed
  pub fits : base_length p ≡ length (editor_text seen l)

-- what an edit that can be taken makes of a link
pub record IsCarried (l : Link) (seen : ℕ) (p : Cells) (c : Carried) : Type 0 where
  pub can : CanTake l seen p
  pub change : StandsFor (take (seen - l.confirmed) l.unconfirmed ++ p ∷ []) c.change
  pub delta : c.delta ≡ carried_edit seen p l
  pub queue : c.queue ≡ list_past p (unshown seen l)
  pub again : c.again ≡ frames (l.taken + 1) c.queue
