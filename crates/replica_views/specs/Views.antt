-- What a history shows: the text at each path. All above speaks of a history by these words.
use Rattle.std.specs.Prelude.{ℕ, List, [], length, Option, Some, None}
use Rattle.std.specs.Option.{option_map, unwrap_or}
use Rattle.tt_base.specs.declared.ids.ElemId.{ElemId}
use Rattle.tt_base.specs.declared.elements.Element.{Element}
use Rattle.change_graph.specs.History.{History}
use Rattle.replica_text.specs.Effect.{text_of}
use Rattle.replica_views.specs.Objects.{winner_at}
use Rattle.replica_views.specs.Texts.{elements_of}

-- before the first change
abbrev pub beginning : History
beginning = []

-- how many changes are held
abbrev pub held : History → ℕ
held history = length history

-- the elements of the object that is read, and none where none is
abbrev pub elements_in : History → Option ElemId → List Element
elements_in history None = []
elements_in history (Some object) = elements_of history object

-- the elements that are read at a path, the deleted ones among them
abbrev pub elements_at : History → List ℕ → List Element
elements_at history path = elements_in history (winner_at history path)

-- the text at a path, where there is a file: the visible elements of the winner in the full order
unfoldable pub view_at : History → List ℕ → Option (List ℕ)
view_at history path = option_map (λ object. text_of (elements_of history object)) (winner_at history path)

-- a file that is absent is read as the empty text
unfoldable pub text_at : History → List ℕ → List ℕ
text_at history path = unwrap_or (view_at history path) []
