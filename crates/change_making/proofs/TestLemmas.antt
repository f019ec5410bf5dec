-- A history that holds nothing.
use Rattle.std.proofs.Common.{◌≡◌, ℕ, ◌-◌, ◌<◌, ◌^◌, sym, ap, ◌∙◌, subst, lit<, List, [], length, None}
use Rattle.std.specs.List.{count_by}
use Rattle.delta.specs.Cells.{Cells, base_length}
use Rattle.tt_base.specs.Elements.{is_alive}
use Rattle.tt_base.specs.declared.ids.Actor.{Actor}
use Rattle.tt_base.specs.declared.ids.ElemId.{ElemId}
use Rattle.tt_base.specs.declared.elements.Element.{Element}
use Rattle.change_graph.specs.History.{History}
use Rattle.replica_views.specs.Growth.{IsGrown, Begun}
use Rattle.replica_views.specs.Made.{is_made_by}
use Rattle.replica_views.specs.Objects.{winner_at}
use Rattle.replica_views.specs.Texts.{ops_on, tree_of, elements_of}

pub none_grown : (history : History) → history ≡ [] → IsGrown history
none_grown history none = subst IsGrown (sym none) Begun

pub none_made : (history : History) (actor : Actor) → history ≡ [] → 0 ≡ count_by (is_made_by actor) history
none_made history actor none = ap (count_by (is_made_by actor)) (sym none)

pub none_read : (history : History) (path : List ℕ) → history ≡ [] → winner_at history path ≡ None
unfolding winner_at
none_read history path none = ap (λ (h : History). winner_at h path) none

pub none_held : (history : History) → history ≡ [] → length history < 2 ^ 64 - 1
none_held history none = subst (λ (h : History). length h < 2 ^ 64 - 1) (sym none) (lit< tt)

nothing_there : (object : ElemId) → elements_of [] object ≡ []
unfolding tree_of ops_on
nothing_there object = λ i. []

pub none_there : (history : History) (object : ElemId) (elements : List Element) → history ≡ [] → elements ≡ [] → elements ≡ elements_of history object
none_there history object elements none empty =
    empty ∙ sym (ap (λ (h : History). elements_of h object) none ∙ nothing_there object)

pub none_visible : (d : Cells) (elements : List Element) → base_length d ≡ 0 → elements ≡ [] → base_length d ≡ count_by is_alive elements
none_visible d elements base empty = base ∙ ap (count_by is_alive) (sym empty)
