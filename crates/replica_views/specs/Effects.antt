-- What newly held changes do to the texts that are shown, as a comparison of two readings.
use Rattle.std.specs.Prelude.{◌≡◌, ◌↔◌, ℕ, Bool, true, false, List, map, length, Option, Some, None, IsTrue, All, if◌then◌else◌}
use Rattle.std.specs.List.Sorted.{IsStrictlySortedBy}
use Rattle.std.specs.Ordering.{nat_cmp}
use Rattle.std.specs.Cmp.Lexicographic.{slice_cmp}
use Rattle.delta.specs.Cells.{Cells, inserts, deleting, normal, changes_nothing}
use Rattle.tt_base.specs.declared.ids.ElemId.{ElemId}
use Rattle.tt_base.specs.declared.elements.Element.{Element}
use Rattle.change_graph.specs.History.{History}
use Rattle.replica_dir.specs.Ids.{has_path}
use Rattle.replica_text.specs.Ids.{same}
use Rattle.replica_text.specs.Effect.{text_of, effect}
use Rattle.replica_views.specs.Objects.{winner_at}
use Rattle.replica_views.specs.Views.{elements_at}

-- whether the same object is read, or none before and after
abbrev pub is_same_object : Option ElemId → Option ElemId → Bool
is_same_object None None = true
is_same_object None (Some later) = false
is_same_object (Some object) None = false
is_same_object (Some object) (Some later) = same object later

-- another object is read: all of the one text is deleted, and all of the other stands at gap 0
abbrev pub replaced : List Element → List Element → Cells
replaced before later = normal (inserts (text_of later) (deleting (length (text_of before))))

-- The effect on a path. Where the same object is read, what is no longer visible is deleted, and what is newly visible is
-- inserted at the gap behind those visible before that precede it in the later order; all in normal form.
unfoldable pub effect_at : History → History → List ℕ → Cells
effect_at before later path =
    if is_same_object (winner_at before path) (winner_at later path)
    then effect (elements_at before path) (elements_at later path)
    else replaced (elements_at before path) (elements_at later path)

-- what comes at a path
pub record PathEffect : Type 0 where
  pub path : List ℕ
  pub delta : Cells

abbrev pub paths_of : List PathEffect → List (List ℕ)
paths_of effects = map (λ (e : PathEffect). e.path) effects

-- the effects on the paths on which there is one, each once, in rising order of the paths
pub record AreEffects (before later : History) (effects : List PathEffect) : Type 0 where
  pub exact : All (λ (e : PathEffect). e.delta ≡ effect_at before later e.path) effects
  pub all : (path : List ℕ) → IsTrue (has_path (paths_of effects) path) ↔ (changes_nothing (effect_at before later path) ≡ false)
  pub rising : IsStrictlySortedBy (slice_cmp nat_cmp) (paths_of effects)
