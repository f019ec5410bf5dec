-- What a join leaves, from step to step.
use Rattle.std.specs.Prelude.{◌≡◌, ◌⊎◌, Bool, false, List, [], ◌∷◌}
use Rattle.delta.specs.Cells.{Cells}
use Rattle.tt_base.specs.Elements.{IsNew}
use Rattle.tt_base.specs.declared.ids.ElemId.{ElemId}
use Rattle.tt_base.specs.declared.elements.Element.{Element}
use Rattle.replica_text.specs.Ids.{is_known}
use Rattle.replica_text.specs.Tree.{Tree, IsTree, walk}
use Rattle.replica_text.specs.Effect.{effect}

-- the same element later: it may have become a tombstone
pub record IsLater (before later : Element) : Type 0 where
  pub id : later.id ≡ before.id
  pub ch : later.ch ≡ before.ch
  pub gone : before.alive ≡ false → later.alive ≡ false

-- a later list has the elements in the same order, and between them others, whose ids the whole list before had not
abbrev pub Grows : List Element → List Element → List Element → Type 0
Grows whole [] [] = Unit {0}
Grows whole (x ∷ xs) [] = ⊥
Grows whole [] (y ∷ ys) = IsNew y.id whole × Grows whole [] ys
Grows whole (x ∷ xs) (y ∷ ys) = (IsLater x y × Grows whole xs ys) ⊎ (IsNew y.id whole × Grows whole (x ∷ xs) ys)

-- a change of trees was made to the list that is the full order of one, and this is its effect
pub record Joins (grow : Tree → Tree) (know : (ElemId → Bool) → ElemId → Bool) (old new : List Element) (delta : Cells) : Type 0 where
  pub order : (tree : Tree) → IsTree tree → walk tree ≡ old → (walk (grow tree) ≡ new) × IsTree (grow tree)
  pub grows : Grows old old new
  pub known : is_known new ≡ know (is_known old)
  pub is_effect : delta ≡ effect old new
